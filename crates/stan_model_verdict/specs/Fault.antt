-- A fault of a file, and the order of faults.
use Rattle.std.specs.Prelude.{ℕ, List, map, encode_utf8_all}
use Rattle.std.specs.Ordering.{nat_cmp, ordering_then}
use Rattle.std.specs.Cmp.Lexicographic.{slice_cmp}
use Rattle.std.specs.FinMap as finite
use Rattle.std.specs.declared.cmp.Ordering.{Ordering}
use Rattle.bstr.specs.Utf8.{lossy_chars}

pub record Fault : Type 0 where
  pub line : ℕ
  pub rule : ℕ
  pub text : List ℕ

-- by line, rule and text
abbrev pub fault_cmp : Fault → Fault → Ordering
fault_cmp a b = ordering_then (nat_cmp a.line b.line) (ordering_then (nat_cmp a.rule b.rule) (slice_cmp nat_cmp a.text b.text))

-- in that order, equal ones once: the keys of the map that holds nothing at each of them
abbrev pub in_order : List Fault → List Fault
in_order faults = finite.keys (finite.from_entries {R = fault_cmp} (map (λ fault. (fault, tt {0})) faults))

-- a name as it is shown: what is not UTF-8 in it is replaced
abbrev pub shown : List ℕ → List ℕ
shown name = encode_utf8_all (lossy_chars name)
