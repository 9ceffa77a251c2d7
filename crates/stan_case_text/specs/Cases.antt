-- The cases of a text, by the lines that begin them.
use Rattle.std.specs.Prelude.{ℕ, ◌==◌, Bool, List, codes, drop, filter, map, nat_eq, string_bytes}
use Rattle.std.specs.List.{slice_split, starts_with}
use Rattle.stan_case_text.specs.declared.case.Case.{Case}

abbrev pub name_of : Case → List ℕ
name_of case = string_bytes case.name

-- the lines of a text, one more than it has line feeds
abbrev pub lines_of : List ℕ → List (List ℕ)
lines_of text = slice_split (λ byte. byte == 10) text

-- `case NAME` begins a case
abbrev pub begins_case : List ℕ → Bool
begins_case line = starts_with nat_eq line (codes "case ")

-- the names of the cases that lines begin, in their order
abbrev pub names_begun : List (List ℕ) → List (List ℕ)
names_begun lines = map (drop 5) (filter begins_case lines)
