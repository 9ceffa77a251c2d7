-- The braces of a body.
use Rattle.std.proofs.Common.{◌≡◌, ℕ, suc, ◌-◌, ◌+◌, ◌≤◌, ◌<◌, Bool, true, false, if◌then◌else◌, Option, slice_get, List, Some, refl, sym, ◌∙◌, arith}
use Rattle.std.proofs.lemmas.Bool.{ne_eqb}
use Rattle.stan_model_grammar.specs.declared.token.Token.{Token}
use Rattle.stan_model_grammar.specs.Expressions.{braces_behind, opens_brace, closes_brace}
use Rattle.stan_expr_rules.specs.Parse.{closing_within}

braces_grow_by : (opens closes : Bool) (count : ℕ) → (if opens then count + 1 else (if closes then count - 1 else count)) ≤ count + 1
braces_grow_by true closes count = omega arith
braces_grow_by false true count = omega arith
braces_grow_by false false count = omega arith

pub braces_grow : (count : ℕ) (t : Token) → braces_behind count t ≤ count + 1
braces_grow count t = braces_grow_by (opens_brace t.kind) (closes_brace t.kind) count

pub brace_goes_on : (ts : List Token) (n i count place : ℕ) (t : Token) (total : Option ℕ) → i < n → closing_within ts (n - i) count place ≡ total → slice_get ts place ≡ Some t → (braces_behind count t ≡ 0 → ⊥)
    → closing_within ts (n - (i + 1)) (braces_behind count t) (place + 1) ≡ total
brace_goes_on ts n i count place t total lt so_far h more =
    let k : n - i ≡ suc (n - (i + 1)) = omega arith in
    let e : closing_within ts (n - i) count place ≡ closing_within ts (n - (i + 1)) (braces_behind count t) (place + 1) = rw (k, h, ne_eqb (braces_behind count t) 0 more) refl in
    sym e ∙ so_far
