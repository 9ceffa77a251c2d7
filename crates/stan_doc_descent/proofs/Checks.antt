-- That the productions pass the tests.
use Rattle.std.proofs.Common.{◌≡◌, Bool, true, false, List, [], ◌∷◌, ◌++◌, refl}
use Rattle.std.specs.Prelude.{◌||◌}
use Rattle.stan_model_doc.specs.declared.token.DocKind.{DocKind}
use Rattle.stan_model_doc.specs.Tokens.{same_kind, has}
use Rattle.stan_model_doc.specs.Symbols.{Sort, Tag, Need, One, May, Many}
use Rattle.stan_model_doc.specs.Rules.{Rule, conditional, param_tag, method_tag, default_value, fields, suffixed, symbols, sort_of}
use Rattle.stan_doc_descent.specs.Tables.{begins, goes, rule_goes, empty, firsts, leads, subset, settled, is_tag}
use Rattle.stan_doc_descent.specs.Descent.{PlainProductionsAreFine}
use Rattle.stan_doc_descent.proofs.Words.{or_right}

pub plain_productions_are_fine : PlainProductionsAreFine
unfolding same_kind
plain_productions_are_fine conditional h = absurd cc
plain_productions_are_fine param_tag h = absurd cc
plain_productions_are_fine method_tag h = absurd cc
plain_productions_are_fine default_value h = absurd cc
plain_productions_are_fine fields h = absurd cc
plain_productions_are_fine suffixed h = absurd cc
plain_productions_are_fine r h = refl

pub rule_takes : (r : Rule) → empty (symbols r) ≡ false
rule_takes param_tag = refl
rule_takes r = refl

pub rule_leads : (r : Rule) → leads (symbols r) ≡ true
rule_leads param_tag = refl
rule_leads r = refl

pub rule_begins : (r : Rule) → subset (firsts (symbols r)) (begins (sort_of r)) ≡ true
unfolding same_kind
rule_begins param_tag = refl
rule_begins r = refl

pub rule_part : (r : Rule) → subset (rule_goes r) (goes (sort_of r)) ≡ true
unfolding same_kind
rule_part param_tag = refl
rule_part r = refl

pub part_sort : (n : Need) (s : Sort) → settled n s ≡ true → is_tag s ≡ false
part_sort One Tag h = absurd cc
part_sort May Tag h = absurd cc
part_sort Many Tag h = absurd cc
part_sort n s h = refl

-- ---- lists of kinds

or_left : (b x y : Bool) → (x ≡ true → y ≡ true) → b || x ≡ true → b || y ≡ true
or_left true x y f h = refl
or_left false x y f h = f h

pub has_left : (xs ys : List DocKind) (kind : DocKind) → has xs kind ≡ true → has (xs ++ ys) kind ≡ true
has_left [] ys kind h = absurd cc
has_left (x ∷ xs) ys kind h = or_left (same_kind kind x) (has xs kind) (has (xs ++ ys) kind) (has_left xs ys kind) h

pub has_right : (xs ys : List DocKind) (kind : DocKind) → has ys kind ≡ true → has (xs ++ ys) kind ≡ true
has_right [] ys kind h = h
has_right (x ∷ xs) ys kind h = or_right (same_kind kind x) (has (xs ++ ys) kind) (has_right xs ys kind h)
