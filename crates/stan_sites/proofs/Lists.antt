-- Sites of lists: those of the model's list are those of the values, one after the other.
use Rattle.std.proofs.Common.{◌≡◌, ℕ, ◌+◌, ◌<◌, Bool, List, [], ◌∷◌, ◌++◌, length, get_or, take, refl, ap, sym, ◌∙◌, append-nil}
use Rattle.std.specs.List.{flat_map}
use Rattle.std.specs.Prelude.{map}
use Rattle.std.proofs.lemmas.Grind.{flat_map-append}
use Rattle.std.proofs.lemmas.List.{take_more}
use Rattle.stan_model_grammar.specs.Trees as model
use Rattle.stan_model_grammar.specs.Sites.{deeper, sites, items_sites, item_sites, steps_sites, step_sites, statements_sites, statement_sites}
use Rattle.stan_model_grammar.specs.TreeLists.{Operated, listed, furthers, steps, operation_steps, statements}

-- nothing is found
pub none : {A : Type 0} (found : List A) → found ≡ found ++ []
none found = sym (append-nil found)

pub flat_more : {A B : Type 0} (f : A → List B) (xs : List A) (i : ℕ) (x : A) → i < length xs → x ≡ get_or xs i x → flat_map f (take (i + 1) xs) ≡ flat_map f (take i xs) ++ f x
flat_more f xs i x lt e = ap (flat_map f) (take_more xs i x lt) ∙ flat_map-append f (take i xs) (get_or xs i x ∷ []) ∙ ap (λ y. flat_map f (take i xs) ++ y) (append-nil (f (get_or xs i x))) ∙ ap (λ y. flat_map f (take i xs) ++ f y) (sym e)

pub steps_flat : {A : Type 0} (n : ℕ) (g : A → model.Step) (xs : List A) → steps_sites n (steps (map g xs)) ≡ flat_map (λ x. step_sites n (g x)) xs
steps_flat n g [] = refl
steps_flat n g (x ∷ xs) = ap (λ found. step_sites n (g x) ++ found) (steps_flat n g xs)

pub operations_flat : {A : Type 0} (n : ℕ) (g : A → Operated) (xs : List A) → steps_sites n (operation_steps (map g xs)) ≡ flat_map (λ x. sites (deeper n) (g x).operand) xs
operations_flat n g [] = refl
operations_flat n g (x ∷ xs) = ap (λ found. sites (deeper n) (g x).operand ++ found) (operations_flat n g xs)

pub statements_flat : {A : Type 0} (n : ℕ) (g : A → model.Statement) (xs : List A) → statements_sites n (statements (map g xs)) ≡ flat_map (λ x. statement_sites n (g x)) xs
statements_flat n g [] = refl
statements_flat n g (x ∷ xs) = ap (λ found. statement_sites n (g x) ++ found) (statements_flat n g xs)

module _ where
  furthers_flat : {A : Type 0} (n : ℕ) (g : A → model.Item) (xs : List A) → steps_sites n (furthers (map g xs)) ≡ flat_map (λ x. item_sites n (g x)) xs
  furthers_flat n g [] = refl
  furthers_flat n g (x ∷ xs) = ap (λ found. item_sites n (g x) ++ found) (furthers_flat n g xs)

pub items_flat : {A : Type 0} (n : ℕ) (g : A → model.Item) (xs : List A) (comma : Bool) → items_sites n (listed (map g xs) comma) ≡ flat_map (λ x. item_sites n (g x)) xs
items_flat n g [] comma = refl
items_flat n g (x ∷ xs) comma = ap (λ found. item_sites n (g x) ++ found) (furthers_flat n g xs)

module _ where
  positional_furthers : {A : Type 0} (n : ℕ) (g : A → model.Tree) (xs : List A) → steps_sites n (furthers (map model.Positional (map g xs))) ≡ flat_map (λ x. sites n (g x)) xs
  positional_furthers n g [] = refl
  positional_furthers n g (x ∷ xs) = ap (λ found. sites n (g x) ++ found) (positional_furthers n g xs)

pub positional_flat : {A : Type 0} (n : ℕ) (g : A → model.Tree) (xs : List A) (comma : Bool) → items_sites n (listed (map model.Positional (map g xs)) comma) ≡ flat_map (λ x. sites n (g x)) xs
positional_flat n g [] comma = refl
positional_flat n g (x ∷ xs) comma = ap (λ found. sites n (g x) ++ found) (positional_furthers n g xs)
