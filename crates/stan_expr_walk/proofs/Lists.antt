-- What is found in lists: that of the model's list is that of the values, one after the other.
use Rattle.std.proofs.Common.{◌≡◌, ℕ, ◌+◌, ◌<◌, Bool, List, [], ◌∷◌, ◌++◌, length, get_or, take, refl, ap, sym, ◌∙◌, append-nil}
use Rattle.std.specs.List.{flat_map}
use Rattle.std.specs.Prelude.{map}
use Rattle.std.proofs.lemmas.Grind.{flat_map-append}
use Rattle.std.proofs.lemmas.List.{take_more}
use Rattle.stan_model_grammar.specs.Trees as model
use Rattle.stan_model_grammar.specs.TreeLists.{Operated, listed, furthers, steps, operation_steps}
use Rattle.stan_model_walk.specs.Findings.{found_in}
use Rattle.stan_model_walk.specs.Nodes.{in_tree, in_items, in_item, in_steps, in_step}
use Rattle.stan_expr_walk.specs.Taken.{operand_taken}

-- nothing is found
pub none : {A : Type 0} (found : List A) → found ≡ found ++ []
none found = sym (append-nil found)

pub flat_more : {A B : Type 0} (f : A → List B) (xs : List A) (i : ℕ) (x : A) → i < length xs → x ≡ get_or xs i x → flat_map f (take (i + 1) xs) ≡ flat_map f (take i xs) ++ f x
flat_more f xs i x lt e = ap (flat_map f) (take_more xs i x lt) ∙ flat_map-append f (take i xs) (get_or xs i x ∷ []) ∙ ap (λ y. flat_map f (take i xs) ++ y) (append-nil (f (get_or xs i x))) ∙ ap (λ y. flat_map f (take i xs) ++ f y) (sym e)

pub steps_flat : {A : Type 0} (inner : Bool) (g : A → model.Step) (xs : List A) → in_steps found_in inner (steps (map g xs)) ≡ flat_map (λ x. in_step found_in inner (g x)) xs
steps_flat inner g [] = refl
steps_flat inner g (x ∷ xs) = ap (λ found. in_step found_in inner (g x) ++ found) (steps_flat inner g xs)

pub operations_flat : {A : Type 0} (inner : Bool) (g : A → Operated) (xs : List A) → in_steps found_in inner (operation_steps (map g xs)) ≡ flat_map (λ x. operand_taken inner (g x)) xs
operations_flat inner g [] = refl
operations_flat inner g (x ∷ xs) = ap (λ found. operand_taken inner (g x) ++ found) (operations_flat inner g xs)

module _ where
  furthers_flat : {A : Type 0} (inner : Bool) (g : A → model.Item) (xs : List A) → in_steps found_in inner (furthers (map g xs)) ≡ flat_map (λ x. in_item found_in inner (g x)) xs
  furthers_flat inner g [] = refl
  furthers_flat inner g (x ∷ xs) = ap (λ found. in_item found_in inner (g x) ++ found) (furthers_flat inner g xs)

pub items_flat : {A : Type 0} (inner : Bool) (g : A → model.Item) (xs : List A) (comma : Bool) → in_items found_in inner (listed (map g xs) comma) ≡ flat_map (λ x. in_item found_in inner (g x)) xs
items_flat inner g [] comma = refl
items_flat inner g (x ∷ xs) comma = ap (λ found. in_item found_in inner (g x) ++ found) (furthers_flat inner g xs)

module _ where
  positional_furthers : {A : Type 0} (inner : Bool) (g : A → model.Tree) (xs : List A) → in_steps found_in inner (furthers (map model.Positional (map g xs))) ≡ flat_map (λ x. in_tree found_in inner (g x)) xs
  positional_furthers inner g [] = refl
  positional_furthers inner g (x ∷ xs) = ap (λ found. in_tree found_in inner (g x) ++ found) (positional_furthers inner g xs)

pub positional_flat : {A : Type 0} (inner : Bool) (g : A → model.Tree) (xs : List A) (comma : Bool) → in_items found_in inner (listed (map model.Positional (map g xs)) comma) ≡ flat_map (λ x. in_tree found_in inner (g x)) xs
positional_flat inner g [] comma = refl
positional_flat inner g (x ∷ xs) comma = ap (λ found. in_tree found_in inner (g x) ++ found) (positional_furthers inner g xs)
