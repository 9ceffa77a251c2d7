-- Depths of lists: that of the model's list is the greatest one of the values.
use Rattle.std.proofs.Common.{◌≡◌, ℕ, Bool, List, [], ◌∷◌, ◌++◌, ◌+◌, ◌<◌, max, length, get_or, take, refl, ap, sym, ◌∙◌, arith}
use Rattle.std.specs.Prelude.{map}
use Rattle.std.proofs.lemmas.List.{take_more}
use Rattle.stan_model_grammar.specs.Depth.{depth, items_depth, item_depth, steps_depth, step_depth, statements_depth, statement_depth}
use Rattle.stan_model_grammar.specs.Trees as model
use Rattle.stan_syntax.specs.Depth.{greatest}
use Rattle.stan_model_grammar.specs.TreeLists.{Operated, listed, furthers, steps, operation_steps, statements}

module _ where
  greatest_push : {A : Type 0} (f : A → ℕ) (xs : List A) (x : A) → greatest f (xs ++ x ∷ []) ≡ max (greatest f xs) (f x)
  greatest_push f [] x = omega arith
  greatest_push f (y ∷ ys) x = omega (arith, greatest_push f ys x)

-- one more value of a list
pub greatest_more : {A : Type 0} (f : A → ℕ) (xs : List A) (i : ℕ) (x : A) → i < length xs → x ≡ get_or xs i x → greatest f (take (i + 1) xs) ≡ max (greatest f (take i xs)) (f x)
greatest_more f xs i x lt e = ap (greatest f) (take_more xs i x lt) ∙ greatest_push f (take i xs) (get_or xs i x) ∙ ap (λ y. max (greatest f (take i xs)) (f y)) (sym e)

pub steps_greatest : {A : Type 0} (g : A → model.Step) (xs : List A) → steps_depth (steps (map g xs)) ≡ greatest (λ x. step_depth (g x)) xs
steps_greatest g [] = refl
steps_greatest g (x ∷ xs) = ap (max (step_depth (g x))) (steps_greatest g xs)

pub operations_greatest : {A : Type 0} (g : A → Operated) (xs : List A) → steps_depth (operation_steps (map g xs)) ≡ greatest (λ x. depth (g x).operand + 1) xs
operations_greatest g [] = refl
operations_greatest g (x ∷ xs) = ap (max (depth (g x).operand + 1)) (operations_greatest g xs)

pub statements_greatest : {A : Type 0} (g : A → model.Statement) (xs : List A) → statements_depth (statements (map g xs)) ≡ greatest (λ x. statement_depth (g x)) xs
statements_greatest g [] = refl
statements_greatest g (x ∷ xs) = ap (max (statement_depth (g x))) (statements_greatest g xs)

module _ where
  furthers_greatest : {A : Type 0} (g : A → model.Item) (xs : List A) → steps_depth (furthers (map g xs)) ≡ greatest (λ x. item_depth (g x)) xs
  furthers_greatest g [] = refl
  furthers_greatest g (x ∷ xs) = ap (max (item_depth (g x))) (furthers_greatest g xs)

pub items_greatest : {A : Type 0} (g : A → model.Item) (xs : List A) (comma : Bool) → items_depth (listed (map g xs) comma) ≡ greatest (λ x. item_depth (g x)) xs
items_greatest g [] comma = refl
items_greatest g (x ∷ xs) comma = ap (max (item_depth (g x))) (furthers_greatest g xs)

module _ where
  positional_furthers : {A : Type 0} (g : A → model.Tree) (xs : List A) → steps_depth (furthers (map model.Positional (map g xs))) ≡ greatest (λ x. depth (g x)) xs
  positional_furthers g [] = refl
  positional_furthers g (x ∷ xs) = ap (max (depth (g x))) (positional_furthers g xs)

pub positional_greatest : {A : Type 0} (g : A → model.Tree) (xs : List A) (comma : Bool) → items_depth (listed (map model.Positional (map g xs)) comma) ≡ greatest (λ x. depth (g x)) xs
positional_greatest g [] comma = refl
positional_greatest g (x ∷ xs) comma = ap (max (depth (g x))) (positional_furthers g xs)
