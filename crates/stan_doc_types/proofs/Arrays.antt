-- Brackets behind one another, by their number.
use Rattle.std.proofs.Common.{◌≡◌, List, [], ◌∷◌, length, refl, ap}
use Rattle.std.specs.Prelude.{map}
use Rattle.stan_model_doc.specs.Rules as r
use Rattle.stan_model_doc.specs.Trees.{nil, mark, some}
use Rattle.stan_doc_descent.specs.Parse.{Piece}
use Rattle.stan_doc_trees.specs.Tree.{items, arrays_of}

pub arrays_are : {A : Type 0} (xs : List A) → items (map (λ _. (r.brackets, mark (mark nil))) xs) nil ≡ arrays_of (length xs)
arrays_are [] = refl
arrays_are (x ∷ xs) = ap (some r.brackets (mark (mark nil))) (arrays_are xs)
