-- The arguments of an `exit`, over the lists of the program.
use Rattle.std.proofs.Common.{◌≡◌, Bool, true, false, List, [], ◌∷◌, Some, slice_get, length, refl, ap, ◌∙◌, arith}
use Rattle.std.specs.Prelude.{map, not, ◌&&◌}
use Rattle.stan_model_grammar.specs.Trees.{Item, Positional, items, Step, Steps, no_step, step, ends_program, arguments}
use Rattle.stan_syntax.specs.Exit.{is_positional, is_plain}

alone : (x : Item) (comma : Bool) → ends_program (arguments (items x no_step comma)) ≡ (not comma && is_positional x)
alone (Positional e) true = refl
alone (Positional e) false = refl
alone x true = refl
alone x false = refl

among : (x : Item) (y : Step) (ys : Steps) (comma : Bool) → ends_program (arguments (items x (step y ys) comma)) ≡ false
among (Positional e) y ys comma = refl
among x y ys comma = refl

pub plain_alone : {A : Type 0} (f : A → Item) (xs : List A) (x : A) (comma : Bool) → length xs ≡ 1 → slice_get xs 0 ≡ Some x → is_plain (map f xs) comma ≡ (not comma && is_positional (f x))
plain_alone f [] x comma one h = absurd (omega arith)
plain_alone f (y ∷ []) x comma one h = let e : y ≡ x = cc in ap (λ z. is_plain (f z ∷ []) comma) e ∙ alone (f x) comma
plain_alone f (y ∷ z ∷ zs) x comma one h = absurd (omega arith)

pub plain_among : {A : Type 0} (f : A → Item) (xs : List A) (x : A) (comma : Bool) → (length xs ≡ 1 → ⊥) → slice_get xs 0 ≡ Some x → is_plain (map f xs) comma ≡ false
plain_among f [] x comma more h = absurd cc
plain_among f (y ∷ []) x comma more h = absurd (more (omega arith))
plain_among f (y ∷ z ∷ zs) x comma more h = among (f y) _ _ comma
