-- Where what one would expect of unions and tests doesn't hold.
use Rattle.std.specs.Prelude.{◌≡◌, ◌+◌, ℕ, zero, suc, pos, List, [], ◌∷◌, codes}
use Rattle.stan_model_types.specs.Types.{Part, PhpType, Template, Callable, Int, Str, ClassString, Literal, NonEmpty, Plain, of_parts}
use Rattle.stan_model_types.specs.TypeFilters.{Filter, Falsy, Ints, Only, Strings, greatest_int, keep, least_int, without}
use Rattle.stan_model_types.specs.TypeLimits.{implicit_mixed}
use Rattle.stan_model_types.specs.NormalForms.{normal, union}

abbrev pub number : ℕ → Part
number n = Int (pos n) (pos n)

-- the even numbers below twice n
abbrev pub evens : ℕ → List Part
evens zero = []
evens (suc n) = number (n + n) ∷ evens n

-- what a test keeps, united with what is left
abbrev pub whole : Filter → List Part → PhpType
whole f ps = union (keep f (of_parts ps)) (without f (of_parts ps))

abbrev pub foo : Part
foo = Str (Literal (codes "Foo"))

abbrev pub ints : Part
ints = Int least_int greatest_int

abbrev pub of_mixed : Part
of_mixed = Template (codes "f") (codes "T") implicit_mixed

pub record Breaks : Type 0 where
  -- 33 ranges are one, and the two that come later stay apart; 35 at once are one
  pub first_two : union (union (normal (evens 32)) (of_parts (number 64 ∷ []))) (of_parts (number 66 ∷ number 68 ∷ [])) ≡ of_parts (Int (pos 0) (pos 64) ∷ number 66 ∷ number 68 ∷ [])
  pub last_two : union (normal (evens 32)) (union (of_parts (number 64 ∷ [])) (of_parts (number 66 ∷ number 68 ∷ []))) ≡ of_parts (Int (pos 0) (pos 68) ∷ [])
  -- `string` is left as `non-empty-string`, and `'0'` goes into it
  pub falsy : whole Falsy (Str Plain ∷ []) ≡ of_parts (Str (Literal []) ∷ Str NonEmpty ∷ [])
  -- a template and `callable` stay beside what of them is kept
  pub template : whole Ints (of_mixed ∷ []) ≡ of_parts (of_mixed ∷ ints ∷ [])
  pub callable : whole Strings (Callable ∷ []) ≡ of_parts (Callable ∷ Str Plain ∷ [])
  pub class_string : whole (Only foo) (ClassString ∷ []) ≡ of_parts (foo ∷ ClassString ∷ [])
