-- The tree of the tokens: among all trees that spell them, the one whose optional parts, repeated parts and right sides, from left to
-- right, each take as many tokens as they can.
use Rattle.std.specs.Prelude.{◌≡◌, ◌⊎◌, ℕ, zero, suc, ◌+◌, ◌-◌, ◌<◌, Bool, true, false, List, [], ◌∷◌, ◌++◌, Option, Some, None}
use Rattle.stan_model_grammar.specs.declared.operators.ArrayStyle.{ArrayStyle}
use Rattle.stan_model_grammar.specs.declared.operators.ArrayStyle.TheVariants as styles
use Rattle.stan_model_grammar.specs.declared.operators.Visibility.{Visibility}
use Rattle.stan_model_grammar.specs.declared.token.Token.{Token}
use Rattle.stan_model_grammar.specs.Strata.{prefix_stratum, binary_size, binary_stratum, fixity, tighter, right_side, assignment_size, loosest}
use Rattle.stan_model_grammar.specs.Trees.{TypeTree, Nullable, Union, Tree, node, Form, Single, Brackets, Array, IsSet, Empty, Exit, New, Match, Closure, Arrow, Text, Post, Prefix, Assignment, Chain, Binary, Conditional, Items, no_item, items, Item, Positional, Spread, Named, Element, KeyedElement, Parameter, Captured, Arm, DefaultArm, Default, no_default, default, Arguments, no_arguments, arguments, ClassReference, NamedClass, VariableClass, ScopedClass, ComputedClass, MemberName, NamedMember, ComputedMember, Steps, no_step, step, Step, Push, Index, Property, Scoped, Call, Increment, Decrement, Operation, Part, Inserted, Further, Body, Held, Read}
use Rattle.stan_model_grammar.specs.Expressions.{Spells}

-- ---- how many tokens a tree spells

-- of a word or a mark that may stand
abbrev pub may_size : Bool → ℕ
may_size true = 1
may_size false = 0

abbrev pub visibility_size : Option Visibility → ℕ
visibility_size None = 0
visibility_size (Some v) = 1

abbrev pub alternatives_size : List Token → ℕ
alternatives_size [] = 0
alternatives_size (t ∷ more) = alternatives_size more + 2

abbrev pub type_size : TypeTree → ℕ
type_size (Nullable first t) = 2
type_size (Union t more) = alternatives_size more + 1

abbrev pub may_type_size : Option TypeTree → ℕ
may_type_size None = 0
may_type_size (Some type) = type_size type

-- with its `:`
abbrev pub return_size : Option TypeTree → ℕ
return_size None = 0
return_size (Some type) = type_size type + 1

abbrev pub body_size : Body → ℕ
body_size (Held first last) = (last - first) + 2
body_size (Read statements) = 0

-- what opens and closes an array
abbrev pub style_size : ArrayStyle → ℕ
style_size styles.Brackets = 2
style_size _ = 3

abbrev mutual
  pub size : Tree → ℕ
  size (node t f) = form_size f

  pub form_size : Form → ℕ
  form_size (Single leaf) = 1
  form_size (Brackets e) = size e + 2
  form_size (Array style es) = items_size es + style_size style
  form_size (IsSet es) = items_size es + 3
  form_size (Empty e) = size e + 3
  form_size (Exit es) = arguments_size es + 1
  form_size (New class es) = class_size class + arguments_size es + 1
  form_size (Match e arms) = size e + items_size arms + 5
  form_size (Closure static reference parameters captures type body) = may_size static + may_size reference + items_size parameters + captures_size captures + return_size type + body_size body + 3
  form_size (Arrow static reference parameters type e) = may_size static + may_size reference + items_size parameters + return_size type + size e + 4
  form_size (Text parts) = steps_size parts + 2
  form_size (Post e ss) = size e + steps_size ss
  form_size (Prefix o e) = size e + 1
  form_size (Assignment target o e) = size target + assignment_size o + size e
  form_size (Chain j e ss) = size e + steps_size ss
  form_size (Binary d t o e) = size d + binary_size o + size e
  form_size (Conditional c d e) = size c + size d + size e + 2

  pub items_size : Items → ℕ
  items_size no_item = 0
  items_size (items x xs comma) = item_size x + steps_size xs + may_size comma

  -- with `use` and the brackets
  pub captures_size : Items → ℕ
  captures_size no_item = 0
  captures_size (items x xs comma) = item_size x + steps_size xs + may_size comma + 3

  pub item_size : Item → ℕ
  item_size (Positional e) = size e
  item_size (Spread e) = size e + 1
  item_size (Named t e) = size e + 2
  item_size (Element reference e) = may_size reference + size e
  item_size (KeyedElement key reference e) = size key + may_size reference + size e + 1
  item_size (Parameter visibility type reference variadic t value) = visibility_size visibility + may_type_size type + may_size reference + may_size variadic + default_size value + 1
  item_size (Captured t) = 1
  item_size (Arm conditions e) = items_size conditions + size e + 1
  item_size (DefaultArm comma e) = may_size comma + size e + 2

  pub default_size : Default → ℕ
  default_size no_default = 0
  default_size (default e) = size e + 1

  pub arguments_size : Arguments → ℕ
  arguments_size no_arguments = 0
  arguments_size (arguments es) = items_size es + 2

  pub class_size : ClassReference → ℕ
  class_size (NamedClass t) = 1
  class_size (VariableClass t ss) = steps_size ss + 1
  class_size (ScopedClass t u ss) = steps_size ss + 3
  class_size (ComputedClass e) = size e + 2

  pub member_size : MemberName → ℕ
  member_size (NamedMember t) = 1
  member_size (ComputedMember e) = size e + 2

  pub steps_size : Steps → ℕ
  steps_size no_step = 0
  steps_size (step x xs) = step_size x + steps_size xs

  pub step_size : Step → ℕ
  step_size Push = 2
  step_size (Index e) = size e + 2
  step_size (Property nullsafe name es) = member_size name + arguments_size es + 1
  step_size (Scoped t es) = arguments_size es + 2
  step_size (Call es) = items_size es + 2
  step_size Increment = 1
  step_size Decrement = 1
  step_size (Operation t o e) = binary_size o + size e
  step_size (Part t) = 1
  step_size (Inserted e) = size e + 2
  step_size (Further x) = item_size x + 1

-- ---- how many tokens its parts take

abbrev pub zeros : ℕ → List ℕ
zeros zero = []
zeros (suc n) = 0 ∷ zeros n

-- the strata between, whose parts take nothing
abbrev pub none : ℕ → ℕ → List ℕ
none j k = zeros (k - j)

abbrev mutual
  -- How many tokens each optional part, repeated part and right side takes, from left to right, in a tree that stands for an expression
  -- of stratum k: a part before the parts that are inside it, and 0 for one that does not stand.
  pub takes : ℕ → Tree → List ℕ
  takes k (node t f) = form_takes k f

  pub form_takes : ℕ → Form → List ℕ
  form_takes k (Single leaf) = none 0 k
  form_takes k (Brackets e) = takes loosest e ++ none 0 k
  form_takes k (Array style es) = items_take es ++ none 0 k
  form_takes k (IsSet es) = items_take es ++ none 0 k
  form_takes k (Empty e) = takes loosest e ++ none 0 k
  form_takes k (Exit es) = arguments_take es ++ none 0 k
  form_takes k (New class es) = class_takes class ++ arguments_take es ++ none 4 k
  form_takes k (Match e arms) = takes loosest e ++ items_take arms ++ none 0 k
  form_takes k (Closure static reference parameters captures type body) = may_size static ∷ may_size reference ∷ (items_take parameters ++ (captures_size captures ∷ (items_take captures ++ (return_size type ∷ none 0 k))))
  form_takes k (Arrow static reference parameters type e) = may_size static ∷ may_size reference ∷ (items_take parameters ++ (return_size type ∷ size e ∷ (takes loosest e ++ none 4 k)))
  form_takes k (Text parts) = steps_size parts ∷ (steps_take parts ++ none 0 k)
  form_takes k (Post e ss) = takes 0 e ++ (steps_size ss ∷ (steps_take ss ++ none 4 k))
  form_takes k (Prefix o e) = size e ∷ (takes (prefix_stratum o) e ++ none 5 k)
  form_takes k (Assignment target o e) = takes 4 target ++ (size e ∷ (takes 24 e ++ none 5 k))
  form_takes k (Chain j e ss) = takes (tighter j) e ++ (steps_size ss ∷ (steps_take ss ++ none j k))
  form_takes k (Binary d t o e) = takes (binary_stratum o - 1) d ++ (size e ∷ (takes (right_side (fixity o) (binary_stratum o)) e ++ none (binary_stratum o) k))
  form_takes k (Conditional c d e) = takes 21 c ++ ((size d + size e + 2) ∷ (takes loosest d ++ (size e ∷ (takes 21 e ++ none 23 k))))

  pub items_take : Items → List ℕ
  items_take no_item = 0 ∷ []
  items_take (items x xs comma) = items_size (items x xs comma) ∷ (item_takes x ++ (steps_size xs ∷ (steps_take xs ++ (may_size comma ∷ []))))

  pub item_takes : Item → List ℕ
  item_takes (Positional e) = takes loosest e
  item_takes (Spread e) = takes loosest e
  item_takes (Named t e) = takes loosest e
  item_takes (Element reference e) = 0 ∷ may_size reference ∷ takes loosest e
  item_takes (KeyedElement key reference e) = (size key + 1) ∷ (takes loosest key ++ (may_size reference ∷ takes loosest e))
  item_takes (Parameter visibility type reference variadic t value) = visibility_size visibility ∷ may_type_size type ∷ may_size reference ∷ may_size variadic ∷ default_take value
  item_takes (Captured t) = []
  item_takes (Arm conditions e) = items_take conditions ++ (size e ∷ takes loosest e)
  item_takes (DefaultArm comma e) = may_size comma ∷ size e ∷ takes loosest e

  pub default_take : Default → List ℕ
  default_take no_default = 0 ∷ []
  default_take (default e) = (size e + 1) ∷ takes loosest e

  pub arguments_take : Arguments → List ℕ
  arguments_take no_arguments = 0 ∷ []
  arguments_take (arguments es) = arguments_size (arguments es) ∷ items_take es

  pub class_takes : ClassReference → List ℕ
  class_takes (NamedClass t) = 0 ∷ []
  class_takes (VariableClass t ss) = steps_size ss ∷ steps_take ss
  class_takes (ScopedClass t u ss) = (steps_size ss + 2) ∷ steps_size ss ∷ steps_take ss
  class_takes (ComputedClass e) = takes loosest e

  pub member_takes : MemberName → List ℕ
  member_takes (NamedMember t) = []
  member_takes (ComputedMember e) = takes loosest e

  pub steps_take : Steps → List ℕ
  steps_take no_step = []
  steps_take (step x xs) = step_takes x ++ steps_take xs

  pub step_takes : Step → List ℕ
  step_takes Push = 0 ∷ []
  step_takes (Index e) = size e ∷ takes loosest e
  step_takes (Property nullsafe name es) = member_takes name ++ arguments_take es
  step_takes (Scoped t es) = arguments_take es
  step_takes (Call es) = items_take es
  step_takes Increment = []
  step_takes Decrement = []
  step_takes (Operation t o e) = takes (tighter (binary_stratum o)) e
  step_takes (Part t) = []
  step_takes (Inserted e) = takes loosest e
  step_takes (Further x) = item_takes x

-- where the lists first differ, the number of the first one is larger
abbrev pub More : List ℕ → List ℕ → Type 0
More [] ys = ⊥
More (x ∷ xs) [] = ⊥
More (x ∷ xs) (y ∷ ys) = (y < x) ⊎ ((x ≡ y) × More xs ys)

abbrev pub TakesMore : Tree → Tree → Type 0
TakesMore t u = More (takes loosest t) (takes loosest u)

-- The tree of the tokens from one place to another: it spells them, and takes more than any other one that does.
abbrev pub IsTreeOf : List Token → Tree → ℕ → ℕ → Type 0
IsTreeOf ts t at to = Spells ts t at to × ((u : Tree) → Spells ts u at to → (t ≡ u) ⊎ TakesMore t u)
