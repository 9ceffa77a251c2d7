-- Patterns and targets, over the lists of the program.
use Rattle.std.proofs.Common.{◌≡◌, ℕ, zero, suc, Bool, true, false, List, [], ◌∷◌, ◌++◌, ◌+◌, ◌-◌, ◌<◌, Some, slice_get, length, get_or, take, refl, ap, sym, ◌∙◌, arith}
use Rattle.std.specs.Prelude.{map, ◌||◌}
use Rattle.std.proofs.lemmas.List.{take_more, map_push}
use Rattle.stan_model_grammar.specs.declared.operators.ArrayStyle.{ArrayStyle}
use Rattle.stan_model_grammar.specs.declared.operators.ArrayStyle.TheVariants as styles
use Rattle.stan_model_grammar.specs.declared.operators.AssignmentOperator.{AssignmentOperator}
use Rattle.stan_model_grammar.specs.declared.operators.Leaf.{Leaf}
use Rattle.stan_model_grammar.specs.declared.operators.Leaf.TheVariants as leaves
use Rattle.stan_model_grammar.specs.declared.token.Token.{Token}
use Rattle.stan_model_grammar.specs.Expressions.{is_assignable, is_place}
use Rattle.stan_model_grammar.specs.Trees.{Tree, node, Single, Array, Post, Item, Step, is_pattern, holds_pattern, is_pattern_item, further_pattern}
use Rattle.stan_model_grammar.specs.TreeLists.{listed, furthers, steps}
use Rattle.stan_syntax.specs.Targets.{is_pattern_array, is_variable_leaf, ends_in_place}

listed_pattern : (es : List Item) (comma : Bool) → holds_pattern (listed es comma) ≡ further_pattern (furthers es)
listed_pattern [] comma = refl
listed_pattern (x ∷ xs) comma = refl

pub array_pattern : (t : Token) (style : ArrayStyle) (es : List Item) (comma : Bool) → is_pattern (node t (Array style (listed es comma))) ≡ is_pattern_array style es
array_pattern t styles.List es comma = refl
array_pattern t styles.Brackets es comma = listed_pattern es comma
array_pattern t styles.Array es comma = listed_pattern es comma

-- ---- one more element

or_assoc : (a b c : Bool) → (a || (b || c)) ≡ ((a || b) || c)
or_assoc true b c = refl
or_assoc false b c = refl

or_false : (a : Bool) → (a || false) ≡ a
or_false true = refl
or_false false = refl

or_true : (a : Bool) → (a || true) ≡ true
or_true true = refl
or_true false = refl

pattern_push : (es : List Item) (x : Item) → further_pattern (furthers (es ++ x ∷ [])) ≡ (further_pattern (furthers es) || is_pattern_item x)
pattern_push [] x = or_false (is_pattern_item x)
pattern_push (y ∷ ys) x = ap (λ (b : Bool). is_pattern_item y || b) (pattern_push ys x) ∙ or_assoc (is_pattern_item y) (further_pattern (furthers ys)) (is_pattern_item x)

pub pattern_more : {A : Type 0} (f : A → Item) (xs : List A) (i : ℕ) (x : A) → i < length xs → x ≡ get_or xs i x
    → further_pattern (furthers (map f (take (i + 1) xs))) ≡ (further_pattern (furthers (map f (take i xs))) || is_pattern_item (f x))
pattern_more f xs i x lt e =
    ap (λ ys. further_pattern (furthers (map f ys))) (take_more xs i x lt) ∙ ap (λ ys. further_pattern (furthers ys)) (map_push f (take i xs) (get_or xs i x))
    ∙ pattern_push (map f (take i xs)) (f (get_or xs i x)) ∙ ap (λ y. further_pattern (furthers (map f (take i xs))) || is_pattern_item (f y)) (sym e)

pub pattern_here : {A : Type 0} (f : A → Item) (xs : List A) (i : ℕ) (x : A) → i < length xs → x ≡ get_or xs i x → is_pattern_item (f x) ≡ true → further_pattern (furthers (map f xs)) ≡ true
pattern_here f [] i x lt e h = absurd (omega arith)
pattern_here f (y ∷ ys) zero x lt e h = ap (λ (b : Bool). b || further_pattern (furthers (map f ys))) (ap (λ z. is_pattern_item (f z)) (sym e) ∙ h)
pattern_here f (y ∷ ys) (suc i) x lt e h = ap (λ (b : Bool). is_pattern_item (f y) || b) (pattern_here f ys i x (omega arith) e h) ∙ or_true (is_pattern_item (f y))

-- ---- targets

pub leaf_assignable : (o : AssignmentOperator) (t : Token) (leaf : Leaf) → is_assignable o (node t (Single leaf)) ≡ is_variable_leaf leaf
leaf_assignable o t leaves.Variable = refl
leaf_assignable o t leaf = refl

pub post_assignable : (o : AssignmentOperator) (t : Token) (e : Tree) (ss : List Step) → is_assignable o (node t (Post e (steps ss))) ≡ ends_in_place ss
post_assignable o t e [] = refl
post_assignable o t e (s ∷ ss) = refl

-- the last suffix decides
pub last_place : {A : Type 0} (f : A → Step) (xs : List A) (x : A) → slice_get xs (length xs - 1) ≡ Some x → is_place (f x) ≡ ends_in_place (map f xs)
last_place f [] x h = absurd cc
last_place f (y ∷ []) x h = let e : y ≡ x = cc in ap (λ z. is_place (f z)) (sym e)
last_place f (y ∷ z ∷ zs) x h =
    let e : length (y ∷ z ∷ zs) - 1 ≡ suc (length (z ∷ zs) - 1) = omega arith in
    last_place f (z ∷ zs) x (rw e at h)
