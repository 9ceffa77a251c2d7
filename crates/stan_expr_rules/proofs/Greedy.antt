-- The greedy tree: no part is followed by a token that it could go on with.
use Rattle.std.proofs.Common.{Option, Some, ◌∙◌, sym, ◌≡◌, ℕ, ◌+◌, ◌-◌, ◌≤◌, ◌<◌, Bool, true, false, List, refl, arith}
use Rattle.stan_model_grammar.specs.declared.operators.Leaf.{Leaf}
use Rattle.stan_model_grammar.specs.declared.operators.Leaf.TheVariants as leaves
use Rattle.stan_model_grammar.specs.declared.operators.Production.{Production}
use Rattle.stan_model_grammar.specs.declared.operators.Production.TheVariants as productions
use Rattle.stan_model_grammar.specs.declared.operators.ArrayStyle.TheVariants as styles
use Rattle.stan_model_grammar.specs.declared.token.Token.{Token}
use Rattle.stan_model_grammar.specs.Strata.{loosest, joins, kind_at, leaf_low, binary_stratum}
use Rattle.stan_model_grammar.specs.Trees.{Tree, node, Form, Single, Brackets, Array, IsSet, Empty, Exit, New, Match, Closure, Arrow, Text, Post, Prefix, Assignment, Chain, Binary, Conditional, leaf_production, is_pattern, holds_pattern}
use Rattle.stan_model_grammar.specs.Expressions.{Stands, Reads, Forms}
use Rattle.stan_expr_rules.specs.Parse.{first_of, stands_arrow, is_arrow}

abbrev pub J : List Token → ℕ → ℕ
J ts at = joins (kind_at ts at) (kind_at ts (at + 1))

abbrev pub Near : List Token → ℕ → ℕ → ℕ → Type 0
Near ts low k to = low ≤ J ts to → k < J ts to

abbrev pub Greedy : List Token → Bool → ℕ → Tree → ℕ → ℕ → Type 0
Greedy ts = Reads ts (Near ts)

-- the picked tree of the tokens from one place to another
abbrev pub Picks : List Token → Tree → ℕ → ℕ → Type 0
Picks ts = Greedy ts false loosest

pub one_token : (ts : List Token) (at : ℕ) (t u : Token) → Stands ts at t → Stands ts at u → t ≡ u
one_token ts at t u e f = let g : (let s : Token → Option Token = Some in s t ≡ s u) = sym e ∙ f in cc

pub first_stands : (ts : List Token) (p : Bool) (k : ℕ) (t : Tree) (from to : ℕ) → Greedy ts p k t from to → Stands ts from (first_of t)
first_stands ts p k (node t f) from to h = h.0

-- ---- productions

-- what holds of no production of one token
pub leaf_is_none : (test : Production → Bool) → test productions.Literal ≡ false → test productions.Variable ≡ false → test productions.Name ≡ false → test productions.Static ≡ false
    → (leaf : Leaf) → test (leaf_production leaf) ≡ false
leaf_is_none test a b c d leaves.Variable = b
leaf_is_none test a b c d leaves.Name = c
leaf_is_none test a b c d leaves.Static = d
leaf_is_none test a b c d leaf = a

-- what something is appended to is no arrow function
no_arrow_form : (ts : List Token) (p : Bool) (t : Token) (f : Form) (from to : ℕ) → Forms ts (Near ts) p 0 f from to → is_arrow (node t f) ≡ false
no_arrow_form ts p t (Single leaf) from to h = leaf_is_none stands_arrow refl refl refl refl leaf
no_arrow_form ts p t (Arrow static reference ps type e) from to h = absurd (omega (arith, h.12))
no_arrow_form ts p t f from to h = refl

pub no_arrow : (ts : List Token) (p : Bool) (t : Tree) (from to : ℕ) → Greedy ts p 0 t from to → is_arrow t ≡ false
no_arrow ts p (node t f) from to h = no_arrow_form ts p t f from to h.1

-- ---- strata

-- a greedy tree of one stratum is one of each looser stratum, if nothing goes on with it there
lift_form : (ts : List Token) (p : Bool) (j k : ℕ) (f : Form) (from to : ℕ) → j ≤ k → k < J ts to → Forms ts (Near ts) p j f from to → Forms ts (Near ts) p k f from to
lift_form ts p j k (Single leaf) from to le s h = (h.0, h.1, λ _. s)
lift_form ts p j k (Brackets e) from to le s h = (h.0, λ _. s)
lift_form ts p j k (Array styles.Brackets es) from to le s h = (h.0, h.1, λ _. s)
lift_form ts p j k (Array styles.Array es) from to le s h = (h.0, h.1, h.2, λ _. s)
lift_form ts p j k (Array styles.List es) from to le s h = (h.0, h.1, h.2, λ _. s)
lift_form ts p j k (IsSet es) from to le s h = (h.0, h.1, h.2, λ _. s)
lift_form ts p j k (Empty e) from to le s h = (h.0, h.1, λ _. s)
lift_form ts p j k (Exit es) from to le s h = (h.0, h.1, λ _. s)
lift_form ts p j k (New c es) from to le s h = (h.0, omega (arith, h.1), h.2, h.3, h.4, λ _. s)
lift_form ts p j k (Match e arms) from to le s h = (h.0, h.1, h.2, h.3, λ _. s)
lift_form ts p j k (Closure a b c d e f) from to le s h = (h.0, h.1, h.2, h.3, h.4, h.5, h.6, h.7, h.8, h.9, h.10, h.11, λ _. s)
lift_form ts p j k (Arrow a b c d e) from to le s h = (h.0, h.1, h.2, h.3, h.4, h.5, h.6, h.7, h.8, h.9, h.10, λ _. s, omega (arith, h.12))
lift_form ts p j k (Text parts) from to le s h = (h.0, λ _. s)
lift_form ts p j k (Post e ss) from to le s h = (h.0, omega (arith, h.1), h.2, h.3, h.4, λ _. s)
lift_form ts p j k (Prefix o e) from to le s h = (omega (arith, h.0), h.1, h.2, λ _. s)
lift_form ts p j k (Assignment target o e) from to le s h = (h.0, h.1, omega (arith, h.2), h.3, h.4, h.5, h.6, λ _. s)
lift_form ts p j k (Chain i e ss) from to le s h = (h.0, h.1, omega (arith, h.2), h.3, h.4, h.5, λ _. s)
lift_form ts p j k (Binary d sign o e) from to le s h = (h.0, h.1, omega (arith, h.2), h.3, h.4, h.5, h.6, λ _. s)
lift_form ts p j k (Conditional c d e) from to le s h = (h.0, h.1, omega (arith, h.2), h.3, h.4, h.5, h.6, h.7, λ _. s)

pub lift : (ts : List Token) (p : Bool) (j k : ℕ) (t : Tree) (from to : ℕ) → j ≤ k → k < J ts to → Greedy ts p j t from to → Greedy ts p k t from to
lift ts p j k (node t f) from to le s h = (h.0, lift_form ts p j k f from to le s h.1)

past : (ts : List Token) (low j to : ℕ) → (J ts to ≡ j → ⊥) → Near ts low (j - 1) to → Near ts low j to
past ts low j to apart near le = let far = near le in grind (arith, apart, far)

-- a greedy tree of one stratum is one of the next, if nothing goes on with it there
extend_form : (ts : List Token) (p : Bool) (j : ℕ) (f : Form) (from to : ℕ) → (J ts to ≡ j → ⊥) → Forms ts (Near ts) p (j - 1) f from to → Forms ts (Near ts) p j f from to
extend_form ts p j (Single leaf) from to s h = (h.0, h.1, past ts (leaf_low leaf) j to s h.2)
extend_form ts p j (Brackets e) from to s h = (h.0, past ts 1 j to s h.1)
extend_form ts p j (Array styles.Brackets es) from to s h = (h.0, h.1, past ts 1 j to s h.2)
extend_form ts p j (Array styles.Array es) from to s h = (h.0, h.1, h.2, past ts 1 j to s h.3)
extend_form ts p j (Array styles.List es) from to s h = (h.0, h.1, h.2, past ts 1 j to s h.3)
extend_form ts p j (IsSet es) from to s h = (h.0, h.1, h.2, past ts 1 j to s h.3)
extend_form ts p j (Empty e) from to s h = (h.0, h.1, past ts 1 j to s h.2)
extend_form ts p j (Exit es) from to s h = (h.0, h.1, past ts 1 j to s h.2)
extend_form ts p j (New c es) from to s h = (h.0, omega (arith, h.1), h.2, h.3, h.4, past ts 5 j to s h.5)
extend_form ts p j (Match e arms) from to s h = (h.0, h.1, h.2, h.3, past ts 1 j to s h.4)
extend_form ts p j (Closure a b c d e f) from to s h = (h.0, h.1, h.2, h.3, h.4, h.5, h.6, h.7, h.8, h.9, h.10, h.11, past ts 1 j to s h.12)
extend_form ts p j (Arrow a b c d e) from to s h = (h.0, h.1, h.2, h.3, h.4, h.5, h.6, h.7, h.8, h.9, h.10, past ts 5 j to s h.11, omega (arith, h.12))
extend_form ts p j (Text parts) from to s h = (h.0, past ts 1 j to s h.1)
extend_form ts p j (Post e ss) from to s h = (h.0, omega (arith, h.1), h.2, h.3, h.4, past ts 1 j to s h.5)
extend_form ts p j (Prefix o e) from to s h = (omega (arith, h.0), h.1, h.2, past ts 6 j to s h.3)
extend_form ts p j (Assignment target o e) from to s h = (h.0, h.1, omega (arith, h.2), h.3, h.4, h.5, h.6, past ts 6 j to s h.7)
extend_form ts p j (Chain i e ss) from to s h = (h.0, h.1, omega (arith, h.2), h.3, h.4, h.5, past ts i j to s h.6)
extend_form ts p j (Binary d sign o e) from to s h = (h.0, h.1, omega (arith, h.2), h.3, h.4, h.5, h.6, past ts (binary_stratum o + 1) j to s h.7)
extend_form ts p j (Conditional c d e) from to s h = (h.0, h.1, omega (arith, h.2), h.3, h.4, h.5, h.6, h.7, past ts 24 j to s h.8)

pub extend : (ts : List Token) (p : Bool) (j : ℕ) (t : Tree) (from to : ℕ) → (J ts to ≡ j → ⊥) → Greedy ts p (j - 1) t from to → Greedy ts p j t from to
extend ts p j (node t f) from to s h = (h.0, extend_form ts p j f from to s h.1)

-- ---- patterns

refuted : (x : Bool) (A : Type 0) → x ≡ false → x ≡ true → A
refuted true A e h = absurd cc
refuted false A e h = absurd cc

-- what is no pattern may stand wherever an expression may
plain_form : (ts : List Token) (p q : Bool) (k : ℕ) (t : Token) (f : Form) (from to : ℕ) → is_pattern (node t f) ≡ false → Forms ts (Near ts) p k f from to → Forms ts (Near ts) q k f from to
plain_form ts p q k t (Array styles.Brackets es) from to still h = (λ e. refuted (holds_pattern es) (q ≡ true) still e, h.1, h.2)
plain_form ts p q k t (Array styles.Array es) from to still h = (λ e. refuted (holds_pattern es) (q ≡ true) still e, h.1, h.2, h.3)
plain_form ts p q k t (Array styles.List es) from to still h = absurd cc
plain_form ts p q k t f from to still h = h

pub plain : (ts : List Token) (p q : Bool) (k : ℕ) (t : Tree) (from to : ℕ) → is_pattern t ≡ false → Greedy ts p k t from to → Greedy ts q k t from to
plain ts p q k (node t f) from to still h = (h.0, plain_form ts p q k t f from to still h.1)

-- a place for no pattern holds none
plain_of_form : (ts : List Token) (k : ℕ) (t : Token) (f : Form) (from to : ℕ) → Forms ts (Near ts) false k f from to → is_pattern (node t f) ≡ true → ⊥
plain_of_form ts k t (Array styles.Brackets es) from to h e = let x = h.0 e in cc
plain_of_form ts k t (Array styles.Array es) from to h e = let x = h.0 e in cc
plain_of_form ts k t (Array styles.List es) from to h e = let x = h.0 in cc
plain_of_form ts k t f from to h e = cc

pub plain_of : (ts : List Token) (k : ℕ) (t : Tree) (from to : ℕ) → Greedy ts false k t from to → is_pattern t ≡ true → ⊥
plain_of ts k (node t f) from to h e = plain_of_form ts k t f from to h.1 e
