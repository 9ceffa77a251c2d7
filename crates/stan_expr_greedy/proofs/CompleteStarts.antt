-- The strata of operators, and what stands before and behind what stands alone.
use Rattle.std.proofs.Common.{◌≡◌, ℕ, ◌-◌, ◌≤◌, Bool, true, false, List, Option, Some, None, refl, ap, arith, inl, inr}
use Rattle.std.specs.Prelude.{IsTrue}
use Rattle.std.proofs.lemmas.Bool.Decides.{eqb_tells}
use Rattle.stan_model_grammar.specs.declared.operators.ArrayStyle.TheVariants as styles
use Rattle.stan_model_grammar.specs.declared.operators.AssignmentOperator.{AssignmentOperator}
use Rattle.stan_model_grammar.specs.declared.operators.BinaryOperator.{BinaryOperator}
use Rattle.stan_model_grammar.specs.declared.operators.BinaryOperator.TheVariants as binaries
use Rattle.stan_model_grammar.specs.declared.operators.Fixity.{Fixity}
use Rattle.stan_model_grammar.specs.declared.operators.Fixity.TheVariants as fixities
use Rattle.stan_model_grammar.specs.declared.operators.Leaf.{Leaf}
use Rattle.stan_model_grammar.specs.declared.operators.PrefixOperator.{PrefixOperator}
use Rattle.stan_model_grammar.specs.declared.token.Token.{Token}
use Rattle.stan_model_grammar.specs.declared.token.TokenKind.{TokenKind}
use Rattle.stan_model_grammar.specs.declared.token.TokenKind.TheVariants as kinds
use Rattle.stan_model_grammar.specs.Strata.{kind_at, leaf_of, prefix_of, binary_stratum, fixity, tighter, right_side, is_exit}
use Rattle.stan_model_grammar.specs.Trees.{TypeTree, Tree, Items, node, Form, Single, Brackets, Array, IsSet, Empty, Exit, New, Match, Closure, Arrow, Text, Post, Prefix, Assignment, Chain, Binary, Conditional}
use Rattle.stan_model_grammar.specs.Expressions.{is_assignable, Is, Stands, Forms}
use Rattle.stan_expr_rules.proofs.InsideLemmas.{is_inside}
use Rattle.stan_expr_rules.specs.Parse.{stands_arrow, is_arrow}
use Rattle.stan_expr_rules.proofs.Greedy.{Near, Greedy, leaf_is_none}
use Rattle.stan_expr_greedy.proofs.SoundTables.{stratum_bounds, leaf_low_small}
use Rattle.stan_expr_greedy.proofs.Begins.{clash}
use Rattle.stan_expr_greedy.proofs.CompleteParts.{get_some}
use Rattle.stan_expr_rules.proofs.Choices.{none_of, nothing_is}

-- ---- tables

-- operators that make no chain
pub single_in : (o : BinaryOperator) → (fixity o ≡ fixities.Left → ⊥) → binary_stratum o ≤ 21
single_in binaries.Power h = omega arith
single_in binaries.Smaller h = omega arith
single_in binaries.SmallerOrEqual h = omega arith
single_in binaries.Greater h = omega arith
single_in binaries.GreaterOrEqual h = omega arith
single_in binaries.Equal h = omega arith
single_in binaries.NotEqual h = omega arith
single_in binaries.Identical h = omega arith
single_in binaries.NotIdentical h = omega arith
single_in binaries.Spaceship h = omega arith
single_in binaries.Coalesce h = omega arith
single_in o h = absurd (h refl)

pub right_in : (f : Fixity) (j : ℕ) → (j - 1 ≤ right_side f j) × (right_side f j ≤ j)
right_in fixities.Right j = (omega arith, omega arith)
right_in f j = (omega arith, omega arith)

pub tighter_in : (j : ℕ) → 6 ≤ j → (5 ≤ tighter j) × (tighter j ≤ j)
tighter_in j lo =
    elim (eqb_tells j 23) [
      | inl is ↦ let low : tighter j ≡ 21 = rw is.0 refl in (omega arith, omega arith)
      | inr other ↦ let low : tighter j ≡ j - 1 = rw other.0 refl in (omega arith, omega arith)
    ]

-- what stands alone, and what may be assigned to or appended to
abbrev pub is_atom : Form → Bool
is_atom (New class es) = false
is_atom (Arrow static reference parameters type e) = false
is_atom (Post e ss) = false
is_atom (Prefix o e) = false
is_atom (Assignment target o e) = false
is_atom (Chain j e ss) = false
is_atom (Binary d sign o e) = false
is_atom (Conditional c d e) = false
is_atom f = true

abbrev pub is_post : Form → Bool
is_post (Prefix o e) = false
is_post (Assignment target o e) = false
is_post (Chain j e ss) = false
is_post (Binary d sign o e) = false
is_post (Conditional c d e) = false
is_post f = true

-- what stands alone is no arrow function
pub atom_no_arrow : (t : Token) (f : Form) → is_atom f ≡ true → is_arrow (node t f) ≡ false
atom_no_arrow t (Single leaf) a = leaf_is_none stands_arrow refl refl refl refl leaf
atom_no_arrow t (Arrow static reference parameters type e) a = clash _ a
atom_no_arrow t f a = refl

pub assignable_is_post : (o : AssignmentOperator) (t : Token) (f : Form) → is_assignable o (node t f) ≡ true → is_post f ≡ true
assignable_is_post o t (Prefix p e) h = clash _ h
assignable_is_post o t (Assignment target p e) h = clash _ h
assignable_is_post o t (Chain j e ss) h = clash _ h
assignable_is_post o t (Binary d sign p e) h = clash _ h
assignable_is_post o t (Conditional c d e) h = clash _ h
assignable_is_post o t f h = refl

-- tokens that are no prefix, and no `new`
abbrev pub leads_by : Option PrefixOperator → TokenKind → Bool
leads_by (Some o) kind = false
leads_by None kinds.New = false
leads_by None kind = true

abbrev pub leads : TokenKind → Bool
leads kind = leads_by (prefix_of kind) kind

leads_none : (kind : TokenKind) → leads kind ≡ true → prefix_of kind ≡ None
leads_none kind h = none_of (prefix_of kind) (λ o e. clash ⊥ (rw e at h))

leaf_leads : (kind : TokenKind) (leaf : Leaf) → leaf_of kind ≡ Some leaf → leads kind ≡ true
leaf_leads kinds.Integer leaf h = refl
leaf_leads kinds.Float leaf h = refl
leaf_leads kinds.SingleQuoted leaf h = refl
leaf_leads kinds.DoubleQuoted leaf h = refl
leaf_leads kinds.Heredoc leaf h = refl
leaf_leads kinds.Nowdoc leaf h = refl
leaf_leads kinds.Variable leaf h = refl
leaf_leads kinds.Identifier leaf h = refl
leaf_leads kinds.QualifiedName leaf h = refl
leaf_leads kinds.FullyQualifiedName leaf h = refl
leaf_leads kinds.RelativeName leaf h = refl
leaf_leads kinds.Static leaf h = refl
leaf_leads kind leaf h = absurd (nothing_is leaf h)

exit_leads : (kind : TokenKind) → IsTrue (is_exit kind) → leads kind ≡ true
exit_leads kinds.Exit h = refl
exit_leads kinds.Die h = refl
exit_leads kind h = clash _ h

module _ (ts : List Token) where
  pub token_of : (kind : TokenKind) (at : ℕ) → (kind ≡ kinds.End → ⊥) → Is ts at kind → (t : Token) × Stands ts at t
  token_of kind at some k = get_some ts at (is_inside ts at kind some k)

  -- ---- what stands alone

  pub atom_of_zero : (p : Bool) (f : Form) (at to : ℕ) → Forms ts (Near ts) p 0 f at to → is_atom f ≡ true
  atom_of_zero p (New class es) at to h = absurd (omega (arith, h.1))
  atom_of_zero p (Arrow static reference parameters type e) at to h = absurd (omega (arith, h.12))
  atom_of_zero p (Post e ss) at to h = absurd (omega (arith, h.1))
  atom_of_zero p (Prefix o e) at to h = absurd (omega (arith, h.0))
  atom_of_zero p (Assignment target o e) at to h = absurd (omega (arith, h.2))
  atom_of_zero p (Chain j e ss) at to h = absurd (omega (arith, h.1, h.2))
  atom_of_zero p (Binary d sign o e) at to h = absurd (omega (arith, h.2, (stratum_bounds o).0))
  atom_of_zero p (Conditional c d e) at to h = absurd (omega (arith, h.2))
  atom_of_zero p f at to h = refl

  pub atom_stops : (f : Form) (p : Bool) (k at to : ℕ) → is_atom f ≡ true → Forms ts (Near ts) p k f at to → Near ts 1 k to
  atom_stops (Single leaf) p k at to a h = λ le. h.2 (omega (arith, leaf_low_small leaf))
  atom_stops (Brackets e) p k at to a h = h.1
  atom_stops (Array styles.Brackets es) p k at to a h = h.2
  atom_stops (Array styles.Array es) p k at to a h = h.3
  atom_stops (Array styles.List es) p k at to a h = h.3
  atom_stops (IsSet es) p k at to a h = h.3
  atom_stops (Empty e) p k at to a h = h.2
  atom_stops (Exit es) p k at to a h = h.2
  atom_stops (Match e arms) p k at to a h = h.4
  atom_stops (Closure static reference parameters captures type body) p k at to a h = h.12
  atom_stops (Text parts) p k at to a h = h.1
  atom_stops f p k at to a h = clash _ a

  pub atom_leads : (f : Form) (p : Bool) (k at to : ℕ) → is_atom f ≡ true → Forms ts (Near ts) p k f at to → leads (kind_at ts at) ≡ true
  atom_leads (Single leaf) p k at to a h = leaf_leads (kind_at ts at) leaf h.0
  atom_leads (Brackets e) p k at to a h = ap leads h.0.1
  atom_leads (Array styles.Brackets es) p k at to a h = ap leads h.1.1
  atom_leads (Array styles.Array es) p k at to a h = ap leads h.1
  atom_leads (Array styles.List es) p k at to a h = ap leads h.1
  atom_leads (IsSet es) p k at to a h = ap leads h.1
  atom_leads (Empty e) p k at to a h = ap leads h.0
  atom_leads (Exit es) p k at to a h = exit_leads (kind_at ts at) h.0
  atom_leads (Match e arms) p k at to a h = ap leads h.1
  atom_leads (Closure true reference parameters captures type body) p k at to a h = ap leads h.5.0
  atom_leads (Closure false reference parameters captures type body) p k at to a h = rw (← h.5) at (ap leads h.6)
  atom_leads (Text parts) p k at to a h = ap leads h.0.1
  atom_leads f p k at to a h = clash _ a

  pub arrow_leads : (static reference : Bool) (ps : Items) (type : Option TypeTree) (e : Tree) (p : Bool) (k at to : ℕ) → Forms ts (Near ts) p k (Arrow static reference ps type e) at to → leads (kind_at ts at) ≡ true
  arrow_leads true reference ps type e p k at to h = ap leads h.4.0
  arrow_leads false reference ps type e p k at to h = rw (← h.4) at (ap leads h.5)

  pub tree_leads : (p : Bool) (t : Tree) (at to : ℕ) → Greedy ts p 0 t at to → leads (kind_at ts at) ≡ true
  tree_leads p (node t f) at to h = atom_leads f p 0 at to (atom_of_zero p f at to h.1) h.1

  pub post_leads : (f : Form) (p : Bool) (k at to : ℕ) → is_post f ≡ true → Forms ts (Near ts) p k f at to → prefix_of (kind_at ts at) ≡ None
  post_leads (New class es) p k at to a h = ap prefix_of h.2
  post_leads (Arrow static reference ps type e) p k at to a h = leads_none (kind_at ts at) (arrow_leads static reference ps type e p k at to h)
  post_leads (Post e ss) p k at to a h = leads_none (kind_at ts at) (tree_leads false e at h.0 h.3)
  post_leads (Prefix o e) p k at to a h = clash _ a
  post_leads (Assignment target o e) p k at to a h = clash _ a
  post_leads (Chain j e ss) p k at to a h = clash _ a
  post_leads (Binary d sign o e) p k at to a h = clash _ a
  post_leads (Conditional c d e) p k at to a h = clash _ a
  post_leads f p k at to a h = leads_none (kind_at ts at) (atom_leads f p k at to refl h)

  pub post_stops : (f : Form) (p : Bool) (k at to : ℕ) → is_post f ≡ true → Forms ts (Near ts) p k f at to → Near ts 5 k to
  post_stops (New class es) p k at to a h = h.5
  post_stops (Arrow static reference ps type e) p k at to a h = h.11
  post_stops (Post e ss) p k at to a h = λ le. h.5 (omega arith)
  post_stops (Prefix o e) p k at to a h = clash _ a
  post_stops (Assignment target o e) p k at to a h = clash _ a
  post_stops (Chain j e ss) p k at to a h = clash _ a
  post_stops (Binary d sign o e) p k at to a h = clash _ a
  post_stops (Conditional c d e) p k at to a h = clash _ a
  post_stops f p k at to a h = λ le. atom_stops f p k at to refl h (omega arith)
