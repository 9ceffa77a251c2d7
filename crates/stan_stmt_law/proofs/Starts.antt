-- With which three tokens an expression begins.
use Rattle.std.proofs.Common.{◌≡◌, ℕ, ◌+◌, ◌-◌, Bool, true, false, None, Some, Option, List, refl, sym, subst, ◌∙◌, inl, inr, arith, true≢false}
use Rattle.std.specs.Prelude.{IsTrue}
use Rattle.stan_model_grammar.specs.declared.operators.ArrayStyle.TheVariants as styles
use Rattle.stan_model_grammar.specs.declared.operators.AssignmentOperator.{AssignmentOperator}
use Rattle.stan_model_grammar.specs.declared.operators.BinaryOperator.{BinaryOperator}
use Rattle.stan_model_grammar.specs.declared.operators.Leaf.{Leaf}
use Rattle.stan_model_grammar.specs.declared.operators.PrefixOperator.{PrefixOperator}
use Rattle.stan_model_grammar.specs.declared.token.Token.{Token}
use Rattle.stan_model_grammar.specs.declared.token.TokenKind.{TokenKind}
use Rattle.stan_model_grammar.specs.declared.token.TokenKind.TheVariants as k
use Rattle.stan_model_grammar.specs.Strata.{kind_at, leaf_of, prefix_of, binary_at, binary_stratum, assignment_at, tighter, is_exit, is_end}
use Rattle.stan_model_grammar.specs.Trees.{Tree, node, Form, Single, Brackets, Array, IsSet, Empty, Exit, New, Match, Closure, Arrow, Text, Post, Prefix, Assignment, Chain, Binary, Conditional, Steps, no_step, step, Push, Index, Property, Scoped, Call, Increment, Decrement, Operation, Part, Inserted, Further}
use Rattle.stan_model_grammar.specs.Expressions.{Is, May, IsSomeStep, suffix, operation, arrow, Reads, Forms, Repeats}
use Rattle.stan_model_statements.specs.Kinds.{same_kind, has}
use Rattle.stan_stmt_rules.specs.Ahead.{other_kinds, starts}
use Rattle.stan_stmt_law.proofs.Checks.{or_left}
use Rattle.stan_stmt_law.proofs.Words.{truth}

-- such a token begins an expression, whatever stands behind it
other_starts : (a b c : TokenKind) → has other_kinds a ≡ true → starts a b c ≡ true
other_starts a b c h = or_left (has other_kinds a) _ h

-- `static`, where no variable stands behind it
static_starts : (b c : TokenKind) → same_kind b k.Variable ≡ false → starts k.Static b c ≡ true
unfolding same_kind
static_starts b c n = rw n refl

abbrev no_static : TokenKind → Bool
no_static k.Static = false
no_static _ = true

none_is : {A : Type 0} (x : A) → (let o : Option A = None in o ≡ Some x) → ⊥
none_is x h = cc

leaf_others : (a : TokenKind) (leaf : Leaf) → leaf_of a ≡ Some leaf → no_static a ≡ true → has other_kinds a ≡ true
unfolding same_kind
leaf_others k.Integer leaf h n = refl
leaf_others k.Float leaf h n = refl
leaf_others k.SingleQuoted leaf h n = refl
leaf_others k.DoubleQuoted leaf h n = refl
leaf_others k.Heredoc leaf h n = refl
leaf_others k.Nowdoc leaf h n = refl
leaf_others k.Variable leaf h n = refl
leaf_others k.Identifier leaf h n = refl
leaf_others k.QualifiedName leaf h n = refl
leaf_others k.FullyQualifiedName leaf h n = refl
leaf_others k.RelativeName leaf h n = refl
leaf_others k.Static leaf h n = absurd (true≢false (sym n))
leaf_others a leaf h n = absurd (none_is leaf h)

static_is : (a : TokenKind) → no_static a ≡ false → a ≡ k.Static
static_is k.Static h = refl
static_is a h = absurd (true≢false h)

leaf_starts : (a b c : TokenKind) (leaf : Leaf) → leaf_of a ≡ Some leaf → same_kind b k.Variable ≡ false → starts a b c ≡ true
leaf_starts a b c leaf h n = elim (truth (no_static a)) [
  | inl other ↦ other_starts a b c (leaf_others a leaf h other)
  | inr static ↦ subst (λ z. starts z b c ≡ true) (sym (static_is a static)) (static_starts b c n)
]

prefix_others : (a : TokenKind) (o : PrefixOperator) → prefix_of a ≡ Some o → has other_kinds a ≡ true
unfolding same_kind
prefix_others k.Clone o h = refl
prefix_others k.Increment o h = refl
prefix_others k.Decrement o h = refl
prefix_others k.Plus o h = refl
prefix_others k.Minus o h = refl
prefix_others k.Tilde o h = refl
prefix_others k.AtSign o h = refl
prefix_others k.IntCast o h = refl
prefix_others k.BoolCast o h = refl
prefix_others k.FloatCast o h = refl
prefix_others k.StringCast o h = refl
prefix_others k.ArrayCast o h = refl
prefix_others k.ObjectCast o h = refl
prefix_others k.Exclamation o h = refl
prefix_others k.Print o h = refl
prefix_others k.Include o h = refl
prefix_others k.IncludeOnce o h = refl
prefix_others k.Require o h = refl
prefix_others k.RequireOnce o h = refl
prefix_others k.Throw o h = refl
prefix_others a o h = absurd (none_is o h)

exit_others : (a : TokenKind) → IsTrue (is_exit a) → has other_kinds a ≡ true
unfolding same_kind
exit_others k.Exit h = refl
exit_others k.Die h = refl
exit_others _ h = absurd cc

-- ---- no variable stands behind an operand

abbrev goes_on_unassigned : TokenKind → Bool
goes_on_unassigned k.Variable = false
goes_on_unassigned _ = true

unassigned : (a : TokenKind) → goes_on_unassigned a ≡ true → same_kind a k.Variable ≡ false
unfolding same_kind
unassigned k.Variable h = absurd cc
unassigned a h = refl

pub end_unassigned : (a : TokenKind) → IsTrue (is_end a) → same_kind a k.Variable ≡ false
unfolding same_kind
end_unassigned k.Variable h = absurd cc
end_unassigned a h = refl

operator_unassigned : (a b : TokenKind) (o : BinaryOperator) → binary_at a b ≡ Some o → same_kind a k.Variable ≡ false
unfolding same_kind
operator_unassigned k.Variable b o h = absurd cc
operator_unassigned a b o h = refl

assignment_unassigned : (a b : TokenKind) (o : AssignmentOperator) → assignment_at a b ≡ Some o → same_kind a k.Variable ≡ false
unfolding same_kind
assignment_unassigned k.Variable b o h = absurd cc
assignment_unassigned a b o h = refl

arrow_unassigned : (nullsafe : Bool) → same_kind (arrow nullsafe) k.Variable ≡ false
unfolding same_kind
arrow_unassigned true = refl
arrow_unassigned false = refl

module _ (ts : List Token) (Stops : ℕ → ℕ → ℕ → Type 0) where
  abbrev Unassigned : ℕ → Type 0
  Unassigned at = same_kind (kind_at ts at) k.Variable ≡ false

  is_unassigned : (at : ℕ) (kind : TokenKind) → same_kind kind k.Variable ≡ false → Is ts at kind → Unassigned at
  is_unassigned at kind n is = subst (λ z. same_kind z k.Variable ≡ false) (sym is) n

  -- what is appended, and an operator of a chain
  suffix_unassigned : (ss : Steps) (at to : ℕ) → IsSomeStep ss → Repeats ts Stops suffix ss at to → Unassigned at
  unfolding same_kind
  suffix_unassigned (step Push xs) at to s h = is_unassigned at k.LeftBracket refl h.1.1
  suffix_unassigned (step (Index e) xs) at to s h = is_unassigned at k.LeftBracket refl h.1.1.1
  suffix_unassigned (step (Property nullsafe name es) xs) at to s h = is_unassigned at (arrow nullsafe) (arrow_unassigned nullsafe) h.1.2
  suffix_unassigned (step (Scoped t es) xs) at to s h = is_unassigned at k.DoubleColon refl h.1.1
  suffix_unassigned (step (Call es) xs) at to s h = is_unassigned at k.LeftParenthesis refl h.1.1.1
  suffix_unassigned (step Increment xs) at to s h = is_unassigned at k.Increment refl h.1.1
  suffix_unassigned (step Decrement xs) at to s h = is_unassigned at k.Decrement refl h.1.1
  suffix_unassigned (step (Operation t o e) xs) at to s h = absurd h.1.1
  suffix_unassigned (step (Part t) xs) at to s h = absurd h.1.0
  suffix_unassigned (step (Inserted e) xs) at to s h = absurd h.1.0
  suffix_unassigned (step (Further x) xs) at to s h = absurd h.1
  suffix_unassigned no_step at to s h = absurd s

  operation_unassigned : (ss : Steps) (j at to : ℕ) → IsSomeStep ss → Repeats ts Stops (operation j) ss at to → Unassigned at
  operation_unassigned (step (Operation t o e) xs) j at to s h = operator_unassigned (kind_at ts at) (kind_at ts (at + 1)) o h.1.2.0
  operation_unassigned (step Push xs) j at to s h = absurd h.1.0
  operation_unassigned (step (Index e) xs) j at to s h = absurd h.1.0
  operation_unassigned (step (Property nullsafe name es) xs) j at to s h = absurd h.1.1
  operation_unassigned (step (Scoped t es) xs) j at to s h = absurd (scoped_none h.1.0)
    where
      scoped_none : IsTrue false → ⊥
      scoped_none e = cc
  operation_unassigned (step (Call es) xs) j at to s h = absurd h.1.0
  operation_unassigned (step Increment xs) j at to s h = absurd h.1.0
  operation_unassigned (step Decrement xs) j at to s h = absurd h.1.0
  operation_unassigned (step (Part t) xs) j at to s h = absurd h.1.0
  operation_unassigned (step (Inserted e) xs) j at to s h = absurd h.1.0
  operation_unassigned (step (Further x) xs) j at to s h = absurd h.1
  operation_unassigned no_step j at to s h = absurd s

  abbrev Starts : ℕ → Type 0
  Starts at = starts (kind_at ts at) (kind_at ts (at + 1)) (kind_at ts (at + 2)) ≡ true

  starts_with : (at : ℕ) (kind : TokenKind) → has other_kinds kind ≡ true → Is ts at kind → Starts at
  starts_with at kind other is = other_starts (kind_at ts at) (kind_at ts (at + 1)) (kind_at ts (at + 2)) (subst (λ z. has other_kinds z ≡ true) (sym is) other)

  static_there : (at : ℕ) (kind : TokenKind) → same_kind kind k.Variable ≡ false → Is ts at k.Static → Is ts (at + 1) kind → Starts at
  static_there at kind n is next = subst (λ z. starts z (kind_at ts (at + 1)) (kind_at ts (at + 2)) ≡ true) (sym is) (static_starts (kind_at ts (at + 1)) (kind_at ts (at + 2)) (is_unassigned (at + 1) kind n next))

  -- `function`, with `(` or `&` and `(` behind it
  function_starts : (at b : ℕ) (reference : Bool) → Is ts at k.Function → May ts reference k.Ampersand (at + 1) b → Is ts b k.LeftParenthesis → Starts at
  unfolding same_kind
  function_starts at b true is h opening =
      let third : kind_at ts (at + 2) ≡ k.LeftParenthesis = subst (λ z. kind_at ts z ≡ k.LeftParenthesis) (h.1 ∙ plus_two at) opening in
      rw (is, h.0, third) refl
    where
      plus_two : (n : ℕ) → n + 1 + 1 ≡ n + 2
      plus_two n = omega arith
  function_starts at b false is h opening = let second : kind_at ts (at + 1) ≡ k.LeftParenthesis = subst (λ z. kind_at ts z ≡ k.LeftParenthesis) (sym h) opening in rw (is, second) refl

  mutual
    unfolding same_kind

    pub tree_starts : (t : Tree) (p : Bool) (j at to : ℕ) → Reads ts Stops p j t at to → Unassigned to → Starts at
    tree_starts (node t f) p j at to h n = form_starts f p j at to h.1 n

    form_starts : (f : Form) (p : Bool) (j at to : ℕ) → Forms ts Stops p j f at to → Unassigned to → Starts at
    form_starts (Single leaf) p j at to h n = leaf_starts (kind_at ts at) (kind_at ts (at + 1)) (kind_at ts (at + 2)) leaf h.0 (subst (λ z. Unassigned z) h.1 n)
    form_starts (Brackets e) p j at to h n = starts_with at k.LeftParenthesis refl h.0.1
    form_starts (Array styles.Brackets es) p j at to h n = starts_with at k.LeftBracket refl h.1.1
    form_starts (Array styles.Array es) p j at to h n = starts_with at k.Array refl h.1
    form_starts (Array styles.List es) p j at to h n = starts_with at k.List refl h.1
    form_starts (IsSet es) p j at to h n = starts_with at k.IsSet refl h.1
    form_starts (Empty e) p j at to h n = starts_with at k.Empty refl h.0
    form_starts (Exit es) p j at to h n = other_starts (kind_at ts at) (kind_at ts (at + 1)) (kind_at ts (at + 2)) (exit_others (kind_at ts at) h.0)
    form_starts (New class es) p j at to h n = starts_with at k.New refl h.2
    form_starts (Match e arms) p j at to h n = starts_with at k.Match refl h.1
    form_starts (Closure true reference parameters captures type body) p j at to h n =
        static_there at k.Function refl h.5.0 (subst (λ z. kind_at ts z ≡ k.Function) h.5.1 h.6)
    form_starts (Closure false reference parameters captures type body) p j at to h n = subst (λ z. Starts z) (sym h.5) (function_starts h.0 h.1 reference h.6 h.7 h.8.1)
    form_starts (Arrow true reference parameters type e) p j at to h n = static_there at k.Fn refl h.4.0 (subst (λ z. kind_at ts z ≡ k.Fn) h.4.1 h.5)
    form_starts (Arrow false reference parameters type e) p j at to h n = subst (λ z. Starts z) (sym h.4) (starts_with h.0 k.Fn refl h.5)
    form_starts (Text parts) p j at to h n = starts_with at k.TextStart refl h.0.1
    form_starts (Post e ss) p j at to h n = tree_starts e false 0 at h.0 h.3 (suffix_unassigned ss h.0 to h.2 h.4)
    form_starts (Prefix o e) p j at to h n = other_starts (kind_at ts at) (kind_at ts (at + 1)) (kind_at ts (at + 2)) (prefix_others (kind_at ts at) o h.1)
    form_starts (Assignment target o e) p j at to h n = tree_starts target true 4 at h.0 h.4 (assignment_unassigned (kind_at ts h.0) (kind_at ts (h.0 + 1)) o h.5.0)
    form_starts (Chain i e ss) p j at to h n = tree_starts e false (tighter i) at h.0 h.4 (operation_unassigned ss i h.0 to h.3 h.5)
    form_starts (Binary d sign o e) p j at to h n = tree_starts d false (binary_stratum o - 1) at h.0 h.4 (operator_unassigned (kind_at ts h.0) (kind_at ts (h.0 + 1)) o h.5.0)
    form_starts (Conditional c d e) p j at to h n = tree_starts c false 21 at h.0 h.3 (is_unassigned h.0 k.Question refl h.4)
