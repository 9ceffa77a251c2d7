-- How expressions begin, and parts without expressions, of which there is one at a place.
use Rattle.std.proofs.Common.{◌≡◌, ◌≢◌, ℕ, ◌+◌, ◌-◌, ◌<◌, Bool, true, false, IsTrue, List, [], ◌∷◌, Option, Some, None, refl, sym, ap, ap₂, subst, ◌∙◌, arith, inl, inr, true≢false}
use Rattle.std.proofs.lemmas.Bool.{cases_lt}
use Rattle.stan_model_grammar.specs.declared.operators.ArrayStyle.TheVariants as styles
use Rattle.stan_model_grammar.specs.declared.operators.Leaf.{Leaf}
use Rattle.stan_model_grammar.specs.declared.operators.PrefixOperator.{PrefixOperator}
use Rattle.stan_model_grammar.specs.declared.operators.Visibility.{Visibility}
use Rattle.stan_model_grammar.specs.declared.token.Token.{Token}
use Rattle.stan_model_grammar.specs.declared.token.TokenKind.{TokenKind}
use Rattle.stan_model_grammar.specs.declared.token.TokenKind.TheVariants as kinds
use Rattle.stan_model_grammar.specs.Strata.{kind_at, leaf_of, prefix_of, binary_stratum, tighter, names_type, is_exit, visibility_of}
use Rattle.stan_model_grammar.specs.Trees.{TypeTree, Nullable, Union, Tree, node, Form, Single, Brackets, Array, IsSet, Empty, Exit, New, Match, Closure, Arrow, Text, Post, Prefix, Assignment, Chain, Binary, Conditional, Body, Held, Read}
use Rattle.stan_model_grammar.specs.Expressions.{IsMatched, Is, May, MayBeVisible, TypeName, Alternatives, Types, MayBeTyped, MayReturn, Reads, Forms, Bodies}
use Rattle.stan_expr_rules.proofs.InsideLemmas.{stands_kind}
use Rattle.stan_expr_rules.proofs.Greedy.{one_token}

-- two kinds that a table tells apart
pub clash : (f : TokenKind → Bool) (x y : TokenKind) → x ≡ y → f x ≡ true → f y ≡ false → ⊥
clash f x y e h i = true≢false (sym h ∙ ap f e ∙ i)

-- ---- the first token of an expression

abbrev opens : TokenKind → Bool
opens kinds.LeftParenthesis = true
opens kinds.LeftBracket = true
opens kinds.Array = true
opens kinds.List = true
opens kinds.IsSet = true
opens kinds.Empty = true
opens kinds.Exit = true
opens kinds.Die = true
opens kinds.New = true
opens kinds.Match = true
opens kinds.Function = true
opens kinds.Fn = true
opens kinds.Static = true
opens kinds.TextStart = true
opens _ = false

abbrev starts_by : Option Leaf → Option PrefixOperator → TokenKind → Bool
starts_by (Some l) o k = true
starts_by None (Some o) k = true
starts_by None None k = opens k

abbrev pub starts : TokenKind → Bool
starts k = starts_by (leaf_of k) (prefix_of k) k

starts_prefix : (x : Option Leaf) (o : PrefixOperator) (k : TokenKind) → starts_by x (Some o) k ≡ true
starts_prefix None o k = refl
starts_prefix (Some l) o k = refl

exit_starts : (k : TokenKind) → IsTrue (is_exit k) → starts k ≡ true
exit_starts kinds.Exit h = refl
exit_starts kinds.Die h = refl
exit_starts k h = absurd cc

-- what begins a type or goes on with one
abbrev pub typed : TokenKind → Bool
typed kinds.Question = true
typed kinds.Bar = true
typed kind = names_type kind

module _ (ts : List Token) where
  module _ (S : ℕ → ℕ → ℕ → Type 0) where
    mutual
      pub begins : (t : Tree) (p : Bool) (k at to : ℕ) → Reads ts S p k t at to → starts (kind_at ts at) ≡ true
      begins (node t f) p k at to h = form_begins f p k at to h.1

      form_begins : (f : Form) (p : Bool) (k at to : ℕ) → Forms ts S p k f at to → starts (kind_at ts at) ≡ true
      form_begins (Single leaf) p k at to h = ap (λ z. starts_by z (prefix_of (kind_at ts at)) (kind_at ts at)) h.0
      form_begins (Brackets e) p k at to h = ap starts h.0.1
      form_begins (Array styles.Brackets es) p k at to h = ap starts h.1.1
      form_begins (Array styles.Array es) p k at to h = ap starts h.1
      form_begins (Array styles.List es) p k at to h = ap starts h.1
      form_begins (IsSet es) p k at to h = ap starts h.1
      form_begins (Empty e) p k at to h = ap starts h.0
      form_begins (Exit es) p k at to h = exit_starts (kind_at ts at) h.0
      form_begins (New class es) p k at to h = ap starts h.2
      form_begins (Match e arms) p k at to h = ap starts h.1
      form_begins (Closure true b c d e f) p k at to h = ap starts h.5.0
      form_begins (Closure false b c d e f) p k at to h = let P : ℕ → Type 0 = λ y. Is ts y kinds.Function in ap starts (subst P (sym h.5) h.6)
      form_begins (Arrow true b c d e) p k at to h = ap starts h.4.0
      form_begins (Arrow false b c d e) p k at to h = let P : ℕ → Type 0 = λ y. Is ts y kinds.Fn in ap starts (subst P (sym h.4) h.5)
      form_begins (Text parts) p k at to h = ap starts h.0.1
      form_begins (Post e ss) p k at to h = begins e false 0 at h.0 h.3
      form_begins (Prefix o e) p k at to h = ap (λ z. starts_by (leaf_of (kind_at ts at)) z (kind_at ts at)) h.1 ∙ starts_prefix (leaf_of (kind_at ts at)) o (kind_at ts at)
      form_begins (Assignment target o e) p k at to h = begins target true 4 at h.0 h.4
      form_begins (Chain j e ss) p k at to h = begins e false (tighter j) at h.0 h.4
      form_begins (Binary d sign o e) p k at to h = begins d false (binary_stratum o - 1) at h.0 h.4
      form_begins (Conditional c d e) p k at to h = begins c false 21 at h.0 h.3

    -- a token that begins no expression
    pub no_start : (t : Tree) (p : Bool) (k at to : ℕ) (kind : TokenKind) → Reads ts S p k t at to → kind_at ts at ≡ kind → starts kind ≡ false → ⊥
    no_start t p k at to kind h e f = clash starts (kind_at ts at) kind e (begins t p k at to h) f

    -- what is no pattern may stand where one may
    pub raise : (p q : Bool) (k : ℕ) (t : Tree) (at to : ℕ) → (p ≡ true → q ≡ true) → Reads ts S p k t at to → Reads ts S q k t at to
    raise p q k (node t f) at to imp h = (h.0, raise_form f h.1)
      where
        raise_form : (f : Form) → Forms ts S p k f at to → Forms ts S q k f at to
        raise_form (Array styles.Brackets es) h = (λ e. imp (h.0 e), h.1, h.2)
        raise_form (Array styles.Array es) h = (λ e. imp (h.0 e), h.1, h.2, h.3)
        raise_form (Array styles.List es) h = (imp h.0, h.1, h.2, h.3)
        raise_form f h = h

    pub raised : (p : Bool) (k : ℕ) (t : Tree) (at to : ℕ) → Reads ts S false k t at to → Reads ts S p k t at to
    raised p k t at to h = raise false p k t at to (λ e. absurd (true≢false (sym e))) h

    pub raised_true : (p : Bool) (k : ℕ) (t : Tree) (at to : ℕ) → Reads ts S p k t at to → Reads ts S true k t at to
    raised_true p k t at to h = raise p true k t at to (λ e. refl) h

  -- ---- parts without expressions

  pub may_same : (s r : Bool) (kind : TokenKind) (at b c : ℕ) → May ts s kind at b → May ts r kind at c → kind_at ts b ≢ kind → kind_at ts c ≢ kind → (s ≡ r) × (b ≡ c)
  may_same true true kind at b c h i no_more none = (refl, omega (arith, h.1, i.1))
  may_same false false kind at b c h i no_more none = (refl, omega (arith, h, i))
  may_same true false kind at b c h i no_more none = let P : ℕ → Type 0 = λ y. kind_at ts y ≡ kind in absurd (none (subst P i h.0))
  may_same false true kind at b c h i no_more none = let P : ℕ → Type 0 = λ y. kind_at ts y ≡ kind in absurd (no_more (subst P h i.0))

  pub visibility_same : (v w : Option Visibility) (at b c : ℕ) → MayBeVisible ts v at b → MayBeVisible ts w at c → visibility_of (kind_at ts b) ≡ None → visibility_of (kind_at ts c) ≡ None → (v ≡ w) × (b ≡ c)
  visibility_same None None at b c h i f g = (refl, omega (arith, h, i))
  visibility_same (Some v) (Some w) at b c h i f g = (sym h.0 ∙ i.0, omega (arith, h.1, i.1))
  visibility_same (Some v) None at b c h i f g = let P : ℕ → Type 0 = λ y. visibility_of (kind_at ts y) ≡ Some v in let e = subst P i h.0 in absurd (cc (e, g))
  visibility_same None (Some w) at b c h i f g = let P : ℕ → Type 0 = λ y. visibility_of (kind_at ts y) ≡ Some w in let e = subst P h i.0 in absurd (cc (e, f))

  pub type_name_same : (t u : Token) (at b c : ℕ) → TypeName ts t at b → TypeName ts u at c → (t ≡ u) × (b ≡ c)
  type_name_same t u at b c h i = (one_token ts at t u h.0 i.0, omega (arith, h.2, i.2))

  pub alternatives_same : (xs ys : List Token) (at b c : ℕ) → Alternatives ts xs at b → Alternatives ts ys at c → kind_at ts b ≢ kinds.Bar → kind_at ts c ≢ kinds.Bar → (xs ≡ ys) × (b ≡ c)
  alternatives_same [] [] at b c h i f g = (refl, omega (arith, h, i))
  alternatives_same [] (y ∷ ys) at b c h i f g = let P : ℕ → Type 0 = λ z. kind_at ts z ≡ kinds.Bar in absurd (f (subst P h i.1))
  alternatives_same (x ∷ xs) [] at b c h i f g = let P : ℕ → Type 0 = λ z. kind_at ts z ≡ kinds.Bar in absurd (g (subst P i h.1))
  alternatives_same (x ∷ xs) (y ∷ ys) at b c h i f g =
      let e = type_name_same x y (at + 1) h.0 i.0 h.2 i.2 in
      let P : ℕ → Type 0 = λ z. Alternatives ts ys z c in
      let r = alternatives_same xs ys h.0 b c h.3 (subst P (sym e.1) i.3) f g in
      (ap₂ (λ z zs. z ∷ zs) e.0 r.0, r.1)

  not_bar : (at : ℕ) → typed (kind_at ts at) ≡ false → kind_at ts at ≢ kinds.Bar
  not_bar at h e = true≢false (sym (ap typed e) ∙ h)

  names_typed : (k : TokenKind) → IsTrue (names_type k) → typed k ≡ true
  names_typed kinds.Question h = refl
  names_typed kinds.Bar h = refl
  names_typed k h = h

  pub type_begins : (type : TypeTree) (at b : ℕ) → Types ts type at b → typed (kind_at ts at) ≡ true
  type_begins (Nullable first t) at b h = ap typed h.1
  type_begins (Union t more) at b h = ap typed (stands_kind ts at t h.1.0) ∙ names_typed t.kind h.1.1

  pub types_same : (s t : TypeTree) (at b c : ℕ) → Types ts s at b → Types ts t at c → kind_at ts b ≢ kinds.Bar → kind_at ts c ≢ kinds.Bar → (s ≡ t) × (b ≡ c)
  types_same (Nullable s t) (Nullable u v) at b c h i f g = let e = type_name_same t v (at + 1) b c h.2 i.2 in (ap₂ Nullable (one_token ts at s u h.0 i.0) e.0, e.1)
  types_same (Union t xs) (Union u ys) at b c h i f g =
      let e = type_name_same t u at h.0 i.0 h.1 i.1 in
      let P : ℕ → Type 0 = λ z. Alternatives ts ys z c in
      let r = alternatives_same xs ys h.0 b c h.2 (subst P (sym e.1) i.2) f g in
      (ap₂ Union e.0 r.0, r.1)
  types_same (Nullable s t) (Union u ys) at b c h i f g = absurd (clash names_type u.kind kinds.Question (sym (stands_kind ts at u i.1.0) ∙ h.1) i.1.1 refl)
  types_same (Union u ys) (Nullable s t) at b c h i f g = absurd (clash names_type u.kind kinds.Question (sym (stands_kind ts at u h.1.0) ∙ i.1) h.1.1 refl)

  pub may_type_same : (s t : Option TypeTree) (at b c : ℕ) → MayBeTyped ts s at b → MayBeTyped ts t at c → typed (kind_at ts b) ≡ false → typed (kind_at ts c) ≡ false → (s ≡ t) × (b ≡ c)
  may_type_same None None at b c h i f g = (refl, omega (arith, h, i))
  may_type_same (Some s) (Some t) at b c h i f g = let e = types_same s t at b c h i (not_bar b f) (not_bar c g) in (ap (λ z. Some z) e.0, e.1)
  may_type_same None (Some t) at b c h i f g = let P : ℕ → Type 0 = λ z. typed (kind_at ts z) ≡ true in absurd (true≢false (sym (subst P h (type_begins t at c i)) ∙ f))
  may_type_same (Some s) None at b c h i f g = let P : ℕ → Type 0 = λ z. typed (kind_at ts z) ≡ true in absurd (true≢false (sym (subst P i (type_begins s at b h)) ∙ g))

  pub return_same : (s t : Option TypeTree) (at b c : ℕ) → MayReturn ts s at b → MayReturn ts t at c → kind_at ts b ≢ kinds.Bar → kind_at ts c ≢ kinds.Bar → kind_at ts b ≢ kinds.Colon → kind_at ts c ≢ kinds.Colon → (s ≡ t) × (b ≡ c)
  return_same None None at b c h i f g d e = (refl, omega (arith, h, i))
  return_same (Some s) (Some t) at b c h i f g d e = let r = types_same s t (at + 1) b c h.1 i.1 f g in (ap (λ z. Some z) r.0, r.1)
  return_same None (Some t) at b c h i f g d e = let P : ℕ → Type 0 = λ z. kind_at ts z ≡ kinds.Colon in absurd (d (subst P h i.0))
  return_same (Some s) None at b c h i f g d e = let P : ℕ → Type 0 = λ z. kind_at ts z ≡ kinds.Colon in absurd (e (subst P i h.0))

  matched_not : (first a b : ℕ) → IsMatched ts first a → IsMatched ts first b → a < b → ⊥
  matched_not first a b h i lt = let x = i.inside (a + 1) (let up = h.rises in omega (arith, up)) (omega arith) in let y = h.closed in omega (arith, x, y)

  matched_same : (first a b : ℕ) → IsMatched ts first a → IsMatched ts first b → a ≡ b
  matched_same first a b h i = elim (cases_lt a b) [
    | inl lt ↦ absurd (matched_not first a b h i lt)
    | inr ge ↦ elim (cases_lt b a) [ inl lt ↦ absurd (matched_not first b a i h lt) | inr le ↦ omega (arith, ge, le) ]
  ]

  pub body_same : (S R : ℕ → ℕ → ℕ → Type 0) (x y : Body) (at b c : ℕ) → Bodies ts S x at b → Bodies ts R y at c → (x ≡ y) × (b ≡ c)
  body_same S R (Held m a) (Held n d) at b c h i =
      let e : m ≡ n = omega (arith, h.1, i.1) in
      let P : ℕ → Type 0 = λ z. IsMatched ts z d in
      let f = matched_same m a d h.2 (subst P (sym e) i.2) in
      (ap₂ Held e f, omega (arith, f, h.4, i.4))
  body_same S R (Read x) y at b c h i = absurd h
  body_same S R (Held m a) (Read y) at b c h i = absurd i
