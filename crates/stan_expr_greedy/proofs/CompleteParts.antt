-- Types, visibilities and bodies are read as they stand.
use Rattle.std.proofs.Common.{◌≡◌, ℕ, zero, suc, ◌+◌, ◌-◌, ◌≤◌, ◌<◌, true, false, List, [], ◌∷◌, length, take, drop, get_or, Option, Some, None, refl, sym, ◌∙◌, arith, inl, inr, length-drop}
use Rattle.std.specs.Prelude.{slice_get, IsTrue}
use Rattle.std.proofs.lemmas.Bool.{ne_eqb, cases_lt}
use Rattle.std.proofs.lemmas.Option.{slice_get_within, get_or_from_slice_get}
use Rattle.std.proofs.lemmas.List.Sums.{fold-append}
use Rattle.std.proofs.lemmas.List.{get_or-drop}
use Rattle.std.proofs.Math.Seq.{take-suc}
use Rattle.stan_model_grammar.specs.declared.operators.Visibility.{Visibility}
use Rattle.stan_model_grammar.specs.declared.token.Token.{Token}
use Rattle.stan_model_grammar.specs.declared.token.TokenKind.TheVariants as kinds
use Rattle.stan_model_grammar.specs.Strata.{kind_at, names_type}
use Rattle.stan_model_grammar.specs.Trees.{TypeTree, Nullable, Union, Body, Held, Read}
use Rattle.stan_model_grammar.specs.Expressions.{Is, Stands, MayBeVisible, TypeName, Alternatives, Types, MayBeTyped, MayReturn, Bodies, IsMatched, braces_open, braces_behind}
use Rattle.stan_expr_rules.proofs.InsideLemmas.{type_inside, is_inside, stands_kind}
use Rattle.stan_expr_rules.specs.Places.{same_kind}
use Rattle.stan_expr_rules.specs.Parse.{Turn, all, type_name, alternative, alternatives, union, nullable, type_tree, some_type, may_type, may_return, closing_within, closing, body, visibility}
use Rattle.stan_expr_greedy.proofs.Reading.{after_at, after_not, after_to, same_at, same_not}
use Rattle.stan_expr_greedy.proofs.Computes.{apart, Turns, many_reads}
use Rattle.stan_expr_greedy.proofs.Begins.{behind_type, behind_visibility, no_visibility, no_type, type_is_begun}

pub get_some : {A : Type 0} (xs : List A) (k : ℕ) → k < length xs → (x : A) × (slice_get xs k ≡ Some x)
get_some [] k h = absurd (omega arith)
get_some (x ∷ xs) zero h = (x, refl)
get_some (x ∷ xs) (suc k) h = get_some xs k (omega arith)

module _ (ts : List Token) where
  pub all_reads : {A : Type 0} (turn : ℕ → Turn A) (xs : List A) (at to : ℕ) → to ≤ length ts → Turns turn xs at to → all ts turn at ≡ Some (xs, to)
  unfolding all
  all_reads turn xs at to inside h = many_reads turn xs (length ts + 1) [] at to (omega arith) h

  -- ---- types

  type_name_reads : (t : Token) (at to : ℕ) → TypeName ts t at to → type_name ts at ≡ Some (t, to)
  unfolding type_name
  type_name_reads t at to h = rw (h.0, h.1, h.2) refl

  alternative_reads : (t : Token) (at to : ℕ) → Is ts at kinds.Bar → TypeName ts t (at + 1) to → alternative ts at ≡ Some (Some (t, to))
  unfolding alternative
  alternative_reads t at to k h = rw (after_at ts kinds.Bar at (λ e. cc) k, type_name_reads t (at + 1) to h) refl

  alternative_none : (at : ℕ) → (kind_at ts at ≡ kinds.Bar → ⊥) → alternative ts at ≡ Some None
  unfolding alternative
  alternative_none at h = rw (after_not ts kinds.Bar at h) refl

  alternatives_turn : (more : List Token) (at to : ℕ) → Alternatives ts more at to → (kind_at ts to ≡ kinds.Bar → ⊥) → Turns (alternative ts) more at to
  alternatives_turn [] at to h other = (h, alternative_none to other)
  alternatives_turn (t ∷ more) at to h other = (h.0, omega (arith, h.2.2), alternative_reads t at h.0 h.1 h.2, alternatives_turn more h.0 to h.3 other)

  name_is_no_question : (t : Token) → IsTrue (names_type t.kind) → same_kind t.kind kinds.Question ≡ false
  name_is_no_question t h = same_not t.kind kinds.Question (apart names_type t.kind kinds.Question h refl)

  pub type_reads : (tree : TypeTree) (at to : ℕ) → Types ts tree at to → (kind_at ts to ≡ kinds.Bar → ⊥) → type_tree ts at ≡ Some (tree, to)
  unfolding type_tree nullable union alternatives
  type_reads (Nullable first t) at to h other =
      rw (h.0, same_at first.kind kinds.Question (sym (stands_kind ts at first h.0) ∙ h.1), type_name_reads t (at + 1) to h.2) refl
  type_reads (Union t more) at to h other =
      let i = type_inside ts (Union t more) at to h in
      rw (h.1.0, name_is_no_question t h.1.1, type_name_reads t at h.0 h.1, all_reads (alternative ts) more h.0 to i.1 (alternatives_turn more h.0 to h.2 other)) refl

  some_type_reads : (tree : TypeTree) (at to : ℕ) → Types ts tree at to → (kind_at ts to ≡ kinds.Bar → ⊥) → some_type ts at ≡ Some (Some tree, to)
  unfolding some_type
  some_type_reads tree at to h other = rw (type_reads tree at to h other) refl

  behind_no_bar : (at : ℕ) → behind_type (kind_at ts at) ≡ true → kind_at ts at ≡ kinds.Bar → ⊥
  behind_no_bar at h e = apart behind_type (kind_at ts at) kinds.Bar h refl e

  pub may_type_reads : (tree : Option TypeTree) (at to : ℕ) → MayBeTyped ts tree at to → behind_type (kind_at ts to) ≡ true → may_type ts at ≡ Some (tree, to)
  unfolding may_type
  may_type_reads (Some tree) at to h behind = rw (type_is_begun ts (λ low k to. Unit {0}) tree at to h, some_type_reads tree at to h (behind_no_bar to behind)) refl
  may_type_reads None at to h behind = rw (h, no_type ts (kind_at ts to) behind) refl

  pub may_return_reads : (tree : Option TypeTree) (at to : ℕ) → MayReturn ts tree at to → (kind_at ts to ≡ kinds.Colon → ⊥) → (kind_at ts to ≡ kinds.Bar → ⊥) → may_return ts at ≡ Some (tree, to)
  unfolding may_return
  may_return_reads (Some tree) at to h colon bar = rw (after_at ts kinds.Colon at (λ e. cc) h.0, some_type_reads tree (at + 1) to h.1 bar) refl
  may_return_reads None at to h colon bar = rw (h, after_not ts kinds.Colon to colon) refl

  pub visibility_reads : (v : Option Visibility) (at to : ℕ) → MayBeVisible ts v at to → behind_visibility ts (kind_at ts to) ≡ true → visibility ts at ≡ (v, to)
  unfolding visibility
  visibility_reads (Some v) at to h behind = rw (h.0, h.1) refl
  visibility_reads None at to h behind = rw (h, no_visibility ts (kind_at ts to) behind) refl

  -- ---- bodies

  braces_step : (t : Token) (from at : ℕ) → from ≤ at → Stands ts at t → braces_open ts from (at + 1) ≡ braces_behind (braces_open ts from at) t
  braces_step t from at le h =
      let lt : at < length ts = slice_get_within ts at t h in
      let more : at + 1 - from ≡ suc (at - from) = omega arith in
      let there : from + (at - from) ≡ at = omega arith in
      let inside : at - from < length (drop from ts) = rw (length-drop from ts) (omega arith) in
      let is : get_or (drop from ts) (at - from) t ≡ t = rw (get_or-drop from ts (at - from) t, there) (get_or_from_slice_get ts at t t h) in
      rw (more, take-suc (drop from ts) (at - from) t inside, is) (fold-append braces_behind 1 (take (at - from) (drop from ts)) (t ∷ []))

  closing_within_reads : (n from at last : ℕ) → from ≤ at → at ≤ last → last < n + at → last < length ts → IsMatched ts from last → closing_within ts n (braces_open ts from at) at ≡ Some last
  closing_within_reads zero from at last lo hi fuel inside m = absurd (omega arith)
  closing_within_reads (suc n) from at last lo hi fuel inside m =
      let s = get_some ts at (omega arith) in
      let e = braces_step s.0 from at lo s.1 in
      elim (cases_lt at last) [
        | inl lt ↦
            let open_still : 0 < braces_open ts from (at + 1) = m.inside (at + 1) (omega arith) (omega arith) in
            let rest = closing_within_reads n from (at + 1) last (omega arith) (omega arith) (omega arith) inside m in
            rw (s.1, ← e, ne_eqb (braces_open ts from (at + 1)) 0 (λ z. omega arith)) rest
        | inr ge ↦
            let same : at ≡ last = omega arith in
            let closed : braces_open ts from (at + 1) ≡ 0 = rw same m.closed in
            rw (s.1, ← e, closed, same) refl
      ]

  pub closing_reads : (from last : ℕ) → last < length ts → IsMatched ts from last → closing ts from ≡ Some last
  unfolding closing
  closing_reads from last inside m =
      let none : from - from ≡ 0 = omega arith in
      let r = closing_within_reads (length ts + 1) from from last (omega arith) m.rises (omega (arith, m.rises)) inside m in
      rw none at r

  pub body_reads : (Stops : ℕ → ℕ → ℕ → Type 0) (held : Body) (at to : ℕ) → Bodies ts Stops held at to → body ts at ≡ Some (held, to)
  unfolding body
  body_reads Stops (Held first last) at to h =
      let inside = is_inside ts last kinds.RightBrace (λ e. cc) h.3 in
      rw (after_to ts kinds.LeftBrace at first (λ e. cc) h.0 h.1, closing_reads first last inside h.2, after_to ts kinds.RightBrace last to (λ e. cc) h.3 h.4) refl
  body_reads Stops (Read statements) at to h = absurd h
