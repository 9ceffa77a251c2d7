-- What the parser reads of types, words and bodies, which hold no expressions.
use Rattle.std.proofs.Common.{◌≡◌, ℕ, zero, suc, ◌+◌, ◌-◌, ◌≤◌, ◌<◌, ◌==◌, List, [], ◌∷◌, length, get_or, take, drop, fold, Option, Some, None, slice_get, refl, sym, ap, subst, ◌∙◌, arith, inl, inr, true≢false, get_or-drop, length-drop}
use Rattle.std.proofs.lemmas.Bool.Decides.{eqb_tells}
use Rattle.std.proofs.lemmas.List.Sums.{fold_more}
use Rattle.std.proofs.lemmas.Option.{get_or_from_slice_get, slice_get_within}
use Rattle.stan_model_grammar.specs.declared.operators.Visibility.{Visibility}
use Rattle.stan_model_grammar.specs.declared.token.Token.{Token}
use Rattle.stan_model_grammar.specs.declared.token.TokenKind.TheVariants as kinds
use Rattle.stan_model_grammar.specs.Strata.{kind_at, names_type, visibility_of}
use Rattle.stan_model_grammar.specs.Trees.{TypeTree, Nullable, Union, Body, Held}
use Rattle.stan_model_grammar.specs.Expressions.{Is, TypeName, Alternatives, Types, MayBeTyped, MayReturn, MayBeVisible, Bodies, IsMatched, braces_behind, braces_open}
use Rattle.stan_expr_rules.specs.Places.{same_kind, after}
use Rattle.stan_expr_rules.specs.Parse.{all, type_name, alternative, alternatives, union, nullable, type_by, type_tree, some_type, may_type, begins_type, may_return, closing_within, closing, body, visibility_by, visibility}
use Rattle.stan_expr_rules.proofs.Greedy.{Near}
use Rattle.stan_expr_rules.proofs.InsideLemmas.{stands_kind}
use Rattle.stan_expr_greedy.proofs.Reading.{bind_ok, gives, made_of, taken_is, none_is_not, choose_is, if_is, guard_ok, same_is, after_is, Seq, many_sound}
use Rattle.stan_expr_rules.proofs.Choices.{nothing_is, some_is}

module _ (ts : List Token) where
  -- ---- types

  pub type_name_sound : (at : ℕ) (x : Token × ℕ) → type_name ts at ≡ Some x → TypeName ts x.0 at x.1
  unfolding type_name
  type_name_sound at x h =
      let t = bind_ok (slice_get ts at) _ x h in
      let g = guard_ok (names_type t.0.kind) (Some (t.0, at + 1)) x t.2 in
      gives (λ u to. TypeName ts u at to) (t.0, at + 1) x g.1 (t.1, g.0, refl)

  abbrev IsAlternative : Token → ℕ → ℕ → Type 0
  IsAlternative t at to = Is ts at kinds.Bar × TypeName ts t (at + 1) to

  alternative_sound : (at : ℕ) (x : Token × ℕ) → alternative ts at ≡ Some (Some x) → IsAlternative x.0 at x.1
  unfolding alternative
  alternative_sound at x h =
      elim (choose_is (after ts kinds.Bar at) _ _ _ h) [
        | inl e ↦ let a = after_is ts kinds.Bar at e.0 e.1 in
            let n = type_name_sound e.0 x (taken_is (type_name ts e.0) x e.2) in
            (a.0, subst (λ y. TypeName ts x.0 y x.1) a.1 n)
        | inr e ↦ absurd (none_is_not x e.1)
      ]

  are_alternatives : (xs : List Token) (at to : ℕ) → Seq IsAlternative xs at to → Alternatives ts xs at to
  are_alternatives [] at to s = s
  are_alternatives (x ∷ xs) at to s = (s.0, s.1.0, s.1.1, are_alternatives xs s.0 to s.2)

  alternatives_sound : (at : ℕ) (x : List Token × ℕ) → alternatives ts at ≡ Some x → Alternatives ts x.0 at x.1
  unfolding alternatives all
  alternatives_sound at x h =
      let m = many_sound (alternative ts) IsAlternative alternative_sound (length ts + 1) [] at x h in
      subst (λ xs. Alternatives ts xs at x.1) (sym m.1) (are_alternatives m.0 at x.1 m.2)

  union_sound : (at : ℕ) (x : TypeTree × ℕ) → union ts at ≡ Some x → Types ts x.0 at x.1
  unfolding union
  union_sound at x h =
      let t = bind_ok (type_name ts at) _ x h in
      let more = bind_ok (alternatives ts t.0.1) _ x t.2 in
      gives (λ y to. Types ts y at to) (Union t.0.0 more.0.0, more.0.1) x more.2 (t.0.1, type_name_sound at t.0 t.1, alternatives_sound t.0.1 more.0 more.1)

  nullable_sound : (at : ℕ) (t : Token) (x : TypeTree × ℕ) → slice_get ts at ≡ Some t → t.kind ≡ kinds.Question → nullable ts t (at + 1) ≡ Some x → Types ts x.0 at x.1
  unfolding nullable
  nullable_sound at t x s k h =
      let u = bind_ok (type_name ts (at + 1)) _ x h in
      gives (λ y to. Types ts y at to) (Nullable t u.0.0, u.0.1) x u.2 (s, stands_kind ts at t s ∙ k, type_name_sound (at + 1) u.0 u.1)

  type_by_sound : (at : ℕ) (o : Option Token) (x : TypeTree × ℕ) → slice_get ts at ≡ o → type_by ts o at ≡ Some x → Types ts x.0 at x.1
  type_by_sound at None x s h = absurd (nothing_is x h)
  type_by_sound at (Some t) x s h =
      elim (if_is (same_kind t.kind kinds.Question) _ _ _ h) [
        | inl e ↦ nullable_sound at t x s (same_is t.kind kinds.Question e.0) e.1
        | inr e ↦ union_sound at x e.1
      ]

  type_sound : (at : ℕ) (x : TypeTree × ℕ) → type_tree ts at ≡ Some x → Types ts x.0 at x.1
  unfolding type_tree
  type_sound at x h = type_by_sound at (slice_get ts at) x refl h

  pub may_type_sound : (at : ℕ) (x : Option TypeTree × ℕ) → may_type ts at ≡ Some x → MayBeTyped ts x.0 at x.1
  unfolding may_type some_type
  may_type_sound at x h =
      elim (if_is (begins_type ts (kind_at ts at)) _ _ _ h) [
        | inl e ↦ made_of (type_tree ts at) (λ t. Some t) (λ y to. MayBeTyped ts y at to) x (λ t. type_sound at t) e.1
        | inr e ↦ gives (λ y to. MayBeTyped ts y at to) (None, at) x e.1 refl
      ]

  pub may_return_sound : (at : ℕ) (x : Option TypeTree × ℕ) → may_return ts at ≡ Some x → MayReturn ts x.0 at x.1
  unfolding may_return some_type
  may_return_sound at x h =
      elim (choose_is (after ts kinds.Colon at) _ _ _ h) [
        | inl e ↦ let a = after_is ts kinds.Colon at e.0 e.1 in
            made_of (type_tree ts e.0) (λ t. Some t) (λ y to. MayReturn ts y at to) x (λ t q. (a.0, subst (λ y. Types ts t.0 y t.1) a.1 (type_sound e.0 t q))) e.2
        | inr e ↦ gives (λ y to. MayReturn ts y at to) (None, at) x e.1 refl
      ]

  -- ---- words that may stand

  visibility_by_is : (at : ℕ) (o : Option Visibility) → visibility_of (kind_at ts at) ≡ o → MayBeVisible ts (visibility_by ts o at).0 at (visibility_by ts o at).1
  visibility_by_is at None h = refl
  visibility_by_is at (Some v) h = (h, refl)

  pub visibility_is : (at : ℕ) → MayBeVisible ts (visibility ts at).0 at (visibility ts at).1
  unfolding visibility
  visibility_is at = visibility_by_is at (visibility_of (kind_at ts at)) refl

  -- ---- bodies

  braces_next : (from at : ℕ) (t : Token) → from ≤ at → slice_get ts at ≡ Some t → braces_open ts from (at + 1) ≡ braces_behind (braces_open ts from at) t
  braces_next from at t le s =
      let e : at + 1 - from ≡ at - from + 1 = omega arith in
      let back : from + (at - from) ≡ at = omega arith in
      let within = slice_get_within ts at t s in
      let short : at - from < length (drop from ts) = omega (arith, length-drop from ts) in
      let g : get_or (drop from ts) (at - from) t ≡ t = get_or-drop from ts (at - from) t ∙ (ap (λ i. get_or ts i t) back ∙ get_or_from_slice_get ts at t t s) in
      ap (λ i. fold braces_behind 1 (take i (drop from ts))) e ∙ (fold_more braces_behind 1 (drop from ts) (at - from) t short ∙ ap (braces_behind (braces_open ts from at)) g)

  abbrev IsOpen : ℕ → ℕ → Type 0
  IsOpen from at = (i : ℕ) → from ≤ i → i ≤ at → 0 < braces_open ts from i

  opened_next : (from at : ℕ) → IsOpen from at → 0 < braces_open ts from (at + 1) → IsOpen from (at + 1)
  opened_next from at before here i lo hi =
      elim (eqb_tells i (at + 1)) [
        | inl e ↦ subst (λ y. 0 < braces_open ts from y) (sym e.1) here
        | inr e ↦ let apart = e.1 in before i lo (grind (arith, apart))
      ]

  closed_within : (from n braces at last : ℕ) → from ≤ at → braces_open ts from at ≡ braces → IsOpen from at → closing_within ts n braces at ≡ Some last → IsMatched ts from last
  closed_within from zero braces at last le b o h = absurd (nothing_is last h)
  closed_within from (suc n) braces at last le b o h =
      let t = bind_ok (slice_get ts at) _ last h in
      let next : braces_open ts from (at + 1) ≡ braces_behind braces t.0 = braces_next from at t.0 le t.1 ∙ ap (λ k. braces_behind k t.0) b in
      elim (eqb_tells (braces_behind braces t.0) 0) [
        | inl e ↦ elim (if_is (braces_behind braces t.0 == 0) _ _ _ t.2) [
          | inl f ↦ subst (λ y. IsMatched ts from y) (some_is at last f.1) (record { rises = le; closed = next ∙ e.1; inside = o })
          | inr f ↦ absurd (true≢false (sym e.0 ∙ f.0))
        ]
        | inr e ↦ elim (if_is (braces_behind braces t.0 == 0) _ _ _ t.2) [
          | inl f ↦ absurd (true≢false (sym f.0 ∙ e.0))
          | inr f ↦ let apart = e.1 in
              let more : 0 < braces_open ts from (at + 1) = rw next (grind (arith, apart)) in
              closed_within from n (braces_behind braces t.0) (at + 1) last (omega arith) next (opened_next from at o more) f.1
        ]
      ]

  closing_sound : (at last : ℕ) → closing ts at ≡ Some last → IsMatched ts at last
  unfolding closing
  closing_sound at last h =
      let none : at - at ≡ 0 = omega arith in
      let one : braces_open ts at at ≡ 1 = ap (λ i. fold braces_behind 1 (take i (drop at ts))) none in
      closed_within at (length ts + 1) 1 at last (omega arith) one
      (λ i lo hi. let same : i ≡ at = omega arith in let here : 0 < braces_open ts at at = rw one (omega arith) in subst (λ y. 0 < braces_open ts at y) (sym same) here) h

  pub body_sound : (at : ℕ) (x : Body × ℕ) → body ts at ≡ Some x → Bodies ts (Near ts) x.0 at x.1
  unfolding body
  body_sound at x h =
      let from = bind_ok (after ts kinds.LeftBrace at) _ x h in
      let last = bind_ok (closing ts from.0) _ x from.2 in
      let to = bind_ok (after ts kinds.RightBrace last.0) _ x last.2 in
      let a = after_is ts kinds.LeftBrace at from.0 from.1 in
      let z = after_is ts kinds.RightBrace last.0 to.0 to.1 in
      gives (λ y to. Bodies ts (Near ts) y at to) (Held from.0 last.0, to.0) x to.2 (a.0, a.1, closing_sound from.0 last.0 last.1, z.0, z.1)
