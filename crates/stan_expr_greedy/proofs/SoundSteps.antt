-- What the parser reads of what is appended, of texts and of the class of a `new`, if what it reads a level deeper is greedy.
use Rattle.std.proofs.Common.{◌≡◌, ℕ, ◌+◌, ◌≤◌, ◌<◌, Bool, true, false, List, [], ◌∷◌, length, Some, None, slice_get, refl, sym, ap, subst, ◌∙◌, arith, inl, inr}
use Rattle.stan_model_grammar.specs.declared.token.Token.{Token}
use Rattle.stan_model_grammar.specs.declared.token.TokenKind.{TokenKind}
use Rattle.stan_model_grammar.specs.declared.token.TokenKind.TheVariants as kinds
use Rattle.stan_model_grammar.specs.Strata.{joins, kind_at, names_member, names_scoped, names_class, is_part}
use Rattle.stan_model_grammar.specs.Trees.{Tree, Form, New, ClassReference, NamedClass, VariableClass, ScopedClass, ComputedClass, MemberName, NamedMember, ComputedMember, Step, Push, Index, Property, Scoped, Call, Increment, Decrement, Part, Inserted}
use Rattle.stan_model_grammar.specs.Expressions.{StepSort, suffix, class_suffix, part, Is, IsSuffix, takes_arguments, is_scoped, arrow, Members, Repeats, StepReads, Classes, Forms}
use Rattle.stan_model_grammar.specs.TreeLists.{steps}
use Rattle.stan_expr_rules.specs.Places.{same_kind, after}
use Rattle.stan_expr_rules.specs.Parse.{Read, Turn, all, enclosed, fenced, argument_at, called, may_be_called, computed_member, named_member, member, property, scoped_with, scoped, class_scoped, index, bracket, call, suffix_by, suffix_at, suffixes, class_suffix_by, class_suffix_at, class_suffixes, variable_class, scoped_class, computed_class, behind_class, named_class, class_reference, new, inserted, part_by, part_at, parts}
use Rattle.stan_expr_rules.proofs.Greedy.{J, Near}
use Rattle.stan_expr_rules.proofs.InsideLemmas.{stands_kind}
use Rattle.stan_expr_greedy.proofs.Reading.{bind_ok, gives, turn_gives, made_of, taken_is, taken_none, none_is_not, choose_is, if_is, guard_ok, same_is, after_is, after_none, Seq, many_sound}
use Rattle.stan_expr_greedy.proofs.SoundTables.{no_scope, no_class_part, no_suffix}
use Rattle.stan_expr_greedy.proofs.SoundItems.{Sound, enclosed_sound, arguments_sound, may_be_called_sound, called_sound}

module _ (ts : List Token) (b : Bool → ℕ → ℕ → Read Tree) (ih : Sound ts b) where
  abbrev IsStep : StepSort → Step → ℕ → ℕ → Type 0
  IsStep sort = StepReads ts (Near ts) sort

  are_steps : (sort : StepSort) (ss : List Step) (at to : ℕ) → Seq (IsStep sort) ss at to → Repeats ts (Near ts) sort (steps ss) at to
  are_steps sort [] at to s = s
  are_steps sort (x ∷ ss) at to s = (s.0, s.1, are_steps sort ss s.0 to s.2)

  all_sound : (sort : StepSort) (turn : ℕ → Turn Step) → ((at : ℕ) (x : Step × ℕ) → turn at ≡ Some (Some x) → IsStep sort x.0 at x.1)
      → (at : ℕ) (x : List Step × ℕ) → all ts turn at ≡ Some x → Repeats ts (Near ts) sort (steps x.0) at x.1 × (turn x.1 ≡ Some None)
  unfolding all
  all_sound sort turn each at x h =
      let m = many_sound turn (IsStep sort) each (length ts + 1) [] at x h in
      (subst (λ ss. Repeats ts (Near ts) sort (steps ss) at x.1) (sym m.1) (are_steps sort m.0 at x.1 m.2), m.3)

  -- ---- members

  member_sound : (at : ℕ) (x : MemberName × ℕ) → member ts b at ≡ Some x → Members ts (Near ts) x.0 at x.1
  unfolding member computed_member named_member
  member_sound at x h =
      elim (choose_is (after ts kinds.LeftBrace at) _ _ _ h) [
        | inl e ↦ made_of (enclosed ts b kinds.LeftBrace kinds.RightBrace at) (λ v. ComputedMember v) (λ y to. Members ts (Near ts) y at to) x (λ v q. enclosed_sound ts b ih kinds.LeftBrace kinds.RightBrace at v q) e.2
        | inr e ↦
            let t = bind_ok (slice_get ts at) _ x e.1 in
            let g = guard_ok (names_member t.0.kind) _ x t.2 in
            gives (λ y to. Members ts (Near ts) y at to) (NamedMember t.0, at + 1) x g.1 (t.1, g.0, refl)
      ]

  property_sound : (sort : StepSort) (nullsafe : Bool) (at : ℕ) (x : Step × ℕ) → IsSuffix sort → Is ts at (arrow nullsafe)
      → property ts b (takes_arguments sort) nullsafe (at + 1) ≡ Some x → IsStep sort x.0 at x.1
  unfolding property
  property_sound sort nullsafe at x s k h =
      let name = bind_ok (member ts b (at + 1)) _ x h in
      made_of (called ts b (takes_arguments sort) name.0.1) (λ es. Property nullsafe name.0.0 es) (λ y to. IsStep sort y at to) x
      (λ es q. (name.0.1, s, k, member_sound (at + 1) name.0 name.1, called_sound ts b ih (takes_arguments sort) name.0.1 es q)) name.2

  scoped_with_sound : (sort : StepSort) (at : ℕ) (t : Token) (x : Step × ℕ) → is_scoped sort t.kind ≡ true → Is ts at kinds.DoubleColon → slice_get ts (at + 1) ≡ Some t
      → scoped_with ts b (takes_arguments sort) t (at + 2) ≡ Some x → IsStep sort x.0 at x.1
  unfolding scoped_with
  scoped_with_sound sort at t x s k u h =
      made_of (called ts b (takes_arguments sort) (at + 2)) (λ es. Scoped t es) (λ y to. IsStep sort y at to) x (λ es q. (s, k, u, called_sound ts b ih (takes_arguments sort) (at + 2) es q)) h

  scoped_sound : (at : ℕ) (x : Step × ℕ) → Is ts at kinds.DoubleColon → scoped ts b (at + 1) ≡ Some x → IsStep suffix x.0 at x.1
  unfolding scoped
  scoped_sound at x k h =
      let two : at + 1 + 1 ≡ at + 2 = omega arith in
      let t = bind_ok (slice_get ts (at + 1)) _ x h in
      let g = guard_ok (names_scoped t.0.kind) _ x t.2 in
      scoped_with_sound suffix at t.0 x g.0 k t.1 (subst (λ y. scoped_with ts b true t.0 y ≡ Some x) two g.1)

  class_scoped_sound : (at : ℕ) (x : Step × ℕ) → Is ts at kinds.DoubleColon → class_scoped ts b (at + 1) ≡ Some (Some x) → IsStep class_suffix x.0 at x.1
  unfolding class_scoped
  class_scoped_sound at x k h =
      elim (choose_is (after ts kinds.Variable (at + 1)) _ _ _ h) [
        | inl e ↦ let a = after_is ts kinds.Variable (at + 1) e.0 e.1 in
            let two : e.0 ≡ at + 2 = omega (arith, a.1) in
            let t = bind_ok (slice_get ts (at + 1)) _ x (taken_is _ x e.2) in
            let v : t.0.kind ≡ kinds.Variable = sym (stands_kind ts (at + 1) t.0 t.1) ∙ a.0 in
            let s : is_scoped class_suffix t.0.kind ≡ true = ap (is_scoped class_suffix) v in
            scoped_with_sound class_suffix at t.0 x s k t.1 (subst (λ y. scoped_with ts b false t.0 y ≡ Some x) two t.2)
        | inr e ↦ absurd (none_is_not x e.1)
      ]

  class_scoped_none : (at : ℕ) → class_scoped ts b at ≡ Some None → kind_at ts at ≡ kinds.Variable → ⊥
  unfolding class_scoped
  class_scoped_none at h =
      elim (choose_is (after ts kinds.Variable at) _ _ _ h) [
        | inl e ↦ λ k. taken_none _ e.2
        | inr e ↦ after_none ts kinds.Variable at (λ q. cc) e.0
      ]

  -- ---- what is appended

  bracket_sound : (sort : StepSort) (at : ℕ) (x : Step × ℕ) → IsSuffix sort → Is ts at kinds.LeftBracket → bracket ts b at ≡ Some x → IsStep sort x.0 at x.1
  unfolding bracket index
  bracket_sound sort at x s k h =
      elim (choose_is (after ts kinds.RightBracket (at + 1)) _ _ _ h) [
        | inl e ↦ let a = after_is ts kinds.RightBracket (at + 1) e.0 e.1 in
            let two : e.0 ≡ at + 2 = omega (arith, a.1) in
            gives (λ y to. IsStep sort y at to) (Push, e.0) x e.2 (s, k, a.0, two)
        | inr e ↦ made_of (enclosed ts b kinds.LeftBracket kinds.RightBracket at) (λ v. Index v) (λ y to. IsStep sort y at to) x (λ v q. (s, enclosed_sound ts b ih kinds.LeftBracket kinds.RightBracket at v q)) e.1
      ]

  call_sound : (at : ℕ) (x : Step × ℕ) → call ts b at ≡ Some x → IsStep suffix x.0 at x.1
  unfolding call
  call_sound at x h =
      made_of (fenced ts b (argument_at ts b) kinds.LeftParenthesis kinds.RightParenthesis at) (λ es. Call es) (λ y to. IsStep suffix y at to) x (λ es q. (tt, arguments_sound ts b ih at es q)) h

  suffix_by_sound : (kind : TokenKind) (at : ℕ) (x : Step × ℕ) → kind_at ts at ≡ kind → suffix_by ts b kind at ≡ Some (Some x) → IsStep suffix x.0 at x.1
  suffix_by_sound kinds.LeftBracket at x k h = bracket_sound suffix at x tt k (taken_is (bracket ts b at) x h)
  suffix_by_sound kinds.Arrow at x k h = property_sound suffix false at x tt k (taken_is (property ts b true false (at + 1)) x h)
  suffix_by_sound kinds.NullsafeArrow at x k h = property_sound suffix true at x tt k (taken_is (property ts b true true (at + 1)) x h)
  suffix_by_sound kinds.DoubleColon at x k h = scoped_sound at x k (taken_is (scoped ts b (at + 1)) x h)
  suffix_by_sound kinds.LeftParenthesis at x k h = call_sound at x (taken_is (call ts b at) x h)
  suffix_by_sound kinds.Increment at x k h = turn_gives (λ y to. IsStep suffix y at to) (Increment, at + 1) x h (tt, k, refl)
  suffix_by_sound kinds.Decrement at x k h = turn_gives (λ y to. IsStep suffix y at to) (Decrement, at + 1) x h (tt, k, refl)
  suffix_by_sound kind at x k h = absurd (none_is_not x h)

  suffix_sound : (at : ℕ) (x : Step × ℕ) → suffix_at ts b at ≡ Some (Some x) → IsStep suffix x.0 at x.1
  unfolding suffix_at
  suffix_sound at x h = suffix_by_sound (kind_at ts at) at x refl h

  suffix_by_none : (kind next : TokenKind) (at : ℕ) → suffix_by ts b kind at ≡ Some None → 0 < joins kind next → 4 < joins kind next
  suffix_by_none kinds.LeftBracket next at h = absurd (taken_none (bracket ts b at) h)
  suffix_by_none kinds.Arrow next at h = absurd (taken_none (property ts b true false (at + 1)) h)
  suffix_by_none kinds.NullsafeArrow next at h = absurd (taken_none (property ts b true true (at + 1)) h)
  suffix_by_none kinds.DoubleColon next at h = absurd (taken_none (scoped ts b (at + 1)) h)
  suffix_by_none kinds.LeftParenthesis next at h = absurd (taken_none (call ts b at) h)
  suffix_by_none kinds.Increment next at h = absurd cc
  suffix_by_none kinds.Decrement next at h = absurd cc
  suffix_by_none kind next at h = no_suffix kind next (λ q. cc) (λ q. cc) (λ q. cc) (λ q. cc) (λ q. cc) (λ q. cc) (λ q. cc)

  suffix_none : (at : ℕ) → suffix_at ts b at ≡ Some None → 0 < J ts at → 4 < J ts at
  unfolding suffix_at
  suffix_none at h = suffix_by_none (kind_at ts at) (kind_at ts (at + 1)) at h

  pub suffixes_sound : (at : ℕ) (x : List Step × ℕ) → suffixes ts b at ≡ Some x → Repeats ts (Near ts) suffix (steps x.0) at x.1 × (0 < J ts x.1 → 4 < J ts x.1)
  unfolding suffixes
  suffixes_sound at x h =
      let s = all_sound suffix (suffix_at ts b) suffix_sound at x h in
      (s.0, suffix_none x.1 s.1)

  -- ---- the class of a `new`

  class_suffix_by_sound : (kind : TokenKind) (at : ℕ) (x : Step × ℕ) → kind_at ts at ≡ kind → class_suffix_by ts b kind at ≡ Some (Some x) → IsStep class_suffix x.0 at x.1
  class_suffix_by_sound kinds.LeftBracket at x k h = bracket_sound class_suffix at x tt k (taken_is (bracket ts b at) x h)
  class_suffix_by_sound kinds.Arrow at x k h = property_sound class_suffix false at x tt k (taken_is (property ts b false false (at + 1)) x h)
  class_suffix_by_sound kinds.NullsafeArrow at x k h = property_sound class_suffix true at x tt k (taken_is (property ts b false true (at + 1)) x h)
  class_suffix_by_sound kinds.DoubleColon at x k h = class_scoped_sound at x k h
  class_suffix_by_sound kind at x k h = absurd (none_is_not x h)

  class_suffix_sound : (at : ℕ) (x : Step × ℕ) → class_suffix_at ts b at ≡ Some (Some x) → IsStep class_suffix x.0 at x.1
  unfolding class_suffix_at
  class_suffix_sound at x h = class_suffix_by_sound (kind_at ts at) at x refl h

  class_suffix_by_none : (kind next : TokenKind) (at : ℕ) → kind_at ts (at + 1) ≡ next → class_suffix_by ts b kind at ≡ Some None → 2 ≤ joins kind next → 3 < joins kind next
  class_suffix_by_none kinds.LeftBracket next at e h = absurd (taken_none (bracket ts b at) h)
  class_suffix_by_none kinds.Arrow next at e h = absurd (taken_none (property ts b false false (at + 1)) h)
  class_suffix_by_none kinds.NullsafeArrow next at e h = absurd (taken_none (property ts b false true (at + 1)) h)
  class_suffix_by_none kinds.DoubleColon next at e h = no_class_part kinds.DoubleColon next (λ q. cc) (λ q. cc) (λ q. cc) (λ q v. class_scoped_none (at + 1) h (e ∙ v))
  class_suffix_by_none kind next at e h = no_class_part kind next (λ q. cc) (λ q. cc) (λ q. cc) (λ q v. cc)

  class_suffix_none : (at : ℕ) → class_suffix_at ts b at ≡ Some None → Near ts 2 3 at
  unfolding class_suffix_at
  class_suffix_none at h = class_suffix_by_none (kind_at ts at) (kind_at ts (at + 1)) at refl h

  class_suffixes_sound : (at : ℕ) (x : List Step × ℕ) → class_suffixes ts b at ≡ Some x → Repeats ts (Near ts) class_suffix (steps x.0) at x.1 × Near ts 2 3 x.1
  unfolding class_suffixes
  class_suffixes_sound at x h =
      let s = all_sound class_suffix (class_suffix_at ts b) class_suffix_sound at x h in
      (s.0, class_suffix_none x.1 s.1)

  abbrev IsClass : ClassReference → ℕ → ℕ → Type 0
  IsClass = Classes ts (Near ts)

  variable_class_sound : (at : ℕ) (t : Token) (x : ClassReference × ℕ) → slice_get ts at ≡ Some t → t.kind ≡ kinds.Variable → variable_class ts b t (at + 1) ≡ Some x → IsClass x.0 at x.1
  unfolding variable_class
  variable_class_sound at t x s k h =
      made_of (class_suffixes ts b (at + 1)) (λ ss. VariableClass t (steps ss)) (λ y to. IsClass y at to) x
      (λ ss q. let c = class_suffixes_sound (at + 1) ss q in (s, stands_kind ts at t s ∙ k, c.0, c.1)) h

  scoped_class_sound : (at to : ℕ) (t : Token) (x : ClassReference × ℕ) → slice_get ts at ≡ Some t → names_class t.kind ≡ true → Is ts (at + 1) kinds.DoubleColon
      → Is ts (at + 2) kinds.Variable → to ≡ at + 3
      → (u : Token) → slice_get ts (at + 2) ≡ Some u → scoped_class ts b t u to ≡ Some x → IsClass x.0 at x.1
  unfolding scoped_class
  scoped_class_sound at to t x s k c v e u w h =
      made_of (class_suffixes ts b to) (λ ss. ScopedClass t u (steps ss)) (λ y z. IsClass y at z) x
      (λ ss q. let r = class_suffixes_sound to ss q in (s, k, c, w, v, subst (λ y. Repeats ts (Near ts) class_suffix (steps ss.0) y ss.1) e r.0, r.1)) h

  behind_class_sound : (at : ℕ) (t : Token) (x : ClassReference × ℕ) → slice_get ts at ≡ Some t → names_class t.kind ≡ true → Is ts (at + 1) kinds.DoubleColon
      → behind_class ts b t (at + 1) ≡ Some x → IsClass x.0 at x.1
  unfolding behind_class
  behind_class_sound at t x s k c h =
      let two : at + 1 + 1 ≡ at + 2 = omega arith in
      elim (choose_is (after ts kinds.Variable (at + 1 + 1)) _ _ _ h) [
        | inl e ↦ let a = after_is ts kinds.Variable (at + 1 + 1) e.0 e.1 in
            let u = bind_ok (slice_get ts (at + 1 + 1)) _ x e.2 in
            scoped_class_sound at e.0 t x s k c (subst (λ y. Is ts y kinds.Variable) two a.0) (omega (arith, a.1)) u.0 (subst (λ y. slice_get ts y ≡ Some u.0) two u.1) u.2
        | inr e ↦ let apart = after_none ts kinds.Variable (at + 1 + 1) (λ q. cc) e.0 in
            gives (λ y to. IsClass y at to) (NamedClass t, at + 1) x e.1 (s, k, refl, no_scope (kind_at ts (at + 1)) (kind_at ts (at + 1 + 1)) (λ q. apart))
      ]

  named_class_sound : (at : ℕ) (t : Token) (x : ClassReference × ℕ) → slice_get ts at ≡ Some t → names_class t.kind ≡ true → named_class ts b t (at + 1) ≡ Some x → IsClass x.0 at x.1
  unfolding named_class
  named_class_sound at t x s k h =
      elim (choose_is (after ts kinds.DoubleColon (at + 1)) _ _ _ h) [
        | inl e ↦ let a = after_is ts kinds.DoubleColon (at + 1) e.0 e.1 in behind_class_sound at t x s k a.0 e.2
        | inr e ↦ let apart = after_none ts kinds.DoubleColon (at + 1) (λ q. cc) e.0 in
            gives (λ y to. IsClass y at to) (NamedClass t, at + 1) x e.1 (s, k, refl, no_scope (kind_at ts (at + 1)) (kind_at ts (at + 1 + 1)) (λ q v. apart q))
      ]

  class_sound : (at : ℕ) (x : ClassReference × ℕ) → class_reference ts b at ≡ Some x → IsClass x.0 at x.1
  unfolding class_reference computed_class
  class_sound at x h =
      let t = bind_ok (slice_get ts at) _ x h in
      elim (if_is (same_kind t.0.kind kinds.Variable) _ _ _ t.2) [
        | inl e ↦ variable_class_sound at t.0 x t.1 (same_is t.0.kind kinds.Variable e.0) e.1
        | inr e ↦ elim (if_is (names_class t.0.kind) _ _ _ e.1) [
          | inl f ↦ named_class_sound at t.0 x t.1 f.0 f.1
          | inr f ↦ made_of (enclosed ts b kinds.LeftParenthesis kinds.RightParenthesis at) (λ v. ComputedClass v) (λ y to. IsClass y at to) x
              (λ v q. enclosed_sound ts b ih kinds.LeftParenthesis kinds.RightParenthesis at v q) f.1
        ]
      ]

  -- a `new` stands in a stratum in which nothing goes on with it
  abbrev pub IsNew : Form → ℕ → ℕ → Type 0
  IsNew f at to = (p : Bool) (k : ℕ) → 4 ≤ k → Near ts 5 k to → Forms ts (Near ts) p k f at to

  pub new_sound : (at : ℕ) (x : Form × ℕ) → Is ts at kinds.New → new ts b (at + 1) ≡ Some x → IsNew x.0 at x.1
  unfolding new
  new_sound at x k h =
      let c = bind_ok (class_reference ts b (at + 1)) _ x h in
      made_of (may_be_called ts b c.0.1) (λ es. New c.0.0 es) (λ y to. IsNew y at to) x
      (λ es q p j le stop. (c.0.1, le, k, class_sound (at + 1) c.0 c.1, may_be_called_sound ts b ih c.0.1 es q, stop)) c.2

  -- ---- texts

  part_by_sound : (at : ℕ) (t : Token) (x : Step × ℕ) → slice_get ts at ≡ Some t → part_by ts b t at ≡ Some (Some x) → IsStep part x.0 at x.1
  unfolding part_by inserted
  part_by_sound at t x s h =
      elim (if_is (is_part t.kind) _ _ _ h) [
        | inl e ↦ turn_gives (λ y to. IsStep part y at to) (Part t, at + 1) x e.1 (tt, s, e.0, refl)
        | inr e ↦ elim (if_is (same_kind t.kind kinds.InsertionStart) _ _ _ e.1) [
          | inl f ↦ made_of (enclosed ts b kinds.InsertionStart kinds.InsertionEnd at) (λ v. Inserted v) (λ y to. IsStep part y at to) x
              (λ v q. (tt, enclosed_sound ts b ih kinds.InsertionStart kinds.InsertionEnd at v q)) (taken_is _ x f.1)
          | inr f ↦ absurd (none_is_not x f.1)
        ]
      ]

  part_sound : (at : ℕ) (x : Step × ℕ) → part_at ts b at ≡ Some (Some x) → IsStep part x.0 at x.1
  unfolding part_at
  part_sound at x h = let t = bind_ok (slice_get ts at) _ (Some x) h in part_by_sound at t.0 x t.1 t.2

  pub parts_sound : (at : ℕ) (x : List Step × ℕ) → parts ts b at ≡ Some x → Repeats ts (Near ts) part (steps x.0) at x.1
  unfolding parts
  parts_sound at x h = let s = all_sound part (part_at ts b) part_sound at x h in s.0
