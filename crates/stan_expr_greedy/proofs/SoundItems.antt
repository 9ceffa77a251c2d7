-- What the parser reads of items and lists, if what it reads a level deeper is greedy.
use Rattle.std.proofs.Common.{◌≡◌, ℕ, ◌+◌, ◌≤◌, Bool, true, false, List, [], ◌∷◌, length, Option, Some, slice_get, refl, sym, subst, arith, inl, inr}
use Rattle.stan_model_grammar.specs.declared.operators.Visibility.{Visibility}
use Rattle.stan_model_grammar.specs.declared.token.Token.{Token}
use Rattle.stan_model_grammar.specs.declared.token.TokenKind.{TokenKind}
use Rattle.stan_model_grammar.specs.declared.token.TokenKind.TheVariants as kinds
use Rattle.stan_model_grammar.specs.Strata.{kind_at, loosest, names_argument}
use Rattle.stan_model_grammar.specs.Trees.{TypeTree, Tree, Items, no_item, items, Item, Positional, Spread, Named, Element, KeyedElement, Parameter, Captured, Arm, DefaultArm, Default, no_default, default, Arguments, no_arguments, arguments, is_pattern}
use Rattle.stan_model_grammar.specs.Expressions.{ItemSort, argument, element, expression, parameter, captured, arm, further, Is, Between, MayCapture, MayBeVisible, MayBeTyped, Lists, ItemReads, Defaults, MayBeCalled, Repeats, IsSomeItem, has_items}
use Rattle.stan_model_grammar.specs.TreeLists.{furthers, listed}
use Rattle.stan_expr_rules.specs.Places.{after, may}
use Rattle.stan_expr_rules.specs.Parse.{Read, may_type, visibility, enclosed, spread, positional, named_with, named, unspread, argument_at, keyed_with, keyed, referenced, value, unspread_element, element_at, some_default, may_default, parameter_with, parameter_at, captured_at, further_after, further_item, more_items, some_items, list_items, fenced, fenced_some, default_arm, conditions_arm, arm_at, may_capture, parameters, some_arguments, may_be_called, called}
use Rattle.stan_expr_rules.proofs.Greedy.{Near, Greedy, plain}
use Rattle.stan_expr_greedy.proofs.Reading.{bind_ok, gives, made_of, taken_is, none_is_not, choose_is, guard_ok, guard_not, after_is, after_none, may_is, Seq, many_sound}
use Rattle.stan_expr_greedy.proofs.SoundParts.{may_type_sound, visibility_is}
use Rattle.stan_expr_greedy.proofs.SoundTables.{no_call}

abbrev pub Sound : List Token → (Bool → ℕ → ℕ → Read Tree) → Type 0
Sound ts b = (p : Bool) (k at : ℕ) (r : Tree × ℕ) → 5 ≤ k → k ≤ loosest → b p k at ≡ Some r → Greedy ts p k r.0 at r.1

module _ (ts : List Token) (b : Bool → ℕ → ℕ → Read Tree) (ih : Sound ts b) where
  pub any_sound : (p : Bool) (at : ℕ) (r : Tree × ℕ) → b p loosest at ≡ Some r → Greedy ts p loosest r.0 at r.1
  any_sound p at r h = ih p loosest at r (omega arith) (omega arith) h

  -- behind a token
  pub next_sound : (p : Bool) (at from : ℕ) (r : Tree × ℕ) → from ≡ at → b p loosest from ≡ Some r → Greedy ts p loosest r.0 at r.1
  next_sound p at from r e h = subst (λ y. Greedy ts p loosest r.0 y r.1) e (any_sound p from r h)

  pub enclosed_sound : (opening closing : TokenKind) (at : ℕ) (x : Tree × ℕ) → enclosed ts b opening closing at ≡ Some x
      → Between ts opening (Greedy ts false loosest x.0) closing at x.1
  unfolding enclosed
  enclosed_sound opening closing at x h =
      let f = bind_ok (after ts opening at) _ x h in
      let e = bind_ok (b false loosest f.0) _ x f.2 in
      let t = bind_ok (after ts closing e.0.1) _ x e.2 in
      let a = after_is ts opening at f.0 f.1 in
      let z = after_is ts closing e.0.1 t.0 t.1 in
      gives (λ y to. Between ts opening (Greedy ts false loosest y) closing at to) (e.0.0, t.0) x t.2 (e.0.1, a.0, next_sound false (at + 1) f.0 e.0 a.1 e.1, z.0, z.1)

  -- ---- arguments

  abbrev IsItem : ItemSort → Item → ℕ → ℕ → Type 0
  IsItem sort = ItemReads ts (Near ts) sort

  pub positional_sound : (at : ℕ) (x : Item × ℕ) → positional ts b at ≡ Some x → IsItem expression x.0 at x.1
  unfolding positional
  positional_sound at x h = made_of (b false loosest at) (λ e. Positional e) (λ y to. IsItem expression y at to) x (λ e q. any_sound false at e q) h

  unnamed_sound : (at : ℕ) (x : Item × ℕ) → (kind_at ts (at + 1) ≡ kinds.Colon → ⊥) → positional ts b at ≡ Some x → IsItem argument x.0 at x.1
  unfolding positional
  unnamed_sound at x c h = made_of (b false loosest at) (λ e. Positional e) (λ y to. IsItem argument y at to) x (λ e q. (c, any_sound false at e q)) h

  named_sound : (at to : ℕ) (x : Item × ℕ) → Is ts (at + 1) kinds.Colon → to ≡ at + 2 → named ts b at to ≡ Some x → IsItem argument x.0 at x.1
  unfolding named named_with
  named_sound at to x c e h =
      let t = bind_ok (slice_get ts at) _ x h in
      let g = guard_ok (names_argument t.0.kind) _ x t.2 in
      made_of (b false loosest to) (λ v. Named t.0 v) (λ y z. IsItem argument y at z) x (λ v q. (t.1, g.0, c, next_sound false (at + 2) to v e q)) g.1

  unspread_sound : (at : ℕ) (x : Item × ℕ) → unspread ts b at ≡ Some x → IsItem argument x.0 at x.1
  unfolding unspread
  unspread_sound at x h =
      elim (choose_is (after ts kinds.Colon (at + 1)) _ _ _ h) [
        | inl e ↦ let a = after_is ts kinds.Colon (at + 1) e.0 e.1 in named_sound at e.0 x a.0 (omega (arith, a.1)) e.2
        | inr e ↦ unnamed_sound at x (after_none ts kinds.Colon (at + 1) (λ q. cc) e.0) e.1
      ]

  pub argument_sound : (at : ℕ) (x : Item × ℕ) → argument_at ts b at ≡ Some x → IsItem argument x.0 at x.1
  unfolding argument_at spread
  argument_sound at x h =
      elim (choose_is (after ts kinds.Ellipsis at) _ _ _ h) [
        | inl e ↦ let a = after_is ts kinds.Ellipsis at e.0 e.1 in
            made_of (b false loosest e.0) (λ v. Spread v) (λ y z. IsItem argument y at z) x (λ v q. (a.0, next_sound false (at + 1) e.0 v a.1 q)) e.2
        | inr e ↦ unspread_sound at x e.1
      ]

  -- ---- elements of arrays

  keyed_sound : (at m : ℕ) (key : Tree) (x : Item × ℕ) → Greedy ts true loosest key at m → Is ts m kinds.DoubleArrow → keyed ts b key (m + 1) ≡ Some x → IsItem element x.0 at x.1
  unfolding keyed keyed_with
  keyed_sound at m key x g k h =
      let still = guard_not (is_pattern key) _ x h in
      let reads = plain ts true false loosest key at m still.0 g in
      let r = may ts kinds.Ampersand (m + 1) in
      made_of (b true loosest r.1) (λ v. KeyedElement key r.0 v) (λ y z. IsItem element y at z) x (λ v q. (m, r.1, reads, k, may_is ts kinds.Ampersand (m + 1), any_sound true r.1 v q)) still.1

  value_sound : (at : ℕ) (x : Item × ℕ) → value ts b at ≡ Some x → IsItem element x.0 at x.1
  unfolding value
  value_sound at x h =
      let e = bind_ok (b true loosest at) _ x h in
      let g = any_sound true at e.0 e.1 in
      elim (choose_is (after ts kinds.DoubleArrow e.0.1) _ _ _ e.2) [
        | inl f ↦ let a = after_is ts kinds.DoubleArrow e.0.1 f.0 f.1 in
            keyed_sound at e.0.1 e.0.0 x g a.0 (subst (λ y. keyed ts b e.0.0 y ≡ Some x) a.1 f.2)
        | inr f ↦ gives (λ y to. IsItem element y at to) (Element false e.0.0, e.0.1) x f.1 (at, refl, g)
      ]

  unspread_element_sound : (at : ℕ) (x : Item × ℕ) → unspread_element ts b at ≡ Some x → IsItem element x.0 at x.1
  unfolding unspread_element referenced
  unspread_element_sound at x h =
      elim (choose_is (after ts kinds.Ampersand at) _ _ _ h) [
        | inl e ↦ let a = after_is ts kinds.Ampersand at e.0 e.1 in
            made_of (b true loosest e.0) (λ v. Element true v) (λ y z. IsItem element y at z) x (λ v q. (e.0, a, any_sound true e.0 v q)) e.2
        | inr e ↦ value_sound at x e.1
      ]

  pub element_sound : (at : ℕ) (x : Item × ℕ) → element_at ts b at ≡ Some x → IsItem element x.0 at x.1
  unfolding element_at spread
  element_sound at x h =
      elim (choose_is (after ts kinds.Ellipsis at) _ _ _ h) [
        | inl e ↦ let a = after_is ts kinds.Ellipsis at e.0 e.1 in
            made_of (b false loosest e.0) (λ v. Spread v) (λ y z. IsItem element y at z) x (λ v q. (a.0, next_sound false (at + 1) e.0 v a.1 q)) e.2
        | inr e ↦ unspread_element_sound at x e.1
      ]

  -- ---- parameters

  default_sound : (at : ℕ) (x : Default × ℕ) → may_default ts b at ≡ Some x → Defaults ts (Near ts) x.0 at x.1
  unfolding may_default some_default
  default_sound at x h =
      elim (choose_is (after ts kinds.Assign at) _ _ _ h) [
        | inl e ↦ let a = after_is ts kinds.Assign at e.0 e.1 in
            made_of (b false loosest e.0) (λ v. default v) (λ y z. Defaults ts (Near ts) y at z) x (λ v q. (a.0, next_sound false (at + 1) e.0 v a.1 q)) e.2
        | inr e ↦ gives (λ y to. Defaults ts (Near ts) y at to) (no_default, at) x e.1 refl
      ]

  parameter_with_sound : (at m n : ℕ) (v : Option Visibility) (type : Option TypeTree) (x : Item × ℕ) → MayBeVisible ts v at m → MayBeTyped ts type m n
      → parameter_with ts b v type n ≡ Some x → IsItem parameter x.0 at x.1
  unfolding parameter_with
  parameter_with_sound at m n v type x seen typed h =
      let r = may ts kinds.Ampersand n in
      let w = may ts kinds.Ellipsis r.1 in
      let t = bind_ok (slice_get ts w.1) _ x h in
      let to = bind_ok (after ts kinds.Variable w.1) _ x t.2 in
      let a = after_is ts kinds.Variable w.1 to.0 to.1 in
      made_of (may_default ts b to.0) (λ e. Parameter v type r.0 w.0 t.0 e) (λ y z. IsItem parameter y at z) x
      (λ e q. (m, n, r.1, w.1, seen, typed, may_is ts kinds.Ampersand n, may_is ts kinds.Ellipsis r.1, t.1, a.0, subst (λ y. Defaults ts (Near ts) e.0 y e.1) a.1 (default_sound to.0 e q))) to.2

  pub parameter_sound : (at : ℕ) (x : Item × ℕ) → parameter_at ts b at ≡ Some x → IsItem parameter x.0 at x.1
  unfolding parameter_at
  parameter_sound at x h =
      let v = visibility ts at in
      let type = bind_ok (may_type ts v.1) _ x h in
      parameter_with_sound at v.1 type.0.1 v.0 type.0.0 x (visibility_is ts at) (may_type_sound ts v.1 type.0 type.1) type.2

  pub captured_sound : (at : ℕ) (x : Item × ℕ) → captured_at ts b at ≡ Some x → IsItem captured x.0 at x.1
  unfolding captured_at
  captured_sound at x h =
      let t = bind_ok (slice_get ts at) _ x h in
      let to = bind_ok (after ts kinds.Variable at) _ x t.2 in
      let a = after_is ts kinds.Variable at to.0 to.1 in
      gives (λ y z. IsItem captured y at z) (Captured t.0, to.0) x to.2 (t.1, a.0, a.1)

  -- ---- lists

  abbrev IsFurther : ItemSort → Item → ℕ → ℕ → Type 0
  IsFurther sort x at to = Is ts at kinds.Comma × IsItem sort x (at + 1) to

  are_further : (sort : ItemSort) (xs : List Item) (at to : ℕ) → Seq (IsFurther sort) xs at to → Repeats ts (Near ts) (further sort) (furthers xs) at to
  are_further sort [] at to s = s
  are_further sort (x ∷ xs) at to s = (s.0, s.1, are_further sort xs s.0 to s.2)

  module _ (item : ℕ → Read Item) (sort : ItemSort) (each : (at : ℕ) (x : Item × ℕ) → item at ≡ Some x → IsItem sort x.0 at x.1) where
    further_sound : (closing : TokenKind) (at : ℕ) (x : Item × ℕ) → further_item ts b item closing at ≡ Some (Some x) → IsFurther sort x.0 at x.1
    unfolding further_item further_after
    further_sound closing at x h =
        elim (choose_is (after ts kinds.Comma at) _ _ _ h) [
          | inl e ↦ let a = after_is ts kinds.Comma at e.0 e.1 in
              elim (choose_is (after ts closing e.0) _ _ _ e.2) [
                | inl f ↦ absurd (none_is_not x f.2)
                | inr f ↦ (a.0, subst (λ y. IsItem sort x.0 y x.1) a.1 (each e.0 x (taken_is (item e.0) x f.1)))
              ]
          | inr e ↦ absurd (none_is_not x e.1)
        ]

    pub some_items_sound : (closing : TokenKind) (at : ℕ) (x : Items × ℕ) → some_items ts b item closing at ≡ Some x → IsSomeItem x.0 × Lists ts (Near ts) sort x.0 at x.1
    unfolding some_items more_items
    some_items_sound closing at x h =
        let first = bind_ok (item at) _ x h in
        let more = bind_ok (more_items ts b item closing first.0.0 first.0.1) _ x first.2 in
        let m = many_sound (further_item ts b item closing) (IsFurther sort) (further_sound closing) (length ts + 1) (first.0.0 ∷ []) first.0.1 more.0 more.1 in
        let c = may ts kinds.Comma more.0.1 in
        gives (λ y to. IsSomeItem y × Lists ts (Near ts) sort y at to) (listed more.0.0 c.0, c.1) x more.2
        (subst (λ l. IsSomeItem (listed l c.0) × Lists ts (Near ts) sort (listed l c.0) at c.1) (sym m.1)
        (tt, (first.0.1, more.0.1, each at first.0 first.1, are_further sort m.0 first.0.1 more.0.1 m.2, may_is ts kinds.Comma more.0.1)))

    pub list_items_sound : (closing : TokenKind) (at : ℕ) (x : Items × ℕ) → list_items ts b item closing at ≡ Some x → Lists ts (Near ts) sort x.0 at x.1
    unfolding list_items
    list_items_sound closing at x h =
        elim (choose_is (after ts closing at) _ _ _ h) [
          | inl e ↦ gives (λ y to. Lists ts (Near ts) sort y at to) (no_item, at) x e.2 refl
          | inr e ↦ let s = some_items_sound closing at x e.1 in s.1
        ]

    pub fenced_sound : (opening closing : TokenKind) (at : ℕ) (x : Items × ℕ) → fenced ts b item opening closing at ≡ Some x → Between ts opening (Lists ts (Near ts) sort x.0) closing at x.1
    unfolding fenced
    fenced_sound opening closing at x h =
        let f = bind_ok (after ts opening at) _ x h in
        let e = bind_ok (list_items ts b item closing f.0) _ x f.2 in
        let t = bind_ok (after ts closing e.0.1) _ x e.2 in
        let a = after_is ts opening at f.0 f.1 in
        let z = after_is ts closing e.0.1 t.0 t.1 in
        gives (λ y to. Between ts opening (Lists ts (Near ts) sort y) closing at to) (e.0.0, t.0) x t.2
        (e.0.1, a.0, subst (λ y. Lists ts (Near ts) sort e.0.0 y e.0.1) a.1 (list_items_sound closing f.0 e.0 e.1), z.0, z.1)

    pub fenced_some_sound : (at : ℕ) (x : Items × ℕ) → fenced_some ts b item at ≡ Some x
        → IsSomeItem x.0 × Between ts kinds.LeftParenthesis (Lists ts (Near ts) sort x.0) kinds.RightParenthesis at x.1
    unfolding fenced_some
    fenced_some_sound at x h =
        let f = bind_ok (after ts kinds.LeftParenthesis at) _ x h in
        let e = bind_ok (some_items ts b item kinds.RightParenthesis f.0) _ x f.2 in
        let t = bind_ok (after ts kinds.RightParenthesis e.0.1) _ x e.2 in
        let a = after_is ts kinds.LeftParenthesis at f.0 f.1 in
        let z = after_is ts kinds.RightParenthesis e.0.1 t.0 t.1 in
        let s = some_items_sound kinds.RightParenthesis f.0 e.0 e.1 in
        gives (λ y to. IsSomeItem y × Between ts kinds.LeftParenthesis (Lists ts (Near ts) sort y) kinds.RightParenthesis at to) (e.0.0, t.0) x t.2
        (s.0, (e.0.1, a.0, subst (λ y. Lists ts (Near ts) sort e.0.0 y e.0.1) a.1 s.1, z.0, z.1))

  -- ---- arms

  default_arm_sound : (at : ℕ) (x : Item × ℕ) → Is ts at kinds.Default → default_arm ts b (at + 1) ≡ Some x → IsItem arm x.0 at x.1
  unfolding default_arm
  default_arm_sound at x k h =
      let c = may ts kinds.Comma (at + 1) in
      let f = bind_ok (after ts kinds.DoubleArrow c.1) _ x h in
      let a = after_is ts kinds.DoubleArrow c.1 f.0 f.1 in
      made_of (b false loosest f.0) (λ e. DefaultArm c.0 e) (λ y to. IsItem arm y at to) x
      (λ e q. (c.1, k, may_is ts kinds.Comma (at + 1), a.0, next_sound false (c.1 + 1) f.0 e a.1 q)) f.2

  conditions_arm_sound : (at : ℕ) (x : Item × ℕ) → conditions_arm ts b at ≡ Some x → IsItem arm x.0 at x.1
  unfolding conditions_arm
  conditions_arm_sound at x h =
      let es = bind_ok (some_items ts b (positional ts b) kinds.DoubleArrow at) _ x h in
      let f = bind_ok (after ts kinds.DoubleArrow es.0.1) _ x es.2 in
      let a = after_is ts kinds.DoubleArrow es.0.1 f.0 f.1 in
      let s = some_items_sound (positional ts b) expression positional_sound kinds.DoubleArrow at es.0 es.1 in
      made_of (b false loosest f.0) (λ e. Arm es.0.0 e) (λ y to. IsItem arm y at to) x
      (λ e q. (es.0.1, s.0, s.1, a.0, next_sound false (es.0.1 + 1) f.0 e a.1 q)) f.2

  pub arm_sound : (at : ℕ) (x : Item × ℕ) → arm_at ts b at ≡ Some x → IsItem arm x.0 at x.1
  unfolding arm_at
  arm_sound at x h =
      elim (choose_is (after ts kinds.Default at) _ _ _ h) [
        | inl e ↦ let a = after_is ts kinds.Default at e.0 e.1 in default_arm_sound at x a.0 (subst (λ y. default_arm ts b y ≡ Some x) a.1 e.2)
        | inr e ↦ conditions_arm_sound at x e.1
      ]

  -- ---- lists of a sort

  pub parameters_sound : (at : ℕ) (x : Items × ℕ) → parameters ts b at ≡ Some x → Between ts kinds.LeftParenthesis (Lists ts (Near ts) parameter x.0) kinds.RightParenthesis at x.1
  unfolding parameters
  parameters_sound at x h = fenced_sound (parameter_at ts b) parameter parameter_sound kinds.LeftParenthesis kinds.RightParenthesis at x h

  abbrev IsCapture : Items → ℕ → ℕ → Type 0
  IsCapture es at to = MayCapture ts (has_items es) (Lists ts (Near ts) captured es) at to

  some_capture : (at from to : ℕ) (es : Items) → IsSomeItem es → Is ts at kinds.Use → from ≡ at + 1
      → Between ts kinds.LeftParenthesis (Lists ts (Near ts) captured es) kinds.RightParenthesis from to → IsCapture es at to
  some_capture at from to no_item some k e h = absurd some
  some_capture at from to (items x xs comma) some k e h = (k, subst (λ y. Between ts kinds.LeftParenthesis (Lists ts (Near ts) captured (items x xs comma)) kinds.RightParenthesis y to) e h)

  pub may_capture_sound : (at : ℕ) (x : Items × ℕ) → may_capture ts b at ≡ Some x → IsCapture x.0 at x.1
  unfolding may_capture
  may_capture_sound at x h =
      elim (choose_is (after ts kinds.Use at) _ _ _ h) [
        | inl e ↦ let a = after_is ts kinds.Use at e.0 e.1 in
            let s = fenced_some_sound (captured_at ts b) captured captured_sound e.0 x e.2 in
            some_capture at e.0 x.1 x.0 s.0 a.0 a.1 s.1
        | inr e ↦ gives (λ y to. IsCapture y at to) (no_item, at) x e.1 refl
      ]

  -- ---- calls

  pub arguments_sound : (at : ℕ) (x : Items × ℕ) → fenced ts b (argument_at ts b) kinds.LeftParenthesis kinds.RightParenthesis at ≡ Some x
      → Between ts kinds.LeftParenthesis (Lists ts (Near ts) argument x.0) kinds.RightParenthesis at x.1
  arguments_sound at x h = fenced_sound (argument_at ts b) argument argument_sound kinds.LeftParenthesis kinds.RightParenthesis at x h

  pub may_be_called_sound : (at : ℕ) (x : Arguments × ℕ) → may_be_called ts b at ≡ Some x → MayBeCalled ts (Near ts) true x.0 at x.1
  unfolding may_be_called some_arguments
  may_be_called_sound at x h =
      elim (choose_is (after ts kinds.LeftParenthesis at) _ _ _ h) [
        | inl e ↦ made_of (fenced ts b (argument_at ts b) kinds.LeftParenthesis kinds.RightParenthesis at) (λ es. arguments es) (λ y to. MayBeCalled ts (Near ts) true y at to) x
            (λ es q. (refl, arguments_sound at es q)) e.2
        | inr e ↦ let apart = after_none ts kinds.LeftParenthesis at (λ q. cc) e.0 in
            gives (λ y to. MayBeCalled ts (Near ts) true y at to) (no_arguments, at) x e.1 (refl, λ callable. no_call (kind_at ts at) (kind_at ts (at + 1)) apart)
      ]

  pub called_sound : (callable : Bool) (at : ℕ) (x : Arguments × ℕ) → called ts b callable at ≡ Some x → MayBeCalled ts (Near ts) callable x.0 at x.1
  unfolding called
  called_sound true at x h = may_be_called_sound at x h
  called_sound false at x h = gives (λ y to. MayBeCalled ts (Near ts) false y at to) (no_arguments, at) x h (refl, λ callable. absurd cc)
