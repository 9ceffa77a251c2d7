-- What the parser reads of expressions that stand alone, if what it reads a level deeper is greedy.
use Rattle.std.proofs.Common.{◌≡◌, ◌⊎◌, ℕ, ◌+◌, ◌≤◌, ◌<◌, Bool, true, false, List, Option, Some, None, refl, ap, subst, inl, inr}
use Rattle.stan_model_grammar.specs.declared.operators.ArrayStyle.TheVariants as styles
use Rattle.stan_model_grammar.specs.declared.operators.Leaf.{Leaf}
use Rattle.stan_model_grammar.specs.declared.operators.Leaf.TheVariants as leaves
use Rattle.stan_model_grammar.specs.declared.token.Token.{Token}
use Rattle.stan_model_grammar.specs.declared.token.TokenKind.{TokenKind}
use Rattle.stan_model_grammar.specs.declared.token.TokenKind.TheVariants as kinds
use Rattle.stan_model_grammar.specs.Strata.{kind_at, leaf_of, leaf_low, loosest, is_exit}
use Rattle.stan_model_grammar.specs.Trees.{Tree, Form, Single, Brackets, Array, IsSet, Empty, Exit, Match, Closure, Arrow, Text, form_production}
use Rattle.stan_model_grammar.specs.Expressions.{element, expression, arm, Is, May, Forms}
use Rattle.stan_model_grammar.specs.TreeLists.{steps}
use Rattle.stan_expr_rules.specs.Places.{after, may}
use Rattle.stan_expr_rules.specs.Parse.{Read, stands_arrow, enclosed, fenced, fenced_some, element_at, positional, arm_at, parameters, may_capture, may_return, body, brackets, short_array, long_array, is_set, empty, exit, match_form, closure, arrow, parts, text, leaf, static_word, form_by, may_be_called}
use Rattle.stan_expr_rules.proofs.Greedy.{J, Near}
use Rattle.stan_expr_greedy.proofs.Reading.{bind_ok, gives, made_of, choose_is, after_is, after_none, may_is}
use Rattle.stan_expr_greedy.proofs.SoundParts.{may_return_sound, body_sound}
use Rattle.stan_expr_greedy.proofs.SoundTables.{no_function}
use Rattle.stan_expr_greedy.proofs.SoundItems.{Sound, next_sound, enclosed_sound, positional_sound, element_sound, arm_sound, fenced_sound, fenced_some_sound, parameters_sound, may_capture_sound, may_be_called_sound}
use Rattle.stan_expr_greedy.proofs.SoundSteps.{parts_sound}
use Rattle.stan_expr_rules.proofs.Choices.{nothing_is}

module _ (ts : List Token) (b : Bool → ℕ → ℕ → Read Tree) (ih : Sound ts b) where
  -- it stands in a stratum in which nothing goes on with it
  abbrev pub IsAtom : Form → ℕ → ℕ → Type 0
  IsAtom f at to = (k : ℕ) → Near ts 1 k to → Forms ts (Near ts) true k f at to

  -- an arrow function, which stands where a `new` does
  abbrev pub IsArrow : Form → ℕ → ℕ → Type 0
  IsArrow f at to = (stands_arrow (form_production f) ≡ true) × ((k : ℕ) → 4 ≤ k → Near ts 5 k to → Forms ts (Near ts) true k f at to)

  abbrev pub IsAlone : Form → ℕ → ℕ → Type 0
  IsAlone f at to = IsAtom f at to ⊎ IsArrow f at to

  brackets_sound : (at : ℕ) (x : Form × ℕ) → brackets ts b at ≡ Some x → IsAtom x.0 at x.1
  unfolding brackets
  brackets_sound at x h =
      made_of (enclosed ts b kinds.LeftParenthesis kinds.RightParenthesis at) (λ v. Brackets v) (λ y to. IsAtom y at to) x
      (λ v q k stop. (enclosed_sound ts b ih kinds.LeftParenthesis kinds.RightParenthesis at v q, stop)) h

  short_array_sound : (at : ℕ) (x : Form × ℕ) → short_array ts b at ≡ Some x → IsAtom x.0 at x.1
  unfolding short_array
  short_array_sound at x h =
      made_of (fenced ts b (element_at ts b) kinds.LeftBracket kinds.RightBracket at) (λ es. Array styles.Brackets es) (λ y to. IsAtom y at to) x
      (λ es q k stop. (λ p. refl, fenced_sound ts b ih (element_at ts b) element (element_sound ts b ih) kinds.LeftBracket kinds.RightBracket at es q, stop)) h

  array_sound : (at : ℕ) (x : Form × ℕ) → Is ts at kinds.Array → long_array ts b styles.Array (at + 1) ≡ Some x → IsAtom x.0 at x.1
  unfolding long_array
  array_sound at x w h =
      made_of (fenced ts b (element_at ts b) kinds.LeftParenthesis kinds.RightParenthesis (at + 1)) (λ es. Array styles.Array es) (λ y to. IsAtom y at to) x
      (λ es q k stop. (λ p. refl, w, fenced_sound ts b ih (element_at ts b) element (element_sound ts b ih) kinds.LeftParenthesis kinds.RightParenthesis (at + 1) es q, stop)) h

  list_sound : (at : ℕ) (x : Form × ℕ) → Is ts at kinds.List → long_array ts b styles.List (at + 1) ≡ Some x → IsAtom x.0 at x.1
  unfolding long_array
  list_sound at x w h =
      made_of (fenced ts b (element_at ts b) kinds.LeftParenthesis kinds.RightParenthesis (at + 1)) (λ es. Array styles.List es) (λ y to. IsAtom y at to) x
      (λ es q k stop. (refl, w, fenced_sound ts b ih (element_at ts b) element (element_sound ts b ih) kinds.LeftParenthesis kinds.RightParenthesis (at + 1) es q, stop)) h

  is_set_sound : (at : ℕ) (x : Form × ℕ) → Is ts at kinds.IsSet → is_set ts b (at + 1) ≡ Some x → IsAtom x.0 at x.1
  unfolding is_set
  is_set_sound at x w h =
      made_of (fenced_some ts b (positional ts b) (at + 1)) (λ es. IsSet es) (λ y to. IsAtom y at to) x
      (λ es q k stop. let s = fenced_some_sound ts b ih (positional ts b) expression (positional_sound ts b ih) (at + 1) es q in (s.0, w, s.1, stop)) h

  empty_sound : (at : ℕ) (x : Form × ℕ) → Is ts at kinds.Empty → empty ts b (at + 1) ≡ Some x → IsAtom x.0 at x.1
  unfolding empty
  empty_sound at x w h =
      made_of (enclosed ts b kinds.LeftParenthesis kinds.RightParenthesis (at + 1)) (λ v. Empty v) (λ y to. IsAtom y at to) x
      (λ v q k stop. (w, enclosed_sound ts b ih kinds.LeftParenthesis kinds.RightParenthesis (at + 1) v q, stop)) h

  exit_sound : (at : ℕ) (x : Form × ℕ) → is_exit (kind_at ts at) ≡ true → exit ts b (at + 1) ≡ Some x → IsAtom x.0 at x.1
  unfolding exit
  exit_sound at x w h =
      made_of (may_be_called ts b (at + 1)) (λ es. Exit es) (λ y to. IsAtom y at to) x
      (λ es q k stop. (w, may_be_called_sound ts b ih (at + 1) es q, stop)) h

  match_sound : (at : ℕ) (x : Form × ℕ) → Is ts at kinds.Match → match_form ts b (at + 1) ≡ Some x → IsAtom x.0 at x.1
  unfolding match_form
  match_sound at x w h =
      let e = bind_ok (enclosed ts b kinds.LeftParenthesis kinds.RightParenthesis (at + 1)) _ x h in
      made_of (fenced ts b (arm_at ts b) kinds.LeftBrace kinds.RightBrace e.0.1) (λ arms. Match e.0.0 arms) (λ y to. IsAtom y at to) x
      (λ arms q k stop. (
        e.0.1,
        w,
        enclosed_sound ts b ih kinds.LeftParenthesis kinds.RightParenthesis (at + 1) e.0 e.1,
        fenced_sound ts b ih (arm_at ts b) arm (arm_sound ts b ih) kinds.LeftBrace kinds.RightBrace e.0.1 arms q,
        stop,
      )) e.2

  closure_sound : (static : Bool) (at a : ℕ) (x : Form × ℕ) → May ts static kinds.Static at a → Is ts a kinds.Function → closure ts b static (a + 1) ≡ Some x → IsAtom x.0 at x.1
  unfolding closure
  closure_sound static at a x s w h =
      let r = may ts kinds.Ampersand (a + 1) in
      let ps = bind_ok (parameters ts b r.1) _ x h in
      let cs = bind_ok (may_capture ts b ps.0.1) _ x ps.2 in
      let t = bind_ok (may_return ts cs.0.1) _ x cs.2 in
      made_of (body ts t.0.1) (λ v. Closure static r.0 ps.0.0 cs.0.0 t.0.0 v) (λ y to. IsAtom y at to) x
      (λ v q k stop. (
        a,
        r.1,
        ps.0.1,
        cs.0.1,
        t.0.1,
        s,
        w,
        may_is ts kinds.Ampersand (a + 1),
        parameters_sound ts b ih r.1 ps.0 ps.1,
        may_capture_sound ts b ih ps.0.1 cs.0 cs.1,
        may_return_sound ts cs.0.1 t.0 t.1,
        body_sound ts t.0.1 v q,
        stop,
      )) t.2

  arrow_sound : (static : Bool) (at a : ℕ) (x : Form × ℕ) → May ts static kinds.Static at a → Is ts a kinds.Fn → arrow ts b static (a + 1) ≡ Some x → IsArrow x.0 at x.1
  unfolding arrow
  arrow_sound static at a x s w h =
      let r = may ts kinds.Ampersand (a + 1) in
      let ps = bind_ok (parameters ts b r.1) _ x h in
      let t = bind_ok (may_return ts ps.0.1) _ x ps.2 in
      let f = bind_ok (after ts kinds.DoubleArrow t.0.1) _ x t.2 in
      let d = after_is ts kinds.DoubleArrow t.0.1 f.0 f.1 in
      made_of (b false loosest f.0) (λ v. Arrow static r.0 ps.0.0 t.0.0 v) (λ y to. IsArrow y at to) x
      (λ v q. (
        refl,
        λ k le stop. (
          a,
          r.1,
          ps.0.1,
          t.0.1,
          s,
          w,
          may_is ts kinds.Ampersand (a + 1),
          parameters_sound ts b ih r.1 ps.0 ps.1,
          may_return_sound ts ps.0.1 t.0 t.1,
          d.0,
          next_sound ts b ih false (t.0.1 + 1) f.0 v d.1 q,
          stop,
          le,
        ),
      )) f.2

  text_sound : (at : ℕ) (x : Form × ℕ) → Is ts at kinds.TextStart → text ts b (at + 1) ≡ Some x → IsAtom x.0 at x.1
  unfolding text
  text_sound at x w h =
      let ps = bind_ok (parts ts b (at + 1)) _ x h in
      let to = bind_ok (after ts kinds.TextEnd ps.0.1) _ x ps.2 in
      let z = after_is ts kinds.TextEnd ps.0.1 to.0 to.1 in
      gives (λ y end. IsAtom y at end) (Text (steps ps.0.0), to.0) x to.2 (λ k stop. ((ps.0.1, w, parts_sound ts b ih (at + 1) ps.0 ps.1, z.0, z.1), stop))

  -- ---- expressions of one token

  low_near : (l : Leaf) (k to : ℕ) → (l ≡ leaves.Static → ⊥) → Near ts 1 k to → Near ts (leaf_low l) k to
  low_near leaves.Static k to apart stop = absurd (apart refl)
  low_near l k to apart stop = stop

  -- at a token of this kind
  leaf_sound : (at : ℕ) (o : Option Leaf) (x : Form × ℕ) → leaf_of (kind_at ts at) ≡ o → (o ≡ Some leaves.Static → ⊥) → leaf ts b o (at + 1) ≡ Some x → IsAtom x.0 at x.1
  leaf_sound at None x e apart h = absurd (nothing_is x h)
  leaf_sound at (Some l) x e apart h =
      gives (λ y to. IsAtom y at to) (Single l, at + 1) x h (λ k stop. (e, refl, low_near l k (at + 1) (λ q. apart (ap (λ z. Some z) q)) stop))

  static_leaf_sound : (at : ℕ) (x : Form × ℕ) → Is ts at kinds.Static → 0 < J ts (at + 1) → leaf ts b (leaf_of kinds.Static) (at + 1) ≡ Some x → IsAtom x.0 at x.1
  static_leaf_sound at x w more h =
      gives (λ y to. IsAtom y at to) (Single leaves.Static, at + 1) x h (λ k stop. (ap leaf_of w, refl, λ least. stop more))

  static_sound : (at : ℕ) (x : Form × ℕ) → Is ts at kinds.Static → static_word ts b (at + 1) ≡ Some x → IsAlone x.0 at x.1
  unfolding static_word
  static_sound at x w h =
      elim (choose_is (after ts kinds.Function (at + 1)) _ _ _ h) [
        | inl e ↦ let a = after_is ts kinds.Function (at + 1) e.0 e.1 in
            inl (closure_sound true at (at + 1) x (w, refl) a.0 (subst (λ y. closure ts b true y ≡ Some x) a.1 e.2))
        | inr e ↦ elim (choose_is (after ts kinds.Fn (at + 1)) _ _ _ e.1) [
          | inl f ↦ let a = after_is ts kinds.Fn (at + 1) f.0 f.1 in
              inr (arrow_sound true at (at + 1) x (w, refl) a.0 (subst (λ y. arrow ts b true y ≡ Some x) a.1 f.2))
          | inr f ↦
              let more = no_function (kind_at ts (at + 1)) (kind_at ts (at + 1 + 1)) (after_none ts kinds.Fn (at + 1) (λ q. cc) f.0) (after_none ts kinds.Function (at + 1) (λ q. cc) e.0) in
              inl (static_leaf_sound at x w more f.1)
        ]
      ]

  not_static : (kind : TokenKind) → (kind ≡ kinds.Static → ⊥) → leaf_of kind ≡ Some leaves.Static → ⊥
  not_static kinds.Static apart h = apart refl
  not_static kind apart h = cc

  other_sound : (kind : TokenKind) (at : ℕ) (x : Form × ℕ) → (kind ≡ kinds.Static → ⊥) → kind_at ts at ≡ kind → leaf ts b (leaf_of kind) (at + 1) ≡ Some x → IsAtom x.0 at x.1
  other_sound kind at x apart w h = leaf_sound at (leaf_of kind) x (ap leaf_of w) (not_static kind apart) h

  -- ---- what stands alone

  pub form_by_sound : (kind : TokenKind) (at : ℕ) (x : Form × ℕ) → kind_at ts at ≡ kind → form_by ts b kind at ≡ Some x → IsAlone x.0 at x.1
  form_by_sound kinds.LeftParenthesis at x w h = inl (brackets_sound at x h)
  form_by_sound kinds.LeftBracket at x w h = inl (short_array_sound at x h)
  form_by_sound kinds.Array at x w h = inl (array_sound at x w h)
  form_by_sound kinds.List at x w h = inl (list_sound at x w h)
  form_by_sound kinds.IsSet at x w h = inl (is_set_sound at x w h)
  form_by_sound kinds.Empty at x w h = inl (empty_sound at x w h)
  form_by_sound kinds.Exit at x w h = inl (exit_sound at x (ap is_exit w) h)
  form_by_sound kinds.Die at x w h = inl (exit_sound at x (ap is_exit w) h)
  form_by_sound kinds.Match at x w h = inl (match_sound at x w h)
  form_by_sound kinds.Function at x w h = inl (closure_sound false at at x refl w h)
  form_by_sound kinds.Fn at x w h = inr (arrow_sound false at at x refl w h)
  form_by_sound kinds.Static at x w h = static_sound at x w h
  form_by_sound kinds.TextStart at x w h = inl (text_sound at x w h)
  form_by_sound kind at x w h = inl (other_sound kind at x (λ q. cc) w h)
