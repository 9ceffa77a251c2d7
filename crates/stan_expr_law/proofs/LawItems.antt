-- What stands between brackets: there each expression is followed by an end, so that a greedy one spells it.
use Rattle.std.proofs.Common.{◌≡◌, ℕ, ◌+◌, ◌≤◌, Bool, true, false, ◌||◌, IsTrue, List, [], refl, sym, ap, subst, ◌∙◌, arith, true≢false}
use Rattle.stan_model_grammar.specs.declared.operators.ArrayStyle.TheVariants as styles
use Rattle.stan_model_grammar.specs.declared.token.Token.{Token}
use Rattle.stan_model_grammar.specs.declared.token.TokenKind.{TokenKind}
use Rattle.stan_model_grammar.specs.declared.token.TokenKind.TheVariants as kinds
use Rattle.stan_model_grammar.specs.Strata.{loosest, is_end}
use Rattle.stan_model_grammar.specs.Trees.{Tree, node, Array, Items, no_item, items, Item, Positional, Spread, Named, Element, KeyedElement, Parameter, Captured, Arm, DefaultArm, Default, no_default, default, MemberName, NamedMember, ComputedMember, Steps, no_step, step, Step, Push, Index, Property, Scoped, Call, Increment, Decrement, Operation, Part, Inserted, Further, is_pattern, holds_pattern, is_pattern_item, further_pattern}
use Rattle.stan_model_grammar.specs.Expressions.{ItemSort, argument, element, expression, parameter, captured, arm, part, further, has_items, IsSomeItem, Is, May, MayCapture, Reads, Lists, ItemReads, Defaults, Members, Repeats, StepReads, IsEnd}
use Rattle.stan_expr_rules.proofs.InsideLemmas.{reads_inside, item_inside, items_go, steps_go, may_goes, visibility_goes, may_type_goes}
use Rattle.stan_expr_rules.proofs.Greedy.{Near, Greedy, plain, plain_of}
use Rattle.stan_expr_law.proofs.Spelled.{Free}
use Rattle.stan_expr_law.proofs.Levels.{no_level, led_over, end_joins, Law}
use Rattle.stan_expr_rules.proofs.Choices.{not_true}

or_same : (a b c d : Bool) → a ≡ b → c ≡ d → (a || c) ≡ (b || d)
or_same a b c d e f = ap (λ y. y || c) e ∙ ap (λ y. b || y) f

abbrev is_further : Step → Bool
is_further (Further x) = true
is_further _ = false

abbrev is_part_step : Step → Bool
is_part_step (Part t) = true
is_part_step (Inserted e) = true
is_part_step _ = false

pub some_items : (es gs : Items) → has_items gs ≡ has_items es → IsSomeItem es → IsSomeItem gs
some_items no_item gs e h = absurd h
some_items (items x xs comma) no_item e h = absurd (true≢false (sym e))
some_items (items x xs comma) (items y ys more) e h = tt

module _ (ts : List Token) where
  pub ends_by : (kind : TokenKind) (to : ℕ) → Is ts to kind → IsTrue (is_end kind) → IsEnd ts to
  ends_by kind to h e = let P : TokenKind → Type 0 = λ y. IsTrue (is_end y) in subst P (sym h) e

  ends_at : (at to : ℕ) → at ≡ to → IsEnd ts to → IsEnd ts at
  ends_at at to h e = let P : ℕ → Type 0 = λ y. IsEnd ts y in subst P (sym h) e

  pub no_further : (x : Step) (sort : ItemSort) (at to : ℕ) → is_further x ≡ false → StepReads ts Free (further sort) x at to → ⊥
  no_further Push sort at to e h = h.0
  no_further (Index x) sort at to e h = h.0
  no_further (Property nullsafe name es) sort at to e h = h.1
  no_further (Scoped t es) sort at to e h = true≢false (sym h.0)
  no_further (Call es) sort at to e h = h.0
  no_further Increment sort at to e h = h.0
  no_further Decrement sort at to e h = h.0
  no_further (Operation sign o x) sort at to e h = h.1
  no_further (Part t) sort at to e h = h.0
  no_further (Inserted x) sort at to e h = h.0
  no_further (Further x) sort at to e h = true≢false e

  no_part : (x : Step) (at to : ℕ) → is_part_step x ≡ false → StepReads ts Free part x at to → ⊥
  no_part Push at to e h = h.0
  no_part (Index x) at to e h = h.0
  no_part (Property nullsafe name es) at to e h = h.1
  no_part (Scoped t es) at to e h = true≢false (sym h.0)
  no_part (Call es) at to e h = h.0
  no_part Increment at to e h = h.0
  no_part Decrement at to e h = h.0
  no_part (Operation sign o x) at to e h = h.1
  no_part (Part t) at to e h = true≢false e
  no_part (Inserted x) at to e h = true≢false e
  no_part (Further x) at to e h = h

  furthers_end : (xs : Steps) (sort : ItemSort) (at to : ℕ) → Repeats ts Free (further sort) xs at to → IsEnd ts to → IsEnd ts at
  furthers_end no_step sort at to h e = ends_at at to h e
  furthers_end (step (Further x) xs) sort at to h e = ends_by kinds.Comma at h.1.0 refl
  furthers_end (step x xs) sort at to h e = absurd (no_further x sort at h.0 refl h.1)

  may_end : (comma : Bool) (at to : ℕ) → May ts comma kinds.Comma at to → IsEnd ts to → IsEnd ts at
  may_end true at to h e = ends_by kinds.Comma at h.0 refl
  may_end false at to h e = ends_at at to h e

  module _ (n : ℕ) (law : Law ts n) where
    -- an expression up to an end
    pub exact : (t : Tree) (at to : ℕ) → Reads ts Free false loosest t at to → IsEnd ts to → to ≤ n + at → (g : Tree) × Greedy ts false loosest g at to
    exact t at to h e le =
        let p = law loosest at to to no_level t (omega arith) (omega arith) h ([], refl) e le in
        let P : ℕ → Type 0 = λ y. Greedy ts false loosest p.0 at y in
        (p.0, subst P (led_over ts p.1 to p.3) p.2)

    abbrev Valued : Tree → ℕ → ℕ → Type 0
    Valued t at to = (g : Tree) × Greedy ts true loosest g at to × (is_pattern g ≡ is_pattern t)

    -- a value that is no pattern
    value_plain : (t : Tree) (at to : ℕ) → is_pattern t ≡ false → Reads ts Free false loosest t at to → IsEnd ts to → to ≤ n + at → Valued t at to
    value_plain t at to still h e le =
        let g = exact t at to h e le in
        let q = not_true (is_pattern g.0) (plain_of ts loosest g.0 at to g.1) in
        (g.0, plain ts false true loosest g.0 at to q g.1, q ∙ sym still)

    abbrev pub PickedItems : ItemSort → Items → ℕ → ℕ → Type 0
    PickedItems sort es at to = (gs : Items) × Lists ts (Near ts) sort gs at to × (holds_pattern gs ≡ holds_pattern es) × (has_items gs ≡ has_items es)

    pub default_picked : (value : Default) (at to : ℕ) → Defaults ts Free value at to → IsEnd ts to → to ≤ n + at → (g : Default) × Defaults ts (Near ts) g at to
    default_picked no_default at to h e le = (no_default, h)
    default_picked (default x) at to h e le = let g = exact x (at + 1) to h.1 e (omega arith) in (default g.0, (h.0, g.1))

    mutual
      value_picked : (t : Tree) (at to : ℕ) → Reads ts Free true loosest t at to → IsEnd ts to → to ≤ n + at → Valued t at to
      value_picked (node t (Array styles.Brackets es)) at to h e le =
          let b = h.1.1 in
          let r = items_picked es element (at + 1) b.0 b.2 (ends_by kinds.RightBracket b.0 b.3 refl) (omega (arith, b.4)) in
          let j = end_joins ts to e in
          (node t (Array styles.Brackets r.0), (h.0, (λ q. refl, (b.0, b.1, r.1, b.3, b.4), λ q. omega (arith, j))), r.2)
      value_picked (node t (Array styles.Array es)) at to h e le =
          let b = h.1.2 in
          let r = items_picked es element (at + 1 + 1) b.0 b.2 (ends_by kinds.RightParenthesis b.0 b.3 refl) (omega (arith, b.4)) in
          let j = end_joins ts to e in
          (node t (Array styles.Array r.0), (h.0, (λ q. refl, h.1.1, (b.0, b.1, r.1, b.3, b.4), λ q. omega (arith, j))), r.2)
      value_picked (node t (Array styles.List es)) at to h e le =
          let b = h.1.2 in
          let r = items_picked es element (at + 1 + 1) b.0 b.2 (ends_by kinds.RightParenthesis b.0 b.3 refl) (omega (arith, b.4)) in
          let j = end_joins ts to e in
          (node t (Array styles.List r.0), (h.0, (refl, h.1.1, (b.0, b.1, r.1, b.3, b.4), λ q. omega (arith, j))), refl)
      value_picked (node t f) at to h e le = value_plain (node t f) at to refl h e le

      pub items_picked : (es : Items) (sort : ItemSort) (at to : ℕ) → Lists ts Free sort es at to → IsEnd ts to → to ≤ n + at → PickedItems sort es at to
      items_picked no_item sort at to h e le = (no_item, h, refl, refl)
      items_picked (items x xs comma) sort at to h e le =
          let last = may_end comma h.1 to h.4 e in
          let i = item_inside ts Free x sort at h.0 h.2 in
          let j = steps_go ts Free xs (further sort) h.0 h.1 h.3 in
          let c = may_goes ts comma kinds.Comma (λ q. cc) h.1 to h.4 in
          let g = item_picked x sort at h.0 h.2 (furthers_end xs sort h.0 h.1 h.3 last) (omega (arith, j.0, c.0)) in
          let gs = furthers_picked xs sort h.0 h.1 h.3 last (omega (arith, i.0, c.0)) in
          (items g.0 gs.0 comma, (h.0, h.1, g.1, gs.1, h.4), or_same (is_pattern_item g.0) (is_pattern_item x) (further_pattern gs.0) (further_pattern xs) g.2 gs.2, refl)

      item_picked : (x : Item) (sort : ItemSort) (at to : ℕ) → ItemReads ts Free sort x at to → IsEnd ts to → to ≤ n + at
          → (g : Item) × ItemReads ts (Near ts) sort g at to × (is_pattern_item g ≡ is_pattern_item x)
      item_picked (Positional x) argument at to h e le = let g = exact x at to h.1 e le in (Positional g.0, (h.0, g.1), refl)
      item_picked (Positional x) expression at to h e le = let g = exact x at to h e le in (Positional g.0, g.1, refl)
      item_picked (Spread x) argument at to h e le = let g = exact x (at + 1) to h.1 e (omega arith) in (Spread g.0, (h.0, g.1), refl)
      item_picked (Spread x) element at to h e le = let g = exact x (at + 1) to h.1 e (omega arith) in (Spread g.0, (h.0, g.1), refl)
      item_picked (Named t x) argument at to h e le = let g = exact x (at + 2) to h.3 e (omega arith) in (Named t g.0, (h.0, h.1, h.2, g.1), refl)
      item_picked (Element reference x) element at to h e le =
          let c = may_goes ts reference kinds.Ampersand (λ q. cc) at h.0 h.1 in
          let g = value_picked x h.0 to h.2 e (omega (arith, c.0)) in
          (Element reference g.0, (h.0, h.1, g.1), g.2)
      item_picked (KeyedElement key reference x) element at to h e le =
          let r = reads_inside ts Free key false loosest at h.0 h.2 in
          let c = may_goes ts reference kinds.Ampersand (λ q. cc) (h.0 + 1) h.1 h.4 in
          let i = reads_inside ts Free x true loosest h.1 to h.5 in
          let k = exact key at h.0 h.2 (ends_by kinds.DoubleArrow h.0 h.3 refl) (omega (arith, c.0, i.0)) in
          let g = value_picked x h.1 to h.5 e (omega (arith, c.0, r.0)) in
          (KeyedElement k.0 reference g.0, (h.0, h.1, k.1, h.3, h.4, g.1), g.2)
      item_picked (Parameter visibility type reference variadic t value) parameter at to h e le =
          let a = visibility_goes ts visibility at h.0 h.4 in
          let b = may_type_goes ts type h.0 h.1 h.5 in
          let c = may_goes ts reference kinds.Ampersand (λ q. cc) h.1 h.2 h.6 in
          let d = may_goes ts variadic kinds.Ellipsis (λ q. cc) h.2 h.3 h.7 in
          let g = default_picked value (h.3 + 1) to h.10 e (omega (arith, a.0, b.0, c.0, d.0)) in
          (Parameter visibility type reference variadic t g.0, (h.0, h.1, h.2, h.3, h.4, h.5, h.6, h.7, h.8, h.9, g.1), refl)
      item_picked (Captured t) captured at to h e le = (Captured t, h, refl)
      item_picked (Arm conditions x) arm at to h e le =
          let r = items_go ts Free conditions expression at h.0 h.2 in
          let i = reads_inside ts Free x false loosest (h.0 + 1) to h.4 in
          let gs = items_picked conditions expression at h.0 h.2 (ends_by kinds.DoubleArrow h.0 h.3 refl) (omega (arith, i.0)) in
          let g = exact x (h.0 + 1) to h.4 e (omega (arith, r.0)) in
          (Arm gs.0 g.0, (h.0, some_items conditions gs.0 gs.3 h.1, gs.1, h.3, g.1), refl)
      item_picked (DefaultArm comma x) arm at to h e le =
          let c = may_goes ts comma kinds.Comma (λ q. cc) (at + 1) h.0 h.2 in
          let g = exact x (h.0 + 1) to h.4 e (omega (arith, c.0)) in
          (DefaultArm comma g.0, (h.0, h.1, h.2, h.3, g.1), refl)
      item_picked x sort at to h e le = absurd h

      furthers_picked : (xs : Steps) (sort : ItemSort) (at to : ℕ) → Repeats ts Free (further sort) xs at to → IsEnd ts to → to ≤ n + at
          → (gs : Steps) × Repeats ts (Near ts) (further sort) gs at to × (further_pattern gs ≡ further_pattern xs)
      furthers_picked no_step sort at to h e le = (no_step, h, refl)
      furthers_picked (step (Further x) xs) sort at to h e le =
          let i = item_inside ts Free x sort (at + 1) h.0 h.1.1 in
          let j = steps_go ts Free xs (further sort) h.0 to h.2 in
          let g = item_picked x sort (at + 1) h.0 h.1.1 (furthers_end xs sort h.0 to h.2 e) (omega (arith, j.0)) in
          let gs = furthers_picked xs sort h.0 to h.2 e (omega (arith, i.0)) in
          (step (Further g.0) gs.0, (h.0, (h.1.0, g.1), gs.1), or_same (is_pattern_item g.0) (is_pattern_item x) (further_pattern gs.0) (further_pattern xs) g.2 gs.2)
      furthers_picked (step x xs) sort at to h e le = absurd (no_further x sort at h.0 refl h.1)

    -- the parts of a text
    pub parts_picked : (ss : Steps) (at to : ℕ) → Repeats ts Free part ss at to → to ≤ n + at → (gs : Steps) × Repeats ts (Near ts) part gs at to
    parts_picked no_step at to h le = (no_step, h)
    parts_picked (step (Part t) ss) at to h le =
        let r = parts_picked ss h.0 to h.2 (omega (arith, h.1.3)) in
        (step (Part t) r.0, (h.0, h.1, r.1))
    parts_picked (step (Inserted x) ss) at to h le =
        let b = h.1.1 in
        let i = steps_go ts Free ss part h.0 to h.2 in
        let j = reads_inside ts Free x false loosest (at + 1) b.0 b.2 in
        let g = exact x (at + 1) b.0 b.2 (ends_by kinds.InsertionEnd b.0 b.3 refl) (omega (arith, b.4, i.0)) in
        let r = parts_picked ss h.0 to h.2 (omega (arith, b.4, j.0)) in
        (step (Inserted g.0) r.0, (h.0, (tt, (b.0, b.1, g.1, b.3, b.4)), r.1))
    parts_picked (step x ss) at to h le = absurd (no_part x at h.0 refl h.1)

    pub member_picked : (name : MemberName) (at to : ℕ) → Members ts Free name at to → to ≤ n + at → (g : MemberName) × Members ts (Near ts) g at to
    member_picked (NamedMember t) at to h le = (NamedMember t, h)
    member_picked (ComputedMember x) at to h le =
        let g = exact x (at + 1) h.0 h.2 (ends_by kinds.RightBrace h.0 h.3 refl) (omega (arith, h.4)) in
        (ComputedMember g.0, (h.0, h.1, g.1, h.3, h.4))

    -- the captured variables, which stand in brackets if there are some
    pub captures_picked : (es : Items) (at to : ℕ) → MayCapture ts (has_items es) (Lists ts Free captured es) at to → to ≤ n + at
        → (gs : Items) × MayCapture ts (has_items gs) (Lists ts (Near ts) captured gs) at to
    captures_picked no_item at to h le = (no_item, h)
    captures_picked (items x xs comma) at to h le =
        let b = h.1 in
        let r = items_picked (items x xs comma) captured (at + 1 + 1) b.0 b.2 (ends_by kinds.RightParenthesis b.0 b.3 refl) (omega (arith, b.4)) in
        let P : Bool → Type 0 = λ y. MayCapture ts y (Lists ts (Near ts) captured r.0) at to in
        (r.0, subst P (sym r.3) (h.0, (b.0, b.1, r.1, b.3, b.4)))
