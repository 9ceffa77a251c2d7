-- Items, arguments and what is appended: of a greedy tree and of another one they are alike, or the greedy one's take more.
use Rattle.std.proofs.Common.{◌≡◌, ℕ, suc, ◌+◌, ◌≤◌, Bool, true, false, List, [], ◌∷◌, ◌++◌, Option, Some, refl, sym, ap, ap₂, subst, ◌∙◌, arith, ◌⊎◌, inl, inr, true≢false}
use Rattle.stan_model_grammar.specs.declared.operators.BinaryOperator.{BinaryOperator}
use Rattle.stan_model_grammar.specs.declared.operators.BinaryOperator.TheVariants as binaries
use Rattle.stan_model_grammar.specs.declared.token.Token.{Token}
use Rattle.stan_model_grammar.specs.declared.token.TokenKind.{TokenKind}
use Rattle.stan_model_grammar.specs.declared.token.TokenKind.TheVariants as kinds
use Rattle.stan_model_grammar.specs.Strata.{kind_at, loosest, binary_at, binary_size, binary_stratum, tighter, names_argument, names_member, is_part}
use Rattle.stan_model_grammar.specs.Trees.{Tree, Items, no_item, items, Item, Positional, Spread, Named, Element, KeyedElement, Parameter, Captured, Arm, DefaultArm, Default, no_default, default, Arguments, no_arguments, arguments, MemberName, NamedMember, ComputedMember, Steps, no_step, step, Step, Push, Index, Property, Scoped, Call, Increment, Decrement, Operation, Part, Inserted, Further}
use Rattle.stan_model_grammar.specs.Expressions.{ItemSort, argument, element, expression, parameter, captured, arm, StepSort, part, operation, further, IsSuffix, takes_arguments, arrow, Is, May, Between, Operates, Reads, Lists, ItemReads, Defaults, MayBeCalled, Members, Repeats, StepReads}
use Rattle.stan_model_grammar.specs.Takes.{may_size, visibility_size, may_type_size, size, items_size, arguments_size, steps_size, takes, items_take, item_takes, default_take, arguments_take, member_takes, steps_take, step_takes, More}
use Rattle.stan_expr_rules.proofs.InsideLemmas.{stands_kind, reads_inside, items_go, steps_go, step_inside, item_inside, may_goes, member_inside, arguments_go}
use Rattle.stan_expr_law.proofs.SizeLemmas.{reads_size, items_are_size, arguments_are_size, steps_are_size}
use Rattle.stan_expr_rules.proofs.Greedy.{Greedy, one_token}
use Rattle.stan_expr_law.proofs.Spelled.{Free}
use Rattle.stan_expr_takes.proofs.Cut.{longest_of, binary_some}
use Rattle.stan_expr_takes.proofs.TakesLists.{more_before, more_after, more_is, Best, best_map, best_cons, best_sized, same_then, best_then}
use Rattle.stan_expr_takes.proofs.TakesStarts.{clash, no_start, may_same}
use Rattle.stan_expr_takes.proofs.TakesKinds.{N, closes, follows, Closes, Follows, head_same, head_goes, item_unclosed, further_of, follow_after, other_not, part_of, step_mark, marked, operation_of}
use Rattle.stan_expr_takes.proofs.TakesEnds.{tree_ends_at, item_ends, further_ends, fenced_ends, reference_same, element_not_keyed, keyed_not_element, no_conditions, uncalled}

-- what equals parts of which this is known
best_eq : {A : Type 0} (f : A → List ℕ) (x y a b : A) (m n : ℕ) → x ≡ a → y ≡ b → Best a b m n (f a) (f b) → Best x y m n (f x) (f y)
best_eq {A} f x y a b m n p q h =
    let P : A → Type 0 = λ z. Best z b m n (f z) (f b) in
    let Q : A → Type 0 = λ z. Best x z m n (f x) (f z) in
    subst Q (sym q) (subst P (sym p) h)

abbrev with_key : Tree → Item → Item
with_key key (Element r e) = KeyedElement key r e
with_key key x = x

arrow_same : (m n : Bool) → arrow m ≡ arrow n → m ≡ n
arrow_same true true h = refl
arrow_same false false h = refl
arrow_same true false h = absurd cc
arrow_same false true h = absurd cc

pub some_same : {A : Type 0} (x : Option A) (a b : A) → x ≡ Some a → x ≡ Some b → a ≡ b
some_same {A} x a b h i = let e : (let s : A → Option A = Some in s a ≡ s b) = sym h ∙ i in cc

tighter_range : (o : BinaryOperator) → (5 ≤ tighter (binary_stratum o)) × (tighter (binary_stratum o) ≤ loosest)
tighter_range binaries.Elvis = (omega arith, omega arith)
tighter_range _ = (omega arith, omega arith)

module _ (ts : List Token) where
  -- a greedy tree of stratum k, over at most n tokens, takes the most
  abbrev pub Most : ℕ → Bool → ℕ → Type 0
  Most n p k = (g t : Tree) (at to end : ℕ) → Greedy ts p k g at to → Reads ts Free p k t at end → to ≤ n + at → Best g t to end (takes k g) (takes k t)

  abbrev pub All : ℕ → Type 0
  All n = (p : Bool) (k : ℕ) → 5 ≤ k → k ≤ loosest → Most n p k

  module _ (n : ℕ) (ih : All n) where
    -- a right side
    pub right_most : (p : Bool) (k : ℕ) (g t : Tree) (s r at to end : ℕ) → 5 ≤ k → k ≤ loosest → s + size t ≡ r + size g → Greedy ts p k g at to → Reads ts Free p k t at end → to ≤ n + at → Best g t to end (s ∷ takes k g) (r ∷ takes k t)
    right_most p k g t s r at to end lo hi q h i le =
        let x = reads_size ts (N ts) g p k at to h in
        let y = reads_size ts Free t p k at end i in
        let long = longest_of ts p k g t at to end lo hi h i in
        best_sized g t to end s r (takes k g) (takes k t) (omega (arith, x, y, long)) (λ e. ih p k lo hi g t at to end h i le)

    loose_most : (p : Bool) → Most n p loosest
    loose_most p = ih p loosest (omega arith) (omega arith)

    -- ---- what stands between two tokens

    pub enclosed_most : (opening closing : TokenKind) (e d : Tree) (at to end : ℕ) → Between ts opening (Greedy ts false loosest e) closing at to → Between ts opening (Reads ts Free false loosest d) closing at end → to ≤ suc n + at
        → Best e d to end (takes loosest e) (takes loosest d)
    enclosed_most opening closing e d at to end h i le =
        best_map (λ (z : Tree). z) e d h.0 i.0 to end (takes loosest e) (takes loosest d) (λ q. omega (arith, q, h.4, i.4)) (loose_most false e d (at + 1) h.0 i.0 h.2 i.2 (omega (arith, h.4)))

    enclosed_sized : (opening closing : TokenKind) (e d : Tree) (at to end : ℕ) → Between ts opening (Greedy ts false loosest e) closing at to → Between ts opening (Reads ts Free false loosest d) closing at end → to ≤ suc n + at
        → Best e d to end (size e ∷ takes loosest e) (size d ∷ takes loosest d)
    enclosed_sized opening closing e d at to end h i le =
        best_map (λ (z : Tree). z) e d h.0 i.0 to end (size e ∷ takes loosest e) (size d ∷ takes loosest d) (λ q. omega (arith, q, h.4, i.4))
        (right_most false loosest e d (size e) (size d) (at + 1) h.0 i.0 (omega arith) (omega arith) (omega arith) h.2 i.2 (omega (arith, h.4)))

    -- ---- items

    abbrev ItemMost : ItemSort → Type 0
    ItemMost sort = (x y : Item) (at to end : ℕ) → ItemReads ts (N ts) sort x at to → ItemReads ts Free sort y at end → Follows ts sort to → Follows ts sort end → to ≤ n + at → Best x y to end (item_takes x) (item_takes y)

    argument_most : ItemMost argument
    argument_most (Positional e) (Positional d) at to end h i f g le = best_map Positional e d to end to end (takes loosest e) (takes loosest d) (λ q. q) (loose_most false e d at to end h.1 i.1 le)
    argument_most (Positional e) (Spread d) at to end h i f g le = absurd (no_start ts (N ts) e false loosest at to kinds.Ellipsis h.1 i.0 refl)
    argument_most (Positional e) (Named t d) at to end h i f g le = absurd (h.0 i.2)
    argument_most (Positional e) y at to end h i f g le = absurd i
    argument_most (Spread e) (Spread d) at to end h i f g le = best_map Spread e d to end to end (takes loosest e) (takes loosest d) (λ q. q) (loose_most false e d (at + 1) to end h.1 i.1 (omega arith))
    argument_most (Spread e) (Positional d) at to end h i f g le = absurd (no_start ts Free d false loosest at end kinds.Ellipsis i.1 h.0 refl)
    argument_most (Spread e) (Named t d) at to end h i f g le = absurd (clash names_argument t.kind kinds.Ellipsis (sym (stands_kind ts at t i.0) ∙ h.0) i.1 refl)
    argument_most (Spread e) y at to end h i f g le = absurd i
    argument_most (Named t e) (Named u d) at to end h i f g le =
        same_then (λ (z : Token). []) Named t u e d to end (takes loosest e) (takes loosest d) (one_token ts at t u h.0 i.0) (loose_most false e d (at + 2) to end h.3 i.3 (omega arith))
    argument_most (Named t e) (Positional d) at to end h i f g le = absurd (i.0 h.2)
    argument_most (Named t e) (Spread d) at to end h i f g le = absurd (clash names_argument t.kind kinds.Ellipsis (sym (stands_kind ts at t h.0) ∙ i.0) h.1 refl)
    argument_most (Named t e) y at to end h i f g le = absurd i
    argument_most x y at to end h i f g le = absurd h

    expression_most : ItemMost expression
    expression_most (Positional e) (Positional d) at to end h i f g le = best_map Positional e d to end to end (takes loosest e) (takes loosest d) (λ q. q) (loose_most false e d at to end h i le)
    expression_most (Positional e) y at to end h i f g le = absurd i
    expression_most x y at to end h i f g le = absurd h

    -- a value, with `&` or without
    value_most : (r s : Bool) (e d : Tree) (at b c to end : ℕ) → May ts r kinds.Ampersand at b → May ts s kinds.Ampersand at c → Greedy ts true loosest e b to → Reads ts Free true loosest d c end → to ≤ n + at
        → Best (Element r e) (Element s d) to end (may_size r ∷ takes loosest e) (may_size s ∷ takes loosest d)
    value_most r s e d at b c to end h i p q le =
        let same = reference_same ts (N ts) Free r s e d at b c to end h i p q in
        let up = (may_goes ts r kinds.Ampersand (λ e. cc) at b h).0 in
        let P : ℕ → Type 0 = λ z. Reads ts Free true loosest d z end in
        same_then (λ (z : Bool). may_size z ∷ []) Element r s e d to end (takes loosest e) (takes loosest d) same.0 (loose_most true e d b to end p (subst P (sym same.1) q) (omega (arith, up)))

    element_most : ItemMost element
    element_most (Spread e) (Spread d) at to end h i f g le = best_map Spread e d to end to end (takes loosest e) (takes loosest d) (λ q. q) (loose_most false e d (at + 1) to end h.1 i.1 (omega arith))
    element_most (Spread e) (Element true d) at to end h i f g le = absurd (cc (h.0, i.1.0))
    element_most (Spread e) (Element false d) at to end h i f g le = let P : ℕ → Type 0 = λ z. Is ts z kinds.Ellipsis in absurd (no_start ts Free d true loosest i.0 end kinds.Ellipsis i.2 (subst P i.1 h.0) refl)
    element_most (Spread e) (KeyedElement key s d) at to end h i f g le = absurd (no_start ts Free key false loosest at i.0 kinds.Ellipsis i.2 h.0 refl)
    element_most (Spread e) y at to end h i f g le = absurd i
    element_most (Element true e) (Spread d) at to end h i f g le = absurd (cc (h.1.0, i.0))
    element_most (Element false e) (Spread d) at to end h i f g le = let P : ℕ → Type 0 = λ z. Is ts z kinds.Ellipsis in absurd (no_start ts (N ts) e true loosest h.0 to kinds.Ellipsis h.2 (subst P h.1 i.0) refl)
    element_most (Element r e) (Element s d) at to end h i f g le =
        best_cons (Element r e) (Element s d) to end 0 0 (may_size r ∷ takes loosest e) (may_size s ∷ takes loosest d) refl (value_most r s e d at h.0 i.0 to end h.1 i.1 h.2 i.2 le)
    element_most (Element r e) (KeyedElement key s d) at to end h i f g le = absurd (element_not_keyed ts r e key at h.0 to i.0 h.1 h.2 i.2 i.3 f)
    element_most (Element r e) y at to end h i f g le = absurd i
    element_most (KeyedElement key r e) (Spread d) at to end h i f g le = absurd (no_start ts (N ts) key false loosest at h.0 kinds.Ellipsis h.2 i.0 refl)
    element_most (KeyedElement key r e) (Element s d) at to end h i f g le = absurd (keyed_not_element ts s key d at i.0 h.0 end i.1 h.2 h.3 i.2 g)
    element_most (KeyedElement key r e) (KeyedElement other s d) at to end h i f g le =
        let first = tree_ends_at ts false key other kinds.DoubleArrow at h.0 i.0 h.2 i.2 i.3 refl in
        let x = reads_size ts (N ts) key false loosest at h.0 h.2 in
        let y = reads_size ts Free other false loosest at i.0 i.2 in
        let up = (may_goes ts r kinds.Ampersand (λ e. cc) (h.0 + 1) h.1 h.4).0 in
        let more = (reads_inside ts (N ts) e true loosest h.1 to h.5).0 in
        let P : ℕ → Type 0 = λ z. May ts s kinds.Ampersand (z + 1) i.1 in
        let us = may_size r ∷ takes loosest e in
        let vs = may_size s ∷ takes loosest d in
        best_cons (KeyedElement key r e) (KeyedElement other s d) to end (size key + 1) (size other + 1) (takes loosest key ++ us) (takes loosest other ++ vs) (omega (arith, first, x, y))
        (best_then (takes loosest) with_key key other (Element r e) (Element s d) h.0 i.0 to end us vs
        (loose_most false key other at h.0 i.0 h.2 i.2 (omega (arith, up, more)))
        (λ p q. value_most r s e d (h.0 + 1) h.1 i.1 to end h.4 (subst P (sym q) i.4) h.5 i.5 (omega (arith, x))))
    element_most (KeyedElement key r e) y at to end h i f g le = absurd i
    element_most x y at to end h i f g le = absurd h

    default_most : (x y : Default) (at to end : ℕ) → Defaults ts (N ts) x at to → Defaults ts Free y at end → Follows ts parameter to → Follows ts parameter end → to ≤ n + at → Best x y to end (default_take x) (default_take y)
    default_most no_default no_default at to end h i f g le = inl (refl, sym h ∙ i)
    default_most no_default (default d) at to end h i f g le = let P : ℕ → Type 0 = λ z. Follows ts parameter z in absurd (true≢false (sym (subst P (sym h) f) ∙ ap (follows parameter) i.0))
    default_most (default e) no_default at to end h i f g le = inr (inl (omega arith))
    default_most (default e) (default d) at to end h i f g le =
        best_map default e d to end to end ((size e + 1) ∷ takes loosest e) ((size d + 1) ∷ takes loosest d) (λ q. q) (right_most false loosest e d (size e + 1) (size d + 1) (at + 1) to end (omega arith) (omega arith) (omega arith) h.1 i.1 (omega arith))

    parameter_most : ItemMost parameter
    parameter_most (Parameter w type r v t value) (Parameter u kind s z x other) at to end h i f g le =
        let same = head_same ts w u type kind r s v z t x at h.0 h.1 h.2 h.3 i.0 i.1 i.2 i.3 (h.4, h.5, h.6, h.7, h.8, h.9) (i.4, i.5, i.6, i.7, i.8, i.9) in
        let P : ℕ → Type 0 = λ y. Defaults ts Free other (y + 1) end in
        let up = head_goes ts w type r v t at h.0 h.1 h.2 h.3 (h.4, h.5, h.6, h.7, h.8, h.9) in
        elim (default_most value other (h.3 + 1) to end h.10 (subst P (sym same.5) i.10) f g (omega (arith, up))) [
          | inl rest ↦ inl (cc (same.0, same.1, same.2, same.3, same.4, rest.0), rest.1)
          | inr m ↦ inr (inr (ap visibility_size same.0, inr (ap may_type_size same.1, inr (ap may_size same.2, inr (ap may_size same.3, m)))))
        ]
    parameter_most (Parameter w type r v t value) y at to end h i f g le = absurd i
    parameter_most x y at to end h i f g le = absurd h

    captured_most : ItemMost captured
    captured_most (Captured t) (Captured u) at to end h i f g le = inl (ap Captured (one_token ts at t u h.0 i.0), h.2 ∙ sym i.2)
    captured_most (Captured t) y at to end h i f g le = absurd i
    captured_most x y at to end h i f g le = absurd h

    -- ---- lists

    module _ (sort : ItemSort) (item : ItemMost sort) where
      further_most : (xs ys : Steps) (c d : Bool) (at b e to end : ℕ) → Repeats ts (N ts) (further sort) xs at b → Repeats ts Free (further sort) ys at e → May ts c kinds.Comma b to → May ts d kinds.Comma e end → Closes ts sort to → Closes ts sort end → b ≤ n + at
          → (xs ≡ ys) ⊎ More (steps_take xs) (steps_take ys)
      further_most no_step no_step c d at b e to end h i p q f g le = inl refl
      further_most no_step (step y ys) c d at b e to end h i p q f g le =
          let r = further_ends ts sort no_step (step y ys) c d at b e to end h i p q f g in
          let s = step_inside ts Free y (further sort) at i.0 i.1 in
          let t = steps_go ts Free ys (further sort) i.0 e i.2 in
          absurd (omega (arith, r.0, h, s.0, t.0))
      further_most (step x xs) no_step c d at b e to end h i p q f g le =
          let r = further_ends ts sort (step x xs) no_step c d at b e to end h i p q f g in
          let s = step_inside ts (N ts) x (further sort) at h.0 h.1 in
          let t = steps_go ts (N ts) xs (further sort) h.0 b h.2 in
          absurd (omega (arith, r.0, i, s.0, t.0))
      further_most (step x xs) (step y ys) c d at b e to end h i p q f g le =
          let v = further_of ts (N ts) sort x at h.0 h.1 in
          let w = further_of ts Free sort y at i.0 i.1 in
          let s = step_inside ts (N ts) x (further sort) at h.0 h.1 in
          let t = steps_go ts (N ts) xs (further sort) h.0 b h.2 in
          elim (item v.0 w.0 (at + 1) h.0 i.0 v.3 w.3 (follow_after ts (N ts) sort xs c h.0 b to h.2 p f) (follow_after ts Free sort ys d i.0 e end i.2 q g) (omega (arith, t.0))) [
            | inl same ↦
                let P : ℕ → Type 0 = λ z. Repeats ts Free (further sort) ys z e in
                let first : x ≡ y = v.1 ∙ ap Further same.0 ∙ sym w.1 in
                elim (further_most xs ys c d h.0 b e to end h.2 (subst P (sym same.1) i.2) p q f g (omega (arith, s.0))) [
                  | inl rest ↦ inl (ap₂ step first rest)
                  | inr m ↦ inr (more_after (step_takes x) (step_takes y) (steps_take xs) (steps_take ys) (ap step_takes first) m)
                ]
            | inr m ↦ inr (more_before (step_takes x) (step_takes y) (steps_take xs) (steps_take ys) (more_is (step_takes x) (step_takes y) (item_takes v.0) (item_takes w.0) (ap step_takes v.1) (ap step_takes w.1) m))
          ]

      list_most_by : (es ds : Items) (at to end : ℕ) → Lists ts (N ts) sort es at to → Lists ts Free sort ds at end → Closes ts sort to → Closes ts sort end → to ≤ n + at → Best es ds to end (items_take es) (items_take ds)
      list_most_by no_item no_item at to end h i f g le = inl (refl, sym h ∙ i)
      list_most_by no_item (items y ys d) at to end h i f g le = let P : ℕ → Type 0 = λ z. Closes ts sort z in absurd (item_unclosed ts Free sort y at i.0 i.2 (subst P (sym h) f))
      list_most_by (items x xs c) no_item at to end h i f g le = let P : ℕ → Type 0 = λ z. Closes ts sort z in absurd (item_unclosed ts (N ts) sort x at h.0 h.2 (subst P (sym i) g))
      list_most_by (items x xs c) (items y ys d) at to end h i f g le =
          let fx = follow_after ts (N ts) sort xs c h.0 h.1 to h.3 h.4 f in
          let fy = follow_after ts Free sort ys d i.0 i.1 end i.3 i.4 g in
          let m = item_ends ts sort x y at h.0 i.0 h.2 i.2 fx fy in
          let P : ℕ → Type 0 = λ z. Repeats ts Free (further sort) ys z i.1 in
          let moved = subst P (sym m) i.3 in
          let r = further_ends ts sort xs ys c d h.0 h.1 i.1 to end h.3 moved h.4 i.4 f g in
          let s = item_inside ts (N ts) x sort at h.0 h.2 in
          let t = steps_go ts (N ts) xs (further sort) h.0 h.1 h.3 in
          let u = may_goes ts c kinds.Comma (λ e. cc) h.1 to h.4 in
          let whole : items_size (items x xs c) ≡ items_size (items y ys d) = omega (arith, r.2, items_are_size ts (N ts) (items x xs c) sort at to h, items_are_size ts Free (items y ys d) sort at end i) in
          let rest : steps_size xs ≡ steps_size ys = omega (arith, r.0, steps_are_size ts (N ts) xs (further sort) h.0 h.1 h.3, steps_are_size ts Free ys (further sort) h.0 i.1 moved) in
          let us = steps_size xs ∷ (steps_take xs ++ (may_size c ∷ [])) in
          let vs = steps_size ys ∷ (steps_take ys ++ (may_size d ∷ [])) in
          elim (item x y at h.0 i.0 h.2 i.2 fx fy (omega (arith, t.0, u.0))) [
            | inl same ↦ elim (further_most xs ys c d h.0 h.1 i.1 to end h.3 moved h.4 i.4 f g (omega (arith, u.0, s.0))) [
              | inl alike ↦ inl (cc (same.0, alike, r.1), r.2)
              | inr more ↦ inr (inr (whole, more_after (item_takes x) (item_takes y) us vs (ap item_takes same.0) (inr (rest, more_before (steps_take xs) (steps_take ys) (may_size c ∷ []) (may_size d ∷ []) more))))
            ]
            | inr more ↦ inr (inr (whole, more_before (item_takes x) (item_takes y) us vs more))
          ]

    arm_most : ItemMost arm
    arm_most (Arm es e) (Arm ds d) at to end h i f g le =
        let up = (items_go ts (N ts) es expression at h.0 h.2).0 in
        let more = (reads_inside ts (N ts) e false loosest (h.0 + 1) to h.4).0 in
        let P : ℕ → Type 0 = λ z. Reads ts Free false loosest d (z + 1) end in
        best_then items_take Arm es ds e d h.0 i.0 to end (size e ∷ takes loosest e) (size d ∷ takes loosest d)
        (list_most_by expression expression_most es ds at h.0 i.0 h.2 i.2 (ap (closes expression) h.3) (ap (closes expression) i.3) (omega (arith, more)))
        (λ p q. right_most false loosest e d (size e) (size d) (h.0 + 1) to end (omega arith) (omega arith) (omega arith) h.4 (subst P (sym q) i.4) (omega (arith, up)))
    arm_most (Arm es e) (DefaultArm c d) at to end h i f g le = absurd (no_conditions ts (N ts) es at h.0 h.1 h.2 i.1)
    arm_most (Arm es e) y at to end h i f g le = absurd i
    arm_most (DefaultArm c e) (Arm ds d) at to end h i f g le = absurd (no_conditions ts Free ds at i.0 i.1 i.2 h.1)
    arm_most (DefaultArm c e) (DefaultArm b d) at to end h i f g le =
        let same = may_same ts c b kinds.Comma (at + 1) h.0 i.0 h.2 i.2 (λ k. cc (k, h.3)) (λ k. cc (k, i.3)) in
        let up = (may_goes ts c kinds.Comma (λ e. cc) (at + 1) h.0 h.2).0 in
        let P : ℕ → Type 0 = λ z. Reads ts Free false loosest d (z + 1) end in
        same_then (λ (z : Bool). may_size z ∷ []) DefaultArm c b e d to end (size e ∷ takes loosest e) (size d ∷ takes loosest d) same.0
        (right_most false loosest e d (size e) (size d) (h.0 + 1) to end (omega arith) (omega arith) (omega arith) h.4 (subst P (sym same.1) i.4) (omega (arith, up)))
    arm_most (DefaultArm c e) y at to end h i f g le = absurd i
    arm_most x y at to end h i f g le = absurd h

    item_most : (sort : ItemSort) → ItemMost sort
    item_most argument = argument_most
    item_most element = element_most
    item_most expression = expression_most
    item_most parameter = parameter_most
    item_most captured = captured_most
    item_most arm = arm_most

    pub list_most : (sort : ItemSort) (es ds : Items) (at to end : ℕ) → Lists ts (N ts) sort es at to → Lists ts Free sort ds at end → Closes ts sort to → Closes ts sort end → to ≤ n + at → Best es ds to end (items_take es) (items_take ds)
    list_most sort = list_most_by sort (item_most sort)

    pub fenced_most : (sort : ItemSort) (opening closing : TokenKind) → closes sort closing ≡ true → (es ds : Items) (at to end : ℕ)
        → Between ts opening (Lists ts (N ts) sort es) closing at to → Between ts opening (Lists ts Free sort ds) closing at end → to ≤ suc n + at → Best es ds to end (items_take es) (items_take ds)
    fenced_most sort opening closing shut es ds at to end h i le =
        best_map (λ (z : Items). z) es ds h.0 i.0 to end (items_take es) (items_take ds) (λ q. omega (arith, q, h.4, i.4))
        (list_most sort es ds (at + 1) h.0 i.0 h.2 i.2 (ap (closes sort) h.3 ∙ shut) (ap (closes sort) i.3 ∙ shut) (omega (arith, h.4)))

    -- ---- what is appended

    member_most : (x y : MemberName) (at to end : ℕ) → Members ts (N ts) x at to → Members ts Free y at end → to ≤ suc n + at → Best x y to end (member_takes x) (member_takes y)
    member_most (NamedMember t) (NamedMember u) at to end h i le = inl (ap NamedMember (one_token ts at t u h.0 i.0), h.2 ∙ sym i.2)
    member_most (NamedMember t) (ComputedMember d) at to end h i le = absurd (clash names_member t.kind kinds.LeftBrace (sym (stands_kind ts at t h.0) ∙ i.1) h.1 refl)
    member_most (ComputedMember e) (NamedMember u) at to end h i le = absurd (clash names_member u.kind kinds.LeftBrace (sym (stands_kind ts at u i.0) ∙ h.1) i.1 refl)
    member_most (ComputedMember e) (ComputedMember d) at to end h i le =
        best_map ComputedMember e d to end to end (takes loosest e) (takes loosest d) (λ q. q) (enclosed_most kinds.LeftBrace kinds.RightBrace e d at to end h i le)

    pub arguments_most : (callable : Bool) (x y : Arguments) (at to end : ℕ) → MayBeCalled ts (N ts) callable x at to → MayBeCalled ts Free callable y at end → to ≤ suc n + at → Best x y to end (arguments_take x) (arguments_take y)
    arguments_most callable no_arguments no_arguments at to end h i le = inl (refl, sym h.0 ∙ i.0)
    arguments_most callable no_arguments (arguments ds) at to end h i le = let P : ℕ → Type 0 = λ z. Is ts z kinds.LeftParenthesis in absurd (uncalled ts callable to i.0 h.1 (subst P h.0 i.1.1))
    arguments_most callable (arguments es) no_arguments at to end h i le = inr (inl (omega arith))
    arguments_most callable (arguments es) (arguments ds) at to end h i le =
        let e = fenced_ends ts argument kinds.LeftParenthesis kinds.RightParenthesis refl es ds at to end h.1 i.1 in
        let x = arguments_are_size ts (N ts) (arguments es) callable at to h in
        let y = arguments_are_size ts Free (arguments ds) callable at end i in
        best_map arguments es ds to end to end (arguments_size (arguments es) ∷ items_take es) (arguments_size (arguments ds) ∷ items_take ds) (λ q. q)
        (best_cons es ds to end (arguments_size (arguments es)) (arguments_size (arguments ds)) (items_take es) (items_take ds) (omega (arith, e, x, y))
        (fenced_most argument kinds.LeftParenthesis kinds.RightParenthesis refl es ds at to end h.1 i.1 le))

    property_most : (sort : StepSort) (m : Bool) (x y : MemberName) (es ds : Arguments) (at b c : ℕ) → StepReads ts (N ts) sort (Property m x es) at b → StepReads ts Free sort (Property m y ds) at c → b ≤ suc n + at
        → Best (Property m x es) (Property m y ds) b c (member_takes x ++ arguments_take es) (member_takes y ++ arguments_take ds)
    property_most sort m x y es ds at b c h i le =
        let g = (arguments_go ts (N ts) es (takes_arguments sort) h.0 b h.4).0 in
        let r = (member_inside ts (N ts) x (at + 1) h.0 h.3).0 in
        let P : ℕ → Type 0 = λ z. MayBeCalled ts Free (takes_arguments sort) ds z c in
        best_then member_takes (Property m) x y es ds h.0 i.0 b c (arguments_take es) (arguments_take ds)
        (member_most x y (at + 1) h.0 i.0 h.3 i.3 (omega (arith, g)))
        (λ p q. arguments_most (takes_arguments sort) es ds h.0 b c h.4 (subst P (sym q) i.4) (omega (arith, r)))

    suffix_most : (sort : StepSort) (x y : Step) (at b c : ℕ) → IsSuffix sort → StepReads ts (N ts) sort x at b → StepReads ts Free sort y at c → step_mark x ≡ step_mark y → b ≤ suc n + at → Best x y b c (step_takes x) (step_takes y)
    suffix_most sort Push Push at b c s h i e le = inl (refl, h.3 ∙ sym i.3)
    suffix_most sort Push (Index d) at b c s h i e le = absurd (no_start ts Free d false loosest (at + 1) i.1.0 kinds.RightBracket i.1.2 h.2 refl)
    suffix_most sort (Index e) Push at b c s h i q le = absurd (no_start ts (N ts) e false loosest (at + 1) h.1.0 kinds.RightBracket h.1.2 i.2 refl)
    suffix_most sort (Index e) (Index d) at b c s h i q le =
        best_map Index e d b c b c (size e ∷ takes loosest e) (size d ∷ takes loosest d) (λ q. q) (enclosed_sized kinds.LeftBracket kinds.RightBracket e d at b c h.1 i.1 le)
    suffix_most sort (Property m x es) (Property k y ds) at b c s h i e le =
        let same = arrow_same m k (sym h.2 ∙ i.2) in
        let P : Bool → Type 0 = λ z. StepReads ts Free sort (Property z y ds) at c in
        let Q : Bool → Type 0 = λ z. Best (Property m x es) (Property z y ds) b c (member_takes x ++ arguments_take es) (member_takes y ++ arguments_take ds) in
        subst Q same (property_most sort m x y es ds at b c h (subst P (sym same) i) le)
    suffix_most sort (Scoped t es) (Scoped u ds) at b c s h i e le =
        same_then (λ (z : Token). []) Scoped t u es ds b c (arguments_take es) (arguments_take ds) (one_token ts (at + 1) t u h.2 i.2) (arguments_most (takes_arguments sort) es ds (at + 2) b c h.3 i.3 (omega arith))
    suffix_most sort (Call es) (Call ds) at b c s h i e le = best_map Call es ds b c b c (items_take es) (items_take ds) (λ q. q) (fenced_most argument kinds.LeftParenthesis kinds.RightParenthesis refl es ds at b c h.1 i.1 le)
    suffix_most sort Increment Increment at b c s h i e le = inl (refl, h.2 ∙ sym i.2)
    suffix_most sort Decrement Decrement at b c s h i e le = inl (refl, h.2 ∙ sym i.2)
    suffix_most sort (Operation sign o e) y at b c s h i q le = absurd (other_not ts (N ts) sort (Operation sign o e) at b s h refl)
    suffix_most sort (Part t) y at b c s h i q le = absurd (other_not ts (N ts) sort (Part t) at b s h refl)
    suffix_most sort (Inserted e) y at b c s h i q le = absurd (other_not ts (N ts) sort (Inserted e) at b s h refl)
    suffix_most sort (Further x) y at b c s h i q le = absurd (other_not ts (N ts) sort (Further x) at b s h refl)
    suffix_most sort x y at b c s h i e le = absurd (omega arith)

    -- ---- repeated parts

    -- lists of parts of which each is alike or takes more, up to one end
    pub steps_most : (sort : StepSort) (m : ℕ) → ((x y : Step) (at b c : ℕ) → StepReads ts (N ts) sort x at b → StepReads ts Free sort y at c → b ≤ m + at → Best x y b c (step_takes x) (step_takes y))
        → (ss rs : Steps) (at to end : ℕ) → Repeats ts (N ts) sort ss at to → Repeats ts Free sort rs at end → to ≡ end → to ≤ m + at → (ss ≡ rs) ⊎ More (steps_take ss) (steps_take rs)
    steps_most sort m each no_step no_step at to end h i q le = inl refl
    steps_most sort m each no_step (step y ys) at to end h i q le =
        let s = step_inside ts Free y sort at i.0 i.1 in
        let t = steps_go ts Free ys sort i.0 end i.2 in
        absurd (omega (arith, h, q, s.0, t.0))
    steps_most sort m each (step x xs) no_step at to end h i q le =
        let s = step_inside ts (N ts) x sort at h.0 h.1 in
        let t = steps_go ts (N ts) xs sort h.0 to h.2 in
        absurd (omega (arith, i, q, s.0, t.0))
    steps_most sort m each (step x xs) (step y ys) at to end h i q le =
        let s = step_inside ts (N ts) x sort at h.0 h.1 in
        let t = steps_go ts (N ts) xs sort h.0 to h.2 in
        elim (each x y at h.0 i.0 h.1 i.1 (omega (arith, t.0))) [
          | inl same ↦
              let P : ℕ → Type 0 = λ z. Repeats ts Free sort ys z end in
              elim (steps_most sort m each xs ys h.0 to end h.2 (subst P (sym same.1) i.2) q (omega (arith, s.0))) [
                | inl rest ↦ inl (ap₂ step same.0 rest)
                | inr more ↦ inr (more_after (step_takes x) (step_takes y) (steps_take xs) (steps_take ys) (ap step_takes same.0) more)
              ]
          | inr more ↦ inr (more_before (step_takes x) (step_takes y) (steps_take xs) (steps_take ys) more)
        ]

    pub suffixes_most : (sort : StepSort) → IsSuffix sort → (ss rs : Steps) (at to end : ℕ) → Repeats ts (N ts) sort ss at to → Repeats ts Free sort rs at end → to ≡ end → to ≤ suc n + at → (ss ≡ rs) ⊎ More (steps_take ss) (steps_take rs)
    suffixes_most sort s = steps_most sort (suc n) (λ x y at b c h i le. suffix_most sort x y at b c s h i (marked ts (N ts) sort x at b s h ∙ sym (marked ts Free sort y at c s i)) le)

    part_most : (x y : Step) (at b c : ℕ) → StepReads ts (N ts) part x at b → StepReads ts Free part y at c → b ≤ suc n + at → Best x y b c (step_takes x) (step_takes y)
    part_most x y at b c h i le = elim (part_of ts (N ts) x at b h) [
      | inl v ↦ elim (part_of ts Free y at c i) [
        | inl w ↦ best_eq step_takes x y (Part v.0) (Part w.0) b c v.1 w.1 (inl (ap Part (one_token ts at v.0 w.0 v.2 w.2), v.4 ∙ sym w.4))
        | inr w ↦ absurd (clash is_part v.0.kind kinds.InsertionStart (sym (stands_kind ts at v.0 v.2) ∙ w.2.1) v.3 refl)
      ]
      | inr v ↦ elim (part_of ts Free y at c i) [
        | inl w ↦ absurd (clash is_part w.0.kind kinds.InsertionStart (sym (stands_kind ts at w.0 w.2) ∙ v.2.1) w.3 refl)
        | inr w ↦ best_eq step_takes x y (Inserted v.0) (Inserted w.0) b c v.1 w.1
            (best_map Inserted v.0 w.0 b c b c (takes loosest v.0) (takes loosest w.0) (λ q. q) (enclosed_most kinds.InsertionStart kinds.InsertionEnd v.0 w.0 at b c v.2 w.2 le))
      ]
    ]

    pub parts_most : (ss rs : Steps) (at to end : ℕ) → Repeats ts (N ts) part ss at to → Repeats ts Free part rs at end → to ≡ end → to ≤ suc n + at → (ss ≡ rs) ⊎ More (steps_take ss) (steps_take rs)
    parts_most = steps_most part (suc n) part_most

    -- ---- operators with their operands

    operand_most : (j : ℕ) (s t : Token) (o p : BinaryOperator) (e d : Tree) (at m k b c : ℕ) → Operates ts s o at m → Operates ts t p at k → Greedy ts false (tighter (binary_stratum o)) e m b → Reads ts Free false (tighter (binary_stratum p)) d k c → b ≤ suc n + at
        → Best (Operation s o e) (Operation t p d) b c (takes (tighter (binary_stratum o)) e) (takes (tighter (binary_stratum p)) d)
    operand_most j s t o p e d at m k b c f g h i le =
        let same = some_same (binary_at (kind_at ts at) (kind_at ts (at + 1))) o p f.0 g.0 in
        let P : BinaryOperator → Type 0 = λ z. Reads ts Free false (tighter (binary_stratum z)) d k c in
        let place : k ≡ m = omega (arith, f.1, g.1, ap binary_size same) in
        let Q : ℕ → Type 0 = λ z. Reads ts Free false (tighter (binary_stratum o)) d z c in
        let moved = subst Q place (subst P (sym same) i) in
        let sign = one_token ts at s t f.2 g.2 in
        let S : Token → Type 0 = λ z. Best (Operation s o e) (Operation z p d) b c (takes (tighter (binary_stratum o)) e) (takes (tighter (binary_stratum p)) d) in
        let R : BinaryOperator → Type 0 = λ z. Best (Operation s o e) (Operation s z d) b c (takes (tighter (binary_stratum o)) e) (takes (tighter (binary_stratum z)) d) in
        let range = tighter_range o in
        let some = binary_some o in
        subst S sign (subst R same (best_map (Operation s o) e d b c b c (takes (tighter (binary_stratum o)) e) (takes (tighter (binary_stratum o)) d) (λ q. q)
        (ih false (tighter (binary_stratum o)) range.0 range.1 e d m b c h moved (omega (arith, f.1, some)))))

    operation_most : (j : ℕ) (x y : Step) (at b c : ℕ) → StepReads ts (N ts) (operation j) x at b → StepReads ts Free (operation j) y at c → b ≤ suc n + at → Best x y b c (step_takes x) (step_takes y)
    operation_most j x y at b c h i le =
        let v = operation_of ts (N ts) j x at b h in
        let w = operation_of ts Free j y at c i in
        best_eq step_takes x y (Operation v.0 v.1 v.2) (Operation w.0 w.1 w.2) b c v.4 w.4 (operand_most j v.0 w.0 v.1 w.1 v.2 w.2 at v.3 w.3 b c v.6 w.6 v.7 w.7 le)

    pub operations_most : (j : ℕ) (ss rs : Steps) (at to end : ℕ) → Repeats ts (N ts) (operation j) ss at to → Repeats ts Free (operation j) rs at end → to ≡ end → to ≤ suc n + at → (ss ≡ rs) ⊎ More (steps_take ss) (steps_take rs)
    operations_most j = steps_most (operation j) (suc n) (operation_most j)
