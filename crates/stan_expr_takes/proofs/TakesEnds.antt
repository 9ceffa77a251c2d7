-- Where items, lists and what is appended end: at one place, or behind the place where another tree ends.
use Rattle.std.proofs.Common.{◌≡◌, ℕ, ◌+◌, ◌≤◌, Bool, true, false, IsTrue, List, refl, sym, ap, subst, ◌∙◌, arith, ◌⊎◌, inl, inr, true≢false}
use Rattle.stan_model_grammar.specs.declared.token.Token.{Token}
use Rattle.stan_model_grammar.specs.declared.token.TokenKind.{TokenKind}
use Rattle.stan_model_grammar.specs.declared.token.TokenKind.TheVariants as kinds
use Rattle.stan_model_grammar.specs.Strata.{kind_at, loosest, joins, names_argument, names_member, is_part, is_end}
use Rattle.stan_model_grammar.specs.Trees.{Tree, Items, no_item, items, Item, Positional, Spread, Named, Element, KeyedElement, Parameter, Captured, Arm, DefaultArm, Default, no_default, default, Arguments, no_arguments, arguments, MemberName, NamedMember, ComputedMember, Steps, no_step, step, Step, Push, Index, Property, Scoped, Call, Increment, Decrement, Operation, Part, Inserted, Further}
use Rattle.stan_model_grammar.specs.Expressions.{ItemSort, argument, element, expression, parameter, captured, arm, StepSort, part, further, IsSuffix, IsSomeItem, takes_arguments, Is, May, Between, Reads, Lists, ItemReads, Defaults, MayBeCalled, Members, Repeats, StepReads, IsEnd}
use Rattle.stan_expr_rules.proofs.InsideLemmas.{stands_kind, items_go, steps_go}
use Rattle.stan_expr_rules.proofs.Greedy.{J, Greedy}
use Rattle.stan_expr_law.proofs.Spelled.{Free}
use Rattle.stan_expr_takes.proofs.Cut.{exact_end}
use Rattle.stan_expr_takes.proofs.TakesStarts.{clash, no_start, raised, may_same}
use Rattle.stan_expr_takes.proofs.TakesKinds.{N, closes, follows, Closes, Follows, head_same, uncomma, item_unclosed, further_of, follow_after, follows_end, other_not, marked, mark, step_mark, part_of, part_begins}

module _ (ts : List Token) where
  -- one end of each item
  abbrev pub ItemEnds : ItemSort → Type 0
  ItemEnds sort = (x y : Item) (at to end : ℕ) → ItemReads ts (N ts) sort x at to → ItemReads ts Free sort y at end → Follows ts sort to → Follows ts sort end → to ≡ end

  module _ (sort : ItemSort) (ends : ItemEnds sort) where
    further_ends_by : (xs ys : Steps) (c d : Bool) (at b e to end : ℕ) → Repeats ts (N ts) (further sort) xs at b → Repeats ts Free (further sort) ys at e → May ts c kinds.Comma b to → May ts d kinds.Comma e end → Closes ts sort to → Closes ts sort end
        → (b ≡ e) × (c ≡ d) × (to ≡ end)
    further_ends_by no_step no_step c d at b e to end h i p q f g =
        let P : ℕ → Type 0 = λ z. May ts d kinds.Comma z end in
        let same : b ≡ e = sym h ∙ i in
        let r = may_same ts c d kinds.Comma b to end p (subst P (sym same) q) (uncomma ts sort to f) (uncomma ts sort end g) in
        (same, r.0, r.1)
    further_ends_by no_step (step y ys) true d at b e to end h i p q f g =
        let v = further_of ts Free sort y at i.0 i.1 in
        let P : ℕ → Type 0 = λ z. Closes ts sort z in
        let m : to ≡ at + 1 = omega (arith, p.1, h) in
        absurd (item_unclosed ts Free sort v.0 (at + 1) i.0 v.3 (subst P m f))
    further_ends_by no_step (step y ys) false d at b e to end h i p q f g =
        let v = further_of ts Free sort y at i.0 i.1 in
        let P : ℕ → Type 0 = λ z. Closes ts sort z in
        absurd (uncomma ts sort at (subst P (sym (h ∙ p)) f) v.2)
    further_ends_by (step x xs) no_step c true at b e to end h i p q f g =
        let v = further_of ts (N ts) sort x at h.0 h.1 in
        let P : ℕ → Type 0 = λ z. Closes ts sort z in
        let m : end ≡ at + 1 = omega (arith, q.1, i) in
        absurd (item_unclosed ts (N ts) sort v.0 (at + 1) h.0 v.3 (subst P m g))
    further_ends_by (step x xs) no_step c false at b e to end h i p q f g =
        let v = further_of ts (N ts) sort x at h.0 h.1 in
        let P : ℕ → Type 0 = λ z. Closes ts sort z in
        absurd (uncomma ts sort at (subst P (sym (i ∙ q)) g) v.2)
    further_ends_by (step x xs) (step y ys) c d at b e to end h i p q f g =
        let v = further_of ts (N ts) sort x at h.0 h.1 in
        let w = further_of ts Free sort y at i.0 i.1 in
        let m = ends v.0 w.0 (at + 1) h.0 i.0 v.3 w.3 (follow_after ts (N ts) sort xs c h.0 b to h.2 p f) (follow_after ts Free sort ys d i.0 e end i.2 q g) in
        let P : ℕ → Type 0 = λ z. Repeats ts Free (further sort) ys z e in
        further_ends_by xs ys c d h.0 b e to end h.2 (subst P (sym m) i.2) p q f g

    list_ends_by : (es ds : Items) (at to end : ℕ) → Lists ts (N ts) sort es at to → Lists ts Free sort ds at end → Closes ts sort to → Closes ts sort end → to ≡ end
    list_ends_by no_item no_item at to end h i f g = sym h ∙ i
    list_ends_by no_item (items y ys d) at to end h i f g = let P : ℕ → Type 0 = λ z. Closes ts sort z in absurd (item_unclosed ts Free sort y at i.0 i.2 (subst P (sym h) f))
    list_ends_by (items x xs c) no_item at to end h i f g = let P : ℕ → Type 0 = λ z. Closes ts sort z in absurd (item_unclosed ts (N ts) sort x at h.0 h.2 (subst P (sym i) g))
    list_ends_by (items x xs c) (items y ys d) at to end h i f g =
        let m = ends x y at h.0 i.0 h.2 i.2 (follow_after ts (N ts) sort xs c h.0 h.1 to h.3 h.4 f) (follow_after ts Free sort ys d i.0 i.1 end i.3 i.4 g) in
        let P : ℕ → Type 0 = λ z. Repeats ts Free (further sort) ys z i.1 in
        (further_ends_by xs ys c d h.0 h.1 i.1 to end h.3 (subst P (sym m) i.3) h.4 i.4 f g).2

  pub tree_ends : (p : Bool) (e d : Tree) (at to end : ℕ) → Greedy ts p loosest e at to → Reads ts Free p loosest d at end → IsEnd ts end → to ≡ end
  tree_ends p e d at to end h i f = exact_end ts p loosest e d at to end (omega arith) (omega arith) h i f

  pub tree_ends_at : (p : Bool) (e d : Tree) (kind : TokenKind) (at to end : ℕ) → Greedy ts p loosest e at to → Reads ts Free p loosest d at end → Is ts end kind → IsTrue (is_end kind) → to ≡ end
  tree_ends_at p e d kind at to end h i k f = tree_ends p e d at to end h i (ap is_end k ∙ f)

  -- what follows items is an end
  ends_after : (sort : ItemSort) (at : ℕ) → Follows ts sort at → IsEnd ts at
  ends_after sort at f = follows_end sort (kind_at ts at) f

  expression_ends : ItemEnds expression
  expression_ends (Positional e) (Positional d) at to end h i f g = tree_ends false e d at to end h i (ends_after expression end g)
  expression_ends (Positional e) y at to end h i f g = absurd i
  expression_ends x y at to end h i f g = absurd h

  argument_ends : ItemEnds argument
  argument_ends (Positional e) (Positional d) at to end h i f g = tree_ends false e d at to end h.1 i.1 (ends_after argument end g)
  argument_ends (Positional e) (Spread d) at to end h i f g = absurd (no_start ts (N ts) e false loosest at to kinds.Ellipsis h.1 i.0 refl)
  argument_ends (Positional e) (Named t d) at to end h i f g = absurd (h.0 i.2)
  argument_ends (Positional e) y at to end h i f g = absurd i
  argument_ends (Spread e) (Spread d) at to end h i f g = tree_ends false e d (at + 1) to end h.1 i.1 (ends_after argument end g)
  argument_ends (Spread e) (Positional d) at to end h i f g = absurd (no_start ts Free d false loosest at end kinds.Ellipsis i.1 h.0 refl)
  argument_ends (Spread e) (Named t d) at to end h i f g = absurd (clash names_argument t.kind kinds.Ellipsis (sym (stands_kind ts at t i.0) ∙ h.0) i.1 refl)
  argument_ends (Spread e) y at to end h i f g = absurd i
  argument_ends (Named t e) (Named u d) at to end h i f g = tree_ends false e d (at + 2) to end h.3 i.3 (ends_after argument end g)
  argument_ends (Named t e) (Positional d) at to end h i f g = absurd (i.0 h.2)
  argument_ends (Named t e) (Spread d) at to end h i f g = absurd (clash names_argument t.kind kinds.Ellipsis (sym (stands_kind ts at t h.0) ∙ i.0) h.1 refl)
  argument_ends (Named t e) y at to end h i f g = absurd i
  argument_ends x y at to end h i f g = absurd h

  -- `&` before a value
  pub reference_same : (S R : ℕ → ℕ → ℕ → Type 0) (r s : Bool) (e d : Tree) (at b c to end : ℕ) → May ts r kinds.Ampersand at b → May ts s kinds.Ampersand at c → Reads ts S true loosest e b to → Reads ts R true loosest d c end → (r ≡ s) × (b ≡ c)
  reference_same S R r s e d at b c to end h i p q = may_same ts r s kinds.Ampersand at b c h i (λ k. no_start ts S e true loosest b to kinds.Ampersand p k refl) (λ k. no_start ts R d true loosest c end kinds.Ampersand q k refl)

  -- an element without a key begins no key
  pub unkeyed : (S : ℕ → ℕ → ℕ → Type 0) (r : Bool) (key : Tree) (at b a : ℕ) → May ts r kinds.Ampersand at b → Reads ts S false loosest key at a → at ≡ b
  unkeyed S true key at b a h i = absurd (no_start ts S key false loosest at a kinds.Ampersand i h.0 refl)
  unkeyed S false key at b a h i = h

  pub element_not_keyed : (r : Bool) (e key : Tree) (at b to a : ℕ) → May ts r kinds.Ampersand at b → Greedy ts true loosest e b to → Reads ts Free false loosest key at a → Is ts a kinds.DoubleArrow → Follows ts element to → ⊥
  element_not_keyed r e key at b to a m h i k f =
      let P : ℕ → Type 0 = λ z. Greedy ts true loosest e z to in
      let same = tree_ends_at true e key kinds.DoubleArrow at to a (subst P (sym (unkeyed Free r key at b a m i)) h) (raised ts Free true loosest key at a i) k refl in
      let Q : ℕ → Type 0 = λ z. Is ts z kinds.DoubleArrow in
      true≢false (sym f ∙ ap (follows element) (subst Q (sym same) k))

  pub keyed_not_element : (s : Bool) (key d : Tree) (at b a end : ℕ) → May ts s kinds.Ampersand at b → Greedy ts false loosest key at a → Is ts a kinds.DoubleArrow → Reads ts Free true loosest d b end → Follows ts element end → ⊥
  keyed_not_element s key d at b a end m h k i g =
      let P : ℕ → Type 0 = λ z. Reads ts Free true loosest d z end in
      let same = tree_ends true key d at a end (raised ts (N ts) true loosest key at a h) (subst P (sym (unkeyed (N ts) s key at b a m h)) i) (ends_after element end g) in
      let Q : ℕ → Type 0 = λ z. Is ts z kinds.DoubleArrow in
      true≢false (sym g ∙ ap (follows element) (subst Q same k))

  element_ends : ItemEnds element
  element_ends (Spread e) (Spread d) at to end h i f g = tree_ends false e d (at + 1) to end h.1 i.1 (ends_after element end g)
  element_ends (Spread e) (Element true d) at to end h i f g = absurd (cc (h.0, i.1.0))
  element_ends (Spread e) (Element false d) at to end h i f g = let P : ℕ → Type 0 = λ z. Is ts z kinds.Ellipsis in absurd (no_start ts Free d true loosest i.0 end kinds.Ellipsis i.2 (subst P i.1 h.0) refl)
  element_ends (Spread e) (KeyedElement key s d) at to end h i f g = absurd (no_start ts Free key false loosest at i.0 kinds.Ellipsis i.2 h.0 refl)
  element_ends (Spread e) y at to end h i f g = absurd i
  element_ends (Element true e) (Spread d) at to end h i f g = absurd (cc (h.1.0, i.0))
  element_ends (Element false e) (Spread d) at to end h i f g = let P : ℕ → Type 0 = λ z. Is ts z kinds.Ellipsis in absurd (no_start ts (N ts) e true loosest h.0 to kinds.Ellipsis h.2 (subst P h.1 i.0) refl)
  element_ends (Element r e) (Element s d) at to end h i f g =
      let same = reference_same (N ts) Free r s e d at h.0 i.0 to end h.1 i.1 h.2 i.2 in
      let P : ℕ → Type 0 = λ z. Reads ts Free true loosest d z end in
      tree_ends true e d h.0 to end h.2 (subst P (sym same.1) i.2) (ends_after element end g)
  element_ends (Element r e) (KeyedElement key s d) at to end h i f g = absurd (element_not_keyed r e key at h.0 to i.0 h.1 h.2 i.2 i.3 f)
  element_ends (Element r e) y at to end h i f g = absurd i
  element_ends (KeyedElement key r e) (Spread d) at to end h i f g = absurd (no_start ts (N ts) key false loosest at h.0 kinds.Ellipsis h.2 i.0 refl)
  element_ends (KeyedElement key r e) (Element s d) at to end h i f g = absurd (keyed_not_element s key d at i.0 h.0 end i.1 h.2 h.3 i.2 g)
  element_ends (KeyedElement key r e) (KeyedElement other s d) at to end h i f g =
      let first = tree_ends_at false key other kinds.DoubleArrow at h.0 i.0 h.2 i.2 i.3 refl in
      let P : ℕ → Type 0 = λ z. May ts s kinds.Ampersand (z + 1) i.1 in
      let same = reference_same (N ts) Free r s e d (h.0 + 1) h.1 i.1 to end h.4 (subst P (sym first) i.4) h.5 i.5 in
      let Q : ℕ → Type 0 = λ z. Reads ts Free true loosest d z end in
      tree_ends true e d h.1 to end h.5 (subst Q (sym same.1) i.5) (ends_after element end g)
  element_ends (KeyedElement key r e) y at to end h i f g = absurd i
  element_ends x y at to end h i f g = absurd h

  default_ends : (x y : Default) (at to end : ℕ) → Defaults ts (N ts) x at to → Defaults ts Free y at end → Follows ts parameter to → Follows ts parameter end → to ≡ end
  default_ends no_default no_default at to end h i f g = sym h ∙ i
  default_ends no_default (default d) at to end h i f g = let P : ℕ → Type 0 = λ z. Follows ts parameter z in absurd (true≢false (sym (subst P (sym h) f) ∙ ap (follows parameter) i.0))
  default_ends (default e) no_default at to end h i f g = let P : ℕ → Type 0 = λ z. Follows ts parameter z in absurd (true≢false (sym (subst P (sym i) g) ∙ ap (follows parameter) h.0))
  default_ends (default e) (default d) at to end h i f g = tree_ends false e d (at + 1) to end h.1 i.1 (ends_after parameter end g)

  parameter_ends : ItemEnds parameter
  parameter_ends (Parameter w type r v t value) (Parameter u kind s z x other) at to end h i f g =
      let same = head_same ts w u type kind r s v z t x at h.0 h.1 h.2 h.3 i.0 i.1 i.2 i.3 (h.4, h.5, h.6, h.7, h.8, h.9) (i.4, i.5, i.6, i.7, i.8, i.9) in
      let P : ℕ → Type 0 = λ y. Defaults ts Free other (y + 1) end in
      default_ends value other (h.3 + 1) to end h.10 (subst P (sym same.5) i.10) f g
  parameter_ends (Parameter w type r v t value) y at to end h i f g = absurd i
  parameter_ends x y at to end h i f g = absurd h

  captured_ends : ItemEnds captured
  captured_ends (Captured t) (Captured u) at to end h i f g = h.2 ∙ sym i.2
  captured_ends (Captured t) y at to end h i f g = absurd i
  captured_ends x y at to end h i f g = absurd h

  -- conditions do not begin with `default`
  pub no_conditions : (S : ℕ → ℕ → ℕ → Type 0) (es : Items) (at to : ℕ) → IsSomeItem es → Lists ts S expression es at to → kind_at ts at ≡ kinds.Default → ⊥
  no_conditions S no_item at to some h e = some
  no_conditions S (items (Positional x) xs comma) at to some h e = no_start ts S x false loosest at h.0 kinds.Default h.2 e refl
  no_conditions S (items x xs comma) at to some h e = h.2

  -- conditions up to their arrow
  pub condition_ends : (es ds : Items) (at to end : ℕ) → Lists ts (N ts) expression es at to → Lists ts Free expression ds at end → Is ts to kinds.DoubleArrow → Is ts end kinds.DoubleArrow → to ≡ end
  condition_ends es ds at to end h i f g = list_ends_by expression expression_ends es ds at to end h i (ap (closes expression) f) (ap (closes expression) g)

  arm_ends : ItemEnds arm
  arm_ends (Arm es e) (Arm ds d) at to end h i f g =
      let same = condition_ends es ds at h.0 i.0 h.2 i.2 h.3 i.3 in
      let P : ℕ → Type 0 = λ z. Reads ts Free false loosest d (z + 1) end in
      tree_ends false e d (h.0 + 1) to end h.4 (subst P (sym same) i.4) (ends_after arm end g)
  arm_ends (Arm es e) (DefaultArm c d) at to end h i f g = absurd (no_conditions (N ts) es at h.0 h.1 h.2 i.1)
  arm_ends (Arm es e) y at to end h i f g = absurd i
  arm_ends (DefaultArm c e) (Arm ds d) at to end h i f g = absurd (no_conditions Free ds at i.0 i.1 i.2 h.1)
  arm_ends (DefaultArm c e) (DefaultArm b d) at to end h i f g =
      let same = may_same ts c b kinds.Comma (at + 1) h.0 i.0 h.2 i.2 (λ k. cc (k, h.3)) (λ k. cc (k, i.3)) in
      let P : ℕ → Type 0 = λ z. Reads ts Free false loosest d (z + 1) end in
      tree_ends false e d (h.0 + 1) to end h.4 (subst P (sym same.1) i.4) (ends_after arm end g)
  arm_ends (DefaultArm c e) y at to end h i f g = absurd i
  arm_ends x y at to end h i f g = absurd h

  pub item_ends : (sort : ItemSort) → ItemEnds sort
  item_ends argument = argument_ends
  item_ends element = element_ends
  item_ends expression = expression_ends
  item_ends parameter = parameter_ends
  item_ends captured = captured_ends
  item_ends arm = arm_ends

  pub further_ends : (sort : ItemSort) (xs ys : Steps) (c d : Bool) (at b e to end : ℕ) → Repeats ts (N ts) (further sort) xs at b → Repeats ts Free (further sort) ys at e → May ts c kinds.Comma b to → May ts d kinds.Comma e end → Closes ts sort to → Closes ts sort end
      → (b ≡ e) × (c ≡ d) × (to ≡ end)
  further_ends sort = further_ends_by sort (item_ends sort)

  -- a list ends where each other list ends
  pub list_ends : (sort : ItemSort) (es ds : Items) (at to end : ℕ) → Lists ts (N ts) sort es at to → Lists ts Free sort ds at end → Closes ts sort to → Closes ts sort end → to ≡ end
  list_ends sort = list_ends_by sort (item_ends sort)

  -- in brackets
  pub fenced_ends : (sort : ItemSort) (opening closing : TokenKind) → closes sort closing ≡ true → (es ds : Items) (at to end : ℕ)
      → Between ts opening (Lists ts (N ts) sort es) closing at to → Between ts opening (Lists ts Free sort ds) closing at end → (to ≡ end)
  fenced_ends sort opening closing shut es ds at to end h i =
      let e = list_ends sort es ds (at + 1) h.0 i.0 h.2 i.2 (ap (closes sort) h.3 ∙ shut) (ap (closes sort) i.3 ∙ shut) in
      omega (arith, e, h.4, i.4)

  pub enclosed_ends : (opening closing : TokenKind) → IsTrue (is_end closing) → (e d : Tree) (at to end : ℕ)
      → Between ts opening (Greedy ts false loosest e) closing at to → Between ts opening (Reads ts Free false loosest d) closing at end → to ≡ end
  enclosed_ends opening closing shut e d at to end h i =
      let e = tree_ends_at false e d closing (at + 1) h.0 i.0 h.2 i.2 i.3 shut in
      omega (arith, e, h.4, i.4)

  -- ---- what is appended

  member_ends : (x y : MemberName) (at to end : ℕ) → Members ts (N ts) x at to → Members ts Free y at end → to ≡ end
  member_ends (NamedMember t) (NamedMember u) at to end h i = h.2 ∙ sym i.2
  member_ends (NamedMember t) (ComputedMember d) at to end h i = absurd (clash names_member t.kind kinds.LeftBrace (sym (stands_kind ts at t h.0) ∙ i.1) h.1 refl)
  member_ends (ComputedMember e) (NamedMember u) at to end h i = absurd (clash names_member u.kind kinds.LeftBrace (sym (stands_kind ts at u i.0) ∙ h.1) i.1 refl)
  member_ends (ComputedMember e) (ComputedMember d) at to end h i = enclosed_ends kinds.LeftBrace kinds.RightBrace refl e d at to end h i

  -- the arguments of one tree, which another tree leaves out
  abbrev pub Called : ℕ → ℕ → Type 0
  Called at to = (z : Items) × Between ts kinds.LeftParenthesis (Lists ts (N ts) argument z) kinds.RightParenthesis at to

  -- what can be called and is not is followed by no bracket
  pub uncalled : (callable : Bool) (at : ℕ) → callable ≡ true → (callable ≡ true → (N ts) 1 1 at) → Is ts at kinds.LeftParenthesis → ⊥
  uncalled callable at c near e =
      let j : J ts at ≡ 1 = ap (λ z. joins z (kind_at ts (at + 1))) e in
      let far = near c (omega (arith, j)) in
      omega (arith, far, j)

  call_meet : (callable : Bool) (x y : Arguments) (at to end : ℕ) → MayBeCalled ts (N ts) callable x at to → MayBeCalled ts Free callable y at end → (to ≡ end) ⊎ Called end to
  call_meet callable no_arguments no_arguments at to end h i = inl (sym h.0 ∙ i.0)
  call_meet callable no_arguments (arguments ds) at to end h i = let P : ℕ → Type 0 = λ z. Is ts z kinds.LeftParenthesis in absurd (uncalled callable to i.0 h.1 (subst P h.0 i.1.1))
  call_meet callable (arguments es) no_arguments at to end h i = let P : ℕ → Type 0 = λ z. Called z to in inr (subst P i.0 (es, h.1))
  call_meet callable (arguments es) (arguments ds) at to end h i = inl (fenced_ends argument kinds.LeftParenthesis kinds.RightParenthesis refl es ds at to end h.1 i.1)

  step_meet : (sort : StepSort) (x y : Step) (at b c : ℕ) → IsSuffix sort → StepReads ts (N ts) sort x at b → StepReads ts Free sort y at c → step_mark x ≡ step_mark y → (b ≡ c) ⊎ Called c b
  step_meet sort Push Push at b c s h i e = inl (h.3 ∙ sym i.3)
  step_meet sort Push (Index d) at b c s h i e = absurd (no_start ts Free d false loosest (at + 1) i.1.0 kinds.RightBracket i.1.2 h.2 refl)
  step_meet sort (Index e) Push at b c s h i q = absurd (no_start ts (N ts) e false loosest (at + 1) h.1.0 kinds.RightBracket h.1.2 i.2 refl)
  step_meet sort (Index e) (Index d) at b c s h i q = inl (enclosed_ends kinds.LeftBracket kinds.RightBracket refl e d at b c h.1 i.1)
  step_meet sort (Property n x es) (Property m y ds) at b c s h i e =
      let same = member_ends x y (at + 1) h.0 i.0 h.3 i.3 in
      let P : ℕ → Type 0 = λ z. MayBeCalled ts Free (takes_arguments sort) ds z c in
      call_meet (takes_arguments sort) es ds h.0 b c h.4 (subst P (sym same) i.4)
  step_meet sort (Scoped t es) (Scoped u ds) at b c s h i e = call_meet (takes_arguments sort) es ds (at + 2) b c h.3 i.3
  step_meet sort (Call es) (Call ds) at b c s h i e = inl (fenced_ends argument kinds.LeftParenthesis kinds.RightParenthesis refl es ds at b c h.1 i.1)
  step_meet sort Increment Increment at b c s h i e = inl (h.2 ∙ sym i.2)
  step_meet sort Decrement Decrement at b c s h i e = inl (h.2 ∙ sym i.2)
  step_meet sort (Operation sign o e) y at b c s h i q = absurd (other_not ts (N ts) sort (Operation sign o e) at b s h refl)
  step_meet sort (Part t) y at b c s h i q = absurd (other_not ts (N ts) sort (Part t) at b s h refl)
  step_meet sort (Inserted e) y at b c s h i q = absurd (other_not ts (N ts) sort (Inserted e) at b s h refl)
  step_meet sort (Further x) y at b c s h i q = absurd (other_not ts (N ts) sort (Further x) at b s h refl)
  step_meet sort x y at b c s h i e = absurd (omega arith)

  called_goes : (sort : StepSort) (ws : Steps) (c b to end : ℕ) → IsSuffix sort → Called c b → b ≤ to → Repeats ts Free sort ws c end → ((vs : Steps) → Repeats ts Free sort vs b end → end ≤ to) → end ≤ to
  called_goes sort no_step c b to end s z le i next =
      let g = (items_go ts (N ts) z.0 argument (c + 1) z.1.0 z.1.2).0 in
      omega (arith, i, g, z.1.4, le)
  called_goes sort (step (Call ds) vs) c b to end s z le i next =
      let e = fenced_ends argument kinds.LeftParenthesis kinds.RightParenthesis refl z.0 ds c b i.0 z.1 i.1.1 in
      let P : ℕ → Type 0 = λ y. Repeats ts Free sort vs y end in
      next vs (subst P (sym e) i.2)
  called_goes sort (step w vs) c b to end s z le i next = let e = marked ts Free sort w c i.0 s i.1 in let q = ap mark z.1.1 in absurd (omega (arith, e, q))

  -- what is appended to a greedy tree is the longest
  pub suffixes_longest : (sort : StepSort) (ss rs : Steps) (at to end : ℕ) → IsSuffix sort → Repeats ts (N ts) sort ss at to → Repeats ts Free sort rs at end → ((y : Step) (b : ℕ) → StepReads ts Free sort y to b → ⊥) → end ≤ to
  suffixes_longest sort no_step no_step at to end s h i stop = omega (arith, h, i)
  suffixes_longest sort no_step (step y ys) at to end s h i stop = let P : ℕ → Type 0 = λ z. StepReads ts Free sort y z i.0 in absurd (stop y i.0 (subst P h i.1))
  suffixes_longest sort (step x xs) no_step at to end s h i stop = let g = (steps_go ts (N ts) (step x xs) sort at to h).0 in omega (arith, g, i)
  suffixes_longest sort (step x xs) (step y ys) at to end s h i stop =
      let g = (steps_go ts (N ts) xs sort h.0 to h.2).0 in
      let P : ℕ → Type 0 = λ z. Repeats ts Free sort ys z end in
      elim (step_meet sort x y at h.0 i.0 s h.1 i.1 (marked ts (N ts) sort x at h.0 s h.1 ∙ sym (marked ts Free sort y at i.0 s i.1))) [
        | inl e ↦ suffixes_longest sort xs ys h.0 to end s h.2 (subst P (sym e) i.2) stop
        | inr z ↦ called_goes sort ys i.0 h.0 to end s z g i.2 (λ vs r. suffixes_longest sort xs vs h.0 to end s h.2 r stop)
      ]

  -- ---- texts

  part_meet : (x y : Step) (at b c : ℕ) → StepReads ts (N ts) part x at b → StepReads ts Free part y at c → b ≡ c
  part_meet x y at b c h i = elim (part_of ts (N ts) x at b h) [
    | inl v ↦ elim (part_of ts Free y at c i) [ inl w ↦ v.4 ∙ sym w.4 | inr w ↦ absurd (clash is_part v.0.kind kinds.InsertionStart (sym (stands_kind ts at v.0 v.2) ∙ w.2.1) v.3 refl) ]
    | inr v ↦ elim (part_of ts Free y at c i) [
      | inl w ↦ absurd (clash is_part w.0.kind kinds.InsertionStart (sym (stands_kind ts at w.0 w.2) ∙ v.2.1) w.3 refl)
      | inr w ↦ enclosed_ends kinds.InsertionStart kinds.InsertionEnd refl v.0 w.0 at b c v.2 w.2
    ]
  ]

  pub parts_end : (ss rs : Steps) (at to end : ℕ) → Repeats ts (N ts) part ss at to → Repeats ts Free part rs at end → Is ts to kinds.TextEnd → Is ts end kinds.TextEnd → to ≡ end
  parts_end no_step no_step at to end h i f g = sym h ∙ i
  parts_end no_step (step y ys) at to end h i f g = let P : ℕ → Type 0 = λ z. Is ts z kinds.TextEnd in absurd (part_begins ts Free y at i.0 i.1 (subst P (sym h) f))
  parts_end (step x xs) no_step at to end h i f g = let P : ℕ → Type 0 = λ z. Is ts z kinds.TextEnd in absurd (part_begins ts (N ts) x at h.0 h.1 (subst P (sym i) g))
  parts_end (step x xs) (step y ys) at to end h i f g =
      let e = part_meet x y at h.0 i.0 h.1 i.1 in
      let P : ℕ → Type 0 = λ z. Repeats ts Free part ys z end in
      parts_end xs ys h.0 to end h.2 (subst P (sym e) i.2) f g
