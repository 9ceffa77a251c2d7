-- Tables of tokens, and how items and what is appended begin.
use Rattle.std.proofs.Common.{◌≡◌, ◌≢◌, ℕ, ◌+◌, ◌≤◌, Bool, true, false, IsTrue, List, Option, Some, None, refl, sym, ap, subst, ◌∙◌, arith, ◌⊎◌, inl, inr, true≢false}
use Rattle.stan_model_grammar.specs.declared.operators.BinaryOperator.{BinaryOperator}
use Rattle.stan_model_grammar.specs.declared.operators.Fixity.TheVariants as fixities
use Rattle.stan_model_grammar.specs.declared.operators.Visibility.{Visibility}
use Rattle.stan_model_grammar.specs.declared.token.Token.{Token}
use Rattle.stan_model_grammar.specs.declared.token.TokenKind.{TokenKind}
use Rattle.stan_model_grammar.specs.declared.token.TokenKind.TheVariants as kinds
use Rattle.stan_model_grammar.specs.Strata.{kind_at, loosest, binary_stratum, fixity, tighter, joins, names_argument, is_part, is_end, visibility_of}
use Rattle.stan_model_grammar.specs.Trees.{TypeTree, Tree, no_item, items, Item, Positional, Spread, Named, Element, KeyedElement, Parameter, Captured, Arm, DefaultArm, Steps, no_step, step, Step, Push, Index, Property, Scoped, Call, Increment, Decrement, Operation, Part, Inserted, Further}
use Rattle.stan_model_grammar.specs.Expressions.{ItemSort, argument, element, expression, parameter, captured, arm, StepSort, suffix, class_suffix, part, operation, further, IsSuffix, arrow, Is, Stands, May, Between, Operates, MayBeVisible, MayBeTyped, Reads, ItemReads, Repeats, StepReads}
use Rattle.stan_expr_rules.proofs.InsideLemmas.{stands_kind, visibility_goes, may_type_goes, may_goes}
use Rattle.stan_expr_rules.proofs.Greedy.{J, Near, one_token}
use Rattle.stan_expr_law.proofs.Spelled.{Free}
use Rattle.stan_expr_takes.proofs.TakesStarts.{clash, starts, begins, may_same, visibility_same, may_type_same, typed, type_begins}
use Rattle.stan_expr_rules.proofs.Tables.{arrow_joins, scoped_variable}

-- ---- what closes a list, and what follows an item

abbrev pub closes : ItemSort → TokenKind → Bool
closes argument kinds.RightParenthesis = true
closes element kinds.RightParenthesis = true
closes element kinds.RightBracket = true
closes expression kinds.RightParenthesis = true
closes expression kinds.DoubleArrow = true
closes parameter kinds.RightParenthesis = true
closes captured kinds.RightParenthesis = true
closes arm kinds.RightBrace = true
closes _ _ = false

abbrev pub follows : ItemSort → TokenKind → Bool
follows sort kinds.Comma = true
follows sort k = closes sort k

abbrev closer : TokenKind → Bool
closer kinds.RightParenthesis = true
closer kinds.RightBracket = true
closer kinds.RightBrace = true
closer kinds.DoubleArrow = true
closer _ = false

closes_closer : (sort : ItemSort) (k : TokenKind) → closes sort k ≡ true → closer k ≡ true
closes_closer sort kinds.RightParenthesis h = refl
closes_closer sort kinds.RightBracket h = refl
closes_closer sort kinds.RightBrace h = refl
closes_closer sort kinds.DoubleArrow h = refl
closes_closer argument k h = absurd (true≢false (sym h))
closes_closer element k h = absurd (true≢false (sym h))
closes_closer expression k h = absurd (true≢false (sym h))
closes_closer parameter k h = absurd (true≢false (sym h))
closes_closer captured k h = absurd (true≢false (sym h))
closes_closer arm k h = absurd (true≢false (sym h))

closer_end : (k : TokenKind) → closer k ≡ true → IsTrue (is_end k)
closer_end kinds.RightParenthesis h = refl
closer_end kinds.RightBracket h = refl
closer_end kinds.RightBrace h = refl
closer_end kinds.DoubleArrow h = refl
closer_end k h = absurd (true≢false (sym h))

pub follows_end : (sort : ItemSort) (k : TokenKind) → follows sort k ≡ true → IsTrue (is_end k)
follows_end sort kinds.Comma h = refl
follows_end sort k h = closer_end k (closes_closer sort k h)

closes_follows : (sort : ItemSort) (k : TokenKind) → closes sort k ≡ true → follows sort k ≡ true
closes_follows sort kinds.Comma h = refl
closes_follows sort k h = h

-- ---- how items begin

start_opens : (k : TokenKind) → starts k ≡ true → closer k ≡ false
start_opens kinds.RightParenthesis h = absurd (true≢false (sym h))
start_opens kinds.RightBracket h = absurd (true≢false (sym h))
start_opens kinds.RightBrace h = absurd (true≢false (sym h))
start_opens kinds.DoubleArrow h = absurd (true≢false (sym h))
start_opens k h = refl

name_opens : (k : TokenKind) → IsTrue (names_argument k) → closer k ≡ false
name_opens kinds.RightParenthesis h = absurd (true≢false (sym h))
name_opens kinds.RightBracket h = absurd (true≢false (sym h))
name_opens kinds.RightBrace h = absurd (true≢false (sym h))
name_opens kinds.DoubleArrow h = absurd (true≢false (sym h))
name_opens k h = refl

type_opens : (k : TokenKind) → typed k ≡ true → closer k ≡ false
type_opens kinds.RightParenthesis h = absurd (true≢false (sym h))
type_opens kinds.RightBracket h = absurd (true≢false (sym h))
type_opens kinds.RightBrace h = absurd (true≢false (sym h))
type_opens kinds.DoubleArrow h = absurd (true≢false (sym h))
type_opens k h = refl

visible_opens : (k : TokenKind) (v : Visibility) → visibility_of k ≡ Some v → closer k ≡ false
visible_opens kinds.RightParenthesis v h = absurd cc
visible_opens kinds.RightBracket v h = absurd cc
visible_opens kinds.RightBrace v h = absurd cc
visible_opens kinds.DoubleArrow v h = absurd cc
visible_opens k v h = refl

-- behind the type of a parameter
abbrev flagged : TokenKind → Bool
flagged kinds.Ampersand = true
flagged kinds.Ellipsis = true
flagged kinds.Variable = true
flagged _ = false

flagged_opens : (k : TokenKind) → flagged k ≡ true → closer k ≡ false
flagged_opens kinds.Ampersand h = refl
flagged_opens kinds.Ellipsis h = refl
flagged_opens kinds.Variable h = refl
flagged_opens k h = absurd (true≢false (sym h))

flagged_untyped : (k : TokenKind) → flagged k ≡ true → typed k ≡ false
flagged_untyped kinds.Ampersand h = refl
flagged_untyped kinds.Ellipsis h = refl
flagged_untyped kinds.Variable h = refl
flagged_untyped k h = absurd (true≢false (sym h))

flagged_unseen : (k : TokenKind) → flagged k ≡ true → visibility_of k ≡ None
flagged_unseen kinds.Ampersand h = refl
flagged_unseen kinds.Ellipsis h = refl
flagged_unseen kinds.Variable h = refl
flagged_unseen k h = absurd (true≢false (sym h))

typed_unseen : (k : TokenKind) → typed k ≡ true → visibility_of k ≡ None
typed_unseen kinds.Public h = absurd (true≢false (sym h))
typed_unseen kinds.Protected h = absurd (true≢false (sym h))
typed_unseen kinds.Private h = absurd (true≢false (sym h))
typed_unseen k h = refl

-- ---- what is appended

abbrev pub mark : TokenKind → ℕ
mark kinds.LeftBracket = 1
mark kinds.Arrow = 2
mark kinds.NullsafeArrow = 2
mark kinds.DoubleColon = 3
mark kinds.LeftParenthesis = 4
mark kinds.Increment = 5
mark kinds.Decrement = 6
mark _ = 0

abbrev pub step_mark : Step → ℕ
step_mark Push = 1
step_mark (Index e) = 1
step_mark (Property nullsafe name es) = 2
step_mark (Scoped t es) = 3
step_mark (Call es) = 4
step_mark Increment = 5
step_mark Decrement = 6
step_mark _ = 7

arrow_mark : (nullsafe : Bool) → mark (arrow nullsafe) ≡ 2
arrow_mark true = refl
arrow_mark false = refl

double_joins : (next : TokenKind) → (2 ≤ joins kinds.DoubleColon next) × (joins kinds.DoubleColon next ≤ 4)
double_joins kinds.Variable = (omega arith, omega arith)
double_joins _ = (omega arith, omega arith)

module _ (ts : List Token) where
  module _ (S : ℕ → ℕ → ℕ → Type 0) where
    pub flags_begin : (r v : Bool) (b c d : ℕ) → May ts r kinds.Ampersand b c → May ts v kinds.Ellipsis c d → Is ts d kinds.Variable → flagged (kind_at ts b) ≡ true
    flags_begin true v b c d h i k = ap flagged h.0
    flags_begin false true b c d h i k = let P : ℕ → Type 0 = λ z. flagged (kind_at ts z) ≡ true in subst P (sym h) (ap flagged i.0)
    flags_begin false false b c d h i k = let P : ℕ → Type 0 = λ z. flagged (kind_at ts z) ≡ true in subst P (sym (h ∙ i)) (ap flagged k)

    head_opens : (w : Option Visibility) (type : Option TypeTree) (r v : Bool) (at a b c d : ℕ) → MayBeVisible ts w at a → MayBeTyped ts type a b → May ts r kinds.Ampersand b c → May ts v kinds.Ellipsis c d → Is ts d kinds.Variable → closer (kind_at ts at) ≡ false
    head_opens (Some w) type r v at a b c d p q h i k = visible_opens (kind_at ts at) w p.0
    head_opens None (Some type) r v at a b c d p q h i k = let P : ℕ → Type 0 = λ z. closer (kind_at ts z) ≡ false in subst P (sym p) (type_opens (kind_at ts a) (type_begins ts type a b q))
    head_opens None None r v at a b c d p q h i k = let P : ℕ → Type 0 = λ z. closer (kind_at ts z) ≡ false in subst P (sym (p ∙ q)) (flagged_opens (kind_at ts b) (flags_begin r v b c d h i k))

    pub item_opens : (sort : ItemSort) (x : Item) (at to : ℕ) → ItemReads ts S sort x at to → closer (kind_at ts at) ≡ false
    item_opens argument (Positional e) at to h = start_opens (kind_at ts at) (begins ts S e false loosest at to h.1)
    item_opens expression (Positional e) at to h = start_opens (kind_at ts at) (begins ts S e false loosest at to h)
    item_opens argument (Spread e) at to h = ap closer h.0
    item_opens element (Spread e) at to h = ap closer h.0
    item_opens argument (Named t e) at to h = ap closer (stands_kind ts at t h.0) ∙ name_opens t.kind h.1
    item_opens element (Element true e) at to h = ap closer h.1.0
    item_opens element (Element false e) at to h = let P : ℕ → Type 0 = λ z. closer (kind_at ts z) ≡ false in subst P (sym h.1) (start_opens (kind_at ts h.0) (begins ts S e true loosest h.0 to h.2))
    item_opens element (KeyedElement key reference e) at to h = start_opens (kind_at ts at) (begins ts S key false loosest at h.0 h.2)
    item_opens parameter (Parameter w type r v t value) at to h = head_opens w type r v at h.0 h.1 h.2 h.3 h.4 h.5 h.6 h.7 h.9
    item_opens captured (Captured t) at to h = ap closer h.1
    item_opens arm (Arm no_item e) at to h = absurd h.1
    item_opens arm (Arm (items (Positional x) xs comma) e) at to h = start_opens (kind_at ts at) (begins ts S x false loosest at h.2.0 h.2.2)
    item_opens arm (Arm (items x xs comma) e) at to h = absurd h.2.2
    item_opens arm (DefaultArm comma e) at to h = ap closer h.1
    item_opens _ _ at to h = absurd h

    -- an item does not begin with what closes its list
    pub item_unclosed : (sort : ItemSort) (x : Item) (at to : ℕ) → ItemReads ts S sort x at to → closes sort (kind_at ts at) ≡ true → ⊥
    item_unclosed sort x at to h e = true≢false (sym (closes_closer sort (kind_at ts at) e) ∙ item_opens sort x at to h)

    pub further_of : (sort : ItemSort) (x : Step) (at to : ℕ) → StepReads ts S (further sort) x at to → (y : Item) × (x ≡ Further y) × Is ts at kinds.Comma × ItemReads ts S sort y (at + 1) to
    further_of sort Push at to h = absurd h.0
    further_of sort (Index e) at to h = absurd h.0
    further_of sort (Property nullsafe name es) at to h = absurd h.1
    further_of sort (Scoped t es) at to h = absurd (true≢false (sym h.0))
    further_of sort (Call es) at to h = absurd h.0
    further_of sort Increment at to h = absurd h.0
    further_of sort Decrement at to h = absurd h.0
    further_of sort (Operation sign o e) at to h = absurd h.1
    further_of sort (Part t) at to h = absurd h.0
    further_of sort (Inserted e) at to h = absurd h.0
    further_of sort (Further y) at to h = (y, refl, h.0, h.1)

    -- what follows an item of a list
    pub follow_after : (sort : ItemSort) (xs : Steps) (comma : Bool) (at b to : ℕ) → Repeats ts S (further sort) xs at b → May ts comma kinds.Comma b to → closes sort (kind_at ts to) ≡ true → follows sort (kind_at ts at) ≡ true
    follow_after sort no_step true at b to h i e = let P : ℕ → Type 0 = λ z. follows sort (kind_at ts z) ≡ true in subst P (sym h) (ap (follows sort) i.0)
    follow_after sort no_step false at b to h i e = let P : ℕ → Type 0 = λ z. follows sort (kind_at ts z) ≡ true in subst P (sym (h ∙ i)) (closes_follows sort (kind_at ts to) e)
    follow_after sort (step x xs) comma at b to h i e = ap (follows sort) (further_of sort x at h.0 h.1).2

    pub other_not : (sort : StepSort) (x : Step) (at to : ℕ) → IsSuffix sort → StepReads ts S sort x at to → step_mark x ≡ 7 → ⊥
    other_not suffix (Operation sign o e) at to s h q = h.1
    other_not suffix (Part t) at to s h q = h.0
    other_not suffix (Inserted e) at to s h q = h.0
    other_not suffix (Further x) at to s h q = h
    other_not suffix x at to s h q = omega arith
    other_not class_suffix (Operation sign o e) at to s h q = h.1
    other_not class_suffix (Part t) at to s h q = h.0
    other_not class_suffix (Inserted e) at to s h q = h.0
    other_not class_suffix (Further x) at to s h q = h
    other_not class_suffix x at to s h q = omega arith
    other_not _ x at to s h q = s

    pub marked : (sort : StepSort) (x : Step) (at to : ℕ) → IsSuffix sort → StepReads ts S sort x at to → step_mark x ≡ mark (kind_at ts at)
    marked sort Push at to s h = sym (ap mark h.1)
    marked sort (Index e) at to s h = sym (ap mark h.1.1)
    marked sort (Property nullsafe name es) at to s h = sym (ap mark h.2 ∙ arrow_mark nullsafe)
    marked sort (Scoped t es) at to s h = sym (ap mark h.1)
    marked sort (Call es) at to s h = sym (ap mark h.1.1)
    marked sort Increment at to s h = sym (ap mark h.1)
    marked sort Decrement at to s h = sym (ap mark h.1)
    marked sort x at to s h = absurd (other_not sort x at to s h refl)

    -- in which strata it goes on
    pub suffix_joins : (x : Step) (at to : ℕ) → StepReads ts S suffix x at to → (1 ≤ J ts at) × (J ts at ≤ 4)
    suffix_joins Push at to h = let e = ap (λ z. joins z (kind_at ts (at + 1))) h.1 in (omega (arith, e), omega (arith, e))
    suffix_joins (Index x) at to h = let e = ap (λ z. joins z (kind_at ts (at + 1))) h.1.1 in (omega (arith, e), omega (arith, e))
    suffix_joins (Property nullsafe name es) at to h = let e = ap (λ z. joins z (kind_at ts (at + 1))) h.2 ∙ arrow_joins nullsafe (kind_at ts (at + 1)) in (omega (arith, e), omega (arith, e))
    suffix_joins (Scoped t es) at to h = let e = ap (λ z. joins z (kind_at ts (at + 1))) h.1 in let d = double_joins (kind_at ts (at + 1)) in (omega (arith, e, d.0), omega (arith, e, d.1))
    suffix_joins (Call es) at to h = let e = ap (λ z. joins z (kind_at ts (at + 1))) h.1.1 in (omega (arith, e), omega (arith, e))
    suffix_joins Increment at to h = let e = ap (λ z. joins z (kind_at ts (at + 1))) h.1 in (omega (arith, e), omega (arith, e))
    suffix_joins Decrement at to h = let e = ap (λ z. joins z (kind_at ts (at + 1))) h.1 in (omega (arith, e), omega (arith, e))
    suffix_joins x at to h = absurd (other_not suffix x at to tt h refl)

    pub class_joins : (x : Step) (at to : ℕ) → StepReads ts S class_suffix x at to → (2 ≤ J ts at) × (J ts at ≤ 3)
    class_joins Push at to h = let e = ap (λ z. joins z (kind_at ts (at + 1))) h.1 in (omega (arith, e), omega (arith, e))
    class_joins (Index x) at to h = let e = ap (λ z. joins z (kind_at ts (at + 1))) h.1.1 in (omega (arith, e), omega (arith, e))
    class_joins (Property nullsafe name es) at to h = let e = ap (λ z. joins z (kind_at ts (at + 1))) h.2 ∙ arrow_joins nullsafe (kind_at ts (at + 1)) in (omega (arith, e), omega (arith, e))
    class_joins (Scoped t es) at to h =
        let e = ap (λ z. joins z (kind_at ts (at + 1))) h.1 ∙ ap (λ z. joins kinds.DoubleColon z) (stands_kind ts (at + 1) t h.2 ∙ scoped_variable t.kind h.0) in
        (omega (arith, e), omega (arith, e))
    class_joins (Call es) at to h = absurd h.0
    class_joins Increment at to h = absurd h.0
    class_joins Decrement at to h = absurd h.0
    class_joins x at to h = absurd (other_not class_suffix x at to tt h refl)

    pub part_of : (x : Step) (at to : ℕ) → StepReads ts S part x at to
        → ((t : Token) × (x ≡ Part t) × Stands ts at t × IsTrue (is_part t.kind) × (to ≡ at + 1)) ⊎ ((e : Tree) × (x ≡ Inserted e) × Between ts kinds.InsertionStart (Reads ts S false loosest e) kinds.InsertionEnd at to)
    part_of Push at to h = absurd h.0
    part_of (Index e) at to h = absurd h.0
    part_of (Property nullsafe name es) at to h = absurd h.1
    part_of (Scoped t es) at to h = absurd (true≢false (sym h.0))
    part_of (Call es) at to h = absurd h.0
    part_of Increment at to h = absurd h.0
    part_of Decrement at to h = absurd h.0
    part_of (Operation sign o e) at to h = absurd h.1
    part_of (Part t) at to h = inl (t, refl, h.1, h.2, h.3)
    part_of (Inserted e) at to h = inr (e, refl, h.1)
    part_of (Further x) at to h = absurd h

    pub operation_of : (j : ℕ) (x : Step) (at to : ℕ) → StepReads ts S (operation j) x at to
        → (sign : Token) × (o : BinaryOperator) × (e : Tree) × (m : ℕ) × (x ≡ Operation sign o e) × ((binary_stratum o ≡ j) × (fixity o ≡ fixities.Left)) × Operates ts sign o at m × Reads ts S false (tighter (binary_stratum o)) e m to
    operation_of j Push at to h = absurd h.0
    operation_of j (Index e) at to h = absurd h.0
    operation_of j (Property nullsafe name es) at to h = absurd h.1
    operation_of j (Scoped t es) at to h = absurd (true≢false (sym h.0))
    operation_of j (Call es) at to h = absurd h.0
    operation_of j Increment at to h = absurd h.0
    operation_of j Decrement at to h = absurd h.0
    operation_of j (Operation sign o e) at to h = (sign, o, e, h.0, refl, h.1, h.2, h.3)
    operation_of j (Part t) at to h = absurd h.0
    operation_of j (Inserted e) at to h = absurd h.0
    operation_of j (Further x) at to h = absurd h

    pub part_begins : (x : Step) (at to : ℕ) → StepReads ts S part x at to → kind_at ts at ≢ kinds.TextEnd
    part_begins x at to h q = elim (part_of x at to h) [
      | inl y ↦ clash is_part y.0.kind kinds.TextEnd (sym (stands_kind ts at y.0 y.2) ∙ q) y.3 refl
      | inr y ↦ cc (y.2.1, q)
    ]

  -- ---- the head of a parameter

  unseen : (type : Option TypeTree) (a b : ℕ) → MayBeTyped ts type a b → flagged (kind_at ts b) ≡ true → visibility_of (kind_at ts a) ≡ None
  unseen None a b h f = let P : ℕ → Type 0 = λ z. visibility_of (kind_at ts z) ≡ None in subst P (sym h) (flagged_unseen (kind_at ts b) f)
  unseen (Some type) a b h f = typed_unseen (kind_at ts a) (type_begins ts type a b h)

  unmarked : (v : Bool) (c d : ℕ) → May ts v kinds.Ellipsis c d → Is ts d kinds.Variable → kind_at ts c ≢ kinds.Ampersand
  unmarked true c d h k e = cc (h.0, e)
  unmarked false c d h k e = let P : ℕ → Type 0 = λ z. kind_at ts z ≡ kinds.Variable in let q = subst P (sym h) k in cc (q, e)

  abbrev pub Head : Option Visibility → Option TypeTree → Bool → Bool → Token → ℕ → ℕ → ℕ → ℕ → ℕ → Type 0
  Head w type r v t at a b c d = MayBeVisible ts w at a × MayBeTyped ts type a b × May ts r kinds.Ampersand b c × May ts v kinds.Ellipsis c d × Stands ts d t × Is ts d kinds.Variable

  -- there is one head at a place
  pub head_same : (w u : Option Visibility) (x y : Option TypeTree) (q r v z : Bool) (s t : Token) (at a b c d e f g h : ℕ) → Head w x q v s at a b c d → Head u y r z t at e f g h
      → (w ≡ u) × (x ≡ y) × (q ≡ r) × (v ≡ z) × (s ≡ t) × (d ≡ h)
  head_same w u x y q r v z s t at a b c d e f g h i j =
      let m = flags_begin Free q v b c d i.2 i.3 i.5 in
      let n = flags_begin Free r z f g h j.2 j.3 j.5 in
      let one = visibility_same ts w u at a e i.0 j.0 (unseen x a b i.1 m) (unseen y e f j.1 n) in
      let P : ℕ → Type 0 = λ k. MayBeTyped ts y k f in
      let two = may_type_same ts x y a b f i.1 (subst P (sym one.1) j.1) (flagged_untyped (kind_at ts b) m) (flagged_untyped (kind_at ts f) n) in
      let Q : ℕ → Type 0 = λ k. May ts r kinds.Ampersand k g in
      let three = may_same ts q r kinds.Ampersand b c g i.2 (subst Q (sym two.1) j.2) (unmarked v c d i.3 i.5) (unmarked z g h j.3 j.5) in
      let R : ℕ → Type 0 = λ k. May ts z kinds.Ellipsis k h in
      let four = may_same ts v z kinds.Ellipsis c d h i.3 (subst R (sym three.1) j.3) (λ k. cc (k, i.5)) (λ k. cc (k, j.5)) in
      let W : ℕ → Type 0 = λ k. Stands ts k t in
      (one.0, two.0, three.0, four.0, one_token ts d s t i.4 (subst W (sym four.1) j.4), four.1)

  pub head_goes : (w : Option Visibility) (type : Option TypeTree) (r v : Bool) (t : Token) (at a b c d : ℕ) → Head w type r v t at a b c d → at ≤ d
  head_goes w type r v t at a b c d h =
      let e = visibility_goes ts w at a h.0 in
      let f = may_type_goes ts type a b h.1 in
      let g = may_goes ts r kinds.Ampersand (λ e. cc) b c h.2 in
      let i = may_goes ts v kinds.Ellipsis (λ e. cc) c d h.3 in
      omega (arith, e.0, f.0, g.0, i.0)

  -- ---- what closes and follows

  pub closes_comma : (sort : ItemSort) → closes sort kinds.Comma ≡ false
  closes_comma argument = refl
  closes_comma element = refl
  closes_comma expression = refl
  closes_comma parameter = refl
  closes_comma captured = refl
  closes_comma arm = refl

  pub uncomma : (sort : ItemSort) (at : ℕ) → closes sort (kind_at ts at) ≡ true → kind_at ts at ≢ kinds.Comma
  uncomma sort at h e = true≢false (sym h ∙ ap (closes sort) e ∙ closes_comma sort)

  abbrev pub N : ℕ → ℕ → ℕ → Type 0
  N = Near ts

  abbrev pub Closes : ItemSort → ℕ → Type 0
  Closes sort at = closes sort (kind_at ts at) ≡ true

  abbrev pub Follows : ItemSort → ℕ → Type 0
  Follows sort at = follows sort (kind_at ts at) ≡ true
