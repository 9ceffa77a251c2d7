-- What may follow an expression: steps with which the levels that are open around it go on.
use Rattle.std.proofs.Common.{◌≡◌, ◌≢◌, ℕ, ◌+◌, ◌-◌, ◌≤◌, ◌<◌, Bool, true, false, ◌&&◌, IsTrue, List, [], ◌∷◌, refl, sym, ap, subst, ◌∙◌, arith, ◌⊎◌, inl, inr, true≢false}
use Rattle.stan_model_grammar.specs.declared.operators.ArrayStyle.TheVariants as styles
use Rattle.stan_model_grammar.specs.declared.operators.BinaryOperator.{BinaryOperator}
use Rattle.stan_model_grammar.specs.declared.operators.BinaryOperator.TheVariants as binaries
use Rattle.stan_model_grammar.specs.declared.operators.Fixity.{Fixity}
use Rattle.stan_model_grammar.specs.declared.operators.Fixity.TheVariants as fixities
use Rattle.stan_model_grammar.specs.declared.token.Token.{Token}
use Rattle.stan_model_grammar.specs.declared.token.TokenKind.{TokenKind}
use Rattle.stan_model_grammar.specs.declared.token.TokenKind.TheVariants as kinds
use Rattle.stan_model_grammar.specs.Strata.{kind_at, leaf_of, prefix_of, binary_stratum, fixity, tighter, right_side, double_colon, loosest, is_exit, names_scoped}
use Rattle.stan_model_grammar.specs.Trees.{Tree, node, Single, Brackets, Array, IsSet, Empty, Exit, New, Match, Closure, Arrow, Text, Post, Prefix, Assignment, Chain, Binary, Conditional, Items, no_arguments, arguments, MemberName, Steps, no_step, step, Push, Index, Property, Scoped, Call, Increment, Decrement, Operation, Part, Inserted, Further}
use Rattle.stan_model_grammar.specs.Expressions.{argument, suffix, operation, is_variable, is_place, arrow, Is, Stands, Between, Operates, May, Reads, Lists, Members, Repeats, IsEnd}
use Rattle.stan_expr_rules.proofs.InsideLemmas.{reads_inside, items_go, member_inside, stands_kind}
use Rattle.stan_expr_law.proofs.TreeLemmas.{ends_join_none}
use Rattle.stan_expr_rules.proofs.Greedy.{J, Greedy}
use Rattle.stan_expr_law.proofs.Spelled.{Free}
use Rattle.stan_expr_rules.proofs.Choices.{and_false}
use Rattle.stan_expr_rules.proofs.Tables.{arrow_joins, double_colon_bounds, operator_joins, question_joins}

-- ---- levels that are open, the innermost first: the first stratum in which each could go on, and the last one

pub data Levels : Type 0 where
  no_level : Levels
  level : ℕ → ℕ → Levels → Levels

-- one of the levels takes a step of stratum s, behind which it could go on from stratum l on, and those within it end
abbrev pub Takes : Levels → ℕ → ℕ → Levels → Type 0
Takes no_level s l left = ⊥
Takes (level i k vs) s l left = ((i ≤ s) × (s ≤ k) × (left ≡ level l k vs)) ⊎ Takes vs s l left

-- whatever the first levels take, the second could
abbrev pub Covered : Levels → Levels → Type 0
Covered no_level vs = Unit {0}
Covered (level i k us) no_level = ⊥
Covered (level i k us) (level j m vs) = Covered (level i k us) vs ⊎ ((j ≤ i) × (k ≤ m) × Covered us vs)

pub covered_self : (vs : Levels) → Covered vs vs
covered_self no_level = tt
covered_self (level i k vs) = inr (omega arith, omega arith, covered_self vs)

pub covered_within : (us : Levels) (i k : ℕ) (vs : Levels) → Covered us vs → Covered us (level i k vs)
covered_within no_level i k vs c = tt
covered_within (level j m us) i k vs c = inl c

pub takes_more : (us vs : Levels) (s l : ℕ) (left : Levels) → Takes us s l left → Covered us vs → (more : Levels) × Takes vs s l more × Covered left more
takes_more no_level vs s l left t c = absurd t
takes_more (level i k us) no_level s l left t c = absurd c
takes_more (level i k us) (level j m vs) s l left t (inl c) = let r = takes_more (level i k us) vs s l left t c in (r.0, inr r.1, r.2)
takes_more (level i k us) (level j m vs) s l left (inl t) (inr c) =
    let P : Levels → Type 0 = λ y. Covered y (level l m vs) in
    (level l m vs, inl (omega (arith, c.0, t.0), omega (arith, c.1, t.1), refl), subst P (sym t.2) (inr (omega arith, c.1, c.2)))
takes_more (level i k us) (level j m vs) s l left (inr t) (inr c) = let r = takes_more us vs s l left t c.2 in (r.0, inr r.1, r.2)

-- Behind a step the levels that are left could take no more than those before it.
pub takes_covered : (vs : Levels) (s l : ℕ) (left : Levels) → s ≤ l → Takes vs s l left → Covered left vs
takes_covered no_level s l left le t = absurd t
takes_covered (level i k vs) s l left le (inl t) =
    let P : Levels → Type 0 = λ y. Covered y (level i k vs) in
    subst P (sym t.2) (inr (omega (arith, t.0), omega arith, covered_self vs))
takes_covered (level i k vs) s l left le (inr t) = covered_within left i k vs (takes_covered vs s l left le t)

-- the same where the level within has gone on as far as the step
pub takes_onward : (i k : ℕ) (vs : Levels) (s l : ℕ) (left : Levels) → s ≤ l → Takes (level i k vs) s l left → Covered left (level l k vs)
takes_onward i k vs s l left le (inl t) = let P : Levels → Type 0 = λ y. Covered y (level l k vs) in subst P (sym t.2) (covered_self (level l k vs))
takes_onward i k vs s l left le (inr t) = covered_within left l k vs (takes_covered vs s l left le t)

takes_from : (i j k : ℕ) (vs : Levels) (s l : ℕ) (left : Levels) → (i ≤ s → j ≤ s) → Takes (level i k vs) s l left → Takes (level j k vs) s l left
takes_from i j k vs s l left up (inl t) = inl (up t.0, t.1, t.2)
takes_from i j k vs s l left up (inr t) = inr t

takes_out : (i k : ℕ) (vs : Levels) (s l : ℕ) (left : Levels) → k < i → Takes (level i k vs) s l left → Takes vs s l left
takes_out i k vs s l left over (inl t) = absurd (omega (arith, t.0, t.1))
takes_out i k vs s l left over (inr t) = t

-- ---- steps

-- What goes on with an expression. Arguments are a step of their own.
pub data Going : Type 0 where
  pushed : Going
  indexed : Tree → Going
  property : Bool → MemberName → Going
  scoped : Token → Going
  called : Items → Going
  increased : Going
  decreased : Going
  -- with the token at which the operator begins
  operated : Token → BinaryOperator → Tree → Going
  asked : Tree → Tree → Going

-- the stratum in which its first token goes on
abbrev pub mark : Going → ℕ
mark pushed = 3
mark (indexed e) = 3
mark (property nullsafe name) = 3
mark (scoped t) = double_colon t.kind
mark (called es) = 1
mark increased = 4
mark decreased = 4
mark (operated sign o e) = binary_stratum o
mark (asked d e) = 22

-- the stratum of the level that takes it: all that is appended is one
abbrev pub stratum : Going → ℕ
stratum (operated sign o e) = binary_stratum o
stratum (asked d e) = 22
stratum _ = 1

abbrev pub onward_of : Fixity → ℕ → ℕ
onward_of fixities.Left j = j
onward_of _ j = j + 1

-- the first stratum in which the level could go on behind it
abbrev pub onward : Going → ℕ
onward (operated sign o e) = onward_of (fixity o) (binary_stratum o)
onward (asked d e) = 24
onward _ = 1

abbrev pub side_of : Fixity → ℕ → ℕ
side_of fixities.Left j = tighter j
side_of f j = right_side f j

-- the stratum of the right side of an operator
abbrev pub side : BinaryOperator → ℕ
side o = side_of (fixity o) (binary_stratum o)

-- whether a place is appended
abbrev pub is_spot : Going → Bool
is_spot pushed = true
is_spot (indexed e) = true
is_spot (property nullsafe name) = true
is_spot (scoped t) = is_variable t.kind && true
is_spot _ = false

-- whether the last step of all is a place
abbrev pub ends : Bool → List Going → Bool
ends b [] = b
ends b (x ∷ w) = ends (is_spot x) w

abbrev pub places : Bool → Steps → Bool
places b no_step = b
places b (step x xs) = places (is_place x) xs

-- ---- tables

pub left_side : (f : Fixity) (j : ℕ) → f ≡ fixities.Left → side_of f j ≡ tighter j
left_side fixities.Left j e = refl
left_side fixities.Right j e = cc
left_side fixities.Single j e = cc

pub left_onward : (f : Fixity) (j : ℕ) → f ≡ fixities.Left → onward_of f j ≡ j
left_onward fixities.Left j e = refl
left_onward fixities.Right j e = cc
left_onward fixities.Single j e = cc

pub other_side : (f : Fixity) (j : ℕ) → f ≢ fixities.Left → side_of f j ≡ right_side f j
other_side fixities.Left j e = absurd (e refl)
other_side fixities.Right j e = refl
other_side fixities.Single j e = refl

pub other_onward : (f : Fixity) (j : ℕ) → f ≢ fixities.Left → onward_of f j ≡ j + 1
other_onward fixities.Left j e = absurd (e refl)
other_onward fixities.Right j e = refl
other_onward fixities.Single j e = refl

pub onward_rises : (f : Fixity) (j : ℕ) → j ≤ onward_of f j
onward_rises fixities.Left j = omega arith
onward_rises fixities.Right j = omega arith
onward_rises fixities.Single j = omega arith

pub operator_bounds : (o : BinaryOperator) → (6 ≤ binary_stratum o) × (binary_stratum o ≤ 28) × (5 ≤ side o) × (side o ≤ 27)
operator_bounds binaries.Power = (omega arith, omega arith, omega arith, omega arith)
operator_bounds o = (omega arith, omega arith, omega arith, omega arith)

-- What is appended is marked by a stratum below 5, and the rest by its own.
pub going_bounds : (x : Going) → ((stratum x ≡ 1) × (onward x ≡ 1) × (1 ≤ mark x) × (mark x ≤ 4)) ⊎ ((stratum x ≡ mark x) × (6 ≤ mark x) × (mark x ≤ 28) × (mark x ≤ onward x))
going_bounds pushed = inl (refl, refl, omega arith, omega arith)
going_bounds (indexed e) = inl (refl, refl, omega arith, omega arith)
going_bounds (property nullsafe name) = inl (refl, refl, omega arith, omega arith)
going_bounds (scoped t) = let d = double_colon_bounds t.kind in inl (refl, refl, omega (arith, d.0), d.1)
going_bounds (called es) = inl (refl, refl, omega arith, omega arith)
going_bounds increased = inl (refl, refl, omega arith, omega arith)
going_bounds decreased = inl (refl, refl, omega arith, omega arith)
going_bounds (operated sign o e) = let b = operator_bounds o in inr (refl, b.0, b.1, onward_rises (fixity o) (binary_stratum o))
going_bounds (asked d e) = inr (refl, omega arith, omega arith, omega arith)

pub going_rises : (x : Going) → stratum x ≤ onward x
going_rises x = elim (going_bounds x) [ inl b ↦ omega (arith, b.0, b.1) | inr b ↦ omega (arith, b.0, b.3) ]

module _ (ts : List Token) where
  pub end_joins : (to : ℕ) → IsEnd ts to → J ts to ≡ 30
  end_joins to e = ends_join_none (kind_at ts to) (kind_at ts (to + 1)) e

  -- ---- no expression begins with `:`

  may_colon : (flag : Bool) (kind : TokenKind) (at b : ℕ) → kind ≢ kinds.Colon → kind_at ts at ≡ kinds.Colon → May ts flag kind at b → kind_at ts b ≡ kinds.Colon
  may_colon true kind at b apart e h = absurd (apart (sym h.0 ∙ e))
  may_colon false kind at b apart e h = let P : ℕ → Type 0 = λ y. kind_at ts y ≡ kinds.Colon in subst P h e

  begins : (t : Tree) (p : Bool) (k at to : ℕ) → Reads ts Free p k t at to → kind_at ts at ≡ kinds.Colon → ⊥
  begins (node t (Single leaf)) p k at to h e = let q = ap leaf_of e in cc (q, h.1.0)
  begins (node t (Brackets x)) p k at to h e = cc (e, h.1.0.1)
  begins (node t (Array styles.Brackets es)) p k at to h e = cc (e, h.1.1.1)
  begins (node t (Array styles.Array es)) p k at to h e = cc (e, h.1.1)
  begins (node t (Array styles.List es)) p k at to h e = cc (e, h.1.1)
  begins (node t (IsSet es)) p k at to h e = cc (e, h.1.1)
  begins (node t (Empty x)) p k at to h e = cc (e, h.1.0)
  begins (node t (Exit es)) p k at to h e = let q = ap is_exit e in cc (q, h.1.0)
  begins (node t (New class es)) p k at to h e = cc (e, h.1.2)
  begins (node t (Match x arms)) p k at to h e = cc (e, h.1.1)
  begins (node t (Closure static reference parameters captures type body)) p k at to h e =
      let q = may_colon static kinds.Static at h.1.0 (λ r. cc) e h.1.5 in
      cc (q, h.1.6)
  begins (node t (Arrow static reference parameters type x)) p k at to h e =
      let q = may_colon static kinds.Static at h.1.0 (λ r. cc) e h.1.4 in
      cc (q, h.1.5)
  begins (node t (Text parts)) p k at to h e = cc (e, h.1.0.1)
  begins (node t (Post x ss)) p k at to h e = begins x false 0 at h.1.0 h.1.3 e
  begins (node t (Prefix o x)) p k at to h e = let q = ap prefix_of e in cc (q, h.1.1)
  begins (node t (Assignment target o x)) p k at to h e = begins target true 4 at h.1.0 h.1.4 e
  begins (node t (Chain j x ss)) p k at to h e = begins x false (tighter j) at h.1.0 h.1.4 e
  begins (node t (Binary d sign o x)) p k at to h e = begins d false (binary_stratum o - 1) at h.1.0 h.1.4 e
  begins (node t (Conditional c d x)) p k at to h e = begins c false 21 at h.1.0 h.1.3 e

  -- ---- the tokens of the steps

  abbrev pub Goes : Going → ℕ → ℕ → Type 0
  Goes pushed at to = Is ts at kinds.LeftBracket × Is ts (at + 1) kinds.RightBracket × (to ≡ at + 2)
  Goes (indexed e) at to = Between ts kinds.LeftBracket (Reads ts Free false loosest e) kinds.RightBracket at to
  Goes (property nullsafe name) at to = Is ts at (arrow nullsafe) × Members ts Free name (at + 1) to
  Goes (scoped t) at to = IsTrue (names_scoped t.kind) × Is ts at kinds.DoubleColon × Stands ts (at + 1) t × (to ≡ at + 2)
  Goes (called es) at to = Between ts kinds.LeftParenthesis (Lists ts Free argument es) kinds.RightParenthesis at to
  Goes increased at to = Is ts at kinds.Increment × (to ≡ at + 1)
  Goes decreased at to = Is ts at kinds.Decrement × (to ≡ at + 1)
  Goes (operated sign o e) at to = (b : ℕ) × Operates ts sign o at b × Reads ts Free false (side o) e b to
  Goes (asked d e) at to = (b : ℕ) × Is ts at kinds.Question × Reads ts Free false loosest d (at + 1) b × Is ts b kinds.Colon × Reads ts Free false 21 e (b + 1) to

  pub goes_mark : (x : Going) (at to : ℕ) → Goes x at to → J ts at ≡ mark x
  goes_mark pushed at to h = rw h.0 refl
  goes_mark (indexed e) at to h = rw h.1 refl
  goes_mark (property nullsafe name) at to h = rw h.0 (arrow_joins nullsafe (kind_at ts (at + 1)))
  goes_mark (scoped t) at to h = rw h.1 (ap double_colon (stands_kind ts (at + 1) t h.2))
  goes_mark (called es) at to h = rw h.1 refl
  goes_mark increased at to h = rw h.0 refl
  goes_mark decreased at to h = rw h.0 refl
  goes_mark (operated sign o e) at to h = operator_joins (kind_at ts at) (kind_at ts (at + 1)) o h.1.0
  goes_mark (asked d e) at to h = rw h.1 (question_joins (kind_at ts (at + 1)) (λ q. begins d false loosest (at + 1) h.0 h.2 q))

  pub goes_rises : (x : Going) (at to : ℕ) → Goes x at to → at < to
  goes_rises pushed at to h = omega (arith, h.2)
  goes_rises (indexed e) at to h = let r = reads_inside ts Free e false loosest (at + 1) h.0 h.2 in omega (arith, r.0, h.4)
  goes_rises (property nullsafe name) at to h = let r = member_inside ts Free name (at + 1) to h.1 in omega (arith, r.0)
  goes_rises (scoped t) at to h = omega (arith, h.3)
  goes_rises (called es) at to h = let r = items_go ts Free es argument (at + 1) h.0 h.2 in omega (arith, r.0, h.4)
  goes_rises increased at to h = omega (arith, h.1)
  goes_rises decreased at to h = omega (arith, h.1)
  goes_rises (operated sign o e) at to h = let r = reads_inside ts Free e false (side o) h.0 to h.2 in omega (arith, r.0, h.1.1)
  goes_rises (asked d e) at to h =
      let r = reads_inside ts Free d false loosest (at + 1) h.0 h.2 in
      let s = reads_inside ts Free e false 21 (h.0 + 1) to h.4 in
      omega (arith, r.0, s.0)

  -- the tokens from one place to the other go on with the levels
  abbrev pub Leads : List Going → Levels → ℕ → ℕ → Type 0
  Leads [] vs at to = at ≡ to
  Leads (x ∷ w) vs at to = (b : ℕ) × (left : Levels) × Takes vs (stratum x) (onward x) left × Goes x at b × Leads w left b to

  abbrev pub Led : Levels → ℕ → ℕ → Type 0
  Led vs at to = (w : List Going) × Leads w vs at to

  pub leads_more : (w : List Going) (us vs : Levels) (at to : ℕ) → Covered us vs → Leads w us at to → Leads w vs at to
  leads_more [] us vs at to c l = l
  leads_more (x ∷ w) us vs at to c l =
      let r = takes_more us vs (stratum x) (onward x) l.1 l.2 c in
      (l.0, r.0, r.1, l.3, leads_more w l.1 r.0 l.0 to r.2 l.4)

  pub led_more : (us vs : Levels) (at to : ℕ) → Covered us vs → Led us at to → Led vs at to
  led_more us vs at to c l = (l.0, leads_more l.0 us vs at to c l.1)

  pub leads_within : (w : List Going) (i k : ℕ) (vs : Levels) (at to : ℕ) → Leads w vs at to → Leads w (level i k vs) at to
  leads_within w i k vs at to l = leads_more w vs (level i k vs) at to (covered_within vs i k vs (covered_self vs)) l

  pub led_within : (i k : ℕ) (vs : Levels) (at to : ℕ) → Led vs at to → Led (level i k vs) at to
  led_within i k vs at to l = (l.0, leads_within l.0 i k vs at to l.1)

  pub leads_rise : (w : List Going) (vs : Levels) (at to : ℕ) → Leads w vs at to → at ≤ to
  leads_rise [] vs at to l = omega (arith, l)
  leads_rise (x ∷ w) vs at to l = omega (arith, goes_rises x at l.0 l.3, leads_rise w l.1 l.0 to l.4)

  -- where the next token goes on in no stratum between, the level is past them
  pub leads_on : (w : List Going) (i j k : ℕ) (vs : Levels) (at to : ℕ) → ((x : Going) → J ts at ≡ mark x → i ≤ stratum x → j ≤ stratum x) → Leads w (level i k vs) at to → Leads w (level j k vs) at to
  leads_on [] i j k vs at to up l = l
  leads_on (x ∷ w) i j k vs at to up l = (l.0, l.1, takes_from i j k vs (stratum x) (onward x) l.1 (up x (goes_mark x at l.0 l.3)) l.2, l.3, l.4)

  pub led_up : (i k : ℕ) (vs : Levels) (at to : ℕ) → 5 ≤ i → J ts at ≢ i → Led (level i k vs) at to → Led (level (i + 1) k vs) at to
  led_up i k vs at to lo apart l = (
    l.0,
    leads_on l.0 i (i + 1) k vs at to (λ x m le. elim (going_bounds x) [ inl b ↦ omega (arith, b.0) | inr b ↦ grind (arith, apart, b, m, le) ]) l.1,
  )

  -- a level that appends nothing more
  pub leads_past : (w : List Going) (k : ℕ) (vs : Levels) (at to : ℕ) → 4 < J ts at → Leads w (level 1 k vs) at to → Leads w (level 6 k vs) at to
  leads_past w k vs at to past l = leads_on w 1 6 k vs at to (λ x m le. elim (going_bounds x) [ inl b ↦ omega (arith, b.3) | inr b ↦ omega (arith, b.0, b.1) ]) l

  pub leads_out : (w : List Going) (i k : ℕ) (vs : Levels) (at to : ℕ) → k < i → Leads w (level i k vs) at to → Leads w vs at to
  leads_out [] i k vs at to over l = l
  leads_out (x ∷ w) i k vs at to over l = (l.0, l.1, takes_out i k vs (stratum x) (onward x) l.1 over l.2, l.3, l.4)

  pub led_out : (i k : ℕ) (vs : Levels) (at to : ℕ) → k < i → Led (level i k vs) at to → Led vs at to
  led_out i k vs at to over l = (l.0, leads_out l.0 i k vs at to over l.1)

  -- with no level open there is no step
  pub led_over : (at to : ℕ) → Led no_level at to → at ≡ to
  led_over at to ([], l) = l
  led_over at to (x ∷ w, l) = absurd l.2

  -- some token follows, and no assignment
  pub leads_some : (w : List Going) (vs : Levels) (at to : ℕ) → 4 < J ts to → Leads w vs at to → 0 < J ts at
  leads_some [] vs at to past l = let e = ap (J ts) l in omega (arith, e)
  leads_some (x ∷ w) vs at to past l =
      let m = goes_mark x at l.0 l.3 in
      elim (going_bounds x) [ inl b ↦ omega (arith, m, b.2) | inr b ↦ omega (arith, m, b.1) ]

  pub leads_unassigned : (w : List Going) (vs : Levels) (at to : ℕ) → 5 < J ts to → Leads w vs at to → J ts at ≢ 5
  leads_unassigned [] vs at to past l = λ five. let e = ap (J ts) l in omega (arith, e)
  leads_unassigned (x ∷ w) vs at to past l = λ five.
      let m = goes_mark x at l.0 l.3 in
      elim (going_bounds x) [ inl b ↦ omega (arith, m, b.3) | inr b ↦ omega (arith, m, b.1) ]

  -- ---- from a tree to the steps

  -- all that is appended, and what follows
  pub by_suffixes : (ss : Steps) (k : ℕ) (vs : Levels) (at m to : ℕ) (w : List Going) → 1 ≤ k → Repeats ts Free suffix ss at m → Leads w vs m to
      → (v : List Going) × Leads v (level 1 k vs) at to × ((b : Bool) → ends b v ≡ ends (places b ss) w)
  by_suffixes no_step k vs at m to w le h l =
      let P : ℕ → Type 0 = λ y. Leads w (level 1 k vs) y to in
      (w, subst P (sym h) (leads_within w 1 k vs m to l), λ b. refl)
  by_suffixes (step Push ss) k vs at m to w le h l =
      let r = by_suffixes ss k vs h.0 m to w le h.2 l in
      (pushed ∷ r.0, (h.0, level 1 k vs, inl (omega arith, le, refl), (h.1.1, h.1.2, h.1.3), r.1), λ b. r.2 true)
  by_suffixes (step (Index e) ss) k vs at m to w le h l =
      let r = by_suffixes ss k vs h.0 m to w le h.2 l in
      (indexed e ∷ r.0, (h.0, level 1 k vs, inl (omega arith, le, refl), h.1.1, r.1), λ b. r.2 true)
  by_suffixes (step (Property nullsafe name no_arguments) ss) k vs at m to w le h l =
      let r = by_suffixes ss k vs h.0 m to w le h.2 l in
      let P : ℕ → Type 0 = λ y. Members ts Free name (at + 1) y in
      (property nullsafe name ∷ r.0, (h.0, level 1 k vs, inl (omega arith, le, refl), (h.1.2, subst P h.1.4.0 h.1.3), r.1), λ b. r.2 true)
  by_suffixes (step (Property nullsafe name (arguments es)) ss) k vs at m to w le h l =
      let r = by_suffixes ss k vs h.0 m to w le h.2 l in
      let called_at : Leads (called es ∷ r.0) (level 1 k vs) h.1.0 to = (h.0, level 1 k vs, inl (omega arith, le, refl), h.1.4.1, r.1) in
      (property nullsafe name ∷ called es ∷ r.0, (h.1.0, level 1 k vs, inl (omega arith, le, refl), (h.1.2, h.1.3), called_at), λ b. r.2 false)
  by_suffixes (step (Scoped t no_arguments) ss) k vs at m to w le h l =
      let r = by_suffixes ss k vs h.0 m to w le h.2 l in
      (scoped t ∷ r.0, (h.0, level 1 k vs, inl (omega arith, le, refl), (h.1.0, h.1.1, h.1.2, sym h.1.3.0), r.1), λ b. r.2 (is_variable t.kind && true))
  by_suffixes (step (Scoped t (arguments es)) ss) k vs at m to w le h l =
      let r = by_suffixes ss k vs h.0 m to w le h.2 l in
      let called_at : Leads (called es ∷ r.0) (level 1 k vs) (at + 2) to = (h.0, level 1 k vs, inl (omega arith, le, refl), h.1.3.1, r.1) in
      let P : Bool → Type 0 = λ y. ends false r.0 ≡ ends (places y ss) w in
      (scoped t ∷ called es ∷ r.0, (at + 2, level 1 k vs, inl (omega arith, le, refl), (h.1.0, h.1.1, h.1.2, refl), called_at), λ b. subst P (sym (and_false (is_variable t.kind))) (r.2 false))
  by_suffixes (step (Call es) ss) k vs at m to w le h l =
      let r = by_suffixes ss k vs h.0 m to w le h.2 l in
      (called es ∷ r.0, (h.0, level 1 k vs, inl (omega arith, le, refl), h.1.1, r.1), λ b. r.2 false)
  by_suffixes (step Increment ss) k vs at m to w le h l =
      let r = by_suffixes ss k vs h.0 m to w le h.2 l in
      (increased ∷ r.0, (h.0, level 1 k vs, inl (omega arith, le, refl), (h.1.1, h.1.2), r.1), λ b. r.2 false)
  by_suffixes (step Decrement ss) k vs at m to w le h l =
      let r = by_suffixes ss k vs h.0 m to w le h.2 l in
      (decreased ∷ r.0, (h.0, level 1 k vs, inl (omega arith, le, refl), (h.1.1, h.1.2), r.1), λ b. r.2 false)
  by_suffixes (step (Operation sign o e) ss) k vs at m to w le h l = absurd h.1.1
  by_suffixes (step (Part t) ss) k vs at m to w le h l = absurd h.1.0
  by_suffixes (step (Inserted e) ss) k vs at m to w le h l = absurd h.1.0
  by_suffixes (step (Further x) ss) k vs at m to w le h l = absurd h.1

  -- the operators of a chain, and what follows
  pub by_operations : (ss : Steps) (j k : ℕ) (vs : Levels) (at m to : ℕ) → j ≤ k → Repeats ts Free (operation j) ss at m → Led vs m to → Led (level j k vs) at to
  by_operations no_step j k vs at m to le h l = let P : ℕ → Type 0 = λ y. Led (level j k vs) y to in subst P (sym h) (led_within j k vs m to l)
  by_operations (step (Operation sign o e) ss) j k vs at m to le h l =
      let r = by_operations ss j k vs h.0 m to le h.2 l in
      let on = left_onward (fixity o) (binary_stratum o) h.1.1.1 in
      let P : ℕ → Type 0 = λ y. Reads ts Free false y e h.1.0 h.0 in
      let within : Covered (level j k vs) (level (onward (operated sign o e)) k vs) = inr (omega (arith, on, h.1.1.0), omega arith, covered_self vs) in (
        operated sign o e ∷ r.0,
        (
          h.0,
          level (onward (operated sign o e)) k vs,
          inl (omega (arith, h.1.1.0), omega (arith, h.1.1.0, le), refl),
          (h.1.0, h.1.2, subst P (sym (left_side (fixity o) (binary_stratum o) h.1.1.1)) h.1.3),
          leads_more r.0 (level j k vs) (level (onward (operated sign o e)) k vs) h.0 to within r.1,
        ),
      )
  by_operations (step Push ss) j k vs at m to le h l = absurd h.1.0
  by_operations (step (Index e) ss) j k vs at m to le h l = absurd h.1.0
  by_operations (step (Property nullsafe name es) ss) j k vs at m to le h l = absurd h.1.1
  by_operations (step (Scoped t es) ss) j k vs at m to le h l = absurd (true≢false (sym h.1.0))
  by_operations (step (Call es) ss) j k vs at m to le h l = absurd h.1.0
  by_operations (step Increment ss) j k vs at m to le h l = absurd h.1.0
  by_operations (step Decrement ss) j k vs at m to le h l = absurd h.1.0
  by_operations (step (Part t) ss) j k vs at m to le h l = absurd h.1.0
  by_operations (step (Inserted e) ss) j k vs at m to le h l = absurd h.1.0
  by_operations (step (Further x) ss) j k vs at m to le h l = absurd h.1

  -- an operator that is in no chain, and what follows
  pub by_operator : (sign : Token) (o : BinaryOperator) (e : Tree) (k : ℕ) (vs : Levels) (at b m to : ℕ) → binary_stratum o ≤ k → fixity o ≢ fixities.Left → Operates ts sign o at b
      → Reads ts Free false (right_side (fixity o) (binary_stratum o)) e b m → Led vs m to → Led (level (binary_stratum o) k vs) at to
  by_operator sign o e k vs at b m to le other h r l =
      let P : ℕ → Type 0 = λ y. Reads ts Free false y e b m in (
        operated sign o e ∷ l.0,
        (
          m,
          level (onward (operated sign o e)) k vs,
          inl (omega arith, le, refl),
          (b, h, subst P (sym (other_side (fixity o) (binary_stratum o) other)) r),
          leads_within l.0 (onward (operated sign o e)) k vs m to l.1,
        ),
      )

  pub by_question : (d e : Tree) (k : ℕ) (vs : Levels) (at b m to : ℕ) → 22 ≤ k → Is ts at kinds.Question → Reads ts Free false loosest d (at + 1) b → Is ts b kinds.Colon
      → Reads ts Free false 21 e (b + 1) m → Led vs m to → Led (level 22 k vs) at to
  by_question d e k vs at b m to le q h c r l = (asked d e ∷ l.0, (m, level 24 k vs, inl (omega arith, le, refl), (b, q, h, c, r), leads_within l.0 24 k vs m to l.1))

  -- ---- the claim

  -- a greedy tree of stratum k, behind which the tokens go on with the levels
  abbrev pub Picked : ℕ → Levels → ℕ → ℕ → Type 0
  Picked k vs at to = (g : Tree) × (o : ℕ) × Greedy ts false k g at o × Led vs o to

  abbrev pub Law : ℕ → Type 0
  Law n = (k at m to : ℕ) (vs : Levels) (t : Tree) → 5 ≤ k → k ≤ loosest → Reads ts Free false k t at m → Led vs m to → IsEnd ts to → to ≤ n + at → Picked k vs at to
