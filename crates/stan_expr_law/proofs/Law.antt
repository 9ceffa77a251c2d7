-- Where a tree spells the tokens up to an end, a greedy one does too.
use Rattle.std.proofs.Common.{◌≡◌, ◌≢◌, ℕ, zero, suc, ◌+◌, ◌-◌, ◌≤◌, ◌==◌, Bool, true, false, if◌then◌else◌, List, [], ◌∷◌, refl, sym, ap, subst, ◌∙◌, arith, ◌⊎◌, inl, inr, true≢false}
use Rattle.std.proofs.lemmas.Bool.{ne_eqb}
use Rattle.std.proofs.lemmas.Bool.Decides.{eqb_tells}
use Rattle.stan_model_grammar.specs.declared.operators.ArrayStyle.TheVariants as styles
use Rattle.stan_model_grammar.specs.declared.operators.BinaryOperator.{BinaryOperator}
use Rattle.stan_model_grammar.specs.declared.operators.BinaryOperator.TheVariants as binaries
use Rattle.stan_model_grammar.specs.declared.operators.Fixity.{Fixity}
use Rattle.stan_model_grammar.specs.declared.operators.Fixity.TheVariants as fixities
use Rattle.stan_model_grammar.specs.declared.token.Token.{Token}
use Rattle.stan_model_grammar.specs.declared.token.TokenKind.TheVariants as kinds
use Rattle.stan_model_grammar.specs.Strata.{kind_at, loosest, prefix_stratum, binary_stratum, fixity, tighter}
use Rattle.stan_model_grammar.specs.Trees.{Tree, node, Array, New, Arrow, Post, Prefix, Assignment, Chain, Binary, Conditional, Steps, no_step, step, Operation}
use Rattle.stan_model_grammar.specs.Expressions.{parameter, operation, Operates, Reads, Repeats, Spells, IsEnd}
use Rattle.stan_expr_rules.proofs.InsideLemmas.{reads_inside, items_go, may_goes, return_goes}
use Rattle.stan_expr_rules.proofs.Greedy.{J, Near, Greedy, Picks, extend}
use Rattle.stan_expr_law.proofs.Spelled.{Free}
use Rattle.stan_expr_law.proofs.Levels.{Levels, no_level, level, takes_covered, takes_onward, Covered, covered_self, Going, scoped, operated, asked, mark, onward, side, left_side, other_side, other_onward, operator_bounds, going_rises, end_joins, goes_mark, goes_rises, Leads, Led, led_more, leads_within, led_within, leads_rise, led_up, led_out, led_over, leads_unassigned, by_suffixes, by_operations, by_operator, by_question, Picked, Law}
use Rattle.stan_expr_law.proofs.LawItems.{ends_by, exact, items_picked}
use Rattle.stan_expr_law.proofs.LawSteps.{new_picked}
use Rattle.stan_expr_law.proofs.LawAtoms.{simple_picked, target_picked}
use Rattle.stan_expr_rules.proofs.Tables.{assignment_joins, double_colon_bounds, prefix_bounds}

-- ---- tables

tighter_is : (j : ℕ) → j ≢ 23 → tighter j ≡ j - 1
tighter_is j apart = rw (ne_eqb j 23 apart) refl

abbrev is_left : Fixity → Bool
is_left fixities.Left = true
is_left _ = false

abbrev left_stratum : ℕ → Bool
left_stratum j = if j == 6 then false else (if j == 14 then false else (if j == 15 then false else (if j == 21 then false else true)))

fixed : (o : BinaryOperator) → is_left (fixity o) ≡ left_stratum (binary_stratum o)
fixed binaries.Power = refl
fixed o = refl

left_is : (f : Fixity) → is_left f ≡ true → f ≡ fixities.Left
left_is fixities.Left e = refl
left_is fixities.Right e = absurd (true≢false (sym e))
left_is fixities.Single e = absurd (true≢false (sym e))

-- The stratum of an operator tells its fixity.
left_too : (o q : BinaryOperator) (j : ℕ) → binary_stratum o ≡ j → fixity o ≡ fixities.Left → binary_stratum q ≡ j → fixity q ≡ fixities.Left
left_too o q j e f i = left_is (fixity q) (fixed q ∙ ap left_stratum (i ∙ sym e) ∙ sym (fixed o) ∙ ap is_left f)

left_or_not : (f : Fixity) → (f ≡ fixities.Left) ⊎ (f ≢ fixities.Left)
left_or_not fixities.Left = inl refl
left_or_not fixities.Right = inr (λ e. cc)
left_or_not fixities.Single = inr (λ e. cc)

-- no operator is in these
operator_apart : (o : BinaryOperator) → (binary_stratum o ≢ 22) × (binary_stratum o ≢ 7)
operator_apart binaries.Power = (λ e. omega arith, λ e. omega arith)
operator_apart o = (λ e. omega arith, λ e. omega arith)

abbrev is_operated : Going → Bool
is_operated (operated sign o e) = true
is_operated _ = false

going_apart : (x : Going) (j : ℕ) → is_operated x ≡ false → 6 ≤ j → j ≢ 22 → mark x ≢ j
going_apart (operated sign o e) j f lo apart q = true≢false f
going_apart (scoped t) j f lo apart q = let d = double_colon_bounds t.kind in omega (arith, d.1, q)
going_apart (asked d e) j f lo apart q = apart (sym q)
going_apart x j f lo apart q = omega (arith, q)

abbrev is_asked : Going → Bool
is_asked (asked d e) = true
is_asked _ = false

going_unasked : (x : Going) → is_asked x ≡ false → mark x ≢ 22
going_unasked (operated sign o e) f q = let a = operator_apart o in a.0 q
going_unasked (scoped t) f q = let d = double_colon_bounds t.kind in omega (arith, d.1, q)
going_unasked (asked d e) f q = true≢false f
going_unasked x f q = omega (arith, q)

module _ (ts : List Token) where
  end_apart : (at to j : ℕ) → IsEnd ts to → at ≡ to → j ≤ loosest → J ts at ≢ j
  end_apart at to j e l hi q = let i = ap (J ts) l in let k = end_joins ts to e in omega (arith, i, k, q)

  with_operations : (j : ℕ) (t : Tree) (gs : Steps) (at m o : ℕ) → 6 ≤ j → Greedy ts false (tighter j) t at m → Greedy ts false (j - 1) t at m → Repeats ts (Near ts) (operation j) gs m o → J ts o ≢ j → (g : Tree) × Greedy ts false j g at o
  with_operations j t no_step at m o lo h i c apart = let P : ℕ → Type 0 = λ y. Greedy ts false (j - 1) t at y in (t, extend ts false j t at o apart (subst P c i))
  with_operations j (node u f) (step x xs) at m o lo h i c apart = (node u (Chain j (node u f) (step x xs)), (h.0, (m, lo, omega arith, tt, h, c, λ q. grind (arith, apart, q))))

  with_operator : (j : ℕ) (t : Tree) (sign : Token) (o : BinaryOperator) (x : Tree) (at b c to : ℕ) → binary_stratum o ≡ j → fixity o ≢ fixities.Left → Greedy ts false (j - 1) t at b → Operates ts sign o b c → Greedy ts false (side o) x c to → (g : Tree) × Greedy ts false j g at to
  with_operator j (node u f) sign o x at b c to same other h i r =
      let P : ℕ → Type 0 = λ y. Greedy ts false (y - 1) (node u f) at b in
      let Q : ℕ → Type 0 = λ y. Greedy ts false y x c to in
      (node u (Binary (node u f) sign o x), (h.0, (b, c, omega (arith, same), other, subst P (sym same) h, i, subst Q (other_side (fixity o) (binary_stratum o) other) r, λ q. omega (arith, same, q))))

  module _ (n : ℕ) (law : Law ts n) where
    -- the operators of a chain of stratum j, as many as there are
    abbrev Operated : ℕ → ℕ → Levels → ℕ → ℕ → Type 0
    Operated j k vs at to = (gs : Steps) × (o : ℕ) × Repeats ts (Near ts) (operation j) gs at o × (J ts o ≢ j) × Led ts (level j k vs) o to

    operations_picked : (fuel : ℕ) (w : List Going) (j k : ℕ) (vs : Levels) (at to : ℕ) → 6 ≤ j → j ≤ loosest → j ≢ 22 → ((o : BinaryOperator) → binary_stratum o ≡ j → fixity o ≡ fixities.Left)
        → Leads ts w (level j k vs) at to → IsEnd ts to → to ≤ n + at → to ≤ fuel + at → Operated j k vs at to
    operations_picked fuel [] j k vs at to lo hi apart left l e le fe = (no_step, at, refl, end_apart at to j e l hi, ([], l))
    operations_picked zero (operated sign o x ∷ w) j k vs at to lo hi apart left l e le fe =
        let i = goes_rises ts (operated sign o x) at l.0 l.3 in
        let r = leads_rise ts w l.1 l.0 to l.4 in
        absurd (omega (arith, i, r))
    operations_picked (suc fuel) (operated sign o x ∷ w) j k vs at to lo hi apart left l e le fe =
        elim (eqb_tells (binary_stratum o) j) [
          | inl same ↦
              let b = operator_bounds o in
              let s = l.3.1.1 in
              let p = law (side o) l.3.0 l.0 to l.1 x b.2 (omega (arith, b.3)) l.3.2 (w, l.4) e (omega (arith, s)) in
              let i = reads_inside ts (Near ts) p.0 false (side o) l.3.0 p.1 p.2 in
              let again = led_more ts l.1 (level j k vs) p.1 to (takes_covered (level j k vs) (binary_stratum o) (onward (operated sign o x)) l.1 (going_rises (operated sign o x)) l.2) p.3 in
              let r = operations_picked fuel again.0 j k vs p.1 to lo hi apart left again.1 e (omega (arith, i.0, s)) (omega (arith, i.0, s)) in
              let f = left o same.1 in
              let P : ℕ → Type 0 = λ y. Greedy ts false y p.0 l.3.0 p.1 in
              (step (Operation sign o p.0) r.0, r.1, (p.1, (l.3.0, (same.1, f), l.3.1, subst P (left_side (fixity o) (binary_stratum o) f) p.2), r.2), r.3, r.4)
          | inr other ↦ (no_step, at, refl, (λ q. other.1 (sym (goes_mark ts (operated sign o x) at l.0 l.3) ∙ q)), (operated sign o x ∷ w, l))
        ]
    operations_picked fuel (x ∷ w) j k vs at to lo hi apart left l e le fe =
        (no_step, at, refl, (λ q. going_apart x j refl lo apart (sym (goes_mark ts x at l.0 l.3) ∙ q)), (x ∷ w, l))

    -- nothing goes on in stratum j
    picked_on : (j k : ℕ) (vs : Levels) (at to : ℕ) (g : Tree) (o : ℕ) → 6 ≤ j → Greedy ts false (j - 1) g at o → J ts o ≢ j → Led ts (level j k vs) o to → Picked ts j (level (j + 1) k vs) at to
    picked_on j k vs at to g o lo h apart l = (g, o, extend ts false j g at o apart h, led_up ts j k vs o to (omega arith) apart l)

    chain_picked : (j k : ℕ) (vs : Levels) (at to : ℕ) (g : Tree) (o : ℕ) → 6 ≤ j → j ≤ loosest → j ≢ 22 → ((q : BinaryOperator) → binary_stratum q ≡ j → fixity q ≡ fixities.Left)
        → Greedy ts false (tighter j) g at o → Greedy ts false (j - 1) g at o → Led ts (level j k vs) o to → IsEnd ts to → to ≤ suc n + at → Picked ts j (level (j + 1) k vs) at to
    chain_picked j k vs at to g o lo hi apart left h i l e le =
        let a = reads_inside ts (Near ts) g false (j - 1) at o i in
        let r = operations_picked n l.0 j k vs o to lo hi apart left l.1 e (omega (arith, a.0)) (omega (arith, a.0)) in
        let c = with_operations j g r.0 at o r.1 lo h i r.2 r.3 in
        (c.0, r.1, c.1, led_up ts j k vs r.1 to (omega arith) r.3 r.4)

    operator_picked : (j k : ℕ) (vs : Levels) (at to : ℕ) (g : Tree) (m : ℕ) (sign : Token) (o : BinaryOperator) (x : Tree) (w : List Going) → binary_stratum o ≡ j → fixity o ≢ fixities.Left
        → Greedy ts false (j - 1) g at m → Leads ts (operated sign o x ∷ w) (level j k vs) m to → IsEnd ts to → to ≤ suc n + at → Picked ts j (level (j + 1) k vs) at to
    operator_picked j k vs at to g m sign o x w same other h l e le =
        let a = reads_inside ts (Near ts) g false (j - 1) at m h in
        let b = operator_bounds o in
        let p = law (side o) l.3.0 l.0 to l.1 x b.2 (omega (arith, b.3)) l.3.2 (w, l.4) e (omega (arith, a.0, l.3.1.1)) in
        let c = with_operator j g sign o p.0 at m l.3.0 p.1 same other h l.3.1 p.2 in
        let on : onward (operated sign o x) ≡ j + 1 = omega (arith, other_onward (fixity o) (binary_stratum o) other, same) in
        let P : ℕ → Type 0 = λ y. Covered l.1 (level y k vs) in
        let covered = subst P on (takes_onward j k vs (binary_stratum o) (onward (operated sign o x)) l.1 (going_rises (operated sign o x)) l.2) in
        (c.0, p.1, c.1, led_more ts l.1 (level (j + 1) k vs) p.1 to covered p.3)

    stage_by : (j k : ℕ) (vs : Levels) (at to : ℕ) (g : Tree) (o : ℕ) (w : List Going) → 6 ≤ j → j ≤ loosest → j ≢ 22 → j ≢ 23 → Greedy ts false (j - 1) g at o → Leads ts w (level j k vs) o to → IsEnd ts to → to ≤ suc n + at
        → Picked ts j (level (j + 1) k vs) at to
    stage_by j k vs at to g o [] lo hi a22 a23 h l e le = picked_on j k vs at to g o lo h (end_apart o to j e l hi) ([], l)
    stage_by j k vs at to g o (operated sign q x ∷ w) lo hi a22 a23 h l e le =
        elim (eqb_tells (binary_stratum q) j) [
          | inl same ↦ elim (left_or_not (fixity q)) [
            | inl left ↦
                let P : ℕ → Type 0 = λ y. Greedy ts false y g at o in
                chain_picked j k vs at to g o lo hi a22 (λ r i. left_too q r j same.1 left i) (subst P (sym (tighter_is j a23)) h) h (operated sign q x ∷ w, l) e le
            | inr other ↦ operator_picked j k vs at to g o sign q x w same.1 other h l e le
          ]
          | inr apart ↦ picked_on j k vs at to g o lo h (λ i. apart.1 (sym (goes_mark ts (operated sign q x) o l.0 l.3) ∙ i)) (operated sign q x ∷ w, l)
        ]
    stage_by j k vs at to g o (x ∷ w) lo hi a22 a23 h l e le = picked_on j k vs at to g o lo h (λ i. going_apart x j refl lo a22 (sym (goes_mark ts x o l.0 l.3) ∙ i)) (x ∷ w, l)

    -- from a stratum to the next one, which holds no `?`
    stage_picked : (i k : ℕ) (vs : Levels) (at to : ℕ) → 5 ≤ i → i + 1 ≤ loosest → i ≢ 21 → i ≢ 22 → Picked ts i (level (i + 1) k vs) at to → IsEnd ts to → to ≤ suc n + at → Picked ts (i + 1) (level (i + 1 + 1) k vs) at to
    stage_picked i k vs at to lo hi a b p e le =
        let q : i ≡ i + 1 - 1 = omega arith in
        let P : ℕ → Type 0 = λ y. Greedy ts false y p.0 at p.1 in
        stage_by (i + 1) k vs at to p.0 p.1 p.3.0 (omega arith) hi (λ r. a (omega (arith, r))) (λ r. b (omega (arith, r))) (subst P q p.2) p.3.1 e le

    -- ---- `? :`

    -- a conditional, or none goes on
    abbrev Asked : ℕ → Levels → ℕ → ℕ → Type 0
    Asked k vs at to = ((g : Tree) × (o : ℕ) × Greedy ts false 22 g at o × Greedy ts false 23 g at o × Led ts (level 24 k vs) o to)
        ⊎ ((g : Tree) × (o : ℕ) × Greedy ts false 21 g at o × (J ts o ≢ 22) × Led ts (level 22 k vs) o to)

    asked_by : (k : ℕ) (vs : Levels) (at to : ℕ) (g : Tree) (o : ℕ) (w : List Going) → Greedy ts false 21 g at o → Leads ts w (level 22 k vs) o to → IsEnd ts to → to ≤ suc n + at → Asked k vs at to
    asked_by k vs at to g o [] h l e le = inr (g, o, h, end_apart o to 22 e l (omega arith), ([], l))
    asked_by k vs at to (node t f) o (asked d x ∷ w) h l e le =
        let a = reads_inside ts (Near ts) (node t f) false 21 at o h in
        let s = l.3 in
        let i = reads_inside ts Free d false loosest (o + 1) s.0 s.2 in
        let j = reads_inside ts Free x false 21 (s.0 + 1) l.0 s.4 in
        let r = leads_rise ts w l.1 l.0 to l.4 in
        let g = exact ts n law d (o + 1) s.0 s.2 (ends_by ts kinds.Colon s.0 s.3 refl) (omega (arith, a.0, j.0, r)) in
        let p = law 21 (s.0 + 1) l.0 to l.1 x (omega arith) (omega arith) s.4 (w, l.4) e (omega (arith, a.0, i.0)) in
        let led = led_more ts l.1 (level 24 k vs) p.1 to (takes_onward 22 k vs 22 24 l.1 (omega arith) l.2) p.3 in
        inl (
          node t (Conditional (node t f) g.0 p.0),
          p.1,
          (h.0, (o, s.0, omega arith, h, s.1, g.1, s.3, p.2, λ q. omega (arith, q))),
          (h.0, (o, s.0, omega arith, h, s.1, g.1, s.3, p.2, λ q. omega (arith, q))),
          led,
        )
    asked_by k vs at to g o (x ∷ w) h l e le = inr (g, o, h, (λ i. going_unasked x refl (sym (goes_mark ts x o l.0 l.3) ∙ i)), (x ∷ w, l))

    asked_picked : (k : ℕ) (vs : Levels) (at to : ℕ) → Picked ts 21 (level 22 k vs) at to → IsEnd ts to → to ≤ suc n + at → Asked k vs at to
    asked_picked k vs at to p e le = asked_by k vs at to p.0 p.1 p.3.0 p.2 p.3.1 e le

    elvis_left : (q : BinaryOperator) → binary_stratum q ≡ 23 → fixity q ≡ fixities.Left
    elvis_left q i = left_too binaries.Elvis q 23 refl refl i

    -- from stratum 21 to the end of stratum 22, or of 23
    last_asked : (vs : Levels) (at to : ℕ) → Picked ts 21 (level 22 22 vs) at to → IsEnd ts to → to ≤ suc n + at → Picked ts 22 vs at to
    last_asked vs at to p e le =
        elim (asked_picked 22 vs at to p e le) [
          | inl a ↦ (a.0, a.1, a.2, led_out ts 24 22 vs a.1 to (omega arith) a.4)
          | inr a ↦ (a.0, a.1, extend ts false 22 a.0 at a.1 a.3 a.2, led_out ts 23 22 vs a.1 to (omega arith) (led_up ts 22 22 vs a.1 to (omega arith) a.3 a.4))
        ]

    questions_picked : (k : ℕ) (vs : Levels) (at to : ℕ) → Picked ts 21 (level 22 k vs) at to → IsEnd ts to → to ≤ suc n + at → Picked ts 23 (level 24 k vs) at to
    questions_picked k vs at to p e le =
        elim (asked_picked k vs at to p e le) [
          | inl a ↦ (a.0, a.1, a.3, a.4)
          | inr a ↦ chain_picked 23 k vs at to a.0 a.1 (omega arith) (omega arith) (λ q. omega (arith, q)) elvis_left a.2 (extend ts false 22 a.0 at a.1 a.3 a.2) (led_up ts 22 k vs a.1 to (omega arith) a.3 a.4) e le
        ]

    -- ---- from stratum to stratum

    climb : (d i k : ℕ) (vs : Levels) (at to : ℕ) → 5 ≤ i → i ≢ 22 → k ≡ i + d → k ≤ loosest → Picked ts i (level (i + 1) k vs) at to → IsEnd ts to → to ≤ suc n + at → Picked ts k vs at to
    climb zero i k vs at to lo apart q hi p e le =
        let P : ℕ → Type 0 = λ y. Greedy ts false y p.0 at p.1 in
        let r : i ≡ k = omega (arith, q) in
        (p.0, p.1, subst P r p.2, led_out ts (i + 1) k vs p.1 to (omega arith) p.3)
    climb (suc zero) i k vs at to lo apart q hi p e le =
        elim (eqb_tells i 21) [
          | inl same ↦
              let P : ℕ → Type 0 = λ y. Picked ts y (level (y + 1) k vs) at to in
              let Q : ℕ → Type 0 = λ y. Picked ts 21 (level 22 y vs) at to in
              let R : ℕ → Type 0 = λ y. Picked ts y vs at to in
              let r : k ≡ 22 = omega (arith, q, same.1) in
              subst R (sym r) (last_asked vs at to (subst Q r (subst P same.1 p)) e le)
          | inr other ↦ climb zero (i + 1) k vs at to (omega arith) (λ r. other.1 (omega (arith, r))) (omega (arith, q)) hi (stage_picked i k vs at to lo (omega (arith, q)) other.1 apart p e le) e le
        ]
    climb (suc (suc d)) i k vs at to lo apart q hi p e le =
        elim (eqb_tells i 21) [
          | inl same ↦
              let P : ℕ → Type 0 = λ y. Picked ts y (level (y + 1) k vs) at to in
              climb d 23 k vs at to (omega arith) (λ r. omega (arith, r)) (omega (arith, q, same.1)) hi (questions_picked k vs at to (subst P same.1 p) e le) e le
          | inr other ↦ climb (suc d) (i + 1) k vs at to (omega arith) (λ r. other.1 (omega (arith, r))) (omega (arith, q)) hi (stage_picked i k vs at to lo (omega (arith, q)) other.1 apart p e le) e le
        ]

    finish : (i k : ℕ) (vs : Levels) (at to : ℕ) → 5 ≤ i → i ≢ 22 → i ≤ k → k ≤ loosest → Picked ts i (level (i + 1) k vs) at to → IsEnd ts to → to ≤ suc n + at → Picked ts k vs at to
    finish i k vs at to lo apart le hi p e f = climb (k - i) i k vs at to lo apart (omega arith) hi p e f

    atom_level : (t : Tree) (k at m to : ℕ) (vs : Levels) → 5 ≤ k → k ≤ loosest → Reads ts Free false 0 t at m → Led ts vs m to → IsEnd ts to → to ≤ suc n + at → Picked ts k vs at to
    atom_level t k at m to vs lo hi h l e le =
        finish 5 k vs at to (omega arith) (λ q. omega (arith, q)) lo hi (simple_picked ts n law t k l.0 vs at m to h (leads_within ts l.0 1 k vs m to l.1) e le) e le

    -- a tree in a place of stratum k
    level_picked : (t : Tree) (k at m to : ℕ) (vs : Levels) → 5 ≤ k → k ≤ loosest → Reads ts Free false k t at m → Led ts vs m to → IsEnd ts to → to ≤ suc n + at → Picked ts k vs at to
    level_picked (node t (New class es)) k at m to vs lo hi h l e le =
        let j = end_joins ts to e in
        let r = new_picked ts n law class es vs (at + 1) h.1.0 m to (omega (arith, j)) h.1.3 h.1.4 l (omega arith) in
        let other = leads_unassigned ts r.6.0 vs r.3 to (omega (arith, j)) r.6.1 in
        let g : Greedy ts false 5 (node t (New r.0 r.1)) at r.3 = (h.0, (r.2, omega arith, h.1.2, r.4, r.5, λ q. grind (arith, other, q))) in
        finish 5 k vs at to (omega arith) (λ q. omega (arith, q)) lo hi (node t (New r.0 r.1), r.3, g, led_within ts 6 k vs r.3 to r.6) e le
    level_picked (node t (Arrow static reference parameters type x)) k at m to vs lo hi h l e le =
        let j = end_joins ts to e in
        let rise = leads_rise ts l.0 vs m to l.1 in
        let f = h.1 in
        let p = f.7 in
        let a = may_goes ts static kinds.Static (λ q. cc) at f.0 f.4 in
        let b = may_goes ts reference kinds.Ampersand (λ q. cc) (f.0 + 1) f.1 f.6 in
        let c = items_go ts Free parameters parameter (f.1 + 1) p.0 p.2 in
        let d = return_goes ts type f.2 f.3 f.8 in
        let i = reads_inside ts Free x false loosest (f.3 + 1) m f.10 in
        let r = items_picked ts n law parameters parameter (f.1 + 1) p.0 p.2 (ends_by ts kinds.RightParenthesis p.0 p.3 refl) (omega (arith, a.0, b.0, p.4, d.0, i.0, rise)) in
        let v = law loosest (f.3 + 1) m to vs x (omega arith) (omega arith) f.10 l e (omega (arith, a.0, b.0, c.0, p.4, d.0)) in
        let other = leads_unassigned ts v.3.0 vs v.1 to (omega (arith, j)) v.3.1 in
        let whole = node t (Arrow static reference r.0 type v.0) in
        let g : Greedy ts false 5 whole at v.1 = (h.0, (f.0, f.1, f.2, f.3, f.4, f.5, f.6, (p.0, p.1, r.1, p.3, p.4), f.8, f.9, v.2, λ q. grind (arith, other, q), omega arith)) in
        finish 5 k vs at to (omega arith) (λ q. omega (arith, q)) lo hi (whole, v.1, g, led_within ts 6 k vs v.1 to v.3) e le
    level_picked (node t (Post x ss)) k at m to vs lo hi h l e le =
        let v = by_suffixes ts ss k vs h.1.0 m to l.0 (omega arith) h.1.4 l.1 in
        finish 5 k vs at to (omega arith) (λ q. omega (arith, q)) lo hi (simple_picked ts n law x k v.0 vs at h.1.0 to h.1.3 v.1 e le) e le
    level_picked (node t (Prefix o x)) k at m to vs lo hi h l e le =
        let b = prefix_bounds o in
        let p = law (prefix_stratum o) (at + 1) m to (level 6 k vs) x b.0 b.1 h.1.2 (led_within ts 6 k vs m to l) e (omega arith) in
        let g : Greedy ts false 5 (node t (Prefix o p.0)) at p.1 = (h.0, (omega arith, h.1.1, p.2, λ q. omega (arith, q))) in
        finish 5 k vs at to (omega arith) (λ q. omega (arith, q)) lo hi (node t (Prefix o p.0), p.1, g, p.3) e le
    level_picked (node t (Assignment target o x)) k at m to vs lo hi h l e le =
        let f = h.1 in
        let i = reads_inside ts Free target true 4 at f.0 f.4 in
        let j = reads_inside ts Free x false 24 f.1 m f.6 in
        let r = leads_rise ts l.0 vs m to l.1 in
        let five = assignment_joins (kind_at ts f.0) (kind_at ts (f.0 + 1)) o f.5.0 in
        let a = target_picked ts n law target o at f.0 f.3 f.4 five (omega (arith, f.5.1, j.0, r)) in
        let p = law 24 f.1 m to (level 6 k vs) x (omega arith) (omega arith) f.6 (led_within ts 6 k vs m to l) e (omega (arith, i.0, f.5.1)) in
        let g : Greedy ts false 5 (node t (Assignment a.0 o p.0)) at p.1 = (h.0, (f.0, f.1, omega arith, a.2, a.1, f.5, p.2, λ q. omega (arith, q))) in
        finish 5 k vs at to (omega arith) (λ q. omega (arith, q)) lo hi (node t (Assignment a.0 o p.0), p.1, g, p.3) e le
    level_picked (node t (Chain j x ss)) k at m to vs lo hi h l e le =
        let f = h.1 in
        let v = by_operations ts ss j k vs f.0 m to f.2 f.5 l in
        let P : ℕ → Type 0 = λ y. Reads ts Free false y x at f.0 in
        elim (eqb_tells j 23) [
          | inl same ↦
              let Q : ℕ → Type 0 = λ y. Led ts (level y k vs) f.0 to in
              let within : Covered (level 23 k vs) (level 22 k vs) = inr (omega arith, omega arith, covered_self vs) in
              let w = led_more ts (level 23 k vs) (level 22 k vs) f.0 to within (subst Q same.1 v) in
              let p = level_picked x 21 at f.0 to (level 22 k vs) (omega arith) (omega arith) (subst P (ap tighter same.1) f.4) w e le in
              finish 21 k vs at to (omega arith) (λ q. omega (arith, q)) (omega (arith, f.2, same.1)) hi p e le
          | inr other ↦
              let p = level_picked x (j - 1) at f.0 to (level j k vs) (omega (arith, f.1)) (omega (arith, f.2)) (subst P (tighter_is j other.1) f.4) v e le in
              let q : j ≡ j - 1 + 1 = omega (arith, f.1) in
              let R : ℕ → Type 0 = λ y. Picked ts (j - 1) (level y k vs) at to in
              finish (j - 1) k vs at to (omega (arith, f.1)) (λ r. other.1 (omega (arith, r, f.1))) (omega (arith, f.2)) hi (subst R q p) e le
        ]
    level_picked (node t (Binary d sign o x)) k at m to vs lo hi h l e le =
        let f = h.1 in
        let b = operator_bounds o in
        let v = by_operator ts sign o x k vs f.0 f.1 m to f.2 f.3 f.5 f.6 l in
        let p = level_picked d (binary_stratum o - 1) at f.0 to (level (binary_stratum o) k vs) (omega (arith, b.0)) (omega (arith, b.1)) f.4 v e le in
        let q : binary_stratum o ≡ binary_stratum o - 1 + 1 = omega (arith, b.0) in
        let R : ℕ → Type 0 = λ y. Picked ts (binary_stratum o - 1) (level y k vs) at to in
        finish (binary_stratum o - 1) k vs at to (omega (arith, b.0)) (λ r. f.3 (elvis_left o (omega (arith, r, b.0)))) (omega (arith, f.2)) hi (subst R q p) e le
    level_picked (node t (Conditional c d x)) k at m to vs lo hi h l e le =
        let f = h.1 in
        let v = by_question ts d x k vs f.0 f.1 m to f.2 f.4 f.5 f.6 f.7 l in
        let p = level_picked c 21 at f.0 to (level 22 k vs) (omega arith) (omega arith) f.3 v e le in
        finish 21 k vs at to (omega arith) (λ q. omega (arith, q)) (omega (arith, f.2)) hi p e le
    level_picked (node t (Array styles.Brackets es)) k at m to vs lo hi h l e le = atom_level (node t (Array styles.Brackets es)) k at m to vs lo hi h l e le
    level_picked (node t (Array styles.Array es)) k at m to vs lo hi h l e le = atom_level (node t (Array styles.Array es)) k at m to vs lo hi h l e le
    level_picked (node t (Array styles.List es)) k at m to vs lo hi h l e le = atom_level (node t (Array styles.List es)) k at m to vs lo hi h l e le
    level_picked (node t f) k at m to vs lo hi h l e le = atom_level (node t f) k at m to vs lo hi h l e le

  law_holds : (n : ℕ) → Law ts n
  law_holds zero k at m to vs t lo hi h l e le =
      let i = reads_inside ts Free t false k at m h in
      let r = leads_rise ts l.0 vs m to l.1 in
      absurd (omega (arith, i.0, r))
  law_holds (suc n) k at m to vs t lo hi h l e le = level_picked n (law_holds n) t k at m to vs lo hi h l e le

-- the same at each stratum of an operand or looser
pub some_is_greedy : (ts : List Token) (k : ℕ) (t : Tree) (at to : ℕ) → 5 ≤ k → k ≤ loosest → Reads ts Free false k t at to → IsEnd ts to → (g : Tree) × Greedy ts false k g at to
some_is_greedy ts k t at to lo hi h e =
    let p = law_holds ts to k at to to no_level t lo hi h ([], refl) e (omega arith) in
    let P : ℕ → Type 0 = λ y. Greedy ts false k p.0 at y in
    (p.0, subst P (led_over ts p.1 to p.3) p.2)

-- Where a tree spells the tokens up to an end, a greedy one does too.
pub some_is_picked : (ts : List Token) (t : Tree) (at to : ℕ) → Spells ts t at to → IsEnd ts to → (g : Tree) × Picks ts g at to
some_is_picked ts t at to h e = some_is_greedy ts loosest t at to (omega arith) (omega arith) h e
