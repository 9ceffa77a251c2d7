-- Stratum by stratum: a greedy tree and another one from the same place are alike, or the greedy one takes more.
use Rattle.std.proofs.Common.{◌≡◌, ℕ, zero, suc, ◌+◌, ◌-◌, ◌≤◌, ◌<◌, Bool, true, false, List, [], ◌∷◌, ◌++◌, Some, None, refl, sym, ap, ap₂, subst, ◌∙◌, arith, ◌⊎◌, inl, inr}
use Rattle.std.proofs.lemmas.Bool.{cases_lt}
use Rattle.stan_model_grammar.specs.declared.operators.ArrayStyle.TheVariants as styles
use Rattle.stan_model_grammar.specs.declared.operators.Leaf.{Leaf}
use Rattle.stan_model_grammar.specs.declared.operators.PrefixOperator.{PrefixOperator}
use Rattle.stan_model_grammar.specs.declared.operators.BinaryOperator.{BinaryOperator}
use Rattle.stan_model_grammar.specs.declared.operators.BinaryOperator.TheVariants as binaries
use Rattle.stan_model_grammar.specs.declared.operators.AssignmentOperator.{AssignmentOperator}
use Rattle.stan_model_grammar.specs.declared.operators.Fixity.TheVariants as fixities
use Rattle.stan_model_grammar.specs.declared.token.Token.{Token}
use Rattle.stan_model_grammar.specs.declared.token.TokenKind.{TokenKind}
use Rattle.stan_model_grammar.specs.declared.token.TokenKind.TheVariants as kinds
use Rattle.stan_model_grammar.specs.Strata.{kind_at, leaf_of, prefix_of, prefix_stratum, question, binary_at, binary_size, binary_stratum, fixity, tighter, right_side, assignment_at, assignment_size, is_exit, loosest}
use Rattle.stan_model_grammar.specs.Trees.{Tree, node, Form, Single, Brackets, Array, IsSet, Empty, Exit, New, Match, Closure, Arrow, Text, Post, Prefix, Assignment, Chain, Binary, Conditional, Steps, no_step, step}
use Rattle.stan_model_grammar.specs.Expressions.{operation, IsSomeStep, Is, Assigns, Reads, Forms, Repeats}
use Rattle.stan_model_grammar.specs.Takes.{size, steps_size, zeros, none, takes, steps_take, More}
use Rattle.stan_expr_rules.proofs.InsideLemmas.{reads_inside, steps_go, step_inside}
use Rattle.stan_expr_law.proofs.SizeLemmas.{reads_size, steps_are_size}
use Rattle.stan_expr_rules.specs.Parse.{first_of}
use Rattle.stan_expr_law.proofs.Spelled.{Free}
use Rattle.stan_expr_greedy.proofs.SoundTables.{stratum_bounds}
use Rattle.stan_expr_takes.proofs.Cut.{longest_of, assignment_some}
use Rattle.stan_expr_takes.proofs.TakesLists.{more_before, more_after, more_is, Best, best_map, best_pad, best_sized, best_then}
use Rattle.stan_expr_takes.proofs.TakesStarts.{no_start, raised_true}
use Rattle.stan_expr_takes.proofs.TakesKinds.{N, operation_of}
use Rattle.stan_expr_takes.proofs.TakesItems.{All, Most, some_same, right_most, operations_most}
use Rattle.stan_expr_takes.proofs.TakesViews.{own, narrow, tree_split, Rest, nothing, chained, operated, asked, joined, rest_takes, RestReads, rested, tighter_low, first_same}
use Rattle.stan_expr_takes.proofs.TakesAtoms.{near_weak, free_weak, operand_most}
use Rattle.stan_expr_rules.proofs.Greedy.{one_token}
use Rattle.stan_expr_rules.proofs.Tables.{prefix_bounds}

-- ---- tables

side_range : (o : BinaryOperator) → (5 ≤ right_side (fixity o) (binary_stratum o)) × (right_side (fixity o) (binary_stratum o) ≤ loosest)
side_range binaries.Power = (omega arith, omega arith)
side_range o = (omega arith, omega arith)

question_colon : (next : TokenKind) (o : BinaryOperator) → question next ≡ Some o → next ≡ kinds.Colon
question_colon kinds.Colon o h = refl
question_colon next o h = absurd cc

leaf_unprefixed : (k : TokenKind) (l : Leaf) → leaf_of k ≡ Some l → prefix_of k ≡ None
leaf_unprefixed kinds.Integer l h = refl
leaf_unprefixed kinds.Float l h = refl
leaf_unprefixed kinds.SingleQuoted l h = refl
leaf_unprefixed kinds.DoubleQuoted l h = refl
leaf_unprefixed kinds.Heredoc l h = refl
leaf_unprefixed kinds.Nowdoc l h = refl
leaf_unprefixed kinds.Variable l h = refl
leaf_unprefixed kinds.Identifier l h = refl
leaf_unprefixed kinds.QualifiedName l h = refl
leaf_unprefixed kinds.FullyQualifiedName l h = refl
leaf_unprefixed kinds.RelativeName l h = refl
leaf_unprefixed kinds.Static l h = refl
leaf_unprefixed k l h = absurd cc

exit_unprefixed : (k : TokenKind) → is_exit k ≡ true → prefix_of k ≡ None
exit_unprefixed kinds.Exit h = refl
exit_unprefixed kinds.Die h = refl
exit_unprefixed k h = absurd cc

zeros_more : (x n : ℕ) (xs : List ℕ) → 0 < x → 0 < n → More (x ∷ xs) (zeros n)
zeros_more x zero xs h i = absurd (omega arith)
zeros_more x (suc n) xs h i = inl h

-- ---- what stands before an assignment, and the assignment

pub data Target : Type 0 where
  alone : Target
  assigned : AssignmentOperator → Tree → Target

abbrev targeted : Tree → Target → Tree
targeted e alone = e
targeted e (assigned o d) = node (first_of e) (Assignment e o d)

abbrev target_takes : Target → List ℕ
target_takes alone = 0 ∷ []
target_takes (assigned o d) = size d ∷ (takes 24 d ++ none 5 5)

module _ (ts : List Token) where
  module _ (S : ℕ → ℕ → ℕ → Type 0) where
    mutual
      -- an operand without operator begins with no prefix
      unprefixed : (t : Tree) (p : Bool) (k at to : ℕ) → k ≤ 4 → Reads ts S p k t at to → prefix_of (kind_at ts at) ≡ None
      unprefixed (node t f) p k at to le h = form_unprefixed f p k at to le h.1

      form_unprefixed : (f : Form) (p : Bool) (k at to : ℕ) → k ≤ 4 → Forms ts S p k f at to → prefix_of (kind_at ts at) ≡ None
      form_unprefixed (Single leaf) p k at to le h = leaf_unprefixed (kind_at ts at) leaf h.0
      form_unprefixed (Brackets e) p k at to le h = ap prefix_of h.0.1
      form_unprefixed (Array styles.Brackets es) p k at to le h = ap prefix_of h.1.1
      form_unprefixed (Array styles.Array es) p k at to le h = ap prefix_of h.1
      form_unprefixed (Array styles.List es) p k at to le h = ap prefix_of h.1
      form_unprefixed (IsSet es) p k at to le h = ap prefix_of h.1
      form_unprefixed (Empty e) p k at to le h = ap prefix_of h.0
      form_unprefixed (Exit es) p k at to le h = exit_unprefixed (kind_at ts at) h.0
      form_unprefixed (New class es) p k at to le h = ap prefix_of h.2
      form_unprefixed (Match e arms) p k at to le h = ap prefix_of h.1
      form_unprefixed (Closure true r ps cs type body) p k at to le h = ap prefix_of h.5.0
      form_unprefixed (Closure false r ps cs type body) p k at to le h = let P : ℕ → Type 0 = λ y. Is ts y kinds.Function in ap prefix_of (subst P (sym h.5) h.6)
      form_unprefixed (Arrow true r ps type e) p k at to le h = ap prefix_of h.4.0
      form_unprefixed (Arrow false r ps type e) p k at to le h = let P : ℕ → Type 0 = λ y. Is ts y kinds.Fn in ap prefix_of (subst P (sym h.4) h.5)
      form_unprefixed (Text parts) p k at to le h = ap prefix_of h.0.1
      form_unprefixed (Post e ss) p k at to le h = unprefixed e false 0 at h.0 (omega arith) h.3
      form_unprefixed (Prefix o e) p k at to le h = absurd (omega (arith, le, h.0))
      form_unprefixed (Assignment target o e) p k at to le h = absurd (omega (arith, le, h.2))
      form_unprefixed (Chain j e ss) p k at to le h = absurd (omega (arith, le, h.1, h.2))
      form_unprefixed (Binary d sign o e) p k at to le h = let low = (stratum_bounds o).0 in absurd (omega (arith, le, low, h.2))
      form_unprefixed (Conditional c d e) p k at to le h = absurd (omega (arith, le, h.2))

    abbrev TargetReads : Target → ℕ → ℕ → Type 0
    TargetReads alone at to = at ≡ to
    TargetReads (assigned o d) at to = (c : ℕ) × Assigns ts o at c × Reads ts S false 24 d c to

    abbrev Targeted : Tree → ℕ → ℕ → Type 0
    Targeted t at to = (e : Tree) × (r : Target) × (m : ℕ) × Reads ts S true 4 e at m × TargetReads r m to × (t ≡ targeted e r) × (takes 5 t ≡ takes 4 e ++ target_takes r)

    abbrev Prefixed : Bool → Form → ℕ → ℕ → Type 0
    Prefixed p f at to = (o : PrefixOperator) × (e : Tree) × (f ≡ Prefix o e) × Forms ts S p 5 (Prefix o e) at to

    target_goes : (r : Target) (at to : ℕ) → TargetReads r at to → at ≤ to
    target_goes alone at to h = omega (arith, h)
    target_goes (assigned o d) at to h = let i = (reads_inside ts S d false 24 h.0 to h.2).0 in omega (arith, i, h.1.1)

    module _ (weak : (low j k i : ℕ) → j ≤ k → S low k i → S low j i) where
      lower_target : (t : Token) (f : Form) (p : Bool) (at to : ℕ) → own f ≤ 4 → Reads ts S p 5 (node t f) at to → Targeted (node t f) at to
      lower_target t f p at to lo h = (node t f, alone, to, raised_true ts S p 4 (node t f) at to (narrow ts S weak t f p 4 5 at to lo (omega arith) h), refl, refl, tree_split t f 4 5 lo (omega arith))

      operand_of : (t : Token) (f : Form) (p : Bool) (at to : ℕ) → Reads ts S p 5 (node t f) at to → Prefixed p f at to ⊎ Targeted (node t f) at to
      operand_of t (Prefix o e) p at to h = inl (o, e, refl, h.1)
      operand_of t (Assignment target o e) p at to h =
          inr (target, assigned o e, h.1.0, h.1.4, (h.1.1, h.1.5, h.1.6), ap (λ z. node z (Assignment target o e)) (first_same ts S weak t target true 4 at h.1.0 h.0 h.1.4), refl)
      operand_of t (Chain j e ss) p at to h = absurd (omega (arith, h.1.1, h.1.2))
      operand_of t (Binary d sign o e) p at to h = let low = (stratum_bounds o).0 in absurd (omega (arith, low, h.1.2))
      operand_of t (Conditional c d e) p at to h = absurd (omega (arith, h.1.2))
      operand_of t (Post e ss) p at to h = inr (lower_target t (Post e ss) p at to (omega arith) h)
      operand_of t (New class es) p at to h = inr (lower_target t (New class es) p at to (omega arith) h)
      operand_of t f p at to h = inr (lower_target t f p at to (omega arith) h)

      some_goes : (ss : Steps) (j at to : ℕ) → IsSomeStep ss → Repeats ts S (operation j) ss at to → at < to
      some_goes no_step j at to some h = absurd some
      some_goes (step x xs) j at to some h =
          let a = (step_inside ts S x (operation j) at h.0 h.1).0 in
          let b = (steps_go ts S xs (operation j) h.0 to h.2).0 in
          omega (arith, a, b)

      operated_goes : (sign : Token) (o : BinaryOperator) (d : Tree) (j at to : ℕ) → RestReads ts S weak j (operated sign o d) at to → at < to
      operated_goes sign o d j at to h = let a = (reads_inside ts S d false (right_side (fixity o) (binary_stratum o)) h.0 to h.4).0 in omega (arith, a, h.3.1)

      asked_goes : (d c : Tree) (j at to : ℕ) → RestReads ts S weak j (asked d c) at to → at < to
      asked_goes d c j at to h =
          let a = (reads_inside ts S d false loosest (at + 1) h.0 h.2).0 in
          let b = (reads_inside ts S c false 21 (h.0 + 1) to h.4).0 in
          omega (arith, a, b)

      rest_goes : (r : Rest) (j at to : ℕ) → RestReads ts S weak j r at to → at ≤ to
      rest_goes nothing j at to h = omega (arith, h)
      rest_goes (chained ss) j at to h = let a = some_goes ss j at to h.0 h.1 in omega (arith, a)
      rest_goes (operated sign o d) j at to h = let a = operated_goes sign o d j at to h in omega (arith, a)
      rest_goes (asked d c) j at to h = let a = asked_goes d c j at to h in omega (arith, a)

      -- the first operator of a chain
      first_operator : (ss : Steps) (j at to : ℕ) → IsSomeStep ss → Repeats ts S (operation j) ss at to → (o : BinaryOperator) × (fixity o ≡ fixities.Left) × (binary_at (kind_at ts at) (kind_at ts (at + 1)) ≡ Some o)
      first_operator no_step j at to some h = absurd some
      first_operator (step x xs) j at to some h = let v = operation_of ts S j x at h.0 h.1 in (v.1, v.5.1, v.6.0)

      -- `?` that is an operator of two tokens, and `?` before an expression
      unasked : (o : BinaryOperator) (d : Tree) (at to : ℕ) → binary_at (kind_at ts at) (kind_at ts (at + 1)) ≡ Some o → Is ts at kinds.Question → Reads ts S false loosest d (at + 1) to → ⊥
      unasked o d at to h e r = no_start ts S d false loosest (at + 1) to kinds.Colon r (question_colon (kind_at ts (at + 1)) o (sym (ap (λ z. binary_at z (kind_at ts (at + 1))) e) ∙ h)) refl

  prefix_by : (t u : Token) (to end : ℕ) (o : PrefixOperator) (e d : Tree) → t ≡ u → Best e d to end (size e ∷ takes (prefix_stratum o) e) (size d ∷ takes (prefix_stratum o) d)
      → Best (node t (Prefix o e)) (node u (Prefix o d)) to end (takes 5 (node t (Prefix o e))) (takes 5 (node u (Prefix o d)))
  prefix_by t u to end o e d q (inl same) = inl (ap₂ node q (ap (Prefix o) same.0), same.1)
  prefix_by t u to end o e d q (inr more) = inr (more_before (size e ∷ takes (prefix_stratum o) e) (size d ∷ takes (prefix_stratum o) d) (none 5 5) (none 5 5) more)

  prefix_is : (t u : Token) (f g : Form) (to end : ℕ) (o : PrefixOperator) (e d : Tree) → f ≡ Prefix o e → g ≡ Prefix o d → t ≡ u → Best e d to end (size e ∷ takes (prefix_stratum o) e) (size d ∷ takes (prefix_stratum o) d)
      → Best (node t f) (node u g) to end (takes 5 (node t f)) (takes 5 (node u g))
  prefix_is t u f g to end o e d p q s h =
      let P : Form → Type 0 = λ z. Best (node t z) (node u g) to end (takes 5 (node t z)) (takes 5 (node u g)) in
      let Q : Form → Type 0 = λ z. Best (node t (Prefix o e)) (node u z) to end (takes 5 (node t (Prefix o e))) (takes 5 (node u z)) in
      subst P (sym p) (subst Q (sym q) (prefix_by t u to end o e d s h))

  module _ (n : ℕ) (ih : All ts n) where
    -- ---- operands

    prefix_most : (t u : Token) (f g : Form) (p : Bool) (at to end : ℕ) → t ≡ u → Prefixed (N ts) p f at to → Prefixed Free p g at end → to ≤ suc n + at → Best (node t f) (node u g) to end (takes 5 (node t f)) (takes 5 (node u g))
    prefix_most t u f g p at to end s v w le =
        let o = v.0 in
        let same = some_same (prefix_of (kind_at ts at)) w.0 o w.3.1 v.3.1 in
        let P : PrefixOperator → Type 0 = λ z. Reads ts Free false (prefix_stratum z) w.1 (at + 1) end in
        let Q : PrefixOperator → Type 0 = λ z. g ≡ Prefix z w.1 in
        let range = prefix_bounds o in
        prefix_is t u f g to end o v.1 w.1 v.2 (subst Q same w.2) s
        (right_most ts n ih false (prefix_stratum o) v.1 w.1 (size v.1) (size w.1) (at + 1) to end range.0 range.1 (omega arith) v.3.2 (subst P same w.3.2) (omega (arith, le)))

    target_most : (r s : Target) (m to end : ℕ) → TargetReads (N ts) r m to → TargetReads Free s m end → end ≤ to → to ≤ n + m → Best r s to end (target_takes r) (target_takes s)
    target_most alone alone m to end h i long le = inl (refl, sym h ∙ i)
    target_most alone (assigned o d) m to end h i long le =
        let a = (reads_inside ts Free d false 24 i.0 end i.2).0 in
        let some = assignment_some o in
        absurd (omega (arith, a, some, h, i.1.1, long))
    target_most (assigned o d) alone m to end h i long le =
        let a = (reads_inside ts (N ts) d false 24 h.0 to h.2).0 in
        let b = reads_size ts (N ts) d false 24 h.0 to h.2 in
        inr (inl (omega (arith, a, b)))
    target_most (assigned o d) (assigned q e) m to end h i long le =
        let same = some_same (assignment_at (kind_at ts m) (kind_at ts (m + 1))) o q h.1.0 i.1.0 in
        let place : i.0 ≡ h.0 = omega (arith, h.1.1, i.1.1, ap assignment_size same) in
        let P : ℕ → Type 0 = λ z. Reads ts Free false 24 e z end in
        let Q : AssignmentOperator → Type 0 = λ z. Best (assigned o d) (assigned z e) to end (target_takes (assigned o d)) (target_takes (assigned z e)) in
        subst Q same (best_pad (assigned o d) (assigned o e) to end (size d ∷ takes 24 d) (size e ∷ takes 24 e) (none 5 5)
        (best_map (assigned o) d e to end to end (size d ∷ takes 24 d) (size e ∷ takes 24 e) (λ z. z)
        (right_most ts n ih false 24 d e (size d) (size e) h.0 to end (omega arith) (omega arith) (omega arith) h.2 (subst P place i.2) (omega (arith, h.1.1, le)))))

    five_most : (p : Bool) → Most ts (suc n) p 5
    five_most p (node t f) (node u g) at to end h i le = elim (operand_of (N ts) (near_weak ts) t f p at to h) [
      | inl v ↦ elim (operand_of Free (free_weak ts) u g p at end i) [
        | inl w ↦ prefix_most t u f g p at to end (one_token ts at t u h.0 i.0) v w le
        | inr w ↦ let e = unprefixed Free w.0 true 4 at w.2 (omega arith) w.3 in absurd (cc (e, v.3.1))
      ]
      | inr v ↦ elim (operand_of Free (free_weak ts) u g p at end i) [
        | inl w ↦ let e = unprefixed (N ts) v.0 true 4 at v.2 (omega arith) v.3 in absurd (cc (e, w.3.1))
        | inr w ↦
            let x = (reads_inside ts (N ts) v.0 true 4 at v.2 v.3).0 in
            let y = target_goes (N ts) v.1 v.2 to v.4 in
            let G = node t f in
            let T = node u g in
            let l = target_takes v.1 in
            let r = target_takes w.1 in
            elim (operand_most ts n ih v.0 w.0 at v.2 w.2 v.3 w.3 (omega (arith, y, le))) [
              | inl same ↦
                  let P : ℕ → Type 0 = λ z. TargetReads Free w.1 z end in
                  let long = longest_of ts p 5 G T at to end (omega arith) (omega arith) h i in
                  elim (target_most v.1 w.1 v.2 to end v.4 (subst P (sym same.1) w.4) long (omega (arith, x, le))) [
                    | inl rest ↦ inl (v.5 ∙ ap₂ targeted same.0 rest.0 ∙ sym w.5, rest.1)
                    | inr more ↦ inr (more_is (takes 5 G) (takes 5 T) (takes 4 v.0 ++ l) (takes 4 w.0 ++ r) v.6 w.6 (more_after (takes 4 v.0) (takes 4 w.0) l r (ap (takes 4) same.0) more))
                  ]
              | inr more ↦ inr (more_is (takes 5 G) (takes 5 T) (takes 4 v.0 ++ l) (takes 4 w.0 ++ r) v.6 w.6 (more_before (takes 4 v.0) (takes 4 w.0) l r more))
            ]
      ]
    ]

    -- ---- operators

    abbrev RestMost : ℕ → Rest → Rest → ℕ → ℕ → ℕ → Type 0
    RestMost j r s m to end = RestReads ts (N ts) (near_weak ts) j r m to → RestReads ts Free (free_weak ts) j s m end → end ≤ to → to ≤ n + m → Best r s to end (rest_takes j r) (rest_takes j s)

    chained_most : (j : ℕ) (ss rs : Steps) (m to end : ℕ) → RestMost j (chained ss) (chained rs) m to end
    chained_most j ss rs m to end h i long le =
        let a = steps_are_size ts (N ts) ss (operation j) m to h.1 in
        let b = steps_are_size ts Free rs (operation j) m end i.1 in
        best_sized (chained ss) (chained rs) to end (steps_size ss) (steps_size rs) (steps_take ss ++ none j j) (steps_take rs ++ none j j) (omega (arith, a, b, long))
        (λ e.
        let q : to ≡ end = omega (arith, a, b, e) in
        best_pad (chained ss) (chained rs) to end (steps_take ss) (steps_take rs) (none j j)
        (elim (operations_most ts n ih j ss rs m to end h.1 i.1 q (omega (arith, le))) [ inl same ↦ inl (ap chained same, q) | inr more ↦ inr more ]))

    operated_most : (j : ℕ) (s t : Token) (o q : BinaryOperator) (d e : Tree) (m to end : ℕ) → RestMost j (operated s o d) (operated t q e) m to end
    operated_most j s t o q d e m to end h i long le =
        let same = some_same (binary_at (kind_at ts m) (kind_at ts (m + 1))) o q h.3.0 i.3.0 in
        let place : i.0 ≡ h.0 = omega (arith, h.3.1, i.3.1, ap binary_size same) in
        let P : BinaryOperator → Type 0 = λ z. Reads ts Free false (right_side (fixity z) (binary_stratum z)) e i.0 end in
        let k = right_side (fixity o) (binary_stratum o) in
        let Q : ℕ → Type 0 = λ z. Reads ts Free false (right_side (fixity o) (binary_stratum o)) e z end in
        let moved = subst Q place (subst P (sym same) i.4) in
        let sign = one_token ts m s t h.3.2 i.3.2 in
        let S : Token → Type 0 = λ z. Best (operated s o d) (operated z q e) to end (rest_takes j (operated s o d)) (rest_takes j (operated z q e)) in
        let R : BinaryOperator → Type 0 = λ z. Best (operated s o d) (operated s z e) to end (rest_takes j (operated s o d)) (rest_takes j (operated s z e)) in
        let range = side_range o in
        subst S sign (subst R same (best_pad (operated s o d) (operated s o e) to end (size d ∷ takes k d) (size e ∷ takes k e) (none (binary_stratum o) j)
        (best_map (operated s o) d e to end to end (size d ∷ takes k d) (size e ∷ takes k e) (λ z. z)
        (right_most ts n ih false k d e (size d) (size e) h.0 to end range.0 range.1 (omega arith) h.4 moved (omega (arith, h.3.1, le))))))

    asked_most : (j : ℕ) (d c e b : Tree) (m to end : ℕ) → RestMost j (asked d c) (asked e b) m to end
    asked_most j d c e b m to end h i long le =
        let x = reads_size ts (N ts) d false loosest (m + 1) h.0 h.2 in
        let y = reads_size ts (N ts) c false 21 (h.0 + 1) to h.4 in
        let z = reads_size ts Free e false loosest (m + 1) i.0 i.2 in
        let w = reads_size ts Free b false 21 (i.0 + 1) end i.4 in
        let g = (reads_inside ts (N ts) c false 21 (h.0 + 1) to h.4).0 in
        let us = size c ∷ (takes 21 c ++ none 23 j) in
        let vs = size b ∷ (takes 21 b ++ none 23 j) in
        let P : ℕ → Type 0 = λ k. Reads ts Free false 21 b (k + 1) end in
        best_sized (asked d c) (asked e b) to end (size d + size c + 2) (size e + size b + 2) (takes loosest d ++ us) (takes loosest e ++ vs) (omega (arith, x, y, z, w, long))
        (λ same.
        best_then (takes loosest) asked d e c b h.0 i.0 to end us vs
        (ih false loosest (omega arith) (omega arith) d e (m + 1) h.0 i.0 h.2 i.2 (omega (arith, g, le)))
        (λ p q. best_pad c b to end (size c ∷ takes 21 c) (size b ∷ takes 21 b) (none 23 j)
        (right_most ts n ih false 21 c b (size c) (size b) (h.0 + 1) to end (omega arith) (omega arith) (omega arith) h.4 (subst P (sym q) i.4) (omega (arith, x, le)))))

    rest_most : (j : ℕ) → 6 ≤ j → (r s : Rest) (m to end : ℕ) → RestMost j r s m to end
    rest_most j six nothing nothing m to end h i long le = inl (refl, sym h ∙ i)
    rest_most j six nothing (chained rs) m to end h i long le = let a = some_goes Free (free_weak ts) rs j m end i.0 i.1 in absurd (omega (arith, a, h, long))
    rest_most j six nothing (operated u q e) m to end h i long le = let a = operated_goes Free (free_weak ts) u q e j m end i in absurd (omega (arith, a, h, long))
    rest_most j six nothing (asked e b) m to end h i long le = let a = asked_goes Free (free_weak ts) e b j m end i in absurd (omega (arith, a, h, long))
    rest_most j six (chained ss) nothing m to end h i long le =
        let a = some_goes (N ts) (near_weak ts) ss j m to h.0 h.1 in
        let b = steps_are_size ts (N ts) ss (operation j) m to h.1 in
        let c = (tighter_low j six).1 in
        inr (zeros_more (steps_size ss) (j - tighter j) (steps_take ss ++ none j j) (omega (arith, a, b)) (omega (arith, c)))
    rest_most j six (chained ss) (chained rs) m to end h i long le = chained_most j ss rs m to end h i long le
    rest_most j six (chained ss) (operated u q e) m to end h i long le =
        let v = first_operator (N ts) (near_weak ts) ss j m to h.0 h.1 in
        let same = some_same (binary_at (kind_at ts m) (kind_at ts (m + 1))) q v.0 i.3.0 v.2 in
        absurd (i.2 (ap fixity same ∙ v.1))
    rest_most j six (chained ss) (asked e b) m to end h i long le = let v = first_operator (N ts) (near_weak ts) ss j m to h.0 h.1 in absurd (unasked Free (free_weak ts) v.0 e m i.0 v.2 i.1 i.2)
    rest_most j six (operated s o d) nothing m to end h i long le =
        let a = reads_size ts (N ts) d false (right_side (fixity o) (binary_stratum o)) h.0 to h.4 in
        let b = (reads_inside ts (N ts) d false (right_side (fixity o) (binary_stratum o)) h.0 to h.4).0 in
        let c = (tighter_low j six).1 in
        inr (zeros_more (size d) (j - tighter j) (takes (right_side (fixity o) (binary_stratum o)) d ++ none (binary_stratum o) j) (omega (arith, a, b)) (omega (arith, c)))
    rest_most j six (operated s o d) (chained rs) m to end h i long le =
        let v = first_operator Free (free_weak ts) rs j m end i.0 i.1 in
        let same = some_same (binary_at (kind_at ts m) (kind_at ts (m + 1))) o v.0 h.3.0 v.2 in
        absurd (h.2 (ap fixity same ∙ v.1))
    rest_most j six (operated s o d) (operated u q e) m to end h i long le = operated_most j s u o q d e m to end h i long le
    rest_most j six (operated s o d) (asked e b) m to end h i long le = absurd (unasked Free (free_weak ts) o e m i.0 h.3.0 i.1 i.2)
    rest_most j six (asked d c) nothing m to end h i long le =
        let a = (tighter_low j six).1 in
        inr (zeros_more (size d + size c + 2) (j - tighter j) (takes loosest d ++ (size c ∷ (takes 21 c ++ none 23 j))) (omega arith) (omega (arith, a)))
    rest_most j six (asked d c) (chained rs) m to end h i long le = let v = first_operator Free (free_weak ts) rs j m end i.0 i.1 in absurd (unasked (N ts) (near_weak ts) v.0 d m h.0 v.2 h.1 h.2)
    rest_most j six (asked d c) (operated u q e) m to end h i long le = absurd (unasked (N ts) (near_weak ts) q d m h.0 i.3.0 h.1 h.2)
    rest_most j six (asked d c) (asked e b) m to end h i long le = asked_most j d c e b m to end h i long le

    stratum_most : (p : Bool) (j : ℕ) → 6 ≤ j → j ≤ loosest → Most ts (suc n) p (tighter j) → Most ts (suc n) p j
    stratum_most p j six hi lower g t at to end h i le =
        let v = rested ts (N ts) (near_weak ts) g p j at to six h in
        let w = rested ts Free (free_weak ts) t p j at end six i in
        let x = (reads_inside ts (N ts) v.0 p (tighter j) at v.2 v.3).0 in
        let y = rest_goes (N ts) (near_weak ts) v.1 j v.2 to v.4 in
        let k = tighter j in
        let l = rest_takes j v.1 in
        let r = rest_takes j w.1 in
        elim (lower v.0 w.0 at v.2 w.2 v.3 w.3 (omega (arith, y, le))) [
          | inl same ↦
              let P : ℕ → Type 0 = λ z. RestReads ts Free (free_weak ts) j w.1 z end in
              let long = longest_of ts p j g t at to end (omega (arith, six)) hi h i in
              elim (rest_most j six v.1 w.1 v.2 to end v.4 (subst P (sym same.1) w.4) long (omega (arith, x, le))) [
                | inl rest ↦ inl (v.5 ∙ ap₂ (joined j) same.0 rest.0 ∙ sym w.5, rest.1)
                | inr more ↦ inr (more_is (takes j g) (takes j t) (takes k v.0 ++ l) (takes k w.0 ++ r) v.6 w.6 (more_after (takes k v.0) (takes k w.0) l r (ap (takes k) same.0) more))
              ]
          | inr more ↦ inr (more_is (takes j g) (takes j t) (takes k v.0 ++ l) (takes k w.0 ++ r) v.6 w.6 (more_before (takes k v.0) (takes k w.0) l r more))
        ]

    strata_most : (d : ℕ) (p : Bool) (k : ℕ) → 5 ≤ k → k ≤ loosest → k ≤ d + 5 → Most ts (suc n) p k
    strata_most zero p k lo hi le =
        let e : k ≡ 5 = omega arith in
        let P : ℕ → Type 0 = λ z. Most ts (suc n) p z in
        subst P (sym e) (five_most p)
    strata_most (suc d) p k lo hi le = elim (cases_lt 5 k) [
      | inl lt ↦
          let t = tighter_low k lt in
          stratum_most p k lt hi (strata_most d p (tighter k) t.0 (omega (arith, t.1, hi)) (omega (arith, t.1, le)))
      | inr small ↦
          let e : k ≡ 5 = omega arith in
          let P : ℕ → Type 0 = λ z. Most ts (suc n) p z in
          subst P (sym e) (five_most p)
    ]

  nothing_most : All ts zero
  nothing_most p k lo hi g t at to end h i le = let a = (reads_inside ts (N ts) g p k at to h).0 in absurd (omega (arith, a, le))

  pub all_most : (n : ℕ) → All ts n
  all_most zero = nothing_most
  all_most (suc n) = λ p k lo hi. strata_most n (all_most n) loosest p k lo hi (omega (arith, hi))
