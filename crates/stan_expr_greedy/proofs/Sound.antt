-- What the parser reads is a greedy tree.
use Rattle.std.proofs.Common.{◌≡◌, ℕ, zero, suc, ◌+◌, ◌-◌, ◌≤◌, ◌<◌, ◌==◌, ◌&&◌, not, Bool, true, false, true≢false, cond, List, [], ◌∷◌, length, Option, Some, None, slice_get, refl, sym, ap, subst, ◌∙◌, arith, ◌⊎◌, inl, inr}
use Rattle.std.proofs.lemmas.Bool.{eqb-true}
use Rattle.std.proofs.lemmas.Bool.Decides.{eqb_tells}
use Rattle.stan_model_grammar.specs.declared.operators.ArrayStyle.TheVariants as styles
use Rattle.stan_model_grammar.specs.declared.operators.AssignmentOperator.{AssignmentOperator}
use Rattle.stan_model_grammar.specs.declared.operators.BinaryOperator.{BinaryOperator}
use Rattle.stan_model_grammar.specs.declared.operators.Fixity.{Fixity}
use Rattle.stan_model_grammar.specs.declared.operators.Fixity.TheVariants as fixities
use Rattle.stan_model_grammar.specs.declared.operators.PrefixOperator.{PrefixOperator}
use Rattle.stan_model_grammar.specs.declared.token.Token.{Token}
use Rattle.stan_model_grammar.specs.declared.token.TokenKind.TheVariants as kinds
use Rattle.stan_model_grammar.specs.Strata.{kind_at, leaf_low, loosest, binary_size, binary_stratum, fixity, tighter, right_side, prefix_of, prefix_stratum, assignment_size}
use Rattle.stan_model_grammar.specs.Trees.{Tree, node, Form, Single, Brackets, Array, IsSet, Empty, Exit, New, Match, Closure, Arrow, Text, Post, Prefix, Assignment, Chain, Binary, Conditional, Steps, no_step, step, Step, Property, Scoped, Operation, Further, is_pattern}
use Rattle.stan_model_grammar.specs.Expressions.{suffix, operation, IsSomeStep, Is, Forms, Repeats, StepReads, is_assignable}
use Rattle.stan_model_grammar.specs.TreeLists.{Operated, steps, operation_steps}
use Rattle.stan_expr_rules.specs.Places.{same_kind, after, joins_at, operator_at, assigning_at}
use Rattle.stan_expr_rules.specs.Parse.{Read, all, first_of, stands_conditional, is_conditional, is_arrow, suffixed, with_suffixes, with_operations, form_by, atom_with, suffixes, post_with, new, new_with, post, assigned, target_by, target, prefixed, operand_by, operand, operation_with, operation_by, operation_at, operations, chain, binary, conditional, by_fixity, operated_by, operated, stratum, strata, below, expression_at}
use Rattle.stan_expr_rules.proofs.Greedy.{J, Near, Greedy, Picks, first_stands, leaf_is_none, no_arrow, extend, plain}
use Rattle.stan_expr_rules.proofs.InsideLemmas.{stands_kind}
use Rattle.stan_expr_greedy.proofs.Reading.{bind_ok, gives, made_of, taken_is, taken_none, none_is_not, if_is, guard_ok, guard_not, same_is, after_is, Seq, many_sound}
use Rattle.stan_expr_greedy.proofs.Computes.{operator_stratum}
use Rattle.stan_expr_greedy.proofs.SoundTables.{stratum_bounds, stratum_other, tighter_bounds, right_bounds, same_fixity, is_question, question_stratum, no_assignment}
use Rattle.stan_expr_greedy.proofs.SoundItems.{Sound}
use Rattle.stan_expr_greedy.proofs.SoundSteps.{suffixes_sound, new_sound}
use Rattle.stan_expr_greedy.proofs.SoundForms.{IsAlone, form_by_sound}
use Rattle.stan_expr_rules.proofs.Choices.{nothing_is}
use Rattle.stan_expr_rules.proofs.Tables.{prefix_bounds}

allowed : (p x : Bool) → (x && not p) ≡ false → (p ≡ true) ⊎ (x ≡ false)
allowed true x h = inl refl
allowed false true h = absurd cc
allowed false false h = inr refl

-- ---- strata 21 to 23

nearer : (ts : List Token) (low to : ℕ) → Near ts low 22 to → Near ts low 21 to
nearer ts low to near least = let far = near least in omega arith

-- no operator has stratum 22
no_chain : (ts : List Token) (j : ℕ) (x : Step) (ss : Steps) (from to : ℕ) → Repeats ts (Near ts) (operation j) (step x ss) from to → j ≡ 22 → ⊥
no_chain ts j (Operation sign o e) ss from to h q = stratum_other o (h.1.1.0 ∙ q)
no_chain ts j (Property nullsafe name es) ss from to h q = h.1.1
no_chain ts j (Scoped t es) ss from to h q = cc (h.1.0)
no_chain ts j (Further x) ss from to h q = h.1
no_chain ts j x ss from to h q = h.1.0

chain_other : (ts : List Token) (j : ℕ) (ss : Steps) (from to : ℕ) → IsSomeStep ss → Repeats ts (Near ts) (operation j) ss from to → j ≡ 22 → ⊥
chain_other ts j no_step from to some h q = some
chain_other ts j (step x ss) from to some h q = no_chain ts j x ss from to h q

-- a tree of stratum 22 that is no conditional is one of stratum 21
lower_form : (ts : List Token) (p : Bool) (t : Token) (f : Form) (from to : ℕ) → is_conditional (node t f) ≡ false → Forms ts (Near ts) p 22 f from to → Forms ts (Near ts) p 21 f from to
lower_form ts p t (Single leaf) from to c h = (h.0, h.1, nearer ts (leaf_low leaf) to h.2)
lower_form ts p t (Brackets e) from to c h = (h.0, nearer ts 1 to h.1)
lower_form ts p t (Array styles.Brackets es) from to c h = (h.0, h.1, nearer ts 1 to h.2)
lower_form ts p t (Array styles.Array es) from to c h = (h.0, h.1, h.2, nearer ts 1 to h.3)
lower_form ts p t (Array styles.List es) from to c h = (h.0, h.1, h.2, nearer ts 1 to h.3)
lower_form ts p t (IsSet es) from to c h = (h.0, h.1, h.2, nearer ts 1 to h.3)
lower_form ts p t (Empty e) from to c h = (h.0, h.1, nearer ts 1 to h.2)
lower_form ts p t (Exit es) from to c h = (h.0, h.1, nearer ts 1 to h.2)
lower_form ts p t (New k es) from to c h = (h.0, omega arith, h.2, h.3, h.4, nearer ts 5 to h.5)
lower_form ts p t (Match e arms) from to c h = (h.0, h.1, h.2, h.3, nearer ts 1 to h.4)
lower_form ts p t (Closure u v w x y z) from to c h = (h.0, h.1, h.2, h.3, h.4, h.5, h.6, h.7, h.8, h.9, h.10, h.11, nearer ts 1 to h.12)
lower_form ts p t (Arrow u v w x y) from to c h = (h.0, h.1, h.2, h.3, h.4, h.5, h.6, h.7, h.8, h.9, h.10, nearer ts 5 to h.11, omega arith)
lower_form ts p t (Text parts) from to c h = (h.0, nearer ts 1 to h.1)
lower_form ts p t (Post e ss) from to c h = (h.0, omega arith, h.2, h.3, h.4, nearer ts 1 to h.5)
lower_form ts p t (Prefix o e) from to c h = (omega arith, h.1, h.2, nearer ts 6 to h.3)
lower_form ts p t (Assignment target o e) from to c h = (h.0, h.1, omega arith, h.3, h.4, h.5, h.6, nearer ts 6 to h.7)
lower_form ts p t (Chain j e ss) from to c h =
    let apart : j ≡ 22 → ⊥ = chain_other ts j ss h.0 to h.3 h.5 in
    let le : j ≤ 22 = h.2 in
    let less : j ≤ 21 = grind (arith, apart) in
    (h.0, h.1, less, h.3, h.4, h.5, nearer ts j to h.6)
lower_form ts p t (Binary d sign o e) from to c h =
    let apart = stratum_other o in
    let le : binary_stratum o ≤ 22 = h.2 in
    let less : binary_stratum o ≤ 21 = grind (arith, apart) in
    (h.0, h.1, less, h.3, h.4, h.5, h.6, nearer ts (binary_stratum o + 1) to h.7)
lower_form ts p t (Conditional x y z) from to c h = absurd cc

pub lower : (ts : List Token) (p : Bool) (t : Tree) (from to : ℕ) → is_conditional t ≡ false → Greedy ts p 22 t from to → Greedy ts p 21 t from to
lower ts p (node t f) from to c h = (h.0, lower_form ts p t f from to c h.1)

-- a conditional is one of stratum 23
raise_form : (ts : List Token) (p : Bool) (t : Token) (f : Form) (from to : ℕ) → is_conditional (node t f) ≡ true → Forms ts (Near ts) p 22 f from to → Forms ts (Near ts) p 23 f from to
raise_form ts p t (Conditional x y z) from to c h = (h.0, h.1, omega arith, h.3, h.4, h.5, h.6, h.7, λ le. omega arith)
raise_form ts p t (Single leaf) from to c h = absurd (true≢false (sym c ∙ leaf_is_none stands_conditional refl refl refl refl leaf))
raise_form ts p t f from to c h = absurd cc

raise : (ts : List Token) (p : Bool) (t : Tree) (from to : ℕ) → is_conditional t ≡ true → Greedy ts p 22 t from to → Greedy ts p 23 t from to
raise ts p (node t f) from to c h = (h.0, raise_form ts p t f from to c h.1)

tighter_other : (j : ℕ) → (j ≡ 23 → ⊥) → tighter j ≡ j - 1
tighter_other j h =
    elim (if_is (j == 23) 21 (j - 1) (tighter j) refl) [
      | inl e ↦ absurd (h (eqb-true j 23 e.0))
      | inr e ↦ sym e.1
    ]

both_true : (x y : Bool) → (x && y) ≡ true → (x ≡ true) × (y ≡ true)
both_true true y h = (refl, h)
both_true false y h = absurd cc

second_false : (x y : Bool) → x ≡ true → (x && y) ≡ false → y ≡ false
second_false true y e h = h
second_false false y e h = absurd cc

module _ (ts : List Token) (b : Bool → ℕ → ℕ → Read Tree) (ih : Sound ts b) where
  -- ---- operands

  -- a tree that stands in a stratum in which nothing goes on with it
  abbrev IsAtomic : Tree → ℕ → ℕ → Type 0
  IsAtomic e at to = (k : ℕ) → Near ts 1 k to → Greedy ts true k e at to

  abbrev IsAppended : Tree → ℕ → ℕ → Type 0
  IsAppended e at to = (k : ℕ) → 4 ≤ k → Near ts 5 k to → Greedy ts true k e at to

  -- a tree to which something may be appended, or an arrow function
  abbrev IsFirst : Tree → ℕ → ℕ → Type 0
  IsFirst e at to = IsAtomic e at to ⊎ ((is_arrow e ≡ true) × IsAppended e at to)

  first_form : (at : ℕ) (t : Token) (f : Form × ℕ) → slice_get ts at ≡ Some t → IsAlone ts b ih f.0 at f.1 → IsFirst (node t f.0) at f.1
  first_form at t f s h = elim h [
    | inl a ↦ inl (λ k stop. (s, a k stop))
    | inr a ↦ inr (a.0, λ k le stop. (s, a.1 k le stop))
  ]

  atom_sound : (at : ℕ) (t : Token) (x : Tree × ℕ) → slice_get ts at ≡ Some t → atom_with ts b t at ≡ Some x → IsFirst x.0 at x.1
  unfolding atom_with
  atom_sound at t x s h =
      made_of (form_by ts b t.kind at) (λ f. node t f) (λ y to. IsFirst y at to) x (λ f q. first_form at t f s (form_by_sound ts b ih t.kind at f (stands_kind ts at t s) q)) h

  with_suffixes_sound : (at m to : ℕ) (e : Tree) (ss : List Step) (x : Tree × ℕ) → IsAtomic e at m → Repeats ts (Near ts) suffix (steps ss) m to → (0 < J ts to → 4 < J ts to)
      → with_suffixes e ss to ≡ Some x → IsAppended x.0 at x.1
  with_suffixes_sound at m to e [] x a r n h =
      gives (λ y z. IsAppended y at z) (e, to) x h (λ k le stop. subst (λ z. Near ts 1 k z → Greedy ts true k e at z) r (a k) (λ least. let far = n least in stop far))
  with_suffixes_sound at m to e (s ∷ ss) x a r n h =
      let still = guard_not (is_pattern e) _ x h in
      let zero_near : Near ts 1 0 m = λ least. least in
      let g : Greedy ts false 0 e at m = plain ts true false 0 e at m still.0 (a 0 zero_near) in
      gives (λ y z. IsAppended y at z) (node (first_of e) (Post e (steps (s ∷ ss))), to) x still.1
      (λ k le stop. (first_stands ts false 0 e at m g, (m, le, tt, g, r, λ least. let far = n least in stop far)))

  suffixed_sound : (at m : ℕ) (e : Tree) (x : Tree × ℕ) → IsAtomic e at m → suffixed ts b e m ≡ Some x → IsAppended x.0 at x.1
  unfolding suffixed
  suffixed_sound at m e x a h =
      let ss = bind_ok (suffixes ts b m) _ x h in
      let r = suffixes_sound ts b ih m ss.0 ss.1 in
      with_suffixes_sound at m ss.0.1 e ss.0.0 x a r.0 r.1 ss.2

  -- with what is appended to it, unless it is an arrow function
  appended_sound : (at m : ℕ) (e : Tree) (x : Tree × ℕ) → IsFirst e at m → cond (is_arrow e) (Some (e, m)) (suffixed ts b e m) ≡ Some x → IsAppended x.0 at x.1
  appended_sound at m e x (inl a) h =
      let none : is_arrow e ≡ false = no_arrow ts true e at m (a 0 (λ least. least)) in
      suffixed_sound at m e x a (rw none at h)
  appended_sound at m e x (inr a) h = gives (λ y to. IsAppended y at to) (e, m) x (rw a.0 at h) a.1

  post_with_sound : (at : ℕ) (t : Token) (x : Tree × ℕ) → slice_get ts at ≡ Some t → post_with ts b t at ≡ Some x → IsAppended x.0 at x.1
  unfolding post_with
  post_with_sound at t x s h =
      let e = bind_ok (atom_with ts b t at) _ x h in
      appended_sound at e.0.1 e.0.0 x (atom_sound at t e.0 s e.1) e.2

  post_sound : (at : ℕ) (t : Token) (x : Tree × ℕ) → slice_get ts at ≡ Some t → post ts b t at ≡ Some x → IsAppended x.0 at x.1
  unfolding post new_with
  post_sound at t x s h =
      elim (if_is (same_kind t.kind kinds.New) _ _ _ h) [
        | inl e ↦
            let w : kind_at ts at ≡ kinds.New = stands_kind ts at t s ∙ same_is t.kind kinds.New e.0 in
            made_of (new ts b (at + 1)) (λ f. node t f) (λ y to. IsAppended y at to) x (λ f q k le stop. (s, new_sound ts b ih at f w q true k le stop)) e.1
        | inr e ↦ post_with_sound at t x s e.1
      ]

  unassigned : (at : ℕ) → assigning_at ts at ≡ None → Near ts 5 5 at
  unfolding assigning_at
  unassigned at h least = let apart = no_assignment (kind_at ts at) (kind_at ts (at + 1)) h in grind (arith, apart)

  target_by_sound : (p : Bool) (at m : ℕ) (o : Option AssignmentOperator) (e : Tree) (x : Tree × ℕ) → assigning_at ts m ≡ o → IsAppended e at m
      → target_by ts b p o e m ≡ Some x → Greedy ts p 5 x.0 at x.1
  unfolding assigned assigning_at
  target_by_sound p at m None e x q a h =
      let g : Greedy ts true 5 e at m = a 5 (omega arith) (unassigned m q) in
      let still = guard_not (is_pattern e && not p) _ x h in
      let fits : Greedy ts p 5 e at m = elim (allowed p (is_pattern e) still.0) [
        | inl y ↦ subst (λ z. Greedy ts z 5 e at m) (sym y) g
        | inr y ↦ plain ts true p 5 e at m y g
      ] in
      gives (λ y to. Greedy ts p 5 y at to) (e, m) x still.1 fits
  target_by_sound p at m (Some o) e x q a h =
      let g = guard_ok (is_assignable o e) _ x h in
      let r : Greedy ts true 4 e at m = a 4 (omega arith) (λ least. least) in
      made_of (b false 24 (m + assignment_size o)) (λ v. node (first_of e) (Assignment e o v)) (λ y to. Greedy ts p 5 y at to) x
      (λ v w. (first_stands ts true 4 e at m r, (m, m + assignment_size o, omega arith, g.0, r, (q, refl), ih false 24 (m + assignment_size o) v (omega arith) (omega arith) w, λ least. least))) g.1

  target_sound : (p : Bool) (at : ℕ) (t : Token) (x : Tree × ℕ) → slice_get ts at ≡ Some t → target ts b p t at ≡ Some x → Greedy ts p 5 x.0 at x.1
  unfolding target
  target_sound p at t x s h =
      let e = bind_ok (post ts b t at) _ x h in
      target_by_sound p at e.0.1 (assigning_at ts e.0.1) e.0.0 x refl (post_sound at t e.0 s e.1) e.2

  prefixed_sound : (p : Bool) (at : ℕ) (t : Token) (o : PrefixOperator) (x : Tree × ℕ) → slice_get ts at ≡ Some t → prefix_of t.kind ≡ Some o
      → prefixed ts b t o (at + 1) ≡ Some x → Greedy ts p 5 x.0 at x.1
  unfolding prefixed
  prefixed_sound p at t o x s k h =
      let w : prefix_of (kind_at ts at) ≡ Some o = ap prefix_of (stands_kind ts at t s) ∙ k in
      let n = prefix_bounds o in
      made_of (b false (prefix_stratum o) (at + 1)) (λ v. node t (Prefix o v)) (λ y to. Greedy ts p 5 y at to) x
      (λ v q. (s, (omega arith, w, ih false (prefix_stratum o) (at + 1) v n.0 n.1 q, λ least. least))) h

  operand_by_sound : (p : Bool) (at : ℕ) (t : Token) (o : Option PrefixOperator) (x : Tree × ℕ) → slice_get ts at ≡ Some t → prefix_of t.kind ≡ o
      → operand_by ts b p t o at ≡ Some x → Greedy ts p 5 x.0 at x.1
  operand_by_sound p at t None x s k h = target_sound p at t x s h
  operand_by_sound p at t (Some o) x s k h = prefixed_sound p at t o x s k h

  operand_sound : (p : Bool) (at : ℕ) (x : Tree × ℕ) → operand ts b p at ≡ Some x → Greedy ts p 5 x.0 at x.1
  unfolding operand
  operand_sound p at x h =
      let t = bind_ok (slice_get ts at) _ x h in
      operand_by_sound p at t.0 (prefix_of t.0.kind) x t.1 refl t.2

  -- ---- chains

  abbrev IsOperated : ℕ → Operated → ℕ → ℕ → Type 0
  IsOperated j o = StepReads ts (Near ts) (operation j) (Operation o.token o.operator o.operand)

  are_operations : (j : ℕ) (os : List Operated) (at to : ℕ) → Seq (IsOperated j) os at to → Repeats ts (Near ts) (operation j) (operation_steps os) at to
  are_operations j [] at to s = s
  are_operations j (x ∷ os) at to s = (s.0, s.1, are_operations j os s.0 to s.2)

  operated_with_sound : (j at : ℕ) (o : BinaryOperator) (x : Operated × ℕ) → operator_at ts at ≡ Some o → binary_stratum o ≡ j → fixity o ≡ fixities.Left
      → operation_with ts b o at ≡ Some x → IsOperated j x.0 at x.1
  unfolding operation_with operator_at
  operated_with_sound j at o x s k f h =
      let n = tighter_bounds o in
      let t = bind_ok (slice_get ts at) _ x h in
      let made : Tree → Operated = λ v. record { token = t.0; operator = o; operand = v } in
      made_of (b false (tighter (binary_stratum o)) (at + binary_size o)) made (λ y to. IsOperated j y at to) x
      (λ v q. (at + binary_size o, (k, f), (s, refl, t.1), ih false (tighter (binary_stratum o)) (at + binary_size o) v n.0 n.1 q)) t.2

  operation_by_sound : (j at : ℕ) (o : Option BinaryOperator) (x : Operated × ℕ)
      → ((u : BinaryOperator) → binary_stratum u ≡ j → fixity u ≡ fixities.Left) → operator_at ts at ≡ o
      → operation_by ts b j o at ≡ Some (Some x) → IsOperated j x.0 at x.1
  operation_by_sound j at None x left s h = absurd (none_is_not x h)
  operation_by_sound j at (Some o) x left s h =
      elim (if_is (binary_stratum o == j) _ _ _ h) [
        | inl e ↦ let k = eqb-true (binary_stratum o) j e.0 in operated_with_sound j at o x s k (left o k) (taken_is _ x e.1)
        | inr e ↦ absurd (none_is_not x e.1)
      ]

  operation_sound : (j : ℕ) → ((u : BinaryOperator) → binary_stratum u ≡ j → fixity u ≡ fixities.Left) → (at : ℕ) (x : Operated × ℕ)
      → operation_at ts b j at ≡ Some (Some x) → IsOperated j x.0 at x.1
  unfolding operation_at
  operation_sound j left at x h = operation_by_sound j at (operator_at ts at) x left refl h

  -- where no operator stands, `?` alone goes on with an operand
  unoperated : (j at : ℕ) → 6 ≤ j → j ≤ 29 → operator_at ts at ≡ None → J ts at ≡ j → Is ts at kinds.Question × (j ≡ 22)
  unfolding operator_at
  unoperated j at lo hi s e =
      let q = is_question (kind_at ts at) (kind_at ts (at + 1)) s (omega arith) (omega arith) in
      (q, sym e ∙ question_stratum (kind_at ts at) (kind_at ts (at + 1)) q s)

  operation_by_none : (j at : ℕ) (o : Option BinaryOperator) → 6 ≤ j → j ≤ 29 → (j ≡ 22 → ⊥) → operator_at ts at ≡ o → operation_by ts b j o at ≡ Some None → J ts at ≡ j → ⊥
  operation_by_none j at None lo hi other s h e = let u = unoperated j at lo hi s e in other u.1
  operation_by_none j at (Some o) lo hi other s h e =
      elim (eqb_tells (binary_stratum o) j) [
        | inl t ↦ elim (if_is (binary_stratum o == j) _ _ _ h) [
          | inl f ↦ taken_none _ f.1
          | inr f ↦ cc
        ]
        | inr t ↦ t.1 (sym (operator_stratum ts o at s) ∙ e)
      ]

  operation_none : (j at : ℕ) → 6 ≤ j → j ≤ 29 → (j ≡ 22 → ⊥) → operation_at ts b j at ≡ Some None → J ts at ≡ j → ⊥
  unfolding operation_at
  operation_none j at lo hi other h e = operation_by_none j at (operator_at ts at) lo hi other refl h e

  with_operations_sound : (p : Bool) (j at m to : ℕ) (e : Tree) (os : List Operated) → 6 ≤ j → J ts m ≡ j → (J ts to ≡ j → ⊥) → Greedy ts false (tighter j) e at m
      → Seq (IsOperated j) os m to → Greedy ts p j (with_operations e os) at to
  with_operations_sound p j at m to e [] lo here apart g s = absurd (apart (subst (λ y. J ts y ≡ j) s here))
  with_operations_sound p j at m to e (o ∷ os) lo here apart g s =
      let k : binary_stratum o.operator ≡ j = s.1.1.0 in
      let c : Greedy ts p j (node (first_of e) (Chain j e (operation_steps (o ∷ os)))) at to =
      (first_stands ts false (tighter j) e at m g, (m, lo, omega arith, tt, g, are_operations j (o ∷ os) m to s, λ least. grind (arith, apart))) in
      subst (λ y. Greedy ts p j (node (first_of e) (Chain y e (operation_steps (o ∷ os)))) at to) (sym k) c

  chain_sound : (p : Bool) (j at m : ℕ) (o : BinaryOperator) (e : Tree) (x : Tree × ℕ) → binary_stratum o ≡ j → fixity o ≡ fixities.Left → J ts m ≡ j → Greedy ts false (tighter j) e at m
      → chain ts b j e m ≡ Some x → Greedy ts p j x.0 at x.1
  unfolding chain operations all
  chain_sound p j at m o e x k f here g h =
      let n = stratum_bounds o in
      let left : (u : BinaryOperator) → binary_stratum u ≡ j → fixity u ≡ fixities.Left = λ u q. same_fixity u o (q ∙ sym k) ∙ f in
      let other : j ≡ 22 → ⊥ = λ q. stratum_other o (k ∙ q) in
      let os = bind_ok (operations ts b j m) _ x h in
      let c = many_sound (operation_at ts b j) (IsOperated j) (operation_sound j left) (length ts + 1) [] m os.0 os.1 in
      let seq = subst (λ l. Seq (IsOperated j) l m os.0.1) (sym c.1) c.2 in
      gives (λ y to. Greedy ts p j y at to) (with_operations e os.0.0, os.0.1) x os.2
      (with_operations_sound p j at m os.0.1 e os.0.0 (omega arith) here (operation_none j os.0.1 (omega arith) (omega arith) other c.3) g seq)

  -- ---- other operators

  binary_sound : (p : Bool) (at m : ℕ) (o : BinaryOperator) (d : Tree) (x : Tree × ℕ) → operator_at ts m ≡ Some o → (fixity o ≡ fixities.Left → ⊥)
      → Greedy ts false (binary_stratum o - 1) d at m
      → binary ts b d o m ≡ Some x → Greedy ts p (binary_stratum o) x.0 at x.1
  unfolding binary operator_at
  binary_sound p at m o d x s f g h =
      let n = right_bounds o in
      let t = bind_ok (slice_get ts m) _ x h in
      made_of (b false (right_side (fixity o) (binary_stratum o)) (m + binary_size o)) (λ v. node (first_of d) (Binary d t.0 o v)) (λ y to. Greedy ts p (binary_stratum o) y at to) x
      (λ v q. (
        first_stands ts false (binary_stratum o - 1) d at m g,
        (m, m + binary_size o, omega arith, f, g, (s, refl, t.1), ih false (right_side (fixity o) (binary_stratum o)) (m + binary_size o) v n.0 n.1 q, λ least. omega arith),
      )) t.2

  conditional_sound : (p : Bool) (at m : ℕ) (c : Tree) (x : Tree × ℕ) → Is ts m kinds.Question → Greedy ts false 21 c at m → conditional ts b c (m + 1) ≡ Some x → Greedy ts p 22 x.0 at x.1
  unfolding conditional
  conditional_sound p at m c x w g h =
      let d = bind_ok (b false loosest (m + 1)) _ x h in
      let f = bind_ok (after ts kinds.Colon d.0.1) _ x d.2 in
      let a = after_is ts kinds.Colon d.0.1 f.0 f.1 in
      made_of (b false 21 f.0) (λ v. node (first_of c) (Conditional c d.0.0 v)) (λ y to. Greedy ts p 22 y at to) x
      (λ v q. (
        first_stands ts false 21 c at m g,
        (
          m,
          d.0.1,
          omega arith,
          g,
          w,
          ih false loosest (m + 1) d.0 (omega arith) (omega arith) d.1,
          a.0,
          subst (λ y. Greedy ts false 21 v.0 y v.1) a.1 (ih false 21 f.0 v (omega arith) (omega arith) q),
          λ least. omega arith,
        ),
      )) f.2

  by_fixity_sound : (p : Bool) (at m : ℕ) (k : Fixity) (o : BinaryOperator) (e : Tree) (x : Tree × ℕ) → fixity o ≡ k → operator_at ts m ≡ Some o
      → Greedy ts false (tighter (binary_stratum o)) e at m
      → Greedy ts false (binary_stratum o - 1) e at m → by_fixity ts b k o e m ≡ Some x → Greedy ts p (binary_stratum o) x.0 at x.1
  by_fixity_sound p at m fixities.Left o e x k s g w h = chain_sound p (binary_stratum o) at m o e x refl k (operator_stratum ts o m s) g h
  by_fixity_sound p at m f o e x k s g w h = binary_sound p at m o e x s (λ q. cc) w h

  operated_by_sound : (p : Bool) (j at m : ℕ) (o : Option BinaryOperator) (e : Tree) (x : Tree × ℕ) → 6 ≤ j → j ≤ 29 → J ts m ≡ j → operator_at ts m ≡ o → Greedy ts false (tighter j) e at m
      → Greedy ts false (j - 1) e at m → operated_by ts b o e m ≡ Some x → Greedy ts p j x.0 at x.1
  operated_by_sound p j at m None e x lo hi here s g w h =
      let u = unoperated j m lo hi s here in
      let v : Greedy ts false 21 e at m = subst (λ y. Greedy ts false (y - 1) e at m) u.1 w in
      subst (λ y. Greedy ts p y x.0 at x.1) (sym u.1) (conditional_sound p at m e x u.0 v h)
  operated_by_sound p j at m (Some o) e x lo hi here s g w h =
      let k : j ≡ binary_stratum o = sym here ∙ operator_stratum ts o m s in
      subst (λ y. Greedy ts p y x.0 at x.1) (sym k)
      (by_fixity_sound p at m (fixity o) o e x refl s (subst (λ y. Greedy ts false (tighter y) e at m) k g) (subst (λ y. Greedy ts false (y - 1) e at m) k w) h)

  -- the operand of a chain of `?:` is no conditional
  tightened : (j at m : ℕ) (e : Tree) → ((j == 23) && is_conditional e) ≡ false → Greedy ts false (j - 1) e at m → Greedy ts false (tighter j) e at m
  tightened j at m e h g =
      elim (eqb_tells j 23) [
        | inl t ↦
            let r = lower ts false e at m (second_false (j == 23) (is_conditional e) t.0 h) (subst (λ y. Greedy ts false (y - 1) e at m) t.1 g) in
            subst (λ y. Greedy ts false (tighter y) e at m) (sym t.1) r
        | inr t ↦ subst (λ y. Greedy ts false y e at m) (sym (tighter_other j t.1)) g
      ]

  operated_sound : (p : Bool) (j at m : ℕ) (e : Tree) (x : Tree × ℕ) → 6 ≤ j → j ≤ 29 → J ts m ≡ j → Greedy ts p (j - 1) e at m → operated ts b j e m ≡ Some x → Greedy ts p j x.0 at x.1
  unfolding operated
  operated_sound p j at m e x lo hi here g h =
      let still = guard_not (is_pattern e) _ x h in
      let w : Greedy ts false (j - 1) e at m = plain ts p false (j - 1) e at m still.0 g in
      elim (if_is ((j == 23) && is_conditional e) _ _ _ still.1) [
        | inl f ↦
            let c = both_true (j == 23) (is_conditional e) f.0 in
            let k = eqb-true j 23 c.0 in
            let r = raise ts p e at m c.1 (subst (λ y. Greedy ts p (y - 1) e at m) k g) in
            gives (λ y to. Greedy ts p j y at to) (e, m) x f.1 (subst (λ y. Greedy ts p y e at m) (sym k) r)
        | inr f ↦ operated_by_sound p j at m (operator_at ts m) e x lo hi here refl (tightened j at m e f.0 w) w f.1
      ]

  stratum_sound : (p : Bool) (j at m : ℕ) (e : Tree) (x : Tree × ℕ) → 6 ≤ j → j ≤ 29 → Greedy ts p (j - 1) e at m → stratum ts b j e m ≡ Some x → Greedy ts p j x.0 at x.1
  unfolding stratum joins_at
  stratum_sound p j at m e x lo hi g h =
      elim (eqb_tells (J ts m) j) [
        | inl t ↦ elim (if_is (J ts m == j) _ _ _ h) [
          | inl f ↦ operated_sound p j at m e x lo hi t.1 g f.1
          | inr f ↦ absurd cc
        ]
        | inr t ↦ elim (if_is (J ts m == j) _ _ _ h) [
          | inl f ↦ absurd cc
          | inr f ↦ gives (λ y to. Greedy ts p j y at to) (e, m) x f.1 (extend ts p j e at m t.1 g)
        ]
      ]

  strata_sound : (p : Bool) (n at : ℕ) (x : Tree × ℕ) → n + 5 ≤ 29 → strata ts b p n at ≡ Some x → Greedy ts p (n + 5) x.0 at x.1
  unfolding strata
  strata_sound p zero at x hi h = operand_sound p at x h
  strata_sound p (suc n) at x hi h =
      let e = bind_ok (strata ts b p n at) _ x h in
      let f = strata_sound p n at e.0 (omega arith) e.1 in
      let k : n + 5 ≡ n + 6 - 1 = omega arith in
      let j : n + 6 ≡ suc n + 5 = omega arith in
      subst (λ y. Greedy ts p y x.0 at x.1) j (stratum_sound p (n + 6) at e.0.1 e.0.0 x (omega arith) (omega arith) (subst (λ y. Greedy ts p y e.0.0 at e.0.1) k f) e.2)

-- what the parser reads is a greedy tree
pub below_sound : (ts : List Token) (n : ℕ) (p : Bool) (k at : ℕ) (r : Tree × ℕ) → 5 ≤ k → k ≤ loosest → below ts n p k at ≡ Some r → Greedy ts p k r.0 at r.1
unfolding below
below_sound ts zero p k at r lo hi h = absurd (nothing_is r h)
below_sound ts (suc n) p k at r lo hi h =
    let e : k - 5 + 5 ≡ k = omega arith in
    subst (λ y. Greedy ts p y r.0 at r.1) e (strata_sound ts (below ts n) (below_sound ts n) p (k - 5) at r (omega arith) h)

pub expression_sound : (ts : List Token) (n at : ℕ) (r : Tree × ℕ) → expression_at ts n at ≡ Some r → Picks ts r.0 at r.1
unfolding expression_at
expression_sound ts n at r h = strata_sound ts (below ts n) (below_sound ts n) false 24 at r (omega arith) h
