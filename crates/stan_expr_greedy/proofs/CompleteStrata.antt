-- Operands and the strata of operators are read as they stand, where their parts are.
use Rattle.std.proofs.Common.{◌≡◌, ℕ, zero, suc, add-zero, ◌+◌, ◌-◌, ◌≤◌, ◌<◌, Bool, true, false, cond, eqb, List, length, Some, None, refl, sym, subst, ◌∙◌, arith, inl, inr}
use Rattle.std.specs.Prelude.{IsTrue, not, ◌&&◌, ◌==◌}
use Rattle.std.proofs.lemmas.Bool.{ne_eqb, eq-eqb, cases_lt}
use Rattle.std.proofs.lemmas.Bool.Decides.{eqb_tells}
use Rattle.stan_model_grammar.specs.declared.operators.AssignmentOperator.{AssignmentOperator}
use Rattle.stan_model_grammar.specs.declared.operators.BinaryOperator.{BinaryOperator}
use Rattle.stan_model_grammar.specs.declared.operators.Fixity.{Fixity}
use Rattle.stan_model_grammar.specs.declared.operators.Fixity.TheVariants as fixities
use Rattle.stan_model_grammar.specs.declared.operators.PrefixOperator.{PrefixOperator}
use Rattle.stan_model_grammar.specs.declared.token.Token.{Token}
use Rattle.stan_model_grammar.specs.declared.token.TokenKind.TheVariants as kinds
use Rattle.stan_model_grammar.specs.Strata.{kind_at, loosest, prefix_of, prefix_stratum, binary_stratum, fixity, tighter, right_side}
use Rattle.stan_model_grammar.specs.Trees.{Tree, node, Form, Single, Post, Prefix, Assignment, Chain, Binary, Conditional, Steps, no_step, step, Operation, is_pattern}
use Rattle.stan_model_grammar.specs.Expressions.{suffix, operation, IsSomeStep, is_assignable, Is, Stands, Operates, Assigns}
use Rattle.stan_expr_rules.specs.Places.{same_kind, joins_at}
use Rattle.stan_expr_rules.specs.Parse as parse
use Rattle.stan_expr_rules.specs.Parse.{first_of, stands_conditional, is_conditional, is_arrow, suffixed, with_suffixes, with_operations, form_by, atom_with, post_with, new, new_with, post, assigned, target, prefixed, operand, chain, binary, conditional, by_fixity, operated, stratum, strata}
use Rattle.stan_expr_rules.proofs.Greedy.{J, Near, Greedy, leaf_is_none, plain, plain_of}
use Rattle.stan_expr_rules.proofs.InsideLemmas.{stands_kind}
use Rattle.stan_expr_greedy.proofs.Reading.{after_at, same_at, same_not}
use Rattle.stan_expr_greedy.proofs.Computes.{operates_joins, operator_is, lone_question_joins, question_is_alone, assigning_not, assigning_is}
use Rattle.stan_expr_greedy.proofs.CompleteItems.{Gives, AllTaken}
use Rattle.stan_expr_greedy.proofs.CompleteSteps.{step_list, steps_same, suffixes_read, operation_list, operations_same, operations_read}
use Rattle.stan_expr_greedy.proofs.CompleteForms.{FormIs}
use Rattle.stan_expr_rules.proofs.Choices.{and_false, not_true}

both_same : {A : Type 0} (c : Bool) (x : A) → cond c x x ≡ x
both_same true x = refl
both_same false x = refl

-- A place for no pattern holds none.
pub no_pattern : (ts : List Token) (k : ℕ) (t : Tree) (at to : ℕ) → Greedy ts false k t at to → is_pattern t ≡ false
no_pattern ts k t at to h = not_true (is_pattern t) (plain_of ts k t at to h)

-- What stands in a place for no pattern stands in each.
pub in_each : (ts : List Token) (p : Bool) (k : ℕ) (t : Tree) (at to : ℕ) → Greedy ts false k t at to → Greedy ts p k t at to
in_each ts p k t at to h = plain ts false p k t at to (no_pattern ts k t at to h) h

pub pattern_fits : (ts : List Token) (p : Bool) (k : ℕ) (t : Tree) (at to : ℕ) → Greedy ts p k t at to → (is_pattern t && not p) ≡ false
pattern_fits ts true k t at to h = and_false (is_pattern t)
pattern_fits ts false k t at to h = rw (no_pattern ts k t at to h) refl

pub no_conditional : (ts : List Token) (p : Bool) (k : ℕ) (t : Tree) (at to : ℕ) → k < 22 → Greedy ts p k t at to → is_conditional t ≡ false
no_conditional ts p k (node t (Conditional c d e)) at to lt h = absurd (omega (arith, lt, h.1.2))
no_conditional ts p k (node t (Single leaf)) at to lt h = leaf_is_none stands_conditional refl refl refl refl leaf
no_conditional ts p k (node t f) at to lt h = refl

pub no_elvis : (ts : List Token) (j : ℕ) (t : Tree) (at to : ℕ) → Greedy ts false (tighter j) t at to → ((j == 23) && is_conditional t) ≡ false
no_elvis ts j t at to h =
    elim (eqb_tells j 23) [
      | inl is ↦
          let low : tighter j ≡ 21 = rw is.0 refl in
          let none = no_conditional ts false (tighter j) t at to (omega arith) h in
          rw none (and_false (j == 23))
      | inr other ↦ rw other.0 refl
    ]

module _ (ts : List Token) (b : Bool → ℕ → ℕ → parse.Read Tree) where
  -- ---- operands

  pub atom_reads : (t : Token) (f : Form) (at to : ℕ) → Stands ts at t → FormIs ts b f at to → atom_with ts b t at ≡ Some (node t f, to)
  unfolding atom_with
  atom_reads t f at to s h = let g : form_by ts b t.kind at ≡ Some (f, to) = rw (stands_kind ts at t s) at h in rw g refl

  no_new : (t : Token) (at : ℕ) → Stands ts at t → (kind_at ts at ≡ kinds.New → ⊥) → same_kind t.kind kinds.New ≡ false
  no_new t at s other = same_not t.kind kinds.New (λ e. other (stands_kind ts at t s ∙ e))

  pub post_alone : (t : Token) (f : Form) (at to : ℕ) → Stands ts at t → (kind_at ts at ≡ kinds.New → ⊥) → FormIs ts b f at to → is_arrow (node t f) ≡ false → Near ts 1 4 to → to ≤ length ts → post ts b t at ≡ Some (node t f, to)
  unfolding post post_with suffixed
  post_alone t f at to s other h plain_one near inside = rw (no_new t at s other, atom_reads t f at to s h, plain_one, suffixes_read ts b no_step to to refl near inside) refl

  -- nothing is appended to an arrow function
  pub post_arrow : (t : Token) (f : Form) (at to : ℕ) → Stands ts at t → (kind_at ts at ≡ kinds.New → ⊥) → FormIs ts b f at to → is_arrow (node t f) ≡ true → post ts b t at ≡ Some (node t f, to)
  unfolding post post_with
  post_arrow t f at to s other h is = rw (no_new t at s other, atom_reads t f at to s h, is) refl

  some_suffixes : (e : Tree) (ss : Steps) (to : ℕ) → IsSomeStep ss → is_pattern e ≡ false → with_suffixes e (step_list ss) to ≡ Some (node (first_of e) (Post e ss), to)
  some_suffixes e no_step to some still = absurd some
  some_suffixes e (step x xs) to some still = rw (still, steps_same xs) refl

  pub post_suffixed : (t : Token) (e : Tree) (ss : Steps) (at m to : ℕ) → Stands ts at t → (kind_at ts at ≡ kinds.New → ⊥) → atom_with ts b t at ≡ Some (e, m) → first_of e ≡ t → is_arrow e ≡ false → is_pattern e ≡ false → IsSomeStep ss → AllTaken ts b suffix ss m to
      → Near ts 1 4 to → to ≤ length ts → post ts b t at ≡ Some (node t (Post e ss), to)
  unfolding post post_with suffixed
  post_suffixed t e ss at m to s other a first plain_one still some h near inside =
      rw (no_new t at s other, a, plain_one, suffixes_read ts b ss m to h near inside, some_suffixes e ss to some still, first) refl

  pub post_new : (t : Token) (f : Form) (at to : ℕ) → Stands ts at t → Is ts at kinds.New → new ts b (at + 1) ≡ Some (f, to) → post ts b t at ≡ Some (node t f, to)
  unfolding post new_with
  post_new t f at to s k h = rw (same_at t.kind kinds.New (sym (stands_kind ts at t s) ∙ k), h) refl

  pub operand_alone : (p : Bool) (t : Token) (e : Tree) (at to : ℕ) → Stands ts at t → prefix_of (kind_at ts at) ≡ None → post ts b t at ≡ Some (e, to) → (J ts to ≡ 5 → ⊥) → (is_pattern e && not p) ≡ false → operand ts b p at ≡ Some (e, to)
  unfolding operand target
  operand_alone p t e at to s none h other fits =
      let g : prefix_of t.kind ≡ None = rw (stands_kind ts at t s) at none in
      rw (s, g, h, assigning_not ts to other, fits) refl

  assigned_reads : (t : Tree) (o : AssignmentOperator) (e : Tree) (at to : ℕ) → Gives ts b false 24 e at to → assigned ts b t o at ≡ Some (node (first_of t) (Assignment t o e), to)
  unfolding assigned
  assigned_reads t o e at to h = rw h refl

  pub operand_assigned : (p : Bool) (t : Token) (d : Tree) (o : AssignmentOperator) (e : Tree) (at m c to : ℕ) → Stands ts at t → prefix_of (kind_at ts at) ≡ None → post ts b t at ≡ Some (d, m) → Assigns ts o m c → IsTrue (is_assignable o d) → Gives ts b false 24 e c to
      → operand ts b p at ≡ Some (node (first_of d) (Assignment d o e), to)
  unfolding operand target
  operand_assigned p t d o e at m c to s none h assigns fits g =
      let q : prefix_of t.kind ≡ None = rw (stands_kind ts at t s) at none in
      rw (s, q, h, assigning_is ts o m c assigns, fits, ← assigns.1, assigned_reads d o e c to g) refl

  pub operand_prefixed : (p : Bool) (t : Token) (o : PrefixOperator) (e : Tree) (at to : ℕ) → Stands ts at t → prefix_of (kind_at ts at) ≡ Some o → Gives ts b false (prefix_stratum o) e (at + 1) to → operand ts b p at ≡ Some (node t (Prefix o e), to)
  unfolding operand prefixed
  operand_prefixed p t o e at to s is h =
      let q : prefix_of t.kind ≡ Some o = rw (stands_kind ts at t s) at is in
      rw (s, q, h) refl

  -- ---- strata

  stratum_none : (j : ℕ) (t : Tree) (to : ℕ) → (J ts to ≡ j → ⊥) → stratum ts b j t to ≡ Some (t, to)
  unfolding stratum joins_at
  stratum_none j t to other = rw (ne_eqb (J ts to) j other) refl

  stratum_here : (j : ℕ) (e t : Tree) (m to : ℕ) → J ts m ≡ j → operated ts b j e m ≡ Some (t, to) → stratum ts b j e m ≡ Some (t, to)
  unfolding stratum joins_at
  stratum_here j e t m to q h = rw (eq-eqb (J ts m) j q) h

  -- no further stratum takes anything
  climb : (d m : ℕ) (p : Bool) (t : Tree) (at to : ℕ) → (m + 6 ≤ J ts to → m + d + 5 < J ts to) → strata ts b p m at ≡ Some (t, to) → strata ts b p (m + d) at ≡ Some (t, to)
  unfolding strata
  climb zero m p t at to far h = rw add-zero h
  climb (suc d) m p t at to far h =
      let i = climb d m p t at to (λ le. let g = far le in omega arith) h in
      let e : m + suc d ≡ suc (m + d) = omega arith in
      let c : stratum ts b (m + d + 6) t to ≡ Some (t, to) = stratum_none (m + d + 6) t to (λ q. let g = far (omega arith) in omega arith) in
      rw (e, i) c

  pub from_operand : (p : Bool) (k : ℕ) (t : Tree) (at to : ℕ) → 5 ≤ k → Near ts 6 k to → operand ts b p at ≡ Some (t, to) → strata ts b p (k - 5) at ≡ Some (t, to)
  unfolding strata
  from_operand p k t at to lo near h =
      let e : k - 5 ≡ 0 + (k - 5) = omega arith in
      rw e (climb (k - 5) 0 p t at to (λ le. let g = near (omega arith) in omega arith) h)

  -- from a stratum to each looser one
  from_stratum : (p : Bool) (j k : ℕ) (e t : Tree) (at m to : ℕ) → 6 ≤ j → j ≤ k → (j + 1 ≤ J ts to → k < J ts to) → strata ts b p (j - 6) at ≡ Some (e, m) → stratum ts b j e m ≡ Some (t, to) → strata ts b p (k - 5) at ≡ Some (t, to)
  unfolding strata
  from_stratum p j k e t at m to lo hi near first here =
      let six : j - 6 + 6 ≡ j = omega arith in
      let P : ℕ → Type 0 = λ y. stratum ts b y e m ≡ Some (t, to) in
      let c : P (j - 6 + 6) = subst P (sym six) here in
      let f : strata ts b p (suc (j - 6)) at ≡ Some (t, to) = rw first c in
      let d : k - 5 ≡ suc (j - 6) + (k - j) = omega arith in
      rw d (climb (k - j) (suc (j - 6)) p t at to (λ le. let g = near (omega arith) in omega arith) f)

  -- the operands of a chain, before its stratum
  before_chain : (p : Bool) (j : ℕ) (e : Tree) (at m : ℕ) → 6 ≤ j → J ts m ≡ j → strata ts b p (tighter j - 5) at ≡ Some (e, m) → strata ts b p (j - 6) at ≡ Some (e, m)
  before_chain p j e at m lo q h =
      elim (eqb_tells j 23) [
        | inl is ↦
            let twenty : j ≡ 23 = is.1 in
            let g : strata ts b p 16 at ≡ Some (e, m) = rw is.0 at h in
            let c : strata ts b p (16 + 1) at ≡ Some (e, m) = climb 1 16 p e at m (λ le. omega arith) g in
            let d : j - 6 ≡ 16 + 1 = omega arith in
            rw d c
        | inr other ↦
            let g : strata ts b p (j - 1 - 5) at ≡ Some (e, m) = rw other.0 at h in
            let d : j - 6 ≡ j - 1 - 5 = omega arith in
            rw d g
      ]

  chain_is : (j : ℕ) (e : Tree) (ss : Steps) (at to : ℕ) → IsSomeStep ss → AllTaken ts b (operation j) ss at to → with_operations e (operation_list ss) ≡ node (first_of e) (Chain j e ss)
  chain_is j e no_step at to some h = absurd some
  chain_is j e (step (Operation sign o x) xs) at to some h = rw (h.2.0, operations_same ts b j xs h.0 to h.3) refl
  chain_is j e (step x xs) at to some h = absurd h.2

  pub chain_level : (p : Bool) (k j : ℕ) (e : Tree) (sign : Token) (o : BinaryOperator) (ss : Steps) (at m c to : ℕ) → 6 ≤ j → j ≤ k → IsSomeStep ss → Near ts j k to → to ≤ length ts → Operates ts sign o m c → binary_stratum o ≡ j → fixity o ≡ fixities.Left
      → is_pattern e ≡ false → ((j == 23) && is_conditional e) ≡ false → strata ts b p (tighter j - 5) at ≡ Some (e, m) → AllTaken ts b (operation j) ss m to
      → strata ts b p (k - 5) at ≡ Some (node (first_of e) (Chain j e ss), to)
  unfolding operated chain
  chain_level p k j e sign o ss at m c to lo hi some near inside operates q left still other first h =
      let joined : J ts m ≡ j = operates_joins ts sign o m c operates ∙ q in
      let apart_to : J ts to ≡ j → ⊥ = λ r. let g = near (omega arith) in omega arith in
      let all = operations_read ts b j ss m to h apart_to inside in
      let is = chain_is j e ss m to some h in
      let here : operated ts b j e m ≡ Some (node (first_of e) (Chain j e ss), to) = rw (still, other, operator_is ts sign o m c operates, left, q, all, is) refl in
      from_stratum p j k e (node (first_of e) (Chain j e ss)) at m to lo hi (λ le. near (omega arith)) (before_chain p j e at m lo joined first) (stratum_here j e (node (first_of e) (Chain j e ss)) m to joined here)

  by_fixity_is : (f : Fixity) (o : BinaryOperator) (e : Tree) (at : ℕ) → (f ≡ fixities.Left → ⊥) → by_fixity ts b f o e at ≡ binary ts b e o at
  by_fixity_is fixities.Left o e at other = absurd (other refl)
  by_fixity_is f o e at other = refl

  binary_reads : (d : Tree) (sign : Token) (o : BinaryOperator) (e : Tree) (at c to : ℕ) → Operates ts sign o at c → Gives ts b false (right_side (fixity o) (binary_stratum o)) e c to → binary ts b d o at ≡ Some (node (first_of d) (Binary d sign o e), to)
  unfolding binary
  binary_reads d sign o e at c to operates h = rw (operates.2, ← operates.1, h) refl

  pub binary_level : (p : Bool) (k : ℕ) (d : Tree) (sign : Token) (o : BinaryOperator) (e : Tree) (at m c to : ℕ) → 6 ≤ binary_stratum o → binary_stratum o ≤ k → (fixity o ≡ fixities.Left → ⊥) → Near ts (binary_stratum o + 1) k to → is_pattern d ≡ false → is_conditional d ≡ false
      → strata ts b p (binary_stratum o - 1 - 5) at ≡ Some (d, m) → Operates ts sign o m c → Gives ts b false (right_side (fixity o) (binary_stratum o)) e c to → strata ts b p (k - 5) at ≡ Some (node (first_of d) (Binary d sign o e), to)
  unfolding operated
  binary_level p k d sign o e at m c to lo hi single near still other first operates h =
      let joined : J ts m ≡ binary_stratum o = operates_joins ts sign o m c operates in
      let six : binary_stratum o - 6 ≡ binary_stratum o - 1 - 5 = omega arith in
      let f : strata ts b p (binary_stratum o - 6) at ≡ Some (d, m) = rw six first in
      let here : operated ts b (binary_stratum o) d m ≡ Some (node (first_of d) (Binary d sign o e), to) =
      rw (still, other, and_false (eqb (binary_stratum o) 23), operator_is ts sign o m c operates, by_fixity_is (fixity o) o d m single) (binary_reads d sign o e m c to operates h) in
      from_stratum p (binary_stratum o) k d (node (first_of d) (Binary d sign o e)) at m to lo hi (λ le. near le) f (stratum_here (binary_stratum o) d (node (first_of d) (Binary d sign o e)) m to joined here)

  conditional_reads : (c d e : Tree) (at m to : ℕ) → Gives ts b false loosest d at m → Is ts m kinds.Colon → Gives ts b false 21 e (m + 1) to → conditional ts b c at ≡ Some (node (first_of c) (Conditional c d e), to)
  unfolding conditional
  conditional_reads c d e at m to h k g = rw (h, after_at ts kinds.Colon m (λ e. cc) k, g) refl

  -- No chain of `?:` begins with `? :`.
  elvis_none : (t : Tree) (to : ℕ) → is_pattern t ≡ false → is_conditional t ≡ true → stratum ts b 23 t to ≡ Some (t, to)
  unfolding stratum operated
  elvis_none t to still is = rw (still, is) (both_same (eqb (joins_at ts to) 23) (Some (t, to)))

  pub conditional_level : (p : Bool) (k : ℕ) (c d e : Tree) (at m z to : ℕ) → 22 ≤ k → is_pattern c ≡ false → is_conditional c ≡ false → Near ts 24 k to → strata ts b p 16 at ≡ Some (c, m) → Is ts m kinds.Question → (kind_at ts (m + 1) ≡ kinds.Colon → ⊥)
      → Gives ts b false loosest d (m + 1) z → Is ts z kinds.Colon → Gives ts b false 21 e (z + 1) to → strata ts b p (k - 5) at ≡ Some (node (first_of c) (Conditional c d e), to)
  unfolding strata operated
  conditional_level p k c d e at m z to lo still other near first question colon h y g =
      let t : Tree = node (first_of c) (Conditional c d e) in
      let joined : J ts m ≡ 22 = lone_question_joins ts m question colon in
      let here : operated ts b 22 c m ≡ Some (t, to) = rw (still, question_is_alone ts m question colon) (conditional_reads c d e (m + 1) z to h y g) in
      let s : stratum ts b 22 c m ≡ Some (t, to) = stratum_here 22 c t m to joined here in
      let f : strata ts b p 17 at ≡ Some (t, to) = rw first s in
      elim (cases_lt 22 k) [
        | inl lt ↦
            let v : strata ts b p 18 at ≡ Some (t, to) = rw f (elvis_none t to refl refl) in
            let q : k - 5 ≡ 18 + (k - 23) = omega arith in
            rw q (climb (k - 23) 18 p t at to (λ le. let r = near le in omega arith) v)
        | inr ge ↦
            let q : k - 5 ≡ 17 = omega arith in
            rw q f
      ]
