-- A tree of a stratum, as one of the stratum before and what follows it.
use Rattle.std.proofs.Common.{◌≡◌, ◌≢◌, ℕ, ◌+◌, ◌-◌, ◌≤◌, ◌<◌, if◌then◌else◌, Bool, true, false, List, [], ◌∷◌, ◌++◌, refl, sym, ap, subst, ◌∙◌, append_assoc, arith, ◌⊎◌, inl, inr, eq-or-lt_of_le}
use Rattle.std.proofs.lemmas.Bool.{cases_lt}
use Rattle.std.proofs.lemmas.Bool.Decides.{eqb_tells}
use Rattle.stan_model_grammar.specs.declared.operators.ArrayStyle.TheVariants as styles
use Rattle.stan_model_grammar.specs.declared.operators.BinaryOperator.{BinaryOperator}
use Rattle.stan_model_grammar.specs.declared.operators.BinaryOperator.TheVariants as binaries
use Rattle.stan_model_grammar.specs.declared.operators.Fixity.TheVariants as fixities
use Rattle.stan_model_grammar.specs.declared.token.Token.{Token}
use Rattle.stan_model_grammar.specs.declared.token.TokenKind.TheVariants as kinds
use Rattle.stan_model_grammar.specs.Strata.{leaf_low, binary_stratum, fixity, tighter, right_side, loosest}
use Rattle.stan_model_grammar.specs.Trees.{Tree, node, Form, Single, Brackets, Array, IsSet, Empty, Exit, New, Match, Closure, Arrow, Text, Post, Prefix, Assignment, Chain, Binary, Conditional, Steps, no_step, step}
use Rattle.stan_model_grammar.specs.Expressions.{suffix, operation, IsSomeStep, Is, Stands, Operates, Reads, Forms, Repeats}
use Rattle.stan_model_grammar.specs.Takes.{size, steps_size, zeros, none, takes, form_takes, steps_take}
use Rattle.stan_expr_rules.specs.Parse.{first_of}
use Rattle.stan_expr_greedy.proofs.SoundTables.{stratum_other}
use Rattle.stan_expr_takes.proofs.TakesLists.{none_split}
use Rattle.stan_expr_takes.proofs.TakesStarts.{raised}
use Rattle.stan_expr_takes.proofs.TakesKinds.{operation_of}
use Rattle.stan_expr_rules.proofs.Greedy.{one_token}

-- the stratum of a production, behind which its parts take nothing
abbrev pub own : Form → ℕ
own (New class es) = 4
own (Post e ss) = 4
own (Arrow static reference parameters type e) = 4
own (Prefix o e) = 5
own (Assignment target o e) = 5
own (Chain j e ss) = j
own (Binary d sign o e) = binary_stratum o
own (Conditional c d e) = 23
own _ = 0

takes_split : (f : Form) (b j : ℕ) → own f ≤ b → b ≤ j → form_takes j f ≡ form_takes b f ++ zeros (j - b)
takes_split (Single leaf) b j lo hi = none_split 0 b j lo hi
takes_split (Brackets e) b j lo hi = simp (none_split 0 b j lo hi, append_assoc)
takes_split (Array style es) b j lo hi = simp (none_split 0 b j lo hi, append_assoc)
takes_split (IsSet es) b j lo hi = simp (none_split 0 b j lo hi, append_assoc)
takes_split (Empty e) b j lo hi = simp (none_split 0 b j lo hi, append_assoc)
takes_split (Exit es) b j lo hi = simp (none_split 0 b j lo hi, append_assoc)
takes_split (New class es) b j lo hi = simp (none_split 4 b j lo hi, append_assoc)
takes_split (Match e arms) b j lo hi = simp (none_split 0 b j lo hi, append_assoc)
takes_split (Closure s r ps cs type body) b j lo hi = simp (none_split 0 b j lo hi, append_assoc)
takes_split (Arrow s r ps type e) b j lo hi = simp (none_split 4 b j lo hi, append_assoc)
takes_split (Text parts) b j lo hi = simp (none_split 0 b j lo hi, append_assoc)
takes_split (Post e ss) b j lo hi = simp (none_split 4 b j lo hi, append_assoc)
takes_split (Prefix o e) b j lo hi = simp (none_split 5 b j lo hi, append_assoc)
takes_split (Assignment target o e) b j lo hi = simp (none_split 5 b j lo hi, append_assoc)
takes_split (Chain i e ss) b j lo hi = simp (none_split i b j lo hi, append_assoc)
takes_split (Binary d sign o e) b j lo hi = simp (none_split (binary_stratum o) b j lo hi, append_assoc)
takes_split (Conditional c d e) b j lo hi = simp (none_split 23 b j lo hi, append_assoc)

pub tree_split : (t : Token) (f : Form) (b j : ℕ) → own f ≤ b → b ≤ j → takes j (node t f) ≡ takes b (node t f) ++ zeros (j - b)
tree_split t f b j lo hi = takes_split f b j lo hi

-- ---- what follows the operand of a stratum

pub data Rest : Type 0 where
  nothing : Rest
  chained : Steps → Rest
  operated : Token → BinaryOperator → Tree → Rest
  asked : Tree → Tree → Rest

abbrev pub joined : ℕ → Tree → Rest → Tree
joined j e nothing = e
joined j e (chained ss) = node (first_of e) (Chain j e ss)
joined j e (operated sign o d) = node (first_of e) (Binary e sign o d)
joined j e (asked d c) = node (first_of e) (Conditional e d c)

abbrev pub rest_takes : ℕ → Rest → List ℕ
rest_takes j nothing = zeros (j - tighter j)
rest_takes j (chained ss) = steps_size ss ∷ (steps_take ss ++ none j j)
rest_takes j (operated sign o d) = size d ∷ (takes (right_side (fixity o) (binary_stratum o)) d ++ none (binary_stratum o) j)
rest_takes j (asked d c) = (size d + size c + 2) ∷ (takes loosest d ++ (size c ∷ (takes 21 c ++ none 23 j)))

-- a tree, and what is appended to it
abbrev pub posted : Tree → Steps → Tree
posted e no_step = e
posted e (step x xs) = node (first_of e) (Post e (step x xs))

-- ---- strata and the ones before

pub tighter_is : (j : ℕ) → ((j ≡ 23) × (tighter j ≡ 21)) ⊎ ((j ≢ 23) × (tighter j ≡ j - 1))
tighter_is j = elim (eqb_tells j 23) [
  | inl same ↦ inl (same.1, ap tighter same.1)
  | inr other ↦ inr (other.1, ap (λ (z : Bool). if z then 21 else j - 1) other.0)
]

pub tighter_low : (j : ℕ) → 6 ≤ j → (5 ≤ tighter j) × (tighter j < j)
tighter_low j lo = elim (tighter_is j) [ inl h ↦ (omega (arith, h.1), omega (arith, h.0, h.1)) | inr h ↦ (omega (arith, h.1), omega (arith, h.1)) ]

pub tighter_side : (o : BinaryOperator) → fixity o ≢ fixities.Left → tighter (binary_stratum o) ≡ binary_stratum o - 1
tighter_side binaries.Elvis h = absurd (h refl)
tighter_side o h = refl

-- an own stratum that is lower, by what the stratum in between does not hold
below_by : (i j : ℕ) → i < j → i ≢ 22 → i ≤ tighter j
below_by i j lt gap = elim (tighter_is j) [ inl h ↦ (let q = h.0 in let r = h.1 in grind (arith, gap, q, r)) | inr h ↦ omega (arith, h.1) ]

module _ (ts : List Token) (S : ℕ → ℕ → ℕ → Type 0) (weak : (low j k i : ℕ) → j ≤ k → S low k i → S low j i) where
  narrow_form : (f : Form) (p : Bool) (b j at to : ℕ) → own f ≤ b → b ≤ j → Forms ts S p j f at to → Forms ts S p b f at to
  narrow_form (Single leaf) p b j at to lo hi h = (h.0, h.1, weak (leaf_low leaf) b j to hi h.2)
  narrow_form (Brackets e) p b j at to lo hi h = (h.0, weak 1 b j to hi h.1)
  narrow_form (Array styles.Brackets es) p b j at to lo hi h = (h.0, h.1, weak 1 b j to hi h.2)
  narrow_form (Array styles.Array es) p b j at to lo hi h = (h.0, h.1, h.2, weak 1 b j to hi h.3)
  narrow_form (Array styles.List es) p b j at to lo hi h = (h.0, h.1, h.2, weak 1 b j to hi h.3)
  narrow_form (IsSet es) p b j at to lo hi h = (h.0, h.1, h.2, weak 1 b j to hi h.3)
  narrow_form (Empty e) p b j at to lo hi h = (h.0, h.1, weak 1 b j to hi h.2)
  narrow_form (Exit es) p b j at to lo hi h = (h.0, h.1, weak 1 b j to hi h.2)
  narrow_form (New class es) p b j at to lo hi h = (h.0, lo, h.2, h.3, h.4, weak 5 b j to hi h.5)
  narrow_form (Match e arms) p b j at to lo hi h = (h.0, h.1, h.2, h.3, weak 1 b j to hi h.4)
  narrow_form (Closure s r ps cs type body) p b j at to lo hi h = (h.0, h.1, h.2, h.3, h.4, h.5, h.6, h.7, h.8, h.9, h.10, h.11, weak 1 b j to hi h.12)
  narrow_form (Arrow s r ps type e) p b j at to lo hi h = (h.0, h.1, h.2, h.3, h.4, h.5, h.6, h.7, h.8, h.9, h.10, weak 5 b j to hi h.11, lo)
  narrow_form (Text parts) p b j at to lo hi h = (h.0, weak 1 b j to hi h.1)
  narrow_form (Post e ss) p b j at to lo hi h = (h.0, lo, h.2, h.3, h.4, weak 1 b j to hi h.5)
  narrow_form (Prefix o e) p b j at to lo hi h = (lo, h.1, h.2, weak 6 b j to hi h.3)
  narrow_form (Assignment target o e) p b j at to lo hi h = (h.0, h.1, lo, h.3, h.4, h.5, h.6, weak 6 b j to hi h.7)
  narrow_form (Chain i e ss) p b j at to lo hi h = (h.0, h.1, lo, h.3, h.4, h.5, weak i b j to hi h.6)
  narrow_form (Binary d sign o e) p b j at to lo hi h = (h.0, h.1, lo, h.3, h.4, h.5, h.6, weak (binary_stratum o + 1) b j to hi h.7)
  narrow_form (Conditional c d e) p b j at to lo hi h = (h.0, h.1, omega (arith, lo), h.3, h.4, h.5, h.6, h.7, weak 24 b j to hi h.8)

  pub narrow : (t : Token) (f : Form) (p : Bool) (b j at to : ℕ) → own f ≤ b → b ≤ j → Reads ts S p j (node t f) at to → Reads ts S p b (node t f) at to
  narrow t f p b j at to lo hi h = (h.0, narrow_form f p b j at to lo hi h.1)

  pub first_stands : (e : Tree) (p : Bool) (k at to : ℕ) → Reads ts S p k e at to → Stands ts at (first_of e)
  first_stands (node t f) p k at to h = h.0

  -- the same first token
  pub first_same : (t : Token) (e : Tree) (p : Bool) (k at to : ℕ) → Stands ts at t → Reads ts S p k e at to → t ≡ first_of e
  first_same t e p k at to h r = one_token ts at t (first_of e) h (first_stands e p k at to r)

  abbrev pub RestReads : ℕ → Rest → ℕ → ℕ → Type 0
  RestReads j nothing at to = at ≡ to
  RestReads j (chained ss) at to = IsSomeStep ss × Repeats ts S (operation j) ss at to
  RestReads j (operated sign o d) at to = (c : ℕ) × (binary_stratum o ≡ j) × (fixity o ≢ fixities.Left) × Operates ts sign o at c × Reads ts S false (right_side (fixity o) (binary_stratum o)) d c to
  RestReads j (asked d c) at to = (b : ℕ) × Is ts at kinds.Question × Reads ts S false loosest d (at + 1) b × Is ts b kinds.Colon × Reads ts S false 21 c (b + 1) to

  abbrev pub Rested : Bool → ℕ → Tree → ℕ → ℕ → Type 0
  Rested p j t at to = (e : Tree) × (r : Rest) × (m : ℕ) × Reads ts S p (tighter j) e at m × RestReads j r m to × (t ≡ joined j e r) × (takes j t ≡ takes (tighter j) e ++ rest_takes j r)

  rested_lower : (t : Token) (f : Form) (p : Bool) (j at to : ℕ) → 6 ≤ j → own f ≤ tighter j → Reads ts S p j (node t f) at to → Rested p j (node t f) at to
  rested_lower t f p j at to six le h =
      let low = tighter_low j six in
      let hi : tighter j ≤ j = omega (arith, low.1) in
      (node t f, nothing, to, narrow t f p (tighter j) j at to le hi h, refl, refl, tree_split t f (tighter j) j le hi)

  chain_gap : (ss : Steps) (j at to : ℕ) → IsSomeStep ss → Repeats ts S (operation j) ss at to → j ≢ 22
  chain_gap no_step j at to some h e = some
  chain_gap (step x xs) j at to some h e = let v = operation_of ts S j x at h.0 h.1 in stratum_other v.1 (v.5.0 ∙ e)

  rested_chain : (t : Token) (e : Tree) (ss : Steps) (p : Bool) (j at to : ℕ) → 6 ≤ j → Reads ts S p j (node t (Chain j e ss)) at to → Rested p j (node t (Chain j e ss)) at to
  rested_chain t e ss p j at to six h =
      let r = h.1.4 in
      let s = first_same t e false (tighter j) at h.1.0 h.0 r in
      (e, chained ss, h.1.0, raised ts S p (tighter j) e at h.1.0 r, (h.1.3, h.1.5), ap (λ z. node z (Chain j e ss)) s, refl)

  rested_binary : (t : Token) (d : Tree) (sign : Token) (o : BinaryOperator) (e : Tree) (p : Bool) (at to : ℕ) → Reads ts S p (binary_stratum o) (node t (Binary d sign o e)) at to → Rested p (binary_stratum o) (node t (Binary d sign o e)) at to
  rested_binary t d sign o e p at to h =
      let q = tighter_side o h.1.3 in
      let P : ℕ → Type 0 = λ z. Reads ts S p z d at h.1.0 in
      let r = subst P (sym q) (raised ts S p (binary_stratum o - 1) d at h.1.0 h.1.4) in
      let Q : ℕ → Type 0 = λ z. takes (binary_stratum o) (node t (Binary d sign o e)) ≡ takes z d ++ rest_takes (binary_stratum o) (operated sign o e) in
      (d, operated sign o e, h.1.0, r, (h.1.1, refl, h.1.3, h.1.5, h.1.6), ap (λ z. node z (Binary d sign o e)) (first_same t d false (binary_stratum o - 1) at h.1.0 h.0 h.1.4), subst Q (sym q) refl)

  rested_asked : (t : Token) (c d e : Tree) (p : Bool) (j at to : ℕ) → tighter j ≡ 21 → Reads ts S p j (node t (Conditional c d e)) at to → Rested p j (node t (Conditional c d e)) at to
  rested_asked t c d e p j at to q h =
      let P : ℕ → Type 0 = λ z. Reads ts S p z c at h.1.0 in
      let r = subst P (sym q) (raised ts S p 21 c at h.1.0 h.1.3) in
      let Q : ℕ → Type 0 = λ z. takes j (node t (Conditional c d e)) ≡ takes z c ++ rest_takes j (asked d e) in
      (c, asked d e, h.1.0, r, (h.1.1, h.1.4, h.1.5, h.1.6, h.1.7), ap (λ z. node z (Conditional c d e)) (first_same t c false 21 at h.1.0 h.0 h.1.3), subst Q (sym q) refl)

  -- a tree of a stratum from 6 on
  pub rested : (t : Tree) (p : Bool) (j at to : ℕ) → 6 ≤ j → Reads ts S p j t at to → Rested p j t at to
  rested (node t (Chain i e ss)) p j at to six h =
      elim (eq-or-lt_of_le h.1.2) [
        | inl same ↦
            let P : ℕ → Type 0 = λ z. Rested p z (node t (Chain i e ss)) at to in
            let Q : ℕ → Type 0 = λ z. Reads ts S p z (node t (Chain i e ss)) at to in
            subst P same (rested_chain t e ss p i at to h.1.1 (subst Q (sym same) h))
        | inr lt ↦ rested_lower t (Chain i e ss) p j at to six (below_by i j lt (chain_gap ss i h.1.0 to h.1.3 h.1.5)) h
      ]
  rested (node t (Binary d sign o e)) p j at to six h =
      elim (eq-or-lt_of_le h.1.2) [
        | inl same ↦
            let P : ℕ → Type 0 = λ z. Rested p z (node t (Binary d sign o e)) at to in
            let Q : ℕ → Type 0 = λ z. Reads ts S p z (node t (Binary d sign o e)) at to in
            subst P same (rested_binary t d sign o e p at to (subst Q (sym same) h))
        | inr lt ↦ rested_lower t (Binary d sign o e) p j at to six (below_by (binary_stratum o) j lt (stratum_other o)) h
      ]
  rested (node t (Conditional c d e)) p j at to six h =
      elim (cases_lt 23 j) [
        | inl lt ↦ rested_lower t (Conditional c d e) p j at to six (below_by 23 j lt (λ e. omega arith)) h
        | inr le ↦ rested_asked t c d e p j at to (elim (tighter_is j) [ inl q ↦ q.1 | inr q ↦ (let apart = q.0 in let r = q.1 in let s = h.1.2 in grind (arith, apart, r, s)) ]) h
      ]
  rested (node t f) p j at to six h = let low = tighter_low j six in rested_lower t f p j at to six (omega (arith, low.0)) h

  -- ---- operands: what stands alone, and what is appended to it

  abbrev pub Simple : Tree → ℕ → ℕ → Type 0
  Simple t at to = (e : Tree) × (ss : Steps) × (m : ℕ) × (pad : List ℕ) × Reads ts S true 0 e at m × Repeats ts S suffix ss m to × S 1 4 to × (t ≡ posted e ss) × (takes 4 t ≡ takes 0 e ++ (steps_size ss ∷ (steps_take ss ++ pad)))

  posted_is : (t : Token) (e : Tree) (ss : Steps) → IsSomeStep ss → t ≡ first_of e → node t (Post e ss) ≡ posted e ss
  posted_is t e no_step some q = absurd some
  posted_is t e (step x xs) some q = ap (λ z. node z (Post e (step x xs))) q

  pub simple_post : (t : Token) (e : Tree) (ss : Steps) (at to : ℕ) → Reads ts S true 4 (node t (Post e ss)) at to → Simple (node t (Post e ss)) at to
  simple_post t e ss at to h =
      (e, ss, h.1.0, [], raised ts S true 0 e at h.1.0 h.1.3, h.1.4, h.1.5, posted_is t e ss h.1.2 (first_same t e false 0 at h.1.0 h.0 h.1.3), refl)

  pub simple_atom : (t : Token) (f : Form) (at to : ℕ) → own f ≤ 0 → S 1 4 to → Reads ts S true 4 (node t f) at to → Simple (node t f) at to
  simple_atom t f at to lo stop h = (node t f, no_step, to, 0 ∷ 0 ∷ 0 ∷ [], narrow t f true 0 4 at to lo (omega arith) h, refl, stop, refl, tree_split t f 0 4 lo (omega arith))
