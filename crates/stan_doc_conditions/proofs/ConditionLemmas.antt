-- The last `:` that can part the branches of a condition makes the tree that counts.
use Rattle.std.proofs.Common.{◌≡◌, ℕ, ◌+◌, ◌≤◌, ◌<◌, false, List, ◌∷◌, length, Some, refl, sym, subst, inl, inr, arith}
use Rattle.stan_model_doc.specs.declared.token.DocKind.{DocKind}
use Rattle.stan_model_doc.specs.declared.token.DocKind.TheVariants as k
use Rattle.stan_model_doc.specs.declared.token.DocToken.{DocToken}
use Rattle.stan_model_doc.specs.Tokens.{same_kind, kind_at, has}
use Rattle.stan_model_doc.specs.Symbols.{Written, Negation, May, Symbol, Mark, Word}
use Rattle.stan_model_doc.specs.Rules.{Rule, conditional, negation, variables, symbols, sort_of}
use Rattle.stan_model_doc.specs.Trees.{Forest, nil, mark, word, none, some}
use Rattle.stan_model_doc.specs.Grammar.{Runs}
use Rattle.stan_model_doc.specs.Choices.{Better}
use Rattle.stan_doc_descent.specs.Parse.{Read, ◌>>=◌, onto, Piece, standing, after, word_at, one, height}
use Rattle.stan_doc_descent.specs.Tables.{goes, ends}
use Rattle.stan_doc_descent.specs.Descent.{IsSound, Reaches, ReadsParts}
use Rattle.stan_doc_descent.specs.Alternatives.{ReadsProduction, ReadsProductions}
use Rattle.stan_doc_descent.proofs.Words.{see, clash}
use Rattle.stan_doc_descent.proofs.Runs.{starts, rises, after_at}
use Rattle.stan_doc_descent.proofs.Preferred.{mark_better, word_better, none_better, one_better, may_better, added_better}
use Rattle.stan_doc_descent.proofs.Reading.{bind_ok, onto_is, after_is, word_is, word_there, one_sound, one_longest, run_sound, kept, descent_reads_the_longest}
use Rattle.stan_doc_descent.proofs.Alternatives.{parts_are_read}
use Rattle.stan_doc_conditions.specs.Conditions.{Second, Branches, Test, Negatable, last_parted, second, test, negated, negatable, condition, ConditionsAreRead, ConditionsAreSound}
use Rattle.stan_doc_conditions.proofs.BracketLemmas.{brackets_end_once}
use Rattle.stan_doc_conditions.proofs.PartingLemmas.{chosen, last_is, last_there}

module _ (ts : List DocToken) (below : List DocToken → Rule → ℕ → Read Forest) (n : ℕ) (sound : (us : List DocToken) → IsSound us (below us) n) where
  abbrev Found : List Symbol → ℕ → Forest × ℕ → Type 0
  Found xs at y = Runs ts xs y.0 at y.1 × (height y.0 ≤ n)

  grown : (xs : List Symbol) (f : Forest) (at to : ℕ) (y : Forest × ℕ) → y.0 ≡ f → y.1 ≡ to → Runs ts xs f at to → height f ≤ n → Found xs at y
  grown xs f at to y e p g d = (subst (λ z. Runs ts xs z at y.1) (sym e) (subst (λ z. Runs ts xs f at z) (sym p) g), subst (λ z. height z ≤ n) (sym e) d)

  -- ---- what is read is a run

  second_is : (c : ℕ) (x : Forest × ℕ) → second ts below c ≡ Some x → Runs ts Second x.0 c x.1 × (height x.0 ≤ n)
  second_is c x h = run_sound ts (below ts) n (sound ts) Second c x h

  test_is : (at : ℕ) (y : Forest × ℕ) → test ts below at ≡ Some y → Found Test at y
  test_is at y h =
      let a = bind_ok (one ts (below ts) Written at) _ y h in
      let b = bind_ok (after ts k.Question a.0.1) _ y a.2 in
      let c = onto_is (last_parted ts below (second ts below) b.0 (length ts)) (λ f. standing a.0.0 (mark f)) y b.2 in
      let piece = one_sound ts (below ts) n (sound ts) Written at a.0 a.1 in
      let q = after_is ts k.Question a.0.1 b.0 b.1 in
      let w = (last_is ts below n sound Second (second ts below) second_is b.0 (length ts) c.0 (omega arith) c.1).1.4 in
      grown Test (standing a.0.0 (mark c.0.0)) at c.0.1 y c.2 c.3 (a.0.1, piece.0, piece.1, (q.0, subst (λ z. Runs ts Branches c.0.0 z c.0.1) q.1 w.0)) (omega (arith, piece.2, w.1))

  negated_is : (at : ℕ) (y : Forest × ℕ) → 1 ≤ n → negated ts below at ≡ Some y → (x : Forest) × (y.0 ≡ some negation (mark nil) x) × Found Negatable at y
  negated_is at y low h =
      let a = bind_ok (after ts k.Not at) _ y h in
      let b = onto_is (test ts below a.0) (some negation (mark nil)) y a.2 in
      let q = after_is ts k.Not at a.0 a.1 in
      let w = test_is a.0 b.0 b.1 in
      (b.0.0, b.2, grown Negatable (some negation (mark nil) b.0.0) at b.0.1 y b.2 b.3 (a.0, refl, (q.0, sym q.1), w.0) (omega (arith, w.1, low)))

  -- a test has a part in it
  deep : (at : ℕ) (y : Forest × ℕ) → test ts below at ≡ Some y → 1 ≤ n
  deep at y h =
      let a = bind_ok (one ts (below ts) Written at) _ y h in
      omega (arith, (one_sound ts (below ts) n (sound ts) Written at a.0 a.1).2)

  negatable_is : (at : ℕ) (y : Forest × ℕ) → negatable ts below at ≡ Some y → Found Negatable at y
  negatable_is at y h = elim (chosen (negated ts below at) (test ts below at >>= onto none) y h) [
    | inl e ↦
        let a = bind_ok (after ts k.Not at) _ y e in
        let b = onto_is (test ts below a.0) (some negation (mark nil)) y a.2 in
        (negated_is at y (deep a.0 b.0 b.1) e).2
    | inr e ↦
        let b = onto_is (test ts below at) none y e.1 in
        let w = test_is at b.0 b.1 in
        grown Negatable (none b.0.0) at b.0.1 y b.2 b.3 (refl, w.0) w.1
  ]

  pub condition_is : (at : ℕ) (y : Forest × ℕ) → condition ts below at ≡ Some y → Found (symbols conditional) at y
  condition_is at y h =
      let a = bind_ok (after ts k.LeftParenthesis at) _ y h in
      let t = bind_ok (word_at ts variables a.0) _ y a.2 in
      let c = bind_ok (after ts k.Is (a.0 + 1)) _ y t.2 in
      let d = onto_is (negatable ts below c.0) (λ f. mark (word t.0 (mark f))) y c.2 in
      let p = after_is ts k.LeftParenthesis at a.0 a.1 in
      let w = word_is ts variables a.0 t.0 t.1 in
      let q = after_is ts k.Is (a.0 + 1) c.0 c.1 in
      let r = negatable_is c.0 d.0 d.1 in
      grown (symbols conditional) (mark (word t.0 (mark d.0.0))) at d.0.1 y d.2 d.3
      (p.0, subst (λ z. Runs ts (Word variables ∷ Mark k.Is ∷ Negatable) (word t.0 (mark d.0.0)) z d.0.1) p.1 (w.0, w.1, (q.0, subst (λ z. Runs ts Negatable d.0.0 z d.0.1) q.1 r.0))) r.1

  -- ---- each run is read

  module _ (longest : (us : List DocToken) → ReadsProductions us (below us) n) where
    parts : (us : List DocToken) → ReadsParts us (below us) n
    parts us = parts_are_read us (below us) n (sound us) (longest us)

    -- A tree is read that is the same or better, with the same end.
    abbrev Same : List Symbol → Forest → ℕ → Read Forest → Type 0
    Same xs f to o = (x : Forest × ℕ) × (o ≡ Some x) × Better xs x.0 f × (x.1 ≡ to)

    stays : (us : List DocToken) (kinds : List DocKind) (c end : ℕ) → has kinds (kind_at us c) ≡ false → Reaches us kinds c end → end ≡ c
    stays us kinds c end lack (inl e) = e
    stays us kinds c end lack (inr w) = clash (has kinds (kind_at us c)) w.1 lack

    behind : (g : Forest) (c to : ℕ) → Runs ts Second g c to → c < to
    behind g c to h = elim (starts ts Second g c to refl h) [ inl e ↦ absurd (let w = e.1 in cc) | inr e ↦ e.0 ]

    second_there : (g : Forest) (c to : ℕ) → height g ≤ n → to ≤ length ts → Runs ts Second g c to → (x : Forest × ℕ) × (second ts below c ≡ Some x) × Better Second x.0 g × (x.1 ≡ to)
    unfolding same_kind
    second_there g c to d le h =
        let x = descent_reads_the_longest ts (below ts) n (sound ts) (parts ts) Second g c to refl d le h in
        (x.0, x.1, x.2, stays ts (ends Second) to x.0.1 refl x.3)

    branches_there : (r : Rule) (a g : Forest) (at c to : ℕ) → sort_of r ≡ Written → height a < n → height g ≤ n → to ≤ length ts → Runs ts (symbols r) a at c → Runs ts Second g c to
        → (x : Forest × ℕ) × (last_parted ts below (second ts below) at (length ts) ≡ Some x) × Better Branches x.0 (some r a g) × (x.1 ≡ to)
    branches_there r a g at c to s d l le h i =
        let lt = behind g c to i in
        let x = last_there ts below n sound Second (second ts below) second_is longest r a g at c to (length ts) s d h (second_there g c to l le i) (omega (arith, lt, le)) (omega arith)
        (λ b y p. brackets_end_once ts Branches y.0 (some r a g) at y.1 to refl p.4.0 (c, s, h, i)) in
        (x.0, x.1, x.2.0, x.3)

    test_reads : (at m : ℕ) (q : Piece × ℕ) (x : Forest × ℕ) → one ts (below ts) Written at ≡ Some q → q.1 ≡ m → kind_at ts m ≡ k.Question → last_parted ts below (second ts below) (m + 1) (length ts) ≡ Some x
        → test ts below at ≡ Some (standing q.0 (mark x.0), x.1)
    test_reads at m q x is e question behind = rw is (rw e (rw (after_at ts k.Question m refl question) (rw behind refl)))

    test_there : (f : Forest) (at to : ℕ) → height f ≤ n → to ≤ length ts → Runs ts Test f at to → Same Test f to (test ts below at)
    unfolding same_kind
    test_there (some r t (mark (some u a g))) at to d le h =
        let c = h.3.1.0 in
        let lt = behind g c to h.3.1.3 in
        let up = rises ts Branches (some u a g) (h.0 + 1) to h.3.1 in
        let q = one_longest ts (below ts) n (sound ts) (parts ts) Written r t at h.0 refl h.1 (omega (arith, d)) (omega (arith, up, le)) h.2 in
        let e = stays ts (goes Written) h.0 q.0.1 (rw h.3.0 refl) q.3 in
        let x = branches_there u a g (h.0 + 1) c to h.3.1.1 (omega (arith, d)) (omega (arith, d)) le h.3.1.2 h.3.1.3 in (
          (standing q.0.0 (mark x.0.0), x.0.1),
          test_reads at h.0 q.0 x.0 q.1 e h.3.0 x.1,
          one_better Written (Mark k.Question ∷ Branches) q.0.0 r t (mark (some u a g)) (mark x.0.0) (kept ts (below ts) n (sound ts) (parts ts) Written r t at h.0 q.0 q.1 h.2 e q.2) (mark_better k.Question Branches (some u a g) x.0.0 x.2),
          x.3,
        )
    test_there (some r t (mark (none g))) at to d le h = absurd (let w = h.3.1.0 in cc)
    test_there (some r t (mark g)) at to d le h = absurd h.3.1
    test_there (some r t g) at to d le h = absurd h.3
    test_there (none g) at to d le h = absurd (let w = h.0 in cc)
    test_there f at to d le h = absurd h

    negatable_there : (f : Forest) (at to : ℕ) → height f ≤ n → to ≤ length ts → Runs ts Negatable f at to → Same Negatable f to (negatable ts below at)
    negatable_there (none g) at to d le h =
        let x = test_there g at to d le h.1 in
        elim (see (negated ts below at)) [
          | inl lack ↦ ((none x.0.0, x.0.1), rw lack (rw x.1 refl), none_better May Negation Test g x.0.0 x.2, x.3)
          | inr w ↦
              let p = negated_is at w.0 (deep at x.0 x.1) w.1 in (
                w.0,
                rw w.1 refl,
                subst (λ z. Better Negatable z (none g)) (sym p.1) (added_better May Negation Test (negation, mark nil) g p.0 refl (omega arith)),
                brackets_end_once ts Negatable w.0.0 (none g) at w.0.1 to refl p.2.0 h,
              )
        ]
    negatable_there (some negation (mark nil) g) at to d le h =
        let x = test_there g (at + 1) to (omega (arith, d)) le (subst (λ z. Runs ts Test g z to) (sym h.2.1) h.3) in (
          (some negation (mark nil) x.0.0, x.0.1),
          rw (after_at ts k.Not at refl h.2.0) (rw x.1 refl),
          may_better Negation Test (negation, mark nil) negation (mark nil) g x.0.0 refl (inl refl) x.2,
          x.3,
        )
    negatable_there (some negation (mark f) g) at to d le h = absurd h.2.1
    negatable_there (some negation f g) at to d le h = absurd h.2
    negatable_there (some r ps g) at to d le h = absurd (let w = h.1 in cc)
    negatable_there f at to d le h = absurd h

    pub condition_there : (ps : Forest) (at b : ℕ) → height ps ≤ n → b ≤ length ts → Runs ts (symbols conditional) ps at b → ReadsProduction ts conditional ps b (condition ts below at)
    condition_there (mark (word t (mark g))) at b d le h =
        let x = negatable_there g (at + 1 + 1 + 1) b d le h.1.2.1 in (
          (mark (word t (mark x.0.0)), x.0.1),
          rw (after_at ts k.LeftParenthesis at refl h.0) (rw (word_there ts variables (at + 1) t h.1.0 h.1.1) (rw (after_at ts k.Is (at + 1 + 1) refl h.1.2.0) (rw x.1 refl))),
          inl (mark_better k.LeftParenthesis (Word variables ∷ Mark k.Is ∷ Negatable) (word t (mark g)) (word t (mark x.0.0)) (word_better variables (Mark k.Is ∷ Negatable) t (mark g) (mark x.0.0) (mark_better k.Is Negatable g x.0.0 x.2))),
          inl x.3,
        )
    condition_there (mark (word t g)) at b d le h = absurd h.1.2
    condition_there (mark g) at b d le h = absurd h.1
    condition_there g at b d le h = absurd h

pub conditions_are_read : ConditionsAreRead
conditions_are_read ts below n sound longest ps at b d le h = condition_there ts below n sound longest ps at b d le h

pub conditions_are_sound : ConditionsAreSound
conditions_are_sound ts below n sound at x h = condition_is ts below n sound at x h
