-- Fields: behind the last one a comma may stand alone, which also begins a further field.
use Rattle.std.proofs.Common.{◌≡◌, ℕ, zero, suc, ◌+◌, ◌≤◌, ◌<◌, true, List, [], ◌∷◌, length, Some, refl, sym, subst, ◌⊎◌, inl, inr, arith}
use Rattle.stan_model_doc.specs.declared.token.DocKind.TheVariants as k
use Rattle.stan_model_doc.specs.declared.token.DocToken.{DocToken}
use Rattle.stan_model_doc.specs.Tokens.{same_kind, kind_at, has}
use Rattle.stan_model_doc.specs.Symbols.{Sort, Fields, Field, FurtherField, LastComma, One, May, Many, Symbol, Part}
use Rattle.stan_model_doc.specs.Rules.{Rule, fields, further_field, last_comma, symbols, sort_of}
use Rattle.stan_model_doc.specs.Trees.{Forest, nil, mark, none, some}
use Rattle.stan_model_doc.specs.Grammar.{Runs}
use Rattle.stan_model_doc.specs.Choices.{Better, size}
use Rattle.stan_doc_descent.specs.Parse.{Read, ◌>>=◌, onto, standing, one, many, run, height}
use Rattle.stan_doc_descent.specs.Tables.{begins, goes, firsts, apart, ends}
use Rattle.stan_doc_descent.specs.Descent.{IsSound, Reaches, ReadsParts}
use Rattle.stan_doc_descent.specs.Alternatives.{FieldsAreRead}
use Rattle.stan_doc_descent.proofs.Words.{see, subset_has, apart_has, clash}
use Rattle.stan_doc_descent.proofs.Runs.{starts, rises, rule_starts, taken}
use Rattle.stan_doc_descent.proofs.Preferred.{none_better, one_better, many_better, longer_better, added_better}
use Rattle.stan_doc_descent.proofs.Reading.{one_sound, one_longest, one_takes, many_sound, run_sound, many_passes, passes, are_items, same_size, larger, kept, no_items, descent_reads_the_longest}
use Rattle.stan_doc_descent.proofs.Alternatives.{parts_are_read}

module _ (ts : List DocToken) (below : Rule → ℕ → Read Forest) (n : ℕ) (sound : IsSound ts below n) (parts : ReadsParts ts below n) where
  abbrev Last : List Symbol
  Last = Part May LastComma ∷ []

  abbrev Tail : List Symbol
  Tail = Part Many FurtherField ∷ Last

  abbrev Goes : ℕ → Type 0
  Goes at = has (goes Fields) (kind_at ts at) ≡ true

  -- what is read is as long and the same or better, or longer
  abbrev Is : List Symbol → Forest → ℕ → Read Forest → Type 0
  Is xs f to o = (x : Forest × ℕ) × (o ≡ Some x) × Better xs x.0 f × Reaches ts (goes Fields) to x.1

  lift : (o : Read Forest) (xs ys : List Symbol) (f g : Forest) (w : Forest → Forest) (to : ℕ) → ((x : Forest × ℕ) → o ≡ Some x → Better xs x.0 f → Better ys (w x.0) g) → Is xs f to o → Is ys g to (o >>= onto w)
  lift o xs ys f g w to better r = ((w r.0.0, r.0.1), rw r.1 refl, better r.0 r.1 r.2, r.3)

  -- a longer one is read where the tokens go on
  beyond : (o : Read Forest) (ys : List Symbol) (g : Forest) (w : Forest → Forest) (from to : ℕ) → to < from → Goes to → ((x : Forest) → Better ys (w x) g) → ((x : Forest × ℕ) × (o ≡ Some x) × (from ≤ x.1)) → Is ys g to (o >>= onto w)
  beyond o ys g w from to lt go better p = ((w p.0.0, p.0.1), rw p.1 refl, better p.0.0, inr (omega (arith, lt, p.2), go))

  last : (f : Forest) (at to : ℕ) → height f ≤ n → to ≤ length ts → Runs ts Last f at to → Is Last f to (run ts below Last at)
  unfolding same_kind
  last f at to d le h =
      let r = descent_reads_the_longest ts below n sound parts Last f at to refl d le h in
      (r.0, r.1, r.2, settle r.0.1 r.3)
    where
      settle : (end : ℕ) → Reaches ts (ends Last) to end → Reaches ts (goes Fields) to end
      settle end (inl e) = inl e
      settle end (inr v) = inr (v.0, subset_has (ends Last) (goes Fields) (kind_at ts to) refl v.1)

  passes_last : (at : ℕ) → (x : Forest × ℕ) × (run ts below Last at ≡ Some x) × (at ≤ x.1)
  passes_last at = passes ts below n sound parts Last refl at

  passes_tail : (m at : ℕ) → (x : Forest × ℕ) × (many ts below FurtherField (λ b. run ts below Last b) m at ≡ Some x) × (at ≤ x.1)
  passes_tail m at = many_passes ts below n sound parts FurtherField (λ b. run ts below Last b) passes_last m at

  -- a further field is a comma and a field
  field_behind : (r : Rule) (ps : Forest) (at b : ℕ) → sort_of r ≡ FurtherField → Runs ts (symbols r) ps at b → (at + 1 < b) × Goes (at + 1)
  unfolding same_kind
  field_behind further_field (mark (some q qs nil)) at b e h =
      let s = rule_starts ts q qs (at + 1) h.1.0 h.1.2 in
      (omega (arith, s.0, h.1.3), subset_has (begins Field) (goes Fields) (kind_at ts (at + 1)) refl (subst (λ z. has (begins z) (kind_at ts (at + 1)) ≡ true) h.1.1 s.1))
  field_behind further_field (mark (some q qs f)) at b e h = absurd h.1.3
  field_behind further_field (mark (none f)) at b e h = absurd (let w = h.1.0 in cc)
  field_behind further_field (mark f) at b e h = absurd h.1
  field_behind further_field f at b e h = absurd h
  field_behind r ps at b e h = absurd cc

  -- at most a comma stands there
  comma_ends : (f : Forest) (at to : ℕ) → Runs ts Last f at to → (to ≡ at) ⊎ (to ≡ at + 1)
  comma_ends (none nil) at to h = inl (sym h.1)
  comma_ends (none f) at to h = absurd h.1
  comma_ends (some last_comma (mark nil) nil) at to h = inr (omega (arith, h.2.1, h.3))
  comma_ends (some last_comma (mark nil) f) at to h = absurd h.3
  comma_ends (some last_comma (mark f) g) at to h = absurd h.2.1
  comma_ends (some last_comma f g) at to h = absurd h.2
  comma_ends (some r ps f) at to h = absurd (let w = h.1 in cc)
  comma_ends f at to h = absurd h

  -- no further field stands where a longer field goes on
  ended : (f : Forest) (b to : ℕ) (s : Sort) → apart (goes s) (firsts Tail) ≡ true → has (goes s) (kind_at ts b) ≡ true → Runs ts Tail f b to → b ≡ to
  ended f b to s a go h = elim (starts ts Tail f b to refl h) [
    | inl e ↦ e.0
    | inr e ↦ clash (has (firsts Tail) (kind_at ts b)) e.1 (apart_has (goes s) (firsts Tail) (kind_at ts b) a go)
  ]

  tail : (f : Forest) (m at to : ℕ) → height f ≤ n → to ≤ length ts → to < at + m → Runs ts Tail f at to → Is Tail f to (many ts below FurtherField (λ b. run ts below Last b) m at)
  unfolding same_kind
  tail f zero at to d le lt h = absurd (let up = rises ts Tail f at to h in omega (arith, lt, up))
  tail (none f) (suc m) at to d le lt h = elim (see (one ts below FurtherField at)) [
    | inl lack ↦ rw lack (lift (run ts below Last at) Last Tail f (none f) none to (λ x is i. none_better Many FurtherField Last f x.0 i) (last f at to d le h.1))
    | inr w ↦
        let piece = one_sound ts below n sound FurtherField at w.0 w.1 in
        let field = field_behind w.0.0.0 w.0.0.1 at w.0.1 piece.0 piece.1 in
        let comma = subset_has (k.Comma ∷ []) (goes Fields) (kind_at ts at) refl (one_takes ts below n sound parts FurtherField at w.0 w.1).1 in
        let tokens : 0 < size w.0.0.1 = omega (arith, taken ts (symbols w.0.0.0) w.0.0.1 at w.0.1 piece.1, field.0) in
        rw w.1 (elim (comma_ends f at to h.1) [
          | inl e ↦ beyond (many ts below FurtherField (λ b. run ts below Last b) m w.0.1) Tail (none f) (standing w.0.0) w.0.1 to (omega (arith, e, field.0)) (subst Goes (sym e) comma) (λ x. added_better Many FurtherField Last w.0.0 f x refl tokens) (passes_tail m w.0.1)
          | inr e ↦ beyond (many ts below FurtherField (λ b. run ts below Last b) m w.0.1) Tail (none f) (standing w.0.0) w.0.1 to (omega (arith, e, field.0)) (subst Goes (sym e) field.1) (λ x. added_better Many FurtherField Last w.0.0 f x refl tokens) (passes_tail m w.0.1)
        ])
  ]
  tail (some r ps f) (suc m) at to d le lt h =
      let up = rises ts Tail f h.0 to h.3 in
      let less = (rule_starts ts r ps at h.0 h.2).0 in
      let q = one_longest ts below n sound parts FurtherField r ps at h.0 refl h.1 (omega (arith, d)) (omega (arith, up, le)) h.2 in
      elim q.3 [
        | inl e ↦
            let rec = tail f m h.0 to (omega (arith, d)) le (omega (arith, lt, less)) h.3 in
            rw q.1 (rw e (lift (many ts below FurtherField (λ b. run ts below Last b) m h.0) Tail Tail f (some r ps f) (standing q.0.0) to
            (λ x is i. many_better FurtherField Last q.0.0 r ps f x.0 (are_items ts below n sound parts FurtherField Last f h.0 to h.3)
            (are_items ts below n sound parts FurtherField Last x.0 h.0 x.1 (many_sound ts below n sound FurtherField Last (λ b. run ts below Last b) (λ b y z. run_sound ts below n sound Last b y z) m h.0 x is).0)
            (same_size ts below n sound parts FurtherField r ps at h.0 q.0 q.1 h.2 e) (kept ts below n sound parts FurtherField r ps at h.0 q.0 q.1 h.2 e q.2) i) rec))
        | inr w ↦
            let same = ended f h.0 to FurtherField refl w.1 h.3 in
            rw q.1 (beyond (many ts below FurtherField (λ b. run ts below Last b) m q.0.1) Tail (some r ps f) (standing q.0.0) q.0.1 to (omega (arith, same, w.0))
            (subst Goes same (subset_has (goes FurtherField) (goes Fields) (kind_at ts h.0) refl w.1))
            (λ x. longer_better Many FurtherField Last q.0.0 r ps f x refl h.1 q.2 (larger ts below n sound parts FurtherField r ps at h.0 q.0 q.1 h.2 w.0) (no_items ts below n sound parts Tail f h.0 to h.3 same)) (passes_tail m q.0.1))
      ]
  tail f (suc m) at to d le lt h = absurd h

  all : (ps : Forest) (at b : ℕ) → height ps ≤ n → b ≤ length ts → Runs ts (symbols fields) ps at b → Is (symbols fields) ps b (run ts below (symbols fields) at)
  unfolding same_kind
  all (some r ps f) at to d le h =
      let up = rises ts Tail f h.0 to h.3 in
      let q = one_longest ts below n sound parts Field r ps at h.0 refl h.1 (omega (arith, d)) (omega (arith, up, le)) h.2 in
      elim q.3 [
        | inl e ↦
            let rec = tail f (length ts + 1) h.0 to (omega (arith, d)) le (omega (arith, le)) h.3 in
            rw q.1 (rw e (lift (run ts below Tail h.0) Tail (symbols fields) f (some r ps f) (standing q.0.0) to (λ x is i. one_better Field Tail q.0.0 r ps f x.0 (kept ts below n sound parts Field r ps at h.0 q.0 q.1 h.2 e q.2) i) rec))
        | inr w ↦
            let same = ended f h.0 to Field refl w.1 h.3 in
            rw q.1 (beyond (run ts below Tail q.0.1) (symbols fields) (some r ps f) (standing q.0.0) q.0.1 to (omega (arith, same, w.0))
            (subst Goes same (subset_has (goes Field) (goes Fields) (kind_at ts h.0) refl w.1))
            (λ x. longer_better One Field Tail q.0.0 r ps f x refl h.1 q.2 (larger ts below n sound parts Field r ps at h.0 q.0 q.1 h.2 w.0) (no_items ts below n sound parts Tail f h.0 to h.3 same)) (passes_tail (length ts + 1) q.0.1))
      ]
  all (none f) at to d le h = absurd (let w = h.0 in cc)
  all f at to d le h = absurd h

pub fields_are_read : FieldsAreRead
fields_are_read ts below n sound longest ps at b d le h =
    let x = all ts below n sound (parts_are_read ts below n sound longest) ps at b d le h in
    (x.0, x.1, inl x.2, x.3)
