-- What is read of a tag up to its last token is a tree of it, and the one that counts before the others.
use Rattle.std.proofs.Common.{◌≡◌, ◌∙◌, ℕ, ◌+◌, ◌≤◌, ◌<◌, true, false, List, [], ◌∷◌, length, Some, refl, sym, ap, subst, inl, inr, arith, ◌&&◌}
use Rattle.std.specs.Prelude.{nat_le}
use Rattle.std.proofs.lemmas.Bool.{leb-true, le-leb}
use Rattle.std.proofs.lemmas.Option.{slice_get_past}
use Rattle.stan_model_doc.specs.declared.token.DocKind.TheVariants as k
use Rattle.stan_model_doc.specs.declared.token.DocToken.{DocToken}
use Rattle.stan_model_doc.specs.Tokens.{same_kind, kind_at, kind_of, has}
use Rattle.stan_model_doc.specs.Symbols.{Tag, StaticWord, Written, One, May, Symbol, Part}
use Rattle.stan_model_doc.specs.Rules.{Rule, param_tag, return_tag, var_tag, property_tag, method_tag, template_tag, inherit_tag, static_word, symbols, sort_of}
use Rattle.stan_model_doc.specs.Trees.{Forest, nil, mark, word, none, some}
use Rattle.stan_model_doc.specs.Grammar.{Runs}
use Rattle.stan_model_doc.specs.Choices.{Better, size}
use Rattle.stan_doc_descent.specs.Parse.{Read, ◌>>=◌, onto, Piece, standing, after, word_at, run, height}
use Rattle.stan_doc_descent.specs.Tables.{fine, ends}
use Rattle.stan_doc_descent.specs.Descent.{IsSound, Reaches}
use Rattle.stan_doc_descent.specs.Alternatives.{ReadsProductions}
use Rattle.stan_doc_descent.proofs.Words.{and_split, some_is, see, clash}
use Rattle.stan_doc_descent.proofs.Runs.{rises, rule_starts, after_at, taken}
use Rattle.stan_doc_descent.proofs.Preferred.{word_better, none_better, may_better, added_better}
use Rattle.stan_doc_descent.proofs.Reading.{bind_ok, onto_is, after_is, word_is, word_there, run_sound, descent_reads_the_longest}
use Rattle.stan_doc_descent.proofs.Alternatives.{parts_are_read}
use Rattle.stan_doc_conditions.proofs.PartingLemmas.{guarded, chosen, last_is, last_there}
use Rattle.stan_doc_fronts.specs.Wholes.{ParameterEnd, MethodEnd, MethodType, Method, rest, typed, maybe_typed, static_method, method, whole_rule}

pub ends_past : (ts : List DocToken) → kind_at ts (length ts) ≡ k.End
unfolding kind_at
ends_past ts = ap kind_of (slice_get_past ts (length ts) (omega arith))

module _ (ts : List DocToken) (below : List DocToken → Rule → ℕ → Read Forest) (n : ℕ) (sound : (us : List DocToken) → IsSound us (below us) n) (longest : (us : List DocToken) → ReadsProductions us (below us) n) (deep : 1 ≤ n) where
  -- what is read is a tree of all tokens from the place on
  abbrev pub Sound : List Symbol → ℕ → Read Forest → Type 0
  Sound xs at o = (x : Forest × ℕ) → o ≡ Some x → Runs ts xs x.0 at x.1 × (height x.0 ≤ n) × (x.1 ≡ length ts)

  -- where they have a tree one is read that is the same or better
  abbrev pub Full : List Symbol → ℕ → Read Forest → Type 0
  Full xs at o = (f : Forest) → height f ≤ n → Runs ts xs f at (length ts) → (x : Forest × ℕ) × (o ≡ Some x) × Better xs x.0 f × (x.1 ≡ length ts)

  grown : (xs : List Symbol) (f : Forest) (at to : ℕ) (y : Forest × ℕ) → y.0 ≡ f → y.1 ≡ to → Runs ts xs f at to → height f ≤ n → to ≡ length ts → Runs ts xs y.0 at y.1 × (height y.0 ≤ n) × (y.1 ≡ length ts)
  grown xs f at to y e p g d l = (subst (λ z. Runs ts xs z at y.1) (sym e) (subst (λ z. Runs ts xs f at z) (sym p) g), subst (λ z. height z ≤ n) (sym e) d, p ∙ l)

  -- ---- symbols that the descent reads

  rest_is : (xs : List Symbol) (at : ℕ) → Sound xs at (rest ts below xs at)
  rest_is xs at x h =
      let a = bind_ok (run ts (below ts) xs at) _ x h in
      let g = guarded (nat_le a.0.1 (length ts) && nat_le (length ts) a.0.1) (Some a.0) x a.2 in
      let both = and_split (nat_le a.0.1 (length ts)) (nat_le (length ts) a.0.1) g.0 in
      let same = some_is a.0 x g.1 in
      let w = run_sound ts (below ts) n (sound ts) xs at a.0 a.1 in
      grown xs a.0.0 at a.0.1 x (sym (ap (λ (z : Forest × ℕ). z.0) same)) (sym (ap (λ (z : Forest × ℕ). z.1) same)) w.0 w.1 (omega (arith, leb-true a.0.1 (length ts) both.0, leb-true (length ts) a.0.1 both.1))

  rest_there : (xs : List Symbol) → fine xs ≡ true → has (ends xs) k.End ≡ false → (at : ℕ) → Full xs at (rest ts below xs at)
  rest_there xs good last at f d h =
      let x = descent_reads_the_longest ts (below ts) n (sound ts) (parts_are_read ts (below ts) n (sound ts) (longest ts)) xs f at (length ts) good d (omega arith) h in
      let e = stays x.0.1 x.3 in
      (x.0, rw x.1 (rw (le-leb x.0.1 (length ts) (omega (arith, e)), le-leb (length ts) x.0.1 (omega (arith, e))) refl), x.2, e)
    where
      stays : (end : ℕ) → Reaches ts (ends xs) (length ts) end → end ≡ length ts
      stays end (inl e) = e
      stays end (inr w) = clash (has (ends xs) k.End) (subst (λ z. has (ends xs) z ≡ true) (ends_past ts) w.1) last

  -- ---- a type and the rest

  rest_found : (xs : List Symbol) (c : ℕ) (x : Forest × ℕ) → rest ts below xs c ≡ Some x → Runs ts xs x.0 c x.1 × (height x.0 ≤ n)
  rest_found xs c x h = let w = rest_is xs c x h in (w.0, w.1)

  typed_is : (xs : List Symbol) (at : ℕ) → Sound (Part One Written ∷ xs) at (typed ts below xs at)
  typed_is xs at y h =
      let p = (last_is ts below n sound xs (rest ts below xs) (rest_found xs) at (length ts + 1) y (omega arith) h).1 in
      (p.4.0, p.4.1, p.6 ∙ (rest_is xs _ p.1 p.5).2)

  typed_there : (xs : List Symbol) → ((c : ℕ) → Full xs c (rest ts below xs c)) → (r : Rule) (a g : Forest) (at c : ℕ) → sort_of r ≡ Written → height a < n → height g ≤ n → Runs ts (symbols r) a at c → Runs ts xs g c (length ts)
      → (x : Forest × ℕ) × (typed ts below xs at ≡ Some x) × (Better (Part One Written ∷ xs) x.0 (some r a g) × Better (Part May Written ∷ xs) x.0 (some r a g)) × (x.1 ≡ length ts)
  typed_there xs full r a g at c s d l h i =
      let up = rises ts xs g c (length ts) i in
      last_there ts below n sound xs (rest ts below xs) (rest_found xs) longest r a g at c (length ts) (length ts + 1) s d h (full c g l i) (omega (arith, up)) (omega arith)
      (λ b y p. p.6 ∙ (rest_is xs b p.1 p.5).2)

  -- ---- perhaps a type

  one_may : (xs : List Symbol) (f : Forest) (at to : ℕ) → Runs ts (Part One Written ∷ xs) f at to → Runs ts (Part May Written ∷ xs) f at to
  one_may xs (some r ps f) at to h = h
  one_may xs (none f) at to h = absurd (let w = h.0 in cc)
  one_may xs f at to h = absurd h

  maybe_is : (xs : List Symbol) (at : ℕ) → Sound (Part May Written ∷ xs) at (maybe_typed ts below xs at)
  maybe_is xs at y h = elim (chosen (typed ts below xs at) (rest ts below xs at >>= onto none) y h) [
    | inl e ↦ let w = typed_is xs at y e in (one_may xs y.0 at y.1 w.0, w.1, w.2)
    | inr e ↦
        let b = onto_is (rest ts below xs at) none y e.1 in
        let w = rest_is xs at b.0 b.1 in
        grown (Part May Written ∷ xs) (none b.0.0) at b.0.1 y b.2 b.3 (refl, w.0) w.1 w.2
  ]

  takes : (xs : List Symbol) (a : Piece) (x : Forest) (at to : ℕ) → Runs ts (Part One Written ∷ xs) (standing a x) at to → 0 < size a.1
  takes xs a x at to h = omega (arith, taken ts (symbols a.0) a.1 at h.0 h.2, (rule_starts ts a.0 a.1 at h.0 h.2).0)

  maybe_there : (xs : List Symbol) → ((c : ℕ) → Full xs c (rest ts below xs c)) → (at : ℕ) → Full (Part May Written ∷ xs) at (maybe_typed ts below xs at)
  maybe_there xs full at (none g) d h =
      let x = full at g d h.1 in
      elim (see (typed ts below xs at)) [
        | inl lack ↦ ((none x.0.0, x.0.1), rw lack (rw x.1 refl), none_better May Written xs g x.0.0 x.2, x.3)
        | inr w ↦
            let p = (last_is ts below n sound xs (rest ts below xs) (rest_found xs) at (length ts + 1) w.0 (omega arith) w.1).1 in
            let some_tokens = takes xs p.0 p.1.0 at w.0.1 (subst (λ z. Runs ts (Part One Written ∷ xs) z at w.0.1) p.3 p.4.0) in
            (w.0, rw w.1 refl, subst (λ z. Better (Part May Written ∷ xs) z (none g)) (sym p.3) (added_better May Written xs p.0 g p.1.0 refl some_tokens), (typed_is xs at w.0 w.1).2)
      ]
  maybe_there xs full at (some r a g) d h =
      let x = typed_there xs full r a g at h.0 h.1 (omega (arith, d)) (omega (arith, d)) h.2 h.3 in
      (x.0, rw x.1 refl, x.2.1, x.3)
  maybe_there xs full at f d h = absurd h

  -- ---- methods

  method_end : (c : ℕ) → Full MethodEnd c (rest ts below MethodEnd c)
  unfolding same_kind
  method_end = rest_there MethodEnd refl refl

  static_is : (at : ℕ) (y : Forest × ℕ) → static_method ts below at ≡ Some y → (x : Forest) × (y.0 ≡ some static_word (mark nil) x) × (Runs ts Method y.0 at y.1 × (height y.0 ≤ n) × (y.1 ≡ length ts))
  static_is at y h =
      let a = bind_ok (after ts k.Static at) _ y h in
      let b = onto_is (maybe_typed ts below MethodEnd a.0) (some static_word (mark nil)) y a.2 in
      let q = after_is ts k.Static at a.0 a.1 in
      let w = maybe_is MethodEnd a.0 b.0 b.1 in
      (b.0.0, b.2, grown Method (some static_word (mark nil) b.0.0) at b.0.1 y b.2 b.3 (a.0, refl, (q.0, sym q.1), w.0) (omega (arith, w.1, deep)) w.2)

  method_is : (at : ℕ) → Sound Method at (method ts below at)
  method_is at y h = elim (chosen (static_method ts below at) (maybe_typed ts below MethodEnd at >>= onto none) y h) [
    | inl e ↦ (static_is at y e).2
    | inr e ↦
        let b = onto_is (maybe_typed ts below MethodEnd at) none y e.1 in
        let w = maybe_is MethodEnd at b.0 b.1 in
        grown Method (none b.0.0) at b.0.1 y b.2 b.3 (refl, w.0) w.1 w.2
  ]

  method_there : (at : ℕ) → Full Method at (method ts below at)
  method_there at (none g) d h =
      let x = maybe_there MethodEnd method_end at g d h.1 in
      elim (see (static_method ts below at)) [
        | inl lack ↦ ((none x.0.0, x.0.1), rw lack (rw x.1 refl), none_better May StaticWord MethodType g x.0.0 x.2, x.3)
        | inr w ↦
            let p = static_is at w.0 w.1 in
            (w.0, rw w.1 refl, subst (λ z. Better Method z (none g)) (sym p.1) (added_better May StaticWord MethodType (static_word, mark nil) g p.0 refl (omega arith)), p.2.2)
      ]
  method_there at (some static_word (mark nil) g) d h =
      let x = maybe_there MethodEnd method_end (at + 1) g (omega (arith, d)) (subst (λ z. Runs ts MethodType g z (length ts)) (sym h.2.1) h.3) in (
        (some static_word (mark nil) x.0.0, x.0.1),
        rw (after_at ts k.Static at refl h.2.0) (rw x.1 refl),
        may_better StaticWord MethodType (static_word, mark nil) static_word (mark nil) g x.0.0 refl (inl refl) x.2,
        x.3,
      )
  method_there at (some static_word (mark f) g) d h = absurd h.2.1
  method_there at (some static_word f g) d h = absurd h.2
  method_there at (some r ps g) d h = absurd (let w = h.1 in cc)
  method_there at f d h = absurd h

  -- ---- tags

  pub rule_is : (r : Rule) → Sound (symbols r) 0 (whole_rule ts below r)
  rule_is param_tag y h =
      let t = bind_ok (word_at ts (k.ParamTag ∷ []) 0) _ y h in
      let b = onto_is (typed ts below ParameterEnd (0 + 1)) (word t.0) y t.2 in
      let w = word_is ts (k.ParamTag ∷ []) 0 t.0 t.1 in
      let x = typed_is ParameterEnd (0 + 1) b.0 b.1 in
      grown (symbols param_tag) (word t.0 b.0.0) 0 b.0.1 y b.2 b.3 (w.0, w.1, x.0) x.1 x.2
  rule_is method_tag y h =
      let t = bind_ok (word_at ts (k.MethodTag ∷ []) 0) _ y h in
      let b = onto_is (method ts below (0 + 1)) (word t.0) y t.2 in
      let w = word_is ts (k.MethodTag ∷ []) 0 t.0 t.1 in
      let x = method_is (0 + 1) b.0 b.1 in
      grown (symbols method_tag) (word t.0 b.0.0) 0 b.0.1 y b.2 b.3 (w.0, w.1, x.0) x.1 x.2
  rule_is return_tag y h = rest_is (symbols return_tag) 0 y h
  rule_is r y h = rest_is (symbols r) 0 y h

  pub rule_there : (r : Rule) → sort_of r ≡ Tag → Full (symbols r) 0 (whole_rule ts below r)
  unfolding same_kind
  rule_there param_tag s (word t (some r a g)) d h =
      let x = typed_there ParameterEnd (rest_there ParameterEnd refl refl) r a g (0 + 1) h.2.0 h.2.1 (omega (arith, d)) (omega (arith, d)) h.2.2 h.2.3 in
      ((word t x.0.0, x.0.1), rw (word_there ts (k.ParamTag ∷ []) 0 t h.0 h.1) (rw x.1 refl), word_better (k.ParamTag ∷ []) (Part One Written ∷ ParameterEnd) t (some r a g) x.0.0 x.2.0, x.3)
  rule_there param_tag s (word t (none g)) d h = absurd (let w = h.2.0 in cc)
  rule_there param_tag s (word t g) d h = absurd h.2
  rule_there param_tag s g d h = absurd h
  rule_there method_tag s (word t g) d h =
      let x = method_there (0 + 1) g d h.2 in
      ((word t x.0.0, x.0.1), rw (word_there ts (k.MethodTag ∷ []) 0 t h.0 h.1) (rw x.1 refl), word_better (k.MethodTag ∷ []) Method t g x.0.0 x.2, x.3)
  rule_there method_tag s g d h = absurd h
  rule_there return_tag s f d h = rest_there (symbols return_tag) refl refl 0 f d h
  rule_there var_tag s f d h = rest_there (symbols var_tag) refl refl 0 f d h
  rule_there property_tag s f d h = rest_there (symbols property_tag) refl refl 0 f d h
  rule_there template_tag s f d h = rest_there (symbols template_tag) refl refl 0 f d h
  rule_there inherit_tag s f d h = rest_there (symbols inherit_tag) refl refl 0 f d h
  rule_there r s f d h = absurd (let w = s in cc)
