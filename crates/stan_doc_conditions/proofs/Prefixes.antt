-- Runs of a text are runs of its beginning, as far as that goes, and the other way round.
use Rattle.std.proofs.Common.{◌≡◌, ◌∙◌, ℕ, zero, suc, ◌+◌, ◌-◌, ◌≤◌, ◌<◌, List, [], ◌∷◌, length, take, drop, refl, sym, ap, subst, arith}
use Rattle.std.specs.Prelude.{slice_get, slice_range, IsTrue}
use Rattle.std.proofs.lemmas.List.{drop-take, length-take-le}
use Rattle.std.proofs.lemmas.Option.{slice_get_past}
use Rattle.stan_model_doc.specs.declared.token.DocKind.TheVariants as k
use Rattle.stan_model_doc.specs.declared.token.DocToken.{DocToken}
use Rattle.stan_model_doc.specs.Tokens.{kind_at, kind_of}
use Rattle.stan_model_doc.specs.Symbols.{Symbol, Mark, Word, Any, Part, rest}
use Rattle.stan_model_doc.specs.Rules.{symbols}
use Rattle.stan_model_doc.specs.Trees.{Forest, nil, mark, word, any, none, some}
use Rattle.stan_model_doc.specs.Grammar.{Runs, matches}
use Rattle.stan_doc_descent.proofs.Runs.{rises}

-- two texts that agree up to a place
pub record Agree (us vs : List DocToken) (c : ℕ) : Type 0 where
  pub tokens : (i : ℕ) → i < c → slice_get us i ≡ slice_get vs i
  pub texts : (i n : ℕ) → i + n ≤ c → slice_range us i (i + n) ≡ slice_range vs i (i + n)
  pub within : c ≤ length vs

pub agreed : (us vs : List DocToken) (c : ℕ) → Agree us vs c → (xs : List Symbol) (f : Forest) (at to : ℕ) → to ≤ c → Runs us xs f at to → Runs vs xs f at to
unfolding kind_at
agreed us vs c a [] nil at to le h = h
agreed us vs c a (Mark kind ∷ xs) (mark f) at to le h =
    let up = rises us xs f (at + 1) to h.1 in
    (ap kind_of (sym (a.tokens at (omega (arith, up, le)))) ∙ h.0, agreed us vs c a xs f (at + 1) to le h.1)
agreed us vs c a (Word kinds ∷ xs) (word t f) at to le h =
    let up = rises us xs f (at + 1) to h.2 in
    (sym (a.tokens at (omega (arith, up, le))) ∙ h.0, h.1, agreed us vs c a xs f (at + 1) to le h.2)
agreed us vs c a (Any stop ∷ xs) (any n f) at to le h =
    let up = rises us xs f (at + n) to h.2 in
    let w = a.within in
    (omega (arith, up, le, w), subst (λ z. IsTrue (matches stop [] z)) (a.texts at n (omega (arith, up, le))) h.1, agreed us vs c a xs f (at + n) to le h.2)
agreed us vs c a (Part n s ∷ xs) (none f) at to le h = (h.0, agreed us vs c a xs f at to le h.1)
agreed us vs c a (Part n s ∷ xs) (some r ps f) at to le h =
    let up = rises us (rest n s xs) f h.0 to h.3 in
    (h.0, h.1, agreed us vs c a (symbols r) ps at h.0 (omega (arith, up, le)) h.2, agreed us vs c a (rest n s xs) f h.0 to le h.3)
agreed us vs c a xs f at to le h = absurd h

take_get : (ts : List DocToken) (c i : ℕ) → i < c → slice_get (take c ts) i ≡ slice_get ts i
take_get [] zero i lt = refl
take_get [] (suc c) i lt = refl
take_get (t ∷ ts) zero i lt = absurd (omega (arith, lt))
take_get (t ∷ ts) (suc c) zero lt = refl
take_get (t ∷ ts) (suc c) (suc i) lt = take_get ts c i (omega (arith, lt))

take_twice : (n m : ℕ) (ts : List DocToken) → n ≤ m → take n (take m ts) ≡ take n ts
take_twice zero m ts le = refl
take_twice (suc n) zero ts le = absurd (omega (arith, le))
take_twice (suc n) (suc m) [] le = refl
take_twice (suc n) (suc m) (t ∷ ts) le = ap (λ us. t ∷ us) (take_twice n m ts (omega (arith, le)))

take_range : (ts : List DocToken) (c i n : ℕ) → i + n ≤ c → slice_range (take c ts) i (i + n) ≡ slice_range ts i (i + n)
take_range ts c i n le =
    let e : i + (c - i) ≡ c = omega (arith, le) in
    let w : drop i (take c ts) ≡ take (c - i) (drop i ts) = subst (λ z. drop i (take z ts) ≡ take (c - i) (drop i ts)) e (drop-take i (c - i) ts) in
    ap (take ((i + n) - i)) w ∙ take_twice ((i + n) - i) (c - i) (drop i ts) (omega (arith, le))

pub prefix_agrees : (ts : List DocToken) (c : ℕ) → c ≤ length ts → Agree (take c ts) ts c
prefix_agrees ts c le = record { tokens = λ i lt. take_get ts c i lt; texts = λ i n l. take_range ts c i n l; within = le }

pub agrees_prefix : (ts : List DocToken) (c : ℕ) → c ≤ length ts → Agree ts (take c ts) c
agrees_prefix ts c le =
    let e = length-take-le c ts le in
    record { tokens = λ i lt. sym (take_get ts c i lt); texts = λ i n l. sym (take_range ts c i n l); within = omega (arith, e) }

pub prefix_ends : (ts : List DocToken) (c : ℕ) → c ≤ length ts → kind_at (take c ts) c ≡ k.End
unfolding kind_at
prefix_ends ts c le = ap kind_of (slice_get_past (take c ts) c (let e = length-take-le c ts le in omega (arith, e)))
