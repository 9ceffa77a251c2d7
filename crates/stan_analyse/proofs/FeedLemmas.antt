-- The places of line feeds: they rise, and those before an offset are as many as the line feeds before it.
use Rattle.std.proofs.Common.{◌≡◌, ℕ, zero, suc, ◌+◌, ◌-◌, ◌<◌, ◌≤◌, Bool, true, false, List, [], ◌∷◌, length, get_or, take, cond, ltb, refl, ap, arith}
use Rattle.std.specs.Prelude.{◌==◌, vec_len}
use Rattle.std.specs.List.{count_by}
use Rattle.std.specs.List.Sorted.{IsNonDecreasingBy, IsPartitionPoint}
use Rattle.std.proofs.lemmas.List.Sums.{sum_by-cons}
use Rattle.std.proofs.lemmas.Grind.{common_steps}
use Rattle.std.proofs.lemmas.Bool.Decides.{nat_tests}
use Rattle.stan_analyse.specs.Lines.{feeds_from, AreFeeds}
use Rattle.stan_analyse.specs.declared.lines.LineFeeds.{LineFeeds}

length-feeds : (source : List ℕ) (at : ℕ) → length (feeds_from at source) ≤ length source
length-feeds [] at = omega arith
length-feeds (b ∷ bs) at = grind (arith, length-feeds bs (at + 1))

-- no more places than bytes
pub few_feeds : (source : List ℕ) (feeds : LineFeeds) → AreFeeds source feeds → vec_len feeds.places ≤ length source
few_feeds source feeds are = omega (arith, ap length are, length-feeds source 0)

-- each place is one of the source's
pub feeds-low : (source : List ℕ) (at k d : ℕ) → k < length (feeds_from at source) → at ≤ get_or (feeds_from at source) k d
feeds-low [] at k d h = absurd (omega arith)
feeds-low (b ∷ bs) at k d h = grind (arith, common_steps, feeds-low bs (at + 1))

rise-cons : (x : ℕ) (xs : List ℕ) → ((k d : ℕ) → k < length xs → x ≤ get_or xs k d) → IsNonDecreasingBy (λ (p : ℕ). p) xs → IsNonDecreasingBy (λ (p : ℕ). p) (x ∷ xs)
rise-cons x xs low rise zero zero d order within = omega arith
rise-cons x xs low rise zero (suc j) d order within = low j d (omega arith)
rise-cons x xs low rise (suc i) zero d order within = absurd (omega arith)
rise-cons x xs low rise (suc i) (suc j) d order within = rise i j d (omega arith) (omega arith)

pub feeds-rise : (source : List ℕ) (at : ℕ) → IsNonDecreasingBy (λ (p : ℕ). p) (feeds_from at source)
feeds-rise [] at = λ i j d order within. absurd (omega arith)
feeds-rise (b ∷ bs) at = elim (b == 10) as (λ t. IsNonDecreasingBy (λ (p : ℕ). p) (cond t (at ∷ feeds_from (at + 1) bs) (feeds_from (at + 1) bs))) [
  | true ↦ rise-cons at (feeds_from (at + 1) bs) (λ k d h. omega (arith, feeds-low bs (at + 1) k d h)) (feeds-rise bs (at + 1))
  | false ↦ feeds-rise bs (at + 1)
]

count-cons : (p : ℕ → Bool) (x : ℕ) (xs : List ℕ) → count_by p (x ∷ xs) ≡ cond (p x) 1 0 + count_by p xs
count-cons p x xs = sum_by-cons (λ y. cond (p y) 1 0) x xs

-- the partition point of a test counts the elements that pass
pub count-partition : (p : ℕ → Bool) (xs : List ℕ) (i : ℕ) → i ≤ length xs → IsPartitionPoint (λ y. p y ≡ true) (λ y. p y ≡ false) xs i → i ≡ count_by p xs
count-partition p [] i h point = omega arith
count-partition p (x ∷ xs) zero h point =
    let rest : 0 ≡ count_by p xs = count-partition p xs 0 (omega arith) ((λ k d low high. absurd (omega arith)), (λ k d low high. point.1 (suc k) d (omega arith) (omega arith))) in
    let fails : p x ≡ false = point.1 0 x (omega arith) (omega arith) in
    let first : cond {A = ℕ} (p x) 1 0 ≡ 0 = ap (λ b. cond b 1 0) fails in
    omega (arith, count-cons p x xs)
count-partition p (x ∷ xs) (suc i) h point =
    let rest : i ≡ count_by p xs = count-partition p xs i (omega arith) ((λ k d low high. point.0 (suc k) d (omega arith) (omega arith)), (λ k d low high. point.1 (suc k) d (omega arith) (omega arith))) in
    let passes : p x ≡ true = point.0 0 x (omega arith) (omega arith) in
    let first : cond {A = ℕ} (p x) 1 0 ≡ 1 = ap (λ b. cond b 1 0) passes in
    omega (arith, count-cons p x xs)

feeds-cons : (p : ℕ → Bool) (b : ℕ) (bs : List ℕ) (at : ℕ) → count_by p (feeds_from at (b ∷ bs)) ≡ cond (b == 10) (cond (p at) 1 0) 0 + count_by p (feeds_from (at + 1) bs)
feeds-cons p b bs at = elim (b == 10) as (λ t. count_by p (cond t (at ∷ feeds_from (at + 1) bs) (feeds_from (at + 1) bs)) ≡ cond t (cond (p at) 1 0) 0 + count_by p (feeds_from (at + 1) bs)) [
  | true ↦ count-cons p at (feeds_from (at + 1) bs)
  | false ↦ omega arith
]

adds-none : (t u : Bool) → u ≡ false → cond {A = ℕ} t (cond u 1 0) 0 ≡ 0
adds-none true u h = ap (λ v. cond v 1 0) h
adds-none false u h = refl

count-gap : (source : List ℕ) (at offset gap : ℕ) → offset - at ≡ gap → count_by (λ p. ltb p offset) (feeds_from at source) ≡ count_by (λ b. b == 10) (take gap source)
count-gap [] at offset zero e = refl
count-gap [] at offset (suc gap) e = refl
count-gap (b ∷ bs) at offset zero e =
    let p = λ (place : ℕ). ltb place offset in
    let rest : count_by p (feeds_from (at + 1) bs) ≡ 0 = count-gap bs (at + 1) offset zero (omega arith) in
    let late : ltb at offset ≡ false = grind (arith, nat_tests) in
    let first : cond {A = ℕ} (b == 10) (cond (p at) 1 0) 0 ≡ 0 = adds-none (b == 10) (ltb at offset) late in
    omega (arith, feeds-cons p b bs at)
count-gap (b ∷ bs) at offset (suc gap) e =
    let p = λ (place : ℕ). ltb place offset in
    let rest : count_by p (feeds_from (at + 1) bs) ≡ count_by (λ c. c == 10) (take gap bs) = count-gap bs (at + 1) offset gap (omega arith) in
    let early : ltb at offset ≡ true = grind (arith, nat_tests) in
    let first : cond {A = ℕ} (b == 10) (cond (p at) 1 0) 0 ≡ cond (b == 10) 1 0 = ap (λ t. cond (b == 10) (cond t 1 0) 0) early in
    omega (arith, feeds-cons p b bs at, count-cons (λ c. c == 10) b (take gap bs))

-- the places before an offset are as many as the line feeds before it
pub count-feeds : (source : List ℕ) (offset : ℕ) → count_by (λ p. ltb p offset) (feeds_from 0 source) ≡ count_by (λ b. b == 10) (take offset source)
count-feeds source offset = count-gap source 0 offset offset (omega arith)
