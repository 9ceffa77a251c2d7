-- When an answer decides between bytes.
use Rattle.std.proofs.Common.{◌≡◌, ℕ, zero, suc, ◌+◌, ◌*◌, ◌/◌, ◌%◌, ◌^◌, ◌<◌, ◌≤◌, ◌≢◌, List, [], ◌∷◌, ◌++◌, map, length, get_or, take, refl, ap, sym, ◌∙◌, arith, append_assoc, subst}
use Rattle.std.specs.declared.cmp.Ordering.{Ordering}
use Rattle.std.specs.declared.cmp.Ordering.TheVariants.{Less, Equal, Greater}
use Rattle.std.specs.Ordering.{nat_cmp, ordering_then}
use Rattle.std.specs.Cmp.{nat_cmp_is}
use Rattle.std.specs.Cmp.Lexicographic.{slice_cmp}
use Rattle.std.specs.Int.{bytes_high_first, byte_at}
use Rattle.std.specs.List.{flat_map}
use Rattle.std.proofs.lemmas.List.{take_all}
use Rattle.std.proofs.lemmas.Cmp.{ranked, by_ranked, tied_itself, nat_cmp_total}
use Rattle.std.proofs.Math.Arith.{mod-mul}
use Rattle.std.proofs.Math.Nat.{mod-lt, mod-eq_of_lt, pow-succ', mul-le-mul_left}
use Rattle.stan_model_types.specs.TypeBytes.{number_bytes}
use Rattle.stan_type_order.specs.Order.{Decides}

then_then : (a b c : Ordering) → ordering_then (ordering_then a b) c ≡ ordering_then a (ordering_then b c)
then_then Less b c = refl
then_then Equal b c = refl
then_then Greater b c = refl

-- ---- nothing, and the same

pub decides_same : (a : List ℕ) → Decides Equal a a
decides_same [] x y = refl
decides_same (b ∷ bs) x y = ap (λ o. ordering_then o (slice_cmp nat_cmp (bs ++ x) (bs ++ y))) (tied_itself nat_cmp_total b) ∙ decides_same bs x y

-- ---- one behind the other

pub decides_both : (o : Ordering) (a b c d : List ℕ) → Decides Equal a b → Decides o c d → Decides o (a ++ c) (b ++ d)
decides_both o a b c d first second x y = rw (append_assoc a c x, append_assoc b d y) (first (c ++ x) (d ++ y) ∙ second x y)

pub decides_less : (a b c d : List ℕ) → Decides Less a b → Decides Less (a ++ c) (b ++ d)
decides_less a b c d first x y = rw (append_assoc a c x, append_assoc b d y) (first (c ++ x) (d ++ y))

pub decides_greater : (a b c d : List ℕ) → Decides Greater a b → Decides Greater (a ++ c) (b ++ d)
decides_greater a b c d first x y = rw (append_assoc a c x, append_assoc b d y) (first (c ++ x) (d ++ y))

-- ---- numbers

-- texts of one length
decides_long : (a b : List ℕ) → length a ≡ length b → Decides (slice_cmp nat_cmp a b) a b
decides_long [] [] e x y = refl
decides_long [] (c ∷ b) e x y = absurd (omega (arith, e))
decides_long (c ∷ a) [] e x y = absurd (omega (arith, e))
decides_long (c ∷ a) (d ∷ b) e x y =
    let rest : length a ≡ length b = omega (arith, e) in
    ap (ordering_then (nat_cmp c d)) (decides_long a b rest x y) ∙ sym (then_then (nat_cmp c d) (slice_cmp nat_cmp a b) (slice_cmp nat_cmp x y))

pub decides_of_length : (a b : List ℕ) → length a ≡ length b → Decides (slice_cmp nat_cmp a b) a b
decides_of_length = decides_long

length-bytes_high_first : (k n : ℕ) → length (bytes_high_first k n) ≡ k
length-bytes_high_first zero n = refl
length-bytes_high_first (suc k) n = omega (arith, length-bytes_high_first k n)

-- two digits to a base
digits_less : (d e r s base : ℕ) → r < base → d < e → d * base + r < e * base + s
digits_less d e r s base lt less = let up : base * suc d ≤ base * e = mul-le-mul_left base (omega arith) in omega (arith, up)

cmp_low : (d e r s base : ℕ) → d ≡ e → nat_cmp (d * base + r) (e * base + s) ≡ nat_cmp r s
cmp_low d e r s base h =
    let same : d * base ≡ e * base = ap (λ k. k * base) h in
    by_ranked (r < s) (r ≡ s) (s < r) (nat_cmp r s) (ranked r s (nat_cmp r s) refl)
    (λ p g. let more : d * base + r < e * base + s = omega arith in sym (nat_cmp_is (d * base + r) (e * base + s) Less more) ∙ sym p)
    (λ p g. let more : d * base + r ≡ e * base + s = omega arith in sym (nat_cmp_is (d * base + r) (e * base + s) Equal more) ∙ sym p)
    (λ p g. let more : e * base + s < d * base + r = omega arith in sym (nat_cmp_is (d * base + r) (e * base + s) Greater more) ∙ sym p)

cmp_digits : (d e r s base : ℕ) → r < base → s < base → nat_cmp (d * base + r) (e * base + s) ≡ ordering_then (nat_cmp d e) (nat_cmp r s)
cmp_digits d e r s base lr ls =
    by_ranked (d < e) (d ≡ e) (e < d) (nat_cmp d e) (ranked d e (nat_cmp d e) refl)
    (λ o h. sym (nat_cmp_is (d * base + r) (e * base + s) Less (digits_less d e r s base lr h)) ∙ ap (λ k. ordering_then k (nat_cmp r s)) (sym o))
    (λ o h. cmp_low d e r s base h ∙ ap (λ k. ordering_then k (nat_cmp r s)) (sym o))
    (λ o h. sym (nat_cmp_is (d * base + r) (e * base + s) Greater (digits_less e d s r base ls h)) ∙ ap (λ k. ordering_then k (nat_cmp r s)) (sym o))

byte_at-div : (k n : ℕ) → byte_at k n ≡ n / 256 ^ k % 256
byte_at-div zero n = let whole : n / 1 ≡ n = omega arith in ap (λ k. k % 256) (sym whole)
byte_at-div (suc k) n = refl

pow_positive : (k : ℕ) → 0 < 256 ^ k
pow_positive zero = omega arith
pow_positive (suc k) = rw pow-succ' (omega (arith, pow_positive k))

high_digit : (k n : ℕ) → n % 256 ^ suc k ≡ byte_at k n * 256 ^ k + n % 256 ^ k
high_digit k n = rw (pow-succ' 256 k, byte_at-div k n) (mod-mul n {m = 256} {c = 256 ^ k} (omega arith) (pow_positive k))

cmp_bytes : (k m n : ℕ) → slice_cmp nat_cmp (bytes_high_first k m) (bytes_high_first k n) ≡ nat_cmp (m % 256 ^ k) (n % 256 ^ k)
cmp_bytes zero m n = let a : m % 1 ≡ 0 = omega arith in let b : n % 1 ≡ 0 = omega arith in sym (ap (λ k. nat_cmp k (n % 1)) a ∙ ap (nat_cmp 0) b)
cmp_bytes (suc k) m n =
    rw (cmp_bytes k m n, high_digit k m, high_digit k n) (sym (cmp_digits (byte_at k m) (byte_at k n) (m % 256 ^ k) (n % 256 ^ k) (256 ^ k) (mod-lt m (pow_positive k)) (mod-lt n (pow_positive k))))

pub cmp_number_bytes : (m n : ℕ) → m < 2 ^ 64 → n < 2 ^ 64 → slice_cmp nat_cmp (number_bytes m) (number_bytes n) ≡ nat_cmp m n
unfolding number_bytes
cmp_number_bytes m n lm ln = cmp_bytes 8 m n ∙ ap (λ k. nat_cmp k (n % 256 ^ 8)) (mod-eq_of_lt lm) ∙ ap (nat_cmp m) (mod-eq_of_lt ln)

pub decides_number : (m n : ℕ) → m < 2 ^ 64 → n < 2 ^ 64 → Decides (nat_cmp m n) (number_bytes m) (number_bytes n)
unfolding number_bytes
decides_number m n lm ln x y =
    decides_long (number_bytes m) (number_bytes n) (length-bytes_high_first 8 m ∙ sym (length-bytes_high_first 8 n)) x y
    ∙ ap (λ o. ordering_then o (slice_cmp nat_cmp x y)) (cmp_number_bytes m n lm ln)

-- ---- lists

decides_first : (o : Ordering) (a b c d : List ℕ) → o ≢ Equal → Decides o a b → Decides o (a ++ c) (b ++ d)
decides_first Less a b c d ne first = decides_less a b c d first
decides_first Equal a b c d ne first = absurd (ne refl)
decides_first Greater a b c d ne first = decides_greater a b c d first

heads : {A B : Type 0} (f : A → B) (x y : A) (xs ys : List A) (i : ℕ) → map f (take (suc i) (x ∷ xs)) ≡ map f (take (suc i) (y ∷ ys)) → f x ≡ f y
heads f x y xs ys i e = cc

tails : {A B : Type 0} (f : A → B) (x y : A) (xs ys : List A) (i : ℕ) → map f (take (suc i) (x ∷ xs)) ≡ map f (take (suc i) (y ∷ ys)) → map f (take i xs) ≡ map f (take i ys)
tails f x y xs ys i e = cc

-- the first items that differ decide
pub decides_at : {A : Type 0} (f : A → List ℕ) (xs ys : List A) (i : ℕ) (x y : A) (o : Ordering) → i < length xs → i < length ys → x ≡ get_or xs i x → y ≡ get_or ys i y
    → map f (take i xs) ≡ map f (take i ys) → Decides o (f x) (f y) → o ≢ Equal → Decides o (flat_map f xs) (flat_map f ys)
decides_at f [] ys i x y o lx ly ex ey same this unequal = absurd (omega (arith, lx))
decides_at f (z ∷ xs) [] i x y o lx ly ex ey same this unequal = absurd (omega (arith, ly))
decides_at f (z ∷ xs) (w ∷ ys) zero x y o lx ly ex ey same this unequal =
    decides_first o (f z) (f w) (flat_map f xs) (flat_map f ys) unequal (subst (λ u. Decides o (f u) (f w)) ex (subst (λ u. Decides o (f x) (f u)) ey this))
decides_at f (z ∷ xs) (w ∷ ys) (suc i) x y o lx ly ex ey same this unequal =
    let below : i < length xs = omega (arith, lx) in
    let under : i < length ys = omega (arith, ly) in
    let first : Decides Equal (f z) (f w) = subst (λ u. Decides Equal (f z) u) (heads f z w xs ys i same) (decides_same (f z)) in
    decides_both o (f z) (f w) (flat_map f xs) (flat_map f ys) first (decides_at f xs ys i x y o below under ex ey (tails f z w xs ys i same) this unequal)

flat_map-from_map : {A : Type 0} (f : A → List ℕ) (xs ys : List A) → map f xs ≡ map f ys → flat_map f xs ≡ flat_map f ys
flat_map-from_map f [] [] e = refl
flat_map-from_map f [] (y ∷ ys) e = cc
flat_map-from_map f (x ∷ xs) [] e = cc
flat_map-from_map f (x ∷ xs) (y ∷ ys) e =
    let first : f x ≡ f y = cc in
    let rest : map f xs ≡ map f ys = cc in
    ap (λ u. u ++ flat_map f xs) first ∙ ap (λ u. f y ++ u) (flat_map-from_map f xs ys rest)

-- lists of which no items differ
pub decides_all : {A : Type 0} (f : A → List ℕ) (xs ys : List A) → map f xs ≡ map f ys → Decides Equal (flat_map f xs) (flat_map f ys)
decides_all f xs ys e = subst (λ u. Decides Equal (flat_map f xs) u) (flat_map-from_map f xs ys e) (decides_same (flat_map f xs))

-- ---- lists of what is seen through a view

map-compose : {A B C : Type 0} (e : B → C) (g : A → B) (xs : List A) → map (λ x. e (g x)) xs ≡ map e (map g xs)
map-compose e g [] = refl
map-compose e g (x ∷ xs) = ap (λ ys. e (g x) ∷ ys) (map-compose e g xs)

same_codes : {A B : Type 0} (e : B → List ℕ) (g : A → B) (xs ys : List A) → map g xs ≡ map g ys → map (λ x. e (g x)) xs ≡ map (λ x. e (g x)) ys
same_codes e g xs ys same = map-compose e g xs ∙ ap (map e) same ∙ sym (map-compose e g ys)

pub less_unequal : Less ≢ Equal
less_unequal e = cc

pub greater_unequal : Greater ≢ Equal
greater_unequal e = cc

pub views_decide_at : {A B : Type 0} (e : B → List ℕ) (g : A → B) (xs ys : List A) (i : ℕ) (x y : A) (o : Ordering) → i < length xs → length xs ≡ length ys → x ≡ get_or xs i x → y ≡ get_or ys i y
    → map g (take i xs) ≡ map g (take i ys) → Decides o (e (g x)) (e (g y)) → o ≢ Equal → Decides o (flat_map (λ x. e (g x)) xs) (flat_map (λ x. e (g x)) ys)
views_decide_at e g xs ys i x y o lx long ex ey same this unequal =
    let ly : i < length ys = omega arith in
    decides_at (λ x. e (g x)) xs ys i x y o lx ly ex ey (same_codes e g (take i xs) (take i ys) same) this unequal

pub views_decide_all : {A B : Type 0} (e : B → List ℕ) (g : A → B) (xs ys : List A) → map g xs ≡ map g ys → Decides Equal (flat_map (λ x. e (g x)) xs) (flat_map (λ x. e (g x)) ys)
views_decide_all e g xs ys same = decides_all (λ x. e (g x)) xs ys (same_codes e g xs ys same)

-- all items of two lists of one length
pub taken_all : {A B : Type 0} (g : A → B) (xs ys : List A) (i : ℕ) → length xs ≤ i → length xs ≡ length ys → map g (take i xs) ≡ map g (take i ys) → map g xs ≡ map g ys
taken_all g xs ys i le long same = ap (map g) (sym (take_all i xs le)) ∙ same ∙ ap (map g) (take_all i ys (omega arith))
