-- Lists filtered one item at a time.
use Rattle.std.proofs.Common.{◌≡◌, ℕ, Bool, true, false, List, [], ◌∷◌, ◌++◌, ◌+◌, ◌<◌, ◌≤◌, cond, map, length, get_or, take, refl, ap, sym, ◌∙◌, append-nil, arith}
use Rattle.std.specs.Prelude.{◌||◌, ℤ, nat_lt, count_by, filter, sum_by}
use Rattle.std.specs.List.{list_any}
use Rattle.std.specs.declared.cmp.Ordering.{Ordering}
use Rattle.std.proofs.lemmas.Bool.Decides.{nat_tests}
use Rattle.std.proofs.lemmas.List.Sums.{length-filter, sum_by-cons}
use Rattle.std.proofs.lemmas.List.Elements.{filter-append}
use Rattle.stan_model_types.specs.NormalForms.{few_literals, free_literals, is_free_literal, is_non_empty, is_plain, put, put_all, put_int, put_ints}
use Rattle.stan_model_types.specs.Types as model
use Rattle.stan_type_parts.specs.declared.part.Part.{Part}
use Rattle.stan_type_parts.specs.Parts.{part_of}
use Rattle.stan_type_parts.proofs.Steps.{map_more}
use Rattle.stan_type_normal.proofs.Placing.{put_all-push}

filter_one-true : {B : Type 0} (f : B → Bool) (y : B) → f y ≡ true → filter f (y ∷ []) ≡ y ∷ []
filter_one-true f y e = ap (λ b. cond b (y ∷ []) []) e

filter_one-false : {B : Type 0} (f : B → Bool) (y : B) → f y ≡ false → filter f (y ∷ []) ≡ []
filter_one-false f y e = ap (λ b. cond b (y ∷ []) []) e

filter_more-true : {A B : Type 0} (f : B → Bool) (g : A → B) (xs : List A) (i : ℕ) (x : A) → i < length xs → x ≡ get_or xs i x → f (g x) ≡ true → filter f (map g (take (i + 1) xs)) ≡ filter f (map g (take i xs)) ++ g x ∷ []
filter_more-true f g xs i x lt e t = ap (filter f) (map_more g xs i x lt e) ∙ filter-append f (map g (take i xs)) (g x ∷ []) ∙ ap (λ ys. filter f (map g (take i xs)) ++ ys) (filter_one-true f (g x) t)

filter_more-false : {A B : Type 0} (f : B → Bool) (g : A → B) (xs : List A) (i : ℕ) (x : A) → i < length xs → x ≡ get_or xs i x → f (g x) ≡ false → filter f (map g (take (i + 1) xs)) ≡ filter f (map g (take i xs))
filter_more-false f g xs i x lt e t = ap (filter f) (map_more g xs i x lt e) ∙ filter-append f (map g (take i xs)) (g x ∷ []) ∙ ap (λ ys. filter f (map g (take i xs)) ++ ys) (filter_one-false f (g x) t) ∙ append-nil (filter f (map g (take i xs)))

-- one more item that is put, and one that is passed over
put_more-true : {A B : Type 0} (order : B → B → Ordering) (f : B → Bool) (g : A → B) (xs : List A) (i : ℕ) (x : A) (old now : List B) → i < length xs → x ≡ get_or xs i x → f (g x) ≡ true
    → now ≡ put_all order (filter f (map g (take i xs))) old → put order (g x) now ≡ put_all order (filter f (map g (take (i + 1) xs))) old
put_more-true order f g xs i x old now lt e t so =
    ap (put order (g x)) so ∙ sym (put_all-push order (filter f (map g (take i xs))) (g x) old) ∙ ap (λ ys. put_all order ys old) (sym (filter_more-true f g xs i x lt e t))

put_more-false : {A B : Type 0} (order : B → B → Ordering) (f : B → Bool) (g : A → B) (xs : List A) (i : ℕ) (x : A) (old now : List B) → i < length xs → x ≡ get_or xs i x → f (g x) ≡ false
    → now ≡ put_all order (filter f (map g (take i xs))) old → now ≡ put_all order (filter f (map g (take (i + 1) xs))) old
put_more-false order f g xs i x old now lt e t so = so ∙ ap (λ ys. put_all order ys old) (sym (filter_more-false f g xs i x lt e t))

-- all items put
pub put_more : {A B : Type 0} (order : B → B → Ordering) (g : A → B) (xs : List A) (i : ℕ) (x : A) (old now : List B) → i < length xs → x ≡ get_or xs i x
    → now ≡ put_all order (map g (take i xs)) old → put order (g x) now ≡ put_all order (map g (take (i + 1) xs)) old
put_more order g xs i x old now lt e so =
    ap (put order (g x)) so ∙ sym (put_all-push order (map g (take i xs)) (g x) old) ∙ ap (λ ys. put_all order ys old) (sym (map_more g xs i x lt e))

pub list_any-map : {A B : Type 0} (f : B → Bool) (g : A → B) (xs : List A) → list_any f (map g xs) ≡ list_any (λ x. f (g x)) xs
list_any-map f g [] = refl
list_any-map f g (x ∷ xs) = ap (λ b. f (g x) || b) (list_any-map f g xs)

counted-map : {A B : Type 0} (h : B → ℕ) (g : A → B) (xs : List A) → sum_by h (map g xs) ≡ sum_by (λ x. h (g x)) xs
counted-map h g [] = refl
counted-map h g (x ∷ xs) = sum_by-cons h (g x) (map g xs) ∙ ap (λ n. h (g x) + n) (counted-map h g xs) ∙ sym (sum_by-cons (λ y. h (g y)) x xs)

pub length-filter-map : {A B : Type 0} (f : B → Bool) (g : A → B) (xs : List A) → length (filter f (map g xs)) ≡ count_by (λ x. f (g x)) xs
length-filter-map f g xs = length-filter f (map g xs) ∙ counted-map (λ y. cond (f y) 1 0) g xs

-- an item that is put where a test passes
put_tested : {A B : Type 0} (order : B → B → Ordering) (f : B → Bool) (g : A → B) (xs : List A) (i : ℕ) (x : A) (old now : List B) (b : Bool) → i < length xs → x ≡ get_or xs i x → f (g x) ≡ b
    → now ≡ put_all order (filter f (map g (take i xs))) old → cond b (put order (g x) now) now ≡ put_all order (filter f (map g (take (i + 1) xs))) old
put_tested order f g xs i x old now true lt e t so = put_more-true order f g xs i x old now lt e t so
put_tested order f g xs i x old now false lt e t so = put_more-false order f g xs i x old now lt e t so

pub put_more_tested : {A B : Type 0} (order : B → B → Ordering) (f : B → Bool) (g : A → B) (xs : List A) (i : ℕ) (x : A) (old now new : List B) (b : Bool) → i < length xs → x ≡ get_or xs i x → b ≡ f (g x)
    → now ≡ put_all order (filter f (map g (take i xs))) old → new ≡ cond b (put order (g x) now) now → new ≡ put_all order (filter f (map g (take (i + 1) xs))) old
put_more_tested order f g xs i x old now new b lt e t so step = step ∙ put_tested order f g xs i x old now b lt e (sym t) so

pub put_ints-push : (ps : List model.Part) (p : model.Part) (rs : List (ℤ × ℤ)) → put_ints (ps ++ p ∷ []) rs ≡ put_int p (put_ints ps rs)
put_ints-push [] p rs = refl
put_ints-push (q ∷ ps) p rs = put_ints-push ps p (put_int q rs)

pub put_ints-more : (ps : List Part) (i : ℕ) (p : Part) (rs : List (ℤ × ℤ)) → i < length ps → p ≡ get_or ps i p → put_ints (map part_of (take (i + 1) ps)) rs ≡ put_int (part_of p) (put_ints (map part_of (take i ps)) rs)
put_ints-more ps i p rs lt e = ap (λ qs. put_ints qs rs) (map_more part_of ps i p lt e) ∙ put_ints-push (map part_of (take i ps)) (part_of p) rs

-- ---- literals

same_free : (plain non_empty : Bool) (ps : List Part) → plain ≡ list_any (λ p. is_plain (part_of p)) ps → non_empty ≡ list_any (λ p. is_non_empty (part_of p)) ps
    → free_literals (map part_of ps) ≡ filter (is_free_literal plain non_empty) (map part_of ps)
same_free plain non_empty ps e f =
    ap (λ b. filter (is_free_literal b (list_any is_non_empty (map part_of ps))) (map part_of ps)) (list_any-map is_plain part_of ps ∙ sym e)
    ∙ ap (λ b. filter (is_free_literal plain b) (map part_of ps)) (list_any-map is_non_empty part_of ps ∙ sym f)

nat_lt_true : {m n : ℕ} → m < n → nat_lt m n ≡ true
nat_lt_true {m = m} {n = n} h = grind (arith, nat_tests)

nat_lt_false : {m n : ℕ} → n ≤ m → nat_lt m n ≡ false
nat_lt_false {m = m} {n = n} h = grind (arith, nat_tests)

many : (ls : List model.Part) → 32 < length ls → few_literals ls ≡ model.Str model.Plain ∷ []
many ls lt = ap (λ b. cond b (model.Str model.Plain ∷ []) ls) (nat_lt_true lt)

few : (ls : List model.Part) → length ls ≤ 32 → few_literals ls ≡ ls
few ls le = ap (λ b. cond b (model.Str model.Plain ∷ []) ls) (nat_lt_false le)

pub literals_many : (plain non_empty : Bool) (ps : List Part) (n : ℕ) → plain ≡ list_any (λ p. is_plain (part_of p)) ps → non_empty ≡ list_any (λ p. is_non_empty (part_of p)) ps
    → n ≡ count_by (λ p. is_free_literal plain non_empty (part_of p)) ps → 32 < n → few_literals (free_literals (map part_of ps)) ≡ model.Str model.Plain ∷ []
literals_many plain non_empty ps n e f c lt =
    ap few_literals (same_free plain non_empty ps e f) ∙ many (filter (is_free_literal plain non_empty) (map part_of ps)) (omega (arith, c, length-filter-map (is_free_literal plain non_empty) part_of ps))

pub literals_few : (plain non_empty : Bool) (ps : List Part) (n : ℕ) → plain ≡ list_any (λ p. is_plain (part_of p)) ps → non_empty ≡ list_any (λ p. is_non_empty (part_of p)) ps
    → n ≡ count_by (λ p. is_free_literal plain non_empty (part_of p)) ps → n ≤ 32 → few_literals (free_literals (map part_of ps)) ≡ filter (is_free_literal plain non_empty) (map part_of ps)
literals_few plain non_empty ps n e f c le =
    ap few_literals (same_free plain non_empty ps e f) ∙ few (filter (is_free_literal plain non_empty) (map part_of ps)) (omega (arith, c, length-filter-map (is_free_literal plain non_empty) part_of ps))
