-- Ranges that rise and stand apart stay so when one is put among them.
use Rattle.std.proofs.Common.{◌≡◌, ◌≤◌, Bool, true, false, cond, List, [], ◌∷◌, length, refl, ap, sym, ◌∙◌, subst, inl, inr, arith}
use Rattle.std.specs.Prelude.{◌⊎◌, ℤ, pos, ◌+ℤ◌, int_lt, nat_lt}
use Rattle.std.specs.Int.{int_min, int_max}
use Rattle.std.proofs.lemmas.Int.{clamps, ints}
use Rattle.std.proofs.lemmas.Bool.Decides.{nat_tests}
use Rattle.stan_model_types.specs.Types.{Part, Int}
use Rattle.stan_model_types.specs.NormalForms.{few_ranges, hull, last_greatest, put_ints, put_range, range_part}
use Rattle.stan_type_laws.specs.Members.{In}
use Rattle.stan_type_laws.specs.Settled.{IsApart}
use Rattle.stan_type_laws.proofs.Ranges.{put_range_is}

beyond : (g a b c : ℤ) → int_lt (g +ℤ pos 1) a ≡ true → int_lt b a ≡ false → int_lt (b +ℤ pos 1) c ≡ true → int_lt (g +ℤ pos 1) c ≡ true
beyond g a b c e f h = grind (arith, ints)

both_above : (b l x : ℤ) → int_lt b l ≡ true → int_lt b x ≡ true → int_lt b (int_min l x) ≡ true
both_above b l x e f = grind (arith, ints, clamps)

still_valid : (l g a b : ℤ) → int_lt g l ≡ false → int_lt b a ≡ false → int_lt (int_max g b) (int_min l a) ≡ false
still_valid l g a b e f = grind (arith, ints, clamps)

last_above : (b n a c : ℤ) → int_lt n b ≡ false → int_lt (n +ℤ pos 1) a ≡ true → int_lt c a ≡ false → int_lt c b ≡ false
last_above b n a c e f h = grind (arith, ints)

-- each is above a number
abbrev pub Above : ℤ → List (ℤ × ℤ) → Type 0
Above b rs = (r : ℤ × ℤ) → In r rs → int_lt b r.0 ≡ true

-- each has numbers, and is apart from those after it
abbrev pub RangesRise : List (ℤ × ℤ) → Type 0
RangesRise [] = Unit {0}
RangesRise (r ∷ rs) = (int_lt r.1 r.0 ≡ false) × (Above (r.1 +ℤ pos 1) rs × RangesRise rs)

above_at : (b l g : ℤ) (r : ℤ × ℤ) (rs : List (ℤ × ℤ)) (x y : Bool) → int_lt (r.1 +ℤ pos 1) l ≡ x → int_lt (g +ℤ pos 1) r.0 ≡ y → int_lt b l ≡ true → Above b (r ∷ rs)
    → Above b (put_range l g rs) → Above b (put_range (int_min l r.0) (int_max g r.1) rs) → Above b (put_range l g (r ∷ rs))
above_at b l g r rs true y e f low all apart one =
    subst (Above b) (sym (put_range_is l g r rs true y e f)) (λ q h. elim h [ inl s ↦ all q (inl s) | inr k ↦ apart q k ])
above_at b l g r rs false true e f low all apart one =
    subst (Above b) (sym (put_range_is l g r rs false true e f)) (λ q h. elim h [ inl s ↦ ap (λ n. int_lt b n.0) s ∙ low | inr k ↦ all q k ])
above_at b l g r rs false false e f low all apart one = subst (Above b) (sym (put_range_is l g r rs false false e f)) one

put_above : (b l g : ℤ) (rs : List (ℤ × ℤ)) → int_lt b l ≡ true → Above b rs → Above b (put_range l g rs)
put_above b l g [] low all = λ q h. elim h [ inl s ↦ ap (λ n. int_lt b n.0) s ∙ low | inr k ↦ absurd k ]
put_above b l g (r ∷ rs) low all =
    above_at b l g r rs (int_lt (r.1 +ℤ pos 1) l) (int_lt (g +ℤ pos 1) r.0) refl refl low all
    (put_above b l g rs low (λ q h. all q (inr h)))
    (put_above b (int_min l r.0) (int_max g r.1) rs (both_above b l r.0 low (all r (inl refl))) (λ q h. all q (inr h)))

rise_at : (l g : ℤ) (r : ℤ × ℤ) (rs : List (ℤ × ℤ)) (x y : Bool) → int_lt (r.1 +ℤ pos 1) l ≡ x → int_lt (g +ℤ pos 1) r.0 ≡ y → int_lt g l ≡ false → RangesRise (r ∷ rs)
    → RangesRise (put_range l g rs) → RangesRise (put_range (int_min l r.0) (int_max g r.1) rs) → RangesRise (put_range l g (r ∷ rs))
rise_at l g r rs true y e f valid all apart one =
    subst RangesRise (sym (put_range_is l g r rs true y e f)) (all.0, (put_above (r.1 +ℤ pos 1) l g rs e all.1.0, apart))
rise_at l g r rs false true e f valid all apart one =
    subst RangesRise (sym (put_range_is l g r rs false true e f))
    (valid, ((λ q h. elim h [ inl s ↦ ap (λ n. int_lt (g +ℤ pos 1) n.0) s ∙ f | inr k ↦ beyond g r.0 r.1 q.0 f all.0 (all.1.0 q k) ]), all))
rise_at l g r rs false false e f valid all apart one = subst RangesRise (sym (put_range_is l g r rs false false e f)) one

put_rise : (l g : ℤ) (rs : List (ℤ × ℤ)) → int_lt g l ≡ false → RangesRise rs → RangesRise (put_range l g rs)
put_rise l g [] valid all = (valid, ((λ q h. absurd h), tt))
put_rise l g (r ∷ rs) valid all =
    rise_at l g r rs (int_lt (r.1 +ℤ pos 1) l) (int_lt (g +ℤ pos 1) r.0) refl refl valid all
    (put_rise l g rs valid all.1.1)
    (put_rise (int_min l r.0) (int_max g r.1) rs (still_valid l g r.0 r.1 valid all.0) all.1.1)

-- int parts have numbers
abbrev pub AreValid : List Part → Type 0
AreValid ps = (l g : ℤ) → In (Int l g) ps → int_lt g l ≡ false

pub ints_rise : (ps : List Part) (rs : List (ℤ × ℤ)) → AreValid ps → RangesRise rs → RangesRise (put_ints ps rs)
ints_rise [] rs v all = all
ints_rise (Int l g ∷ ps) rs v all = ints_rise ps (put_range l g rs) (λ a b h. v a b (inr h)) (put_rise l g rs (v l g (inl refl)) all)
ints_rise (p ∷ ps) rs v all = ints_rise ps rs (λ a b h. v a b (inr h)) all

last_valid : (b n : ℤ) (rs : List (ℤ × ℤ)) → int_lt n b ≡ false → Above (n +ℤ pos 1) rs → RangesRise rs → int_lt (last_greatest n rs) b ≡ false
last_valid b n [] low above all = low
last_valid b n (r ∷ rs) low above all = last_valid b r.1 rs (last_above b n r.0 r.1 low (above r (inl refl)) all.0) all.1.0 all.1.1

hull_rise : (rs : List (ℤ × ℤ)) → RangesRise rs → RangesRise (hull rs)
hull_rise [] all = tt
hull_rise (r ∷ rs) all = (last_valid r.0 r.1 rs all.0 all.1.0 all.1.1, ((λ q h. absurd h), tt))

few_rise_at : (rs : List (ℤ × ℤ)) (b : Bool) → RangesRise rs → RangesRise (cond b (hull rs) rs)
few_rise_at rs true all = hull_rise rs all
few_rise_at rs false all = all

pub few_rise : (rs : List (ℤ × ℤ)) → RangesRise rs → RangesRise (few_ranges rs)
few_rise rs all = few_rise_at rs (nat_lt 32 (length rs)) all

hull_few : (rs : List (ℤ × ℤ)) → length (hull rs) ≤ 32
hull_few [] = omega arith
hull_few (r ∷ rs) = omega arith

few_few_at : (rs : List (ℤ × ℤ)) (b : Bool) → nat_lt 32 (length rs) ≡ b → length (cond b (hull rs) rs) ≤ 32
few_few_at rs true e = hull_few rs
few_few_at rs false e = grind (arith, nat_tests)

pub few_few : (rs : List (ℤ × ℤ)) → length (few_ranges rs) ≤ 32
few_few rs = few_few_at rs (nat_lt 32 (length rs)) refl

pub rise_valid : (r : ℤ × ℤ) (rs : List (ℤ × ℤ)) → RangesRise rs → In r rs → int_lt r.1 r.0 ≡ false
rise_valid r [] all h = absurd h
rise_valid r (q ∷ rs) all (inl e) = ap (λ n. int_lt n.1 n.0) e ∙ all.0
rise_valid r (q ∷ rs) all (inr h) = rise_valid r rs all.1.1 h

pub rise_apart : (r q : ℤ × ℤ) (rs : List (ℤ × ℤ)) → RangesRise rs → In r rs → In q rs → (r ≡ q) ⊎ IsApart (range_part r) (range_part q)
rise_apart r q [] all h k = absurd h
rise_apart r q (x ∷ rs) all (inl e) (inl f) = inl (e ∙ sym f)
rise_apart r q (x ∷ rs) all (inl e) (inr k) = inr (inl (ap (λ n. int_lt (n.1 +ℤ pos 1) q.0) e ∙ all.1.0 q k))
rise_apart r q (x ∷ rs) all (inr h) (inl f) = inr (inr (ap (λ n. int_lt (n.1 +ℤ pos 1) r.0) f ∙ all.1.0 r h))
rise_apart r q (x ∷ rs) all (inr h) (inr k) = rise_apart r q rs all.1.1 h k
