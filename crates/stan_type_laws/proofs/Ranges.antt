-- Ranges that stand apart: each is put among the others as it is.
use Rattle.std.proofs.Common.{◌≡◌, ◌+◌, ◌≤◌, Bool, true, false, cond, List, [], ◌∷◌, ◌++◌, length, map, refl, ap, sym, ◌∙◌, subst, inl, inr, arith, length-append}
use Rattle.std.specs.Prelude.{◌⊎◌, ℤ, pos, ◌+ℤ◌, int_lt, nat_lt}
use Rattle.std.specs.Int.{int_min, int_max}
use Rattle.std.specs.Cmp.{IsTotalOrder}
use Rattle.std.specs.Cmp.Lexicographic.{on_texts}
use Rattle.std.proofs.lemmas.Bool.Decides.{nat_tests}
use Rattle.stan_model_types.specs.Types.{Part, Int}
use Rattle.stan_model_types.specs.TypeBytes.{part_bytes, part_order}
use Rattle.stan_model_types.specs.NormalForms.{few_ranges, hull, int_parts, of_kinds, put_ints, put_range, range_part}
use Rattle.stan_type_laws.specs.Members.{In, Rises}
use Rattle.stan_type_laws.specs.Settled.{ArePairsApart, IsApart}
use Rattle.stan_type_laws.proofs.Sorting.{in_both, in_left, in_right, not_itself}

pub parts_total : IsTotalOrder part_order
parts_total = on_texts part_bytes

pub in_map : {A B : Type 0} (f : A → B) (x : A) (xs : List A) → In x xs → In (f x) (map f xs)
in_map f x [] h = absurd h
in_map f x (y ∷ ys) (inl e) = inl (ap f e)
in_map f x (y ∷ ys) (inr h) = inr (in_map f x ys h)

pub from_map : {A B : Type 0} (f : A → B) (z : B) (xs : List A) → In z (map f xs) → (x : A) × (In x xs × (z ≡ f x))
from_map f z [] h = absurd h
from_map f z (y ∷ ys) (inl e) = (y, (inl refl, e))
from_map f z (y ∷ ys) (inr h) = let more = from_map f z ys h in (more.0, (inr more.1.0, more.1.1))

pub put_range_is : (l g : ℤ) (r : ℤ × ℤ) (rs : List (ℤ × ℤ)) (a b : Bool) → int_lt (r.1 +ℤ pos 1) l ≡ a → int_lt (g +ℤ pos 1) r.0 ≡ b
    → put_range l g (r ∷ rs) ≡ cond a (r ∷ put_range l g rs) (cond b ((l, g) ∷ r ∷ rs) (put_range (int_min l r.0) (int_max g r.1) rs))
put_range_is l g r rs a b e f =
    ap (λ x. cond x (r ∷ put_range l g rs) (cond (int_lt (g +ℤ pos 1) r.0) ((l, g) ∷ r ∷ rs) (put_range (int_min l r.0) (int_max g r.1) rs))) e
    ∙ ap (λ y. cond a (r ∷ put_range l g rs) (cond y ((l, g) ∷ r ∷ rs) (put_range (int_min l r.0) (int_max g r.1) rs))) f

-- a range put between others
record Splits (l g : ℤ) (rs : List (ℤ × ℤ)) : Type 0 where
  pub above : List (ℤ × ℤ)
  pub below : List (ℤ × ℤ)
  pub was : rs ≡ above ++ below
  pub becomes : put_range l g rs ≡ above ++ (l, g) ∷ below

abbrev AreApart : ℤ → ℤ → List (ℤ × ℤ) → Type 0
AreApart l g rs = (r : ℤ × ℤ) → In r rs → IsApart (Int l g) (range_part r)

splits_at : (l g : ℤ) (r : ℤ × ℤ) (rs : List (ℤ × ℤ)) (a b : Bool) → int_lt (r.1 +ℤ pos 1) l ≡ a → int_lt (g +ℤ pos 1) r.0 ≡ b → IsApart (Int l g) (range_part r) → Splits l g rs → Splits l g (r ∷ rs)
splits_at l g r rs true b e f s more =
    record { above = r ∷ more.above; below = more.below; was = ap (λ zs. r ∷ zs) more.was; becomes = put_range_is l g r rs true b e f ∙ ap (λ zs. r ∷ zs) more.becomes }
splits_at l g r rs false true e f s more = record { above = []; below = r ∷ rs; was = refl; becomes = put_range_is l g r rs false true e f }
splits_at l g r rs false false e f (inl x) more = cc
splits_at l g r rs false false e f (inr x) more = cc

splits : (l g : ℤ) (rs : List (ℤ × ℤ)) → AreApart l g rs → Splits l g rs
splits l g [] h = record { above = []; below = []; was = refl; becomes = refl }
splits l g (r ∷ rs) h = splits_at l g r rs (int_lt (r.1 +ℤ pos 1) l) (int_lt (g +ℤ pos 1) r.0) refl refl (h r (inl refl)) (splits l g rs (λ q k. h q (inr k)))

module _ (l g : ℤ) (rs : List (ℤ × ℤ)) (s : Splits l g rs) where
  from_put_range : (r : ℤ × ℤ) → In r (put_range l g rs) → (r ≡ (l, g)) ⊎ In r rs
  from_put_range r h =
      elim (in_both r s.above ((l, g) ∷ s.below) (subst (In r) s.becomes h)) [
        | inl a ↦ inr (subst (In r) (sym s.was) (in_left r s.above s.below a))
        | inr b ↦ elim b [ inl e ↦ inl e | inr c ↦ inr (subst (In r) (sym s.was) (in_right r s.above s.below c)) ]
      ]

  put_range_has : In (l, g) (put_range l g rs)
  put_range_has = subst (In (l, g)) (sym s.becomes) (in_right (l, g) s.above ((l, g) ∷ s.below) (inl refl))

  put_range_keeps : (r : ℤ × ℤ) → In r rs → In r (put_range l g rs)
  put_range_keeps r h =
      subst (In r) (sym s.becomes)
      (elim (in_both r s.above s.below (subst (In r) s.was h)) [ inl a ↦ in_left r s.above ((l, g) ∷ s.below) a | inr b ↦ in_right r s.above ((l, g) ∷ s.below) (inr b) ])

  put_range_long : length (put_range l g rs) ≡ 1 + length rs
  put_range_long =
      omega (arith, ap length s.becomes, ap length s.was, length-append s.above s.below, length-append s.above ((l, g) ∷ s.below))

-- the ranges of parts, put among others
record Gathers (ps : List Part) (rs out : List (ℤ × ℤ)) : Type 0 where
  pub from : (r : ℤ × ℤ) → In r out → In (range_part r) ps ⊎ In r rs
  pub ints : (l g : ℤ) → In (Int l g) ps → In (l, g) out
  pub kept : (r : ℤ × ℤ) → In r rs → In r out
  pub long : length out ≤ length (of_kinds 9 9 ps) + length rs

abbrev AllApart : List Part → List (ℤ × ℤ) → Type 0
AllApart ps rs = (p : Part) (r : ℤ × ℤ) → In p ps → In r rs → IsApart p (range_part r)

next_apart : (l g : ℤ) (ps : List Part) (rs : List (ℤ × ℤ)) → Splits l g rs → Rises part_order (Int l g ∷ ps) → ArePairsApart (Int l g ∷ ps) → AllApart (Int l g ∷ ps) rs → AllApart ps (put_range l g rs)
next_apart l g ps rs s r pairs good q x h k =
    elim (from_put_range l g rs s x k) [
      | inl e ↦ subst (λ y. IsApart q (range_part y)) (sym e)
          (elim (pairs q (Int l g) (inr h) (inl refl)) [ inl same ↦ absurd (not_itself part_order parts_total (Int l g) (ap (part_order (Int l g)) (sym same) ∙ r.0 q h)) | inr a ↦ a ])
      | inr m ↦ good q x (inr h) m
    ]

same_in : (a b l g : ℤ) (out : List (ℤ × ℤ)) → Int a b ≡ Int l g → In (l, g) out → In (a, b) out
same_in a b l g out e h = let x : l ≡ a = cc in let y : g ≡ b = cc in subst (λ n. In (a, n) out) y (subst (λ n. In (n, g) out) x h)

one_more : (l g : ℤ) (ps : List Part) (rs out : List (ℤ × ℤ)) → Splits l g rs → Gathers ps (put_range l g rs) out → Gathers (Int l g ∷ ps) rs out
one_more l g ps rs out s more = record {
  from = λ r h. elim (more.from r h) [ inl a ↦ inl (inr a) | inr b ↦ elim (from_put_range l g rs s r b) [ inl e ↦ inl (inl (ap range_part e)) | inr c ↦ inr c ] ];
  ints = λ a b h. elim h [ inl e ↦ same_in a b l g out e (more.kept (l, g) (put_range_has l g rs s)) | inr k ↦ more.ints a b k ];
  kept = λ r h. more.kept r (put_range_keeps l g rs s r h);
  long = omega (arith, more.long, put_range_long l g rs s);
}

gathers : (ps : List Part) (rs : List (ℤ × ℤ)) → Rises part_order ps → ArePairsApart ps → AllApart ps rs → Gathers ps rs (put_ints ps rs)
gathers [] rs r pairs good = record { from = λ x h. inr h; ints = λ l g h. absurd h; kept = λ x h. h; long = omega arith }
gathers (Int l g ∷ ps) rs r pairs good =
    let s : Splits l g rs = splits l g rs (λ x h. good (Int l g) x (inl refl) h) in
    one_more l g ps rs (put_ints ps (put_range l g rs)) s (gathers ps (put_range l g rs) r.1 (λ p q h k. pairs p q (inr h) (inr k)) (next_apart l g ps rs s r pairs good))
gathers (p ∷ ps) rs r pairs good =
    let more : Gathers ps rs (put_ints ps rs) = gathers ps rs r.1 (λ p q h k. pairs p q (inr h) (inr k)) (λ p x h k. good p x (inr h) k) in
    record {
      from = λ x h. elim (more.from x h) [ inl a ↦ inl (inr a) | inr b ↦ inr b ];
      ints = λ l g h. elim h [ inl e ↦ cc | inr k ↦ more.ints l g k ];
      kept = more.kept;
      long = more.long;
    }

module _ (ps : List Part) (r : Rises part_order ps) (pairs : ArePairsApart ps) (few : length (of_kinds 9 9 ps) ≤ 32) where
  all_gathered : Gathers ps [] (put_ints ps [])
  all_gathered = gathers ps [] r pairs (λ p x h k. absurd k)

  few_enough : few_ranges (put_ints ps []) ≡ put_ints ps []
  few_enough = ap (λ b. cond b (hull (put_ints ps [])) (put_ints ps [])) below
    where
      below : nat_lt 32 (length (put_ints ps [])) ≡ false
      below = let long : length (put_ints ps []) ≤ 32 = omega (arith, few, all_gathered.long) in grind (arith, nat_tests)

  pub from_ints : (z : Part) → In z (int_parts ps) → In z ps
  from_ints z h =
      let found = from_map range_part z (put_ints ps []) (subst (λ rs. In z (map range_part rs)) few_enough h) in
      elim (all_gathered.from found.0 found.1.0) [ inl a ↦ subst (λ y. In y ps) (sym found.1.1) a | inr b ↦ absurd b ]

  pub to_ints : (l g : ℤ) → In (Int l g) ps → In (Int l g) (int_parts ps)
  to_ints l g h = subst (λ rs. In (Int l g) (map range_part rs)) (sym few_enough) (in_map range_part (l, g) (put_ints ps []) (all_gathered.ints l g h))
