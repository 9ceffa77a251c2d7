-- A normal form is explicit `mixed`, implicit `mixed`, or settled; so it is its own normal form.
use Rattle.std.proofs.Common.{◌≡◌, ℕ, zero, suc, Bool, true, false, cond, List, [], ◌∷◌, ◌++◌, length, refl, ap, sym, ◌∙◌, subst, inl, inr, arith, append-nil}
use Rattle.std.specs.Prelude.{◌||◌, ◌≤ℤ◌, ℤ, int_lt, nat_lt}
use Rattle.std.specs.List.{flat_map, list_any}
use Rattle.std.proofs.lemmas.Int.{ints}
use Rattle.stan_model_types.specs.Types.{PhpType, never, Part, Int, Str, NonEmpty, Plain, parts, of_parts}
use Rattle.stan_model_types.specs.TypeBytes.{number_bytes, part_order}
use Rattle.stan_model_types.specs.TypeFilters.{is_literal_string}
use Rattle.stan_model_types.specs.TypeLimits.{explicit_mixed, implicit_mixed, is_within}
use Rattle.stan_model_types.specs.NormalForms.{IsNormal, free_literals, is_free_literal, is_non_empty, is_of, is_plain, mended, normal, normal_within, ordered, settled, settled_parts, union}
use Rattle.stan_type_laws.specs.Members.{In}
use Rattle.stan_type_laws.specs.Settled.{HasNumbers, HaveNumbers, IsSettled, IsWhole}
use Rattle.stan_type_laws.proofs.Sorting.{from_filter, from_ordered, in_both, in_left, ordered_rises}
use Rattle.stan_type_laws.proofs.Ranges.{parts_total}
use Rattle.stan_type_laws.proofs.Settling.{normal_settles}
use Rattle.stan_type_laws.proofs.Wholes.{flat_whole, from_texts, whole_valid}
use Rattle.stan_type_laws.proofs.Normals.{any_at, few_free, in_pieces, made, made_apart, made_no_mixed, made_whole, non_empty_is, plain_is, some_any, still_free, text_piece}
use Rattle.stan_type_laws.proofs.Counts.{count_ordered, few_ints, few_literal_parts, one_array}

module _ (make : List Part → PhpType) (ps : List Part) (w : (p : Part) → In p ps → IsWhole p) (few : nat_lt 32 (length (free_literals ps)) ≡ false) where
  -- all strings, and all but `''`, stand in the form only where they stood before
  form_before : (z : Part) → (is_plain z || is_non_empty z) ≡ true → is_of 11 11 z ≡ true → is_literal_string z ≡ false → In z (made make ps w) → In z ps
  form_before z form text not_literal h =
      elim (from_texts ps z (text_piece make ps w z text (in_pieces make ps w z h))) [
        | inl e ↦ (let many : nat_lt 32 (length (free_literals ps)) ≡ true = e.1 in cc)
        | inr k ↦ elim k [ inl a ↦ (from_filter (is_free_literal (list_any is_plain ps) (list_any is_non_empty ps)) z ps a.0).0 | inr b ↦ b.0 ]
      ]

  plain_before : list_any is_plain (made make ps w) ≡ true → list_any is_plain ps ≡ true
  plain_before h =
      let found = some_any is_plain (made make ps w) h in
      let same : found.0 ≡ Str Plain = plain_is found.0 found.1.1 in
      any_at is_plain (Str Plain) ps (form_before (Str Plain) refl refl refl (subst (λ z. In z (made make ps w)) same found.1.0)) refl

  non_empty_before : list_any is_non_empty (made make ps w) ≡ true → list_any is_non_empty ps ≡ true
  non_empty_before h =
      let found = some_any is_non_empty (made make ps w) h in
      let same : found.0 ≡ Str NonEmpty = non_empty_is found.0 found.1.1 in
      any_at is_non_empty (Str NonEmpty) ps (form_before (Str NonEmpty) refl refl refl (subst (λ z. In z (made make ps w)) same found.1.0)) refl

made_free : (make : List Part → PhpType) (ps : List Part) (w : (p : Part) → In p ps → IsWhole p) (z : Part) → In z (made make ps w) → is_literal_string z ≡ true
    → is_free_literal (list_any is_plain (made make ps w)) (list_any is_non_empty (made make ps w)) z ≡ true
made_free make ps w z h e =
    let found = few_free make ps w z e h in
    still_free (list_any is_plain ps) (list_any is_non_empty ps) (list_any is_plain (made make ps w)) (list_any is_non_empty (made make ps w)) z
    (plain_before make ps w found.1) (non_empty_before make ps w found.1) found.0

made_settled : (make : List Part → PhpType) (ps : List Part) (w : (p : Part) → In p ps → IsWhole p) → is_within (of_parts (made make ps w)) ≡ true → IsSettled (made make ps w)
made_settled make ps w within = record {
  rises = ordered_rises part_order parts_total (settled_parts make ps);
  no_mixed = made_no_mixed make ps w;
  whole = made_whole make ps w;
  one_array = omega (arith, count_ordered (is_of 6 7) part_order (settled_parts make ps), one_array make ps w);
  apart = made_apart make ps w;
  few_ints = omega (arith, count_ordered (is_of 9 9) part_order (settled_parts make ps), few_ints make ps w);
  free = made_free make ps w;
  few_literals = omega (arith, count_ordered is_literal_string part_order (settled_parts make ps), few_literal_parts make ps w);
  within = within;
}

-- ---- the three forms

pub data NormalOf (t : PhpType) : Type 0 where
  explicit : t ≡ explicit_mixed → NormalOf t
  implicit : t ≡ implicit_mixed → NormalOf t
  parted : (ps : List Part) → t ≡ of_parts ps → IsSettled ps → NormalOf t

form_at : (ps : List Part) (a b c : Bool) → (c ≡ true → IsSettled ps) → NormalOf (cond a explicit_mixed (cond b implicit_mixed (cond c (of_parts ps) explicit_mixed)))
form_at ps true b c s = explicit refl
form_at ps false true c s = implicit refl
form_at ps false false true s = parted ps refl (s refl)
form_at ps false false false s = explicit refl

settled_form : (make : List Part → PhpType) (ps : List Part) (w : (p : Part) → In p ps → IsWhole p) → NormalOf (settled make ps)
settled_form make ps w =
    form_at (made make ps w) (list_any (is_of 18 18) ps) (list_any (is_of 17 17) ps) (is_within (of_parts (made make ps w))) (made_settled make ps w)

pub form_within : (n : ℕ) (ps : List Part) → NormalOf (normal_within n ps)
unfolding normal_within
form_within zero ps = explicit refl
form_within (suc n) ps =
    settled_form (normal_within n) (ordered part_order (flat_map (mended (normal_within n)) ps))
    (λ p h. flat_whole (normal_within n) ps p (from_ordered part_order p (flat_map (mended (normal_within n)) ps) h))

pub form_of : (t : PhpType) → IsNormal t → NormalOf t
form_of t h = subst NormalOf h.1.1 (form_within h.0 h.1.0)

pub parts_again : (ps : List Part) → parts (of_parts ps) ≡ ps
parts_again [] = refl
parts_again (p ∷ ps) = ap (λ qs. p ∷ qs) (parts_again ps)

-- ---- laws

explicit_again : normal (parts explicit_mixed) ≡ explicit_mixed
unfolding normal normal_within number_bytes
explicit_again = refl

implicit_again : normal (parts implicit_mixed) ≡ implicit_mixed
unfolding normal normal_within number_bytes
implicit_again = refl

explicit_twice : union explicit_mixed explicit_mixed ≡ explicit_mixed
unfolding normal normal_within number_bytes
explicit_twice = refl

implicit_twice : union implicit_mixed implicit_mixed ≡ implicit_mixed
unfolding normal normal_within number_bytes
implicit_twice = refl

pub settled_alike : (ps qs : List Part) → IsSettled ps → ((z : Part) → In z qs → In z ps) → ((z : Part) → In z ps → In z qs) → normal qs ≡ of_parts ps
unfolding normal
settled_alike ps qs s to back = normal_settles 65 ps qs s to back

again_at : (t : PhpType) → NormalOf t → normal (parts t) ≡ t
again_at t (explicit e) = subst (λ u. normal (parts u) ≡ u) (sym e) explicit_again
again_at t (implicit e) = subst (λ u. normal (parts u) ≡ u) (sym e) implicit_again
again_at t (parted ps e s) =
    subst (λ u. normal (parts u) ≡ u) (sym e) (ap normal (parts_again ps) ∙ settled_alike ps ps s (λ z h. h) (λ z h. h))

pub again : (t : PhpType) → IsNormal t → normal (parts t) ≡ t
again t h = again_at t (form_of t h)

twice_at : (t : PhpType) → NormalOf t → union t t ≡ t
twice_at t (explicit e) = subst (λ u. union u u ≡ u) (sym e) explicit_twice
twice_at t (implicit e) = subst (λ u. union u u ≡ u) (sym e) implicit_twice
twice_at t (parted ps e s) =
    subst (λ u. union u u ≡ u) (sym e)
    (ap (λ (qs : List Part). normal (qs ++ qs)) (parts_again ps)
    ∙ settled_alike ps (ps ++ ps) s (λ z h. elim (in_both z ps ps h) [ inl a ↦ a | inr b ↦ b ]) (λ z h. in_left z ps ps h))

pub twice : (t : PhpType) → IsNormal t → union t t ≡ t
twice t h = twice_at t (form_of t h)

pub with_never : (t : PhpType) → IsNormal t → union t never ≡ t
with_never t h = ap normal (append-nil (parts t)) ∙ again t h

-- ---- each int part has numbers

numbers_at : (ps : List Part) → ((p : Part) → In p ps → HasNumbers p) → HaveNumbers ps
numbers_at [] h = tt
numbers_at (p ∷ ps) h = (h p (inl refl), numbers_at ps (λ q k. h q (inr k)))

not_below : (l g : ℤ) → int_lt g l ≡ false → l ≤ℤ g
not_below l g e = grind (arith, ints)

whole_numbers : (p : Part) → IsWhole p → HasNumbers p
whole_numbers (Int l g) w = not_below l g (whole_valid (λ qs. of_parts qs) l g w)
whole_numbers p w = tt

have_at : (t : PhpType) → NormalOf t → HaveNumbers (parts t)
have_at t (explicit e) = subst (λ u. HaveNumbers (parts u)) (sym e) (tt, tt)
have_at t (implicit e) = subst (λ u. HaveNumbers (parts u)) (sym e) (tt, tt)
have_at t (parted ps e s) =
    subst (λ u. HaveNumbers (parts u)) (sym e) (subst HaveNumbers (sym (parts_again ps)) (numbers_at ps (λ p h. whole_numbers p (s.whole p h))))

pub have_numbers : (t : PhpType) → IsNormal t → HaveNumbers (parts t)
have_numbers t h = have_at t (form_of t h)
