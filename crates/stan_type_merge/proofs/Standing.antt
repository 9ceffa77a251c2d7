-- Parts of which none touches another are settled, so the merged parts of two types are their union.
use Rattle.std.proofs.Common.{◌≡◌, ℕ, ◌≤◌, Bool, true, false, List, [], ◌∷◌, ◌++◌, length, refl, ap, sym, ◌∙◌, subst, inl, inr, arith}
use Rattle.std.specs.Prelude.{◌⊎◌, ◌&&◌, ℤ, count_by, nat_le}
use Rattle.std.specs.List.{list_any}
use Rattle.std.proofs.lemmas.Bool.Decides.{nat_tests}
use Rattle.std.proofs.lemmas.List.Sums.{length-filter}
use Rattle.stan_model_types.specs.Types.{PhpType, Part, Int, Str, Literal, NonEmpty, Plain, parts, of_parts}
use Rattle.stan_model_types.specs.TypeBytes.{part_order}
use Rattle.stan_model_types.specs.TypeFilters.{is_literal_string}
use Rattle.stan_model_types.specs.TypeLimits.{is_within}
use Rattle.stan_model_types.specs.NormalForms.{IsNormal, is_free_literal, is_non_empty, is_of, is_plain, normal, of_kinds, union}
use Rattle.stan_type_laws.specs.Members.{In, Rises}
use Rattle.stan_type_laws.specs.Settled.{IsApart, IsSettled, IsWhole}
use Rattle.stan_type_laws.proofs.Sorting.{in_both, in_filter, in_left, in_right}
use Rattle.stan_type_laws.proofs.Settling.{shorter}
use Rattle.stan_type_laws.proofs.Normals.{non_empty_is, plain_is, some_any}
use Rattle.stan_type_laws.proofs.Again.{NormalOf, explicit, form_of, implicit, parted, parts_again, settled_alike}
use Rattle.stan_type_laws.proofs.Commuting.{wholes_of}
use Rattle.stan_type_merge.specs.Merge.{AreTied, merge, stand_alone}
use Rattle.stan_type_merge.proofs.Merging.{merges}

one_only : {X : Type 0} (x y : X) (xs : List X) → length xs ≤ 1 → In x xs → In y xs → x ≡ y
one_only x y [] le h k = absurd h
one_only x y (z ∷ []) le (inl e) (inl f) = e ∙ sym f
one_only x y (z ∷ []) le (inl e) (inr k) = absurd k
one_only x y (z ∷ []) le (inr h) k = absurd h
one_only x y (z ∷ w ∷ xs) le h k = absurd (omega (arith, le))

none_at : (k : Part → Bool) (z : Part) (b : Bool) → k z ≡ b → (b ≡ true → ⊥) → k z ≡ false
none_at k z true e h = absurd (h refl)
none_at k z false e h = e

empty_has : {X : Type 0} (x : X) (xs : List X) → length xs ≤ 0 → In x xs → ⊥
empty_has x [] le h = h
empty_has x (y ∷ ys) le h = omega (arith, le)

pub record Alone (ps : List Part) : Type 0 where
  pub arrays : length (of_kinds 6 7 ps) ≤ 1
  pub ints : length (of_kinds 9 9 ps) ≤ 1
  pub strings : length (of_kinds 11 11 ps) ≤ 1
  pub no_mixed : length (of_kinds 17 18 ps) ≤ 0

four : (a b c d : ℕ) → ((nat_le a 1 && nat_le b 1) && (nat_le c 1 && nat_le d 0)) ≡ true → (a ≤ 1) × ((b ≤ 1) × ((c ≤ 1) × (d ≤ 0)))
four a b c d e = (grind (arith, nat_tests), (grind (arith, nat_tests), (grind (arith, nat_tests), grind (arith, nat_tests))))

alone_of : (ps : List Part) → stand_alone ps ≡ true → Alone ps
alone_of ps e =
    let f = four (count_by (is_of 6 7) ps) (count_by (is_of 9 9) ps) (count_by (is_of 11 11) ps) (count_by (is_of 17 18) ps) e in
    record {
      arrays = omega (arith, f.0, length-filter (is_of 6 7) ps);
      ints = omega (arith, f.1.0, length-filter (is_of 9 9) ps);
      strings = omega (arith, f.1.1.0, length-filter (is_of 11 11) ps);
      no_mixed = omega (arith, f.1.1.1, length-filter (is_of 17 18) ps);
    }

literal_text : (z : Part) → is_literal_string z ≡ true → is_of 11 11 z ≡ true
literal_text (Str form) e = refl
literal_text z e = e

free_alone : (z : Part) → is_literal_string z ≡ true → is_free_literal false false z ≡ true
free_alone (Str (Literal [])) e = refl
free_alone (Str (Literal (b ∷ bs))) e = refl
free_alone (Str NonEmpty) e = e
free_alone (Str Plain) e = e
free_alone z e = e

not_both : (z : Part) (form : Part) → is_literal_string z ≡ true → is_literal_string form ≡ false → z ≡ form → ⊥
not_both z form e f s = let wrong : is_literal_string z ≡ false = ap is_literal_string s ∙ f in cc

module _ (ps : List Part) (r : Rises part_order ps) (w : (p : Part) → In p ps → IsWhole p) (a : Alone ps) (within : is_within (of_parts ps) ≡ true) where
  mixed_not : (p : Part) → In p ps → is_of 17 18 p ≡ false
  mixed_not p h = none_at (is_of 17 18) p (is_of 17 18 p) refl (λ e. empty_has p (of_kinds 17 18 ps) a.no_mixed (in_filter (is_of 17 18) p ps h e))

  ints_one : (b c d e : ℤ) → In (Int b c) ps → In (Int d e) ps → Int b c ≡ Int d e
  ints_one b c d e h k = one_only (Int b c) (Int d e) (of_kinds 9 9 ps) a.ints (in_filter (is_of 9 9) (Int b c) ps h refl) (in_filter (is_of 9 9) (Int d e) ps k refl)

  stand_apart : (p q : Part) → In p ps → In q ps → (p ≡ q) ⊎ IsApart p q
  stand_apart (Int b c) (Int d e) h k = inl (ints_one b c d e h k)
  stand_apart (Int b c) q h k = inr tt
  stand_apart p q h k = inr tt

  same_text : (z : Part) (form : Part) → In z ps → In form ps → is_literal_string z ≡ true → is_of 11 11 form ≡ true → z ≡ form
  same_text z form h k e t = one_only z form (of_kinds 11 11 ps) a.strings (in_filter (is_of 11 11) z ps h (literal_text z e)) (in_filter (is_of 11 11) form ps k t)

  no_plain : (z : Part) → In z ps → is_literal_string z ≡ true → list_any is_plain ps ≡ true → ⊥
  no_plain z h e any =
      let found = some_any is_plain ps any in
      let there : In (Str Plain) ps = subst (λ x. In x ps) (plain_is found.0 found.1.1) found.1.0 in
      not_both z (Str Plain) e refl (same_text z (Str Plain) h there e refl)

  no_non_empty : (z : Part) → In z ps → is_literal_string z ≡ true → list_any is_non_empty ps ≡ true → ⊥
  no_non_empty z h e any =
      let found = some_any is_non_empty ps any in
      let there : In (Str NonEmpty) ps = subst (λ x. In x ps) (non_empty_is found.0 found.1.1) found.1.0 in
      not_both z (Str NonEmpty) e refl (same_text z (Str NonEmpty) h there e refl)

  free_at : (z : Part) (b c : Bool) → (b ≡ true → ⊥) → (c ≡ true → ⊥) → is_literal_string z ≡ true → is_free_literal b c z ≡ true
  free_at z true c h k e = absurd (h refl)
  free_at z false true h k e = absurd (k refl)
  free_at z false false h k e = free_alone z e

  pub alone_settled : IsSettled ps
  alone_settled = record {
    rises = r;
    no_mixed = mixed_not;
    whole = w;
    one_array = a.arrays;
    apart = stand_apart;
    few_ints = omega (arith, a.ints);
    free = λ z h e. free_at z (list_any is_plain ps) (list_any is_non_empty ps) (no_plain z h e) (no_non_empty z h e) e;
    few_literals = omega (arith, shorter is_literal_string (is_of 11 11) ps literal_text, a.strings);
    within = within;
  }

rises_at : (t : PhpType) → NormalOf t → Rises part_order (parts t)
rises_at t (explicit e) = subst (λ u. Rises part_order (parts u)) (sym e) ((λ y h. absurd h), tt)
rises_at t (implicit e) = subst (λ u. Rises part_order (parts u)) (sym e) ((λ y h. absurd h), tt)
rises_at t (parted ps e s) = subst (λ u. Rises part_order (parts u)) (sym e) (subst (Rises part_order) (sym (parts_again ps)) s.rises)

pub union_merged : (t u : PhpType) → IsNormal t → IsNormal u → AreTied (parts t) (parts u) → stand_alone (merge (parts t) (parts u)) ≡ true → is_within (of_parts (merge (parts t) (parts u))) ≡ true
    → union t u ≡ of_parts (merge (parts t) (parts u))
union_merged t u h k tied alone within =
    let m = merges (parts t) (parts u) (rises_at t (form_of t h)) (rises_at u (form_of u k)) tied in
    settled_alike (merge (parts t) (parts u)) (parts t ++ parts u)
    (alone_settled (merge (parts t) (parts u)) m.rises (λ p i. elim (m.from p i) [ inl a ↦ wholes_of t h p a | inr b ↦ wholes_of u k p b ]) (alone_of (merge (parts t) (parts u)) alone) within)
    (λ z i. elim (in_both z (parts t) (parts u) i) [ inl a ↦ m.first z a | inr b ↦ m.second z b ])
    (λ z i. elim (m.from z i) [ inl a ↦ in_left z (parts t) (parts u) a | inr b ↦ in_right z (parts t) (parts u) b ])

-- what a walk over both types has made, where it stands alone and keeps the limits
pub union_made : (t u : PhpType) (ps qs made : List Part) → ps ≡ parts t → qs ≡ parts u → IsNormal t → IsNormal u → made ≡ merge ps qs → AreTied ps qs → stand_alone made ≡ true → is_within (of_parts made) ≡ true → union t u ≡ of_parts made
union_made t u ps qs made e f h k all tied alone within =
    let both : made ≡ merge (parts t) (parts u) = all ∙ ap (λ xs. merge xs qs) e ∙ ap (merge (parts t)) f in
    union_merged t u h k (subst (λ ys. AreTied (parts t) ys) f (subst (λ xs. AreTied xs qs) e tied)) (ap stand_alone (sym both) ∙ alone) (ap (λ xs. is_within (of_parts xs)) (sym both) ∙ within) ∙ ap of_parts (sym both)

pub is_united : (t u : PhpType) (ps qs made : List Part) → ps ≡ parts t → qs ≡ parts u → IsNormal t → IsNormal u → made ≡ merge ps qs → AreTied ps qs → stand_alone made ≡ true → is_within (of_parts made) ≡ true → IsNormal (of_parts made)
unfolding normal
is_united t u ps qs made e f h k all tied alone within = (66, (parts t ++ parts u, union_made t u ps qs made e f h k all tied alone within))
