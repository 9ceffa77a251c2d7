-- Settled parts are their own normal form.
use Rattle.std.proofs.Common.{◌≡◌, ℕ, suc, ◌≤◌, Bool, true, false, cond, List, [], ◌∷◌, ◌++◌, length, refl, ap, sym, ◌∙◌, subst, inl, inr, arith}
use Rattle.std.specs.Prelude.{◌||◌, filter, nat_lt}
use Rattle.std.specs.List.{flat_map, list_any}
use Rattle.std.proofs.lemmas.Bool.Decides.{nat_tests}
use Rattle.stan_model_types.specs.Types.{PhpType, Part, Object, Static, Meeting, AnyObject, Template, Array, Shape, Callable, Int, Float, Str, ClassString, ClassStringOf, False, True, Null, Void, ImplicitMixed, ExplicitMixed, Literal, NonEmpty, Plain, of_parts}
use Rattle.stan_model_types.specs.TypeBytes.{part_order}
use Rattle.stan_model_types.specs.TypeFilters.{is_literal_string}
use Rattle.stan_model_types.specs.TypeLimits.{explicit_mixed, implicit_mixed, limited}
use Rattle.stan_model_types.specs.NormalForms.{array_parts, few_literals, free_literals, int_parts, is_free_literal, is_non_empty, is_of, is_plain, joined_tables, mended, normal_within, of_kinds, ordered, settled, settled_parts, string_parts, table_parts, tables_of}
use Rattle.std.specs.Prelude.{None}
use Rattle.stan_type_laws.specs.Members.{In}
use Rattle.stan_type_laws.specs.Settled.{IsSettled, IsWhole}
use Rattle.stan_type_laws.proofs.Sorting.{from_filter, in_both, in_filter, in_left, in_right, ordered_same}
use Rattle.stan_type_laws.proofs.Ranges.{from_ints, parts_total, to_ints}

pub all_whole : (make : List Part → PhpType) (ps : List Part) → ((p : Part) → In p ps → IsWhole p) → flat_map (mended make) ps ≡ ps
all_whole make [] h = refl
all_whole make (p ∷ ps) h = ap (λ qs. qs ++ flat_map (mended make) ps) (h p (inl refl) make) ∙ ap (λ qs. p ∷ qs) (all_whole make ps (λ q k. h q (inr k)))

none_any : {X : Type 0} (f : X → Bool) (xs : List X) → ((x : X) → In x xs → f x ≡ false) → list_any f xs ≡ false
none_any f [] h = refl
none_any f (x ∷ xs) h = ap (λ b. b || list_any f xs) (h x (inl refl)) ∙ none_any f xs (λ y k. h y (inr k))

-- fewer pass a test that implies another
shorter_at : {X : Type 0} (f g : X → Bool) (x : X) (xs : List X) (a b : Bool) → f x ≡ a → g x ≡ b → (f x ≡ true → g x ≡ true) → length (filter f xs) ≤ length (filter g xs) → length (filter f (x ∷ xs)) ≤ length (filter g (x ∷ xs))
shorter_at f g x xs true true e k h more = rw (e, k) (omega (arith, more))
shorter_at f g x xs true false e k h more = let t : g x ≡ true = h e in cc
shorter_at f g x xs false true e k h more = rw (e, k) (omega (arith, more))
shorter_at f g x xs false false e k h more = rw (e, k) (omega (arith, more))

pub shorter : {X : Type 0} (f g : X → Bool) (xs : List X) → ((x : X) → f x ≡ true → g x ≡ true) → length (filter f xs) ≤ length (filter g xs)
shorter f g [] h = omega arith
shorter f g (x ∷ xs) h = shorter_at f g x xs (f x) (g x) refl refl (h x) (shorter f g xs h)

free_is_literal : (a b : Bool) (p : Part) → is_free_literal a b p ≡ true → is_literal_string p ≡ true
free_is_literal a b (Str (Literal text)) e = refl
free_is_literal a b (Str NonEmpty) e = e
free_is_literal a b (Str Plain) e = e
free_is_literal a b p e = e

module _ (make : List Part → PhpType) (ps : List Part) (s : IsSettled ps) where
  arrays_stay : array_parts make ps ≡ of_kinds 6 7 ps
  arrays_stay = ap (λ b. cond b (table_parts make (joined_tables make None (flat_map (tables_of make) ps))) (of_kinds 6 7 ps)) one
    where
      one : nat_lt 1 (length (of_kinds 6 7 ps)) ≡ false
      one = let few = s.one_array in grind (arith, nat_tests)

  literals_stay : few_literals (free_literals ps) ≡ free_literals ps
  literals_stay = ap (λ b. cond b (Str Plain ∷ []) (free_literals ps)) few
    where
      few : nat_lt 32 (length (free_literals ps)) ≡ false
      few =
          let fewer : length (free_literals ps) ≤ length (filter is_literal_string ps) = shorter (is_free_literal (list_any is_plain ps) (list_any is_non_empty ps)) is_literal_string ps (free_is_literal (list_any is_plain ps) (list_any is_non_empty ps)) in
          let most : length (free_literals ps) ≤ 32 = omega (arith, fewer, s.few_literals) in grind (arith, nat_tests)

  from_strings : (z : Part) → In z (string_parts ps) → In z ps
  from_strings z h =
      elim (in_both z (few_literals (free_literals ps)) (filter (λ p. is_plain p || is_non_empty p) ps) h) [
        | inl a ↦ (from_filter (is_free_literal (list_any is_plain ps) (list_any is_non_empty ps)) z ps (subst (In z) literals_stay a)).0
        | inr b ↦ (from_filter (λ p. is_plain p || is_non_empty p) z ps b).0
      ]

  from_kinds : (a b : ℕ) (z : Part) → In z (of_kinds a b ps) → In z ps
  from_kinds a b z h = (from_filter (is_of a b) z ps h).0

  from_settled : (z : Part) → In z (settled_parts make ps) → In z ps
  from_settled z h =
      elim (in_both z (of_kinds 1 5 ps) (array_parts make ps ++ (of_kinds 8 8 ps ++ (int_parts ps ++ (of_kinds 10 10 ps ++ (string_parts ps ++ of_kinds 12 16 ps))))) h) [
        | inl a ↦ from_kinds 1 5 z a
        | inr h1 ↦ elim (in_both z (array_parts make ps) (of_kinds 8 8 ps ++ (int_parts ps ++ (of_kinds 10 10 ps ++ (string_parts ps ++ of_kinds 12 16 ps)))) h1) [
          | inl b ↦ from_kinds 6 7 z (subst (In z) arrays_stay b)
          | inr h2 ↦ elim (in_both z (of_kinds 8 8 ps) (int_parts ps ++ (of_kinds 10 10 ps ++ (string_parts ps ++ of_kinds 12 16 ps))) h2) [
            | inl c ↦ from_kinds 8 8 z c
            | inr h3 ↦ elim (in_both z (int_parts ps) (of_kinds 10 10 ps ++ (string_parts ps ++ of_kinds 12 16 ps)) h3) [
              | inl d ↦ from_ints ps s.rises s.apart s.few_ints z d
              | inr h4 ↦ elim (in_both z (of_kinds 10 10 ps) (string_parts ps ++ of_kinds 12 16 ps) h4) [
                | inl e ↦ from_kinds 10 10 z e
                | inr h5 ↦ elim (in_both z (string_parts ps) (of_kinds 12 16 ps) h5) [ inl f ↦ from_strings z f | inr g ↦ from_kinds 12 16 z g ]
              ]
            ]
          ]
        ]
      ]

  in_objects : (z : Part) → In z ps → is_of 1 5 z ≡ true → In z (settled_parts make ps)
  in_objects z h k = in_left z (of_kinds 1 5 ps) (array_parts make ps ++ (of_kinds 8 8 ps ++ (int_parts ps ++ (of_kinds 10 10 ps ++ (string_parts ps ++ of_kinds 12 16 ps))))) (in_filter (is_of 1 5) z ps h k)

  past_objects : (z : Part) → In z (array_parts make ps ++ (of_kinds 8 8 ps ++ (int_parts ps ++ (of_kinds 10 10 ps ++ (string_parts ps ++ of_kinds 12 16 ps))))) → In z (settled_parts make ps)
  past_objects z h = in_right z (of_kinds 1 5 ps) (array_parts make ps ++ (of_kinds 8 8 ps ++ (int_parts ps ++ (of_kinds 10 10 ps ++ (string_parts ps ++ of_kinds 12 16 ps))))) h

  in_arrays : (z : Part) → In z ps → is_of 6 7 z ≡ true → In z (settled_parts make ps)
  in_arrays z h k =
      past_objects z (in_left z (array_parts make ps) (of_kinds 8 8 ps ++ (int_parts ps ++ (of_kinds 10 10 ps ++ (string_parts ps ++ of_kinds 12 16 ps)))) (subst (In z) (sym arrays_stay) (in_filter (is_of 6 7) z ps h k)))

  past_arrays : (z : Part) → In z (of_kinds 8 8 ps ++ (int_parts ps ++ (of_kinds 10 10 ps ++ (string_parts ps ++ of_kinds 12 16 ps)))) → In z (settled_parts make ps)
  past_arrays z h = past_objects z (in_right z (array_parts make ps) (of_kinds 8 8 ps ++ (int_parts ps ++ (of_kinds 10 10 ps ++ (string_parts ps ++ of_kinds 12 16 ps)))) h)

  in_callables : (z : Part) → In z ps → is_of 8 8 z ≡ true → In z (settled_parts make ps)
  in_callables z h k = past_arrays z (in_left z (of_kinds 8 8 ps) (int_parts ps ++ (of_kinds 10 10 ps ++ (string_parts ps ++ of_kinds 12 16 ps))) (in_filter (is_of 8 8) z ps h k))

  past_callables : (z : Part) → In z (int_parts ps ++ (of_kinds 10 10 ps ++ (string_parts ps ++ of_kinds 12 16 ps))) → In z (settled_parts make ps)
  past_callables z h = past_arrays z (in_right z (of_kinds 8 8 ps) (int_parts ps ++ (of_kinds 10 10 ps ++ (string_parts ps ++ of_kinds 12 16 ps))) h)

  past_ints : (z : Part) → In z (of_kinds 10 10 ps ++ (string_parts ps ++ of_kinds 12 16 ps)) → In z (settled_parts make ps)
  past_ints z h = past_callables z (in_right z (int_parts ps) (of_kinds 10 10 ps ++ (string_parts ps ++ of_kinds 12 16 ps)) h)

  in_strings : (z : Part) → In z (string_parts ps) → In z (settled_parts make ps)
  in_strings z h = past_ints z (in_right z (of_kinds 10 10 ps) (string_parts ps ++ of_kinds 12 16 ps) (in_left z (string_parts ps) (of_kinds 12 16 ps) h))

  in_rest : (z : Part) → In z ps → is_of 12 16 z ≡ true → In z (settled_parts make ps)
  in_rest z h k = past_ints z (in_right z (of_kinds 10 10 ps) (string_parts ps ++ of_kinds 12 16 ps) (in_right z (string_parts ps) (of_kinds 12 16 ps) (in_filter (is_of 12 16) z ps h k)))

  in_literals : (z : Part) → In z ps → is_literal_string z ≡ true → In z (settled_parts make ps)
  in_literals z h k =
      in_strings z (in_left z (few_literals (free_literals ps)) (filter (λ p. is_plain p || is_non_empty p) ps)
      (subst (In z) (sym literals_stay) (in_filter (is_free_literal (list_any is_plain ps) (list_any is_non_empty ps)) z ps h (s.free z h k))))

  in_forms : (z : Part) → In z ps → (is_plain z || is_non_empty z) ≡ true → In z (settled_parts make ps)
  in_forms z h k = in_strings z (in_right z (few_literals (free_literals ps)) (filter (λ p. is_plain p || is_non_empty p) ps) (in_filter (λ p. is_plain p || is_non_empty p) z ps h k))

  to_settled : (z : Part) → In z ps → In z (settled_parts make ps)
  to_settled (Object name ts) h = in_objects (Object name ts) h refl
  to_settled (Static name) h = in_objects (Static name) h refl
  to_settled (Meeting names) h = in_objects (Meeting names) h refl
  to_settled AnyObject h = in_objects AnyObject h refl
  to_settled (Template owner name bound) h = in_objects (Template owner name bound) h refl
  to_settled (Array key value list non_empty) h = in_arrays (Array key value list non_empty) h refl
  to_settled (Shape fs) h = in_arrays (Shape fs) h refl
  to_settled Callable h = in_callables Callable h refl
  to_settled (Int l g) h =
      past_callables (Int l g) (in_left (Int l g) (int_parts ps) (of_kinds 10 10 ps ++ (string_parts ps ++ of_kinds 12 16 ps)) (to_ints ps s.rises s.apart s.few_ints l g h))
  to_settled Float h = past_ints Float (in_left Float (of_kinds 10 10 ps) (string_parts ps ++ of_kinds 12 16 ps) (in_filter (is_of 10 10) Float ps h refl))
  to_settled (Str (Literal text)) h = in_literals (Str (Literal text)) h refl
  to_settled (Str NonEmpty) h = in_forms (Str NonEmpty) h refl
  to_settled (Str Plain) h = in_forms (Str Plain) h refl
  to_settled ClassString h = in_rest ClassString h refl
  to_settled (ClassStringOf t) h = in_rest (ClassStringOf t) h refl
  to_settled False h = in_rest False h refl
  to_settled True h = in_rest True h refl
  to_settled Null h = in_rest Null h refl
  to_settled Void h = in_rest Void h refl
  to_settled ImplicitMixed h = let other : true ≡ false = s.no_mixed ImplicitMixed h in cc
  to_settled ExplicitMixed h = let other : true ≡ false = s.no_mixed ExplicitMixed h in cc

  below_mixed : (z : Part) (a : ℕ) → 17 ≤ a → a ≤ 18 → is_of 17 18 z ≡ false → is_of a a z ≡ false
  below_mixed z a low high other = grind (arith, nat_tests)

  no_kind : (a : ℕ) → 17 ≤ a → a ≤ 18 → list_any (is_of a a) ps ≡ false
  no_kind a low high = none_any (is_of a a) ps (λ z h. below_mixed z a low high (s.no_mixed z h))

  pub settled_stays : settled make ps ≡ of_parts ps
  settled_stays =
      ap (λ b. cond b explicit_mixed (cond (list_any (is_of 17 17) ps) implicit_mixed (limited (of_parts (ordered part_order (settled_parts make ps)))))) (no_kind 18 (omega arith) (omega arith))
      ∙ ap (λ b. cond b implicit_mixed (limited (of_parts (ordered part_order (settled_parts make ps))))) (no_kind 17 (omega arith) (omega arith))
      ∙ ap (λ qs. limited (of_parts qs)) (ordered_same part_order parts_total ps (settled_parts make ps) s.rises from_settled to_settled)
      ∙ ap (λ b. cond b (of_parts ps) explicit_mixed) s.within

-- parts that are these, in any order and number, have these as their normal form
pub normal_settles : (n : ℕ) (ps qs : List Part) → IsSettled ps → ((z : Part) → In z qs → In z ps) → ((z : Part) → In z ps → In z qs) → normal_within (suc n) qs ≡ of_parts ps
unfolding normal_within
normal_settles n ps qs s to back =
    ap (λ xs. settled (normal_within n) (ordered part_order xs)) (all_whole (normal_within n) qs (λ p h. s.whole p (to p h)))
    ∙ ap (settled (normal_within n)) (ordered_same part_order parts_total ps qs s.rises to back)
    ∙ settled_stays (normal_within n) ps s
