-- How many items pass a test: in order no more do, and in a normal form few.
use Rattle.std.proofs.Common.{◌≡◌, ℕ, suc, ◌+◌, ◌<◌, ◌≤◌, Bool, true, false, cond, List, [], ◌∷◌, ◌++◌, length, map, refl, ap, inl, inr, arith}
use Rattle.std.specs.Prelude.{◌⊎◌, ◌||◌, filter, nat_lt, Option, None, Some}
use Rattle.std.specs.List.{flat_map}
use Rattle.std.specs.declared.cmp.Ordering.{Ordering}
use Rattle.std.specs.declared.cmp.Ordering.TheVariants.{Less, Equal, Greater}
use Rattle.std.proofs.lemmas.Bool.Decides.{nat_tests}
use Rattle.stan_model_types.specs.Types.{PhpType, Part, Str, Literal, Plain, NonEmpty}
use Rattle.stan_model_types.specs.TypeFilters.{is_literal_string}
use Rattle.stan_model_types.specs.NormalForms.{Table, array_parts, few_literals, few_ranges, free_literals, int_parts, is_non_empty, is_of, is_plain, joined_tables, of_kinds, ordered, put, put_all, put_ints, range_part, settled_parts, string_parts, table_parts, tables_of}
use Rattle.stan_type_laws.specs.Members.{In}
use Rattle.stan_type_laws.specs.Settled.{IsWhole}
use Rattle.stan_type_laws.proofs.Sorting.{from_filter, put_is}
use Rattle.stan_type_laws.proofs.Rising.{few_few}
use Rattle.stan_type_laws.proofs.Wholes.{array_cases, kinds_apart, kinds_apart-below, number_whole, text_whole}

module _ {X : Type 0} (k : X → Bool) where
  count_at : (x : X) (xs : List X) (b : Bool) → k x ≡ b → length (filter k (x ∷ xs)) ≡ length (cond b (x ∷ []) []) + length (filter k xs)
  count_at x xs true e = rw e (omega arith)
  count_at x xs false e = rw e (omega arith)

  pub count_cons : (x : X) (xs : List X) → length (filter k (x ∷ xs)) ≡ length (cond (k x) (x ∷ []) []) + length (filter k xs)
  count_cons x xs = count_at x xs (k x) refl

  pub count_append : (xs ys : List X) → length (filter k (xs ++ ys)) ≡ length (filter k xs) + length (filter k ys)
  count_append [] ys = omega arith
  count_append (x ∷ xs) ys = omega (arith, count_cons x xs, count_cons x (xs ++ ys), count_append xs ys)

  at_most_one : (b : Bool) (x : X) → length (cond b (x ∷ []) []) ≤ 1
  at_most_one true x = omega arith
  at_most_one false x = omega arith

  pub count_most : (xs : List X) → length (filter k xs) ≤ length xs
  count_most [] = omega arith
  count_most (x ∷ xs) = omega (arith, count_cons x xs, at_most_one (k x) x, count_most xs)

  pub count_none : (xs : List X) → ((x : X) → In x xs → k x ≡ false) → length (filter k xs) ≡ 0
  count_none [] h = omega arith
  count_none (x ∷ xs) h =
      let here : length (cond (k x) (x ∷ []) []) ≡ 0 = ap (λ b. length (cond b (x ∷ []) [])) (h x (inl refl)) in
      omega (arith, count_cons x xs, here, count_none xs (λ y m. h y (inr m)))

  module _ (order : X → X → Ordering) where
    count_put_at : (p q : X) (qs : List X) (o : Ordering) → order p q ≡ o → length (filter k (put order p qs)) ≤ length (filter k (p ∷ qs)) → length (filter k (put order p (q ∷ qs))) ≤ length (filter k (p ∷ q ∷ qs))
    count_put_at p q qs Less e more = rw (put_is order p q qs Less e) (omega arith)
    count_put_at p q qs Equal e more = rw (put_is order p q qs Equal e) (omega (arith, count_cons p (q ∷ qs)))
    count_put_at p q qs Greater e more =
        rw (put_is order p q qs Greater e) (omega (arith, count_cons p (q ∷ qs), count_cons q qs, count_cons p qs, count_cons q (put order p qs), more))

    count_put : (p : X) (qs : List X) → length (filter k (put order p qs)) ≤ length (filter k (p ∷ qs))
    count_put p [] = omega arith
    count_put p (q ∷ qs) = count_put_at p q qs (order p q) refl (count_put p qs)

    count_put_all : (ps qs : List X) → length (filter k (put_all order ps qs)) ≤ length (filter k ps) + length (filter k qs)
    count_put_all [] qs = omega arith
    count_put_all (p ∷ ps) qs = omega (arith, count_put_all ps (put order p qs), count_put p qs, count_cons p qs, count_cons p ps)

    pub count_ordered : (xs : List X) → length (filter k (ordered order xs)) ≤ length (filter k xs)
    count_ordered xs = omega (arith, count_put_all xs [])

length-map : {A B : Type 0} (f : A → B) (xs : List A) → length (map f xs) ≡ length xs
length-map f [] = refl
length-map f (x ∷ xs) = ap suc (length-map f xs)

module _ (make : List Part → PhpType) (ps : List Part) (w : (p : Part) → In p ps → IsWhole p) where
  pub count_settled : (k : Part → Bool) → length (filter k (settled_parts make ps))
      ≡ length (filter k (of_kinds 1 5 ps)) + (length (filter k (array_parts make ps)) + (length (filter k (of_kinds 8 8 ps)) + (length (filter k (int_parts ps))
      + (length (filter k (of_kinds 10 10 ps)) + (length (filter k (string_parts ps)) + length (filter k (of_kinds 12 16 ps)))))))
  count_settled k =
      omega (
        arith,
        count_append k (of_kinds 1 5 ps) (array_parts make ps ++ (of_kinds 8 8 ps ++ (int_parts ps ++ (of_kinds 10 10 ps ++ (string_parts ps ++ of_kinds 12 16 ps))))),
        count_append k (array_parts make ps) (of_kinds 8 8 ps ++ (int_parts ps ++ (of_kinds 10 10 ps ++ (string_parts ps ++ of_kinds 12 16 ps)))),
        count_append k (of_kinds 8 8 ps) (int_parts ps ++ (of_kinds 10 10 ps ++ (string_parts ps ++ of_kinds 12 16 ps))),
        count_append k (int_parts ps) (of_kinds 10 10 ps ++ (string_parts ps ++ of_kinds 12 16 ps)),
        count_append k (of_kinds 10 10 ps) (string_parts ps ++ of_kinds 12 16 ps),
        count_append k (string_parts ps) (of_kinds 12 16 ps),
      )

  kind_in : (a b : ℕ) (z : Part) → In z (of_kinds a b ps) → is_of a b z ≡ true
  kind_in a b z h = (from_filter (is_of a b) z ps h).1

  array_in : (z : Part) → In z (array_parts make ps) → is_of 6 7 z ≡ true
  array_in z h = (array_cases make ps z (nat_lt 1 (length (of_kinds 6 7 ps))) w h).1

  -- the kinds that have no part of others
  above : (a b c d : ℕ) → b < c → length (filter (is_of c d) (of_kinds a b ps)) ≡ 0
  above a b c d lt = count_none (is_of c d) (of_kinds a b ps) (λ z h. kinds_apart a b c d z lt (kind_in a b z h))

  under : (a b c d : ℕ) → d < a → length (filter (is_of c d) (of_kinds a b ps)) ≡ 0
  under a b c d lt = count_none (is_of c d) (of_kinds a b ps) (λ z h. kinds_apart-below a b c d z lt (kind_in a b z h))

  table_short : (b : Bool) → nat_lt 1 (length (of_kinds 6 7 ps)) ≡ b → length (cond b (table_parts make (joined_tables make None (flat_map (tables_of make) ps))) (of_kinds 6 7 ps)) ≤ 1
  table_short true e = short (joined_tables make None (flat_map (tables_of make) ps))
    where
      short : (found : Option Table) → length (table_parts make found) ≤ 1
      short None = omega arith
      short (Some a) = omega arith
  table_short false e = grind (arith, nat_tests)

  pub one_array : length (filter (is_of 6 7) (settled_parts make ps)) ≤ 1
  one_array =
      omega (
        arith,
        count_settled (is_of 6 7),
        above 1 5 6 7 (omega arith),
        count_most (is_of 6 7) (array_parts make ps),
        table_short (nat_lt 1 (length (of_kinds 6 7 ps))) refl,
        under 8 8 6 7 (omega arith),
        count_none (is_of 6 7) (int_parts ps) (λ z h. kinds_apart-below 9 9 6 7 z (omega arith) (number_whole ps z w h).1),
        under 10 10 6 7 (omega arith),
        count_none (is_of 6 7) (string_parts ps) (λ z h. kinds_apart-below 11 11 6 7 z (omega arith) (text_whole ps z w h).1),
        under 12 16 6 7 (omega arith),
      )

  few_numbers : length (int_parts ps) ≤ 32
  few_numbers = omega (arith, length-map range_part (few_ranges (put_ints ps [])), few_few (put_ints ps []))

  pub few_ints : length (filter (is_of 9 9) (settled_parts make ps)) ≤ 32
  few_ints =
      omega (
        arith,
        count_settled (is_of 9 9),
        above 1 5 9 9 (omega arith),
        count_none (is_of 9 9) (array_parts make ps) (λ z h. kinds_apart 6 7 9 9 z (omega arith) (array_in z h)),
        above 8 8 9 9 (omega arith),
        count_most (is_of 9 9) (int_parts ps),
        few_numbers,
        under 10 10 9 9 (omega arith),
        count_none (is_of 9 9) (string_parts ps) (λ z h. kinds_apart-below 11 11 9 9 z (omega arith) (text_whole ps z w h).1),
        under 12 16 9 9 (omega arith),
      )

  not_literal : (z : Part) → is_of 11 11 z ≡ false → is_literal_string z ≡ false
  not_literal (Str form) e = let wrong : true ≡ false = e in cc
  not_literal z e = refl

  no_literals : (a b : ℕ) → (b < 11) ⊎ (11 < a) → length (filter is_literal_string (of_kinds a b ps)) ≡ 0
  no_literals a b (inl lt) = count_none is_literal_string (of_kinds a b ps) (λ z h. not_literal z (kinds_apart a b 11 11 z lt (kind_in a b z h)))
  no_literals a b (inr lt) = count_none is_literal_string (of_kinds a b ps) (λ z h. not_literal z (kinds_apart-below a b 11 11 z lt (kind_in a b z h)))

  form_not : (z : Part) → (is_plain z || is_non_empty z) ≡ true → is_literal_string z ≡ false
  form_not (Str (Literal text)) e = let wrong : false ≡ true = e in cc
  form_not (Str NonEmpty) e = refl
  form_not (Str Plain) e = refl
  form_not z e = refl

  literals_short : (b : Bool) → nat_lt 32 (length (free_literals ps)) ≡ b → length (cond b (Str Plain ∷ []) (free_literals ps)) ≤ 32
  literals_short true e = omega arith
  literals_short false e = grind (arith, nat_tests)

  few_texts : length (filter is_literal_string (string_parts ps)) ≤ 32
  few_texts =
      omega (
        arith,
        count_append is_literal_string (few_literals (free_literals ps)) (filter (λ p. is_plain p || is_non_empty p) ps),
        count_most is_literal_string (few_literals (free_literals ps)),
        literals_short (nat_lt 32 (length (free_literals ps))) refl,
        count_none is_literal_string (filter (λ p. is_plain p || is_non_empty p) ps) (λ z h. form_not z (from_filter (λ p. is_plain p || is_non_empty p) z ps h).1),
      )

  pub few_literal_parts : length (filter is_literal_string (settled_parts make ps)) ≤ 32
  few_literal_parts =
      omega (
        arith,
        count_settled is_literal_string,
        no_literals 1 5 (inl (omega arith)),
        count_none is_literal_string (array_parts make ps) (λ z h. not_literal z (kinds_apart 6 7 11 11 z (omega arith) (array_in z h))),
        no_literals 8 8 (inl (omega arith)),
        count_none is_literal_string (int_parts ps) (λ z h. not_literal z (kinds_apart 9 9 11 11 z (omega arith) (number_whole ps z w h).1)),
        no_literals 10 10 (inl (omega arith)),
        few_texts,
        no_literals 12 16 (inr (omega arith)),
      )
