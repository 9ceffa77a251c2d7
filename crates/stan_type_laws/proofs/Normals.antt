-- The parts of a normal form without `mixed`: what they are, and how they stand to one another.
use Rattle.std.proofs.Common.{◌≡◌, Bool, true, false, List, [], ◌∷◌, length, refl, ap, sym, ◌∙◌, subst, inl, inr, arith}
use Rattle.std.specs.Prelude.{◌⊎◌, ◌||◌, ℤ, not, nat_lt}
use Rattle.std.specs.List.{list_any}
use Rattle.stan_model_types.specs.Types.{PhpType, Part, Int, Str, Literal, NonEmpty, Plain}
use Rattle.stan_model_types.specs.TypeBytes.{part_order}
use Rattle.stan_model_types.specs.TypeFilters.{is_literal_string}
use Rattle.stan_model_types.specs.NormalForms.{free_literals, few_ranges, int_parts, is_free_literal, is_non_empty, is_of, is_plain, of_kinds, ordered, put_ints, range_part, settled_parts, string_parts}
use Rattle.stan_type_laws.specs.Members.{In}
use Rattle.stan_type_laws.specs.Settled.{IsApart, IsWhole}
use Rattle.stan_type_laws.proofs.Sorting.{from_filter, from_ordered}
use Rattle.stan_type_laws.proofs.Ranges.{from_map}
use Rattle.stan_type_laws.proofs.Rising.{few_rise, ints_rise, rise_apart}
use Rattle.stan_type_laws.proofs.Wholes.{Found, TextFound, array_cases, find, from_texts, held, kinds_apart, kinds_apart-below, number_whole, wholes_valid}
use Rattle.stan_type_laws.proofs.Wholes.{objects, arrays, callables, numbers, floats, texts, others}

some_any_at : {X : Type 0} (f : X → Bool) (x : X) (xs : List X) (b : Bool) → f x ≡ b → (b || list_any f xs) ≡ true → (list_any f xs ≡ true → (z : X) × (In z xs × (f z ≡ true))) → (z : X) × (In z (x ∷ xs) × (f z ≡ true))
some_any_at f x xs true e h more = (x, (inl refl, e))
some_any_at f x xs false e h more = let found = more h in (found.0, (inr found.1.0, found.1.1))

-- what passes a test that something passes
pub some_any : {X : Type 0} (f : X → Bool) (xs : List X) → list_any f xs ≡ true → (z : X) × (In z xs × (f z ≡ true))
some_any f [] h = cc
some_any f (x ∷ xs) h = some_any_at f x xs (f x) refl h (some_any f xs)

pub any_at : {X : Type 0} (f : X → Bool) (z : X) (xs : List X) → In z xs → f z ≡ true → list_any f xs ≡ true
any_at f z [] h e = absurd h
any_at f z (x ∷ xs) (inl s) e = ap (λ b. b || list_any f xs) (ap f (sym s) ∙ e)
any_at f z (x ∷ xs) (inr k) e = or_true (f x) (list_any f xs) (any_at f z xs k e)
  where
    or_true : (a b : Bool) → b ≡ true → (a || b) ≡ true
    or_true true b e = refl
    or_true false b e = e

-- fewer other strings leave a literal free
still_not : (a b : Bool) → (b ≡ true → a ≡ true) → not a ≡ true → not b ≡ true
still_not a true h e = let wrong : not a ≡ false = ap not (h refl) in cc
still_not a false h e = refl

still_neither : (a b c d : Bool) → (c ≡ true → a ≡ true) → (d ≡ true → b ≡ true) → not (a || b) ≡ true → not (c || d) ≡ true
still_neither true b c d h k e = let wrong : false ≡ true = e in cc
still_neither false true c d h k e = let wrong : false ≡ true = e in cc
still_neither false false true d h k e = let wrong : false ≡ true = h refl in cc
still_neither false false false true h k e = let wrong : false ≡ true = k refl in cc
still_neither false false false false h k e = refl

pub still_free : (a b c d : Bool) (z : Part) → (c ≡ true → a ≡ true) → (d ≡ true → b ≡ true) → is_free_literal a b z ≡ true → is_free_literal c d z ≡ true
still_free a b c d (Str (Literal [])) h k e = still_not a c h e
still_free a b c d (Str (Literal (x ∷ xs))) h k e = still_neither a b c d h k e
still_free a b c d (Str NonEmpty) h k e = e
still_free a b c d (Str Plain) h k e = e
still_free a b c d z h k e = e

pub plain_is : (z : Part) → is_plain z ≡ true → z ≡ Str Plain
plain_is (Str (Literal text)) e = let wrong : false ≡ true = e in cc
plain_is (Str NonEmpty) e = let wrong : false ≡ true = e in cc
plain_is (Str Plain) e = refl
plain_is z e = let wrong : false ≡ true = e in cc

pub non_empty_is : (z : Part) → is_non_empty z ≡ true → z ≡ Str NonEmpty
non_empty_is (Str (Literal text)) e = let wrong : false ≡ true = e in cc
non_empty_is (Str NonEmpty) e = refl
non_empty_is (Str Plain) e = let wrong : false ≡ true = e in cc
non_empty_is z e = let wrong : false ≡ true = e in cc

module _ (make : List Part → PhpType) (ps : List Part) (w : (p : Part) → In p ps → IsWhole p) where
  abbrev pub made : List Part
  made = ordered part_order (settled_parts make ps)

  pub in_pieces : (z : Part) → In z made → In z (settled_parts make ps)
  in_pieces z h = from_ordered part_order z (settled_parts make ps) h

  pub made_whole : (z : Part) → In z made → IsWhole z
  made_whole z h = (held make ps z w (in_pieces z h)).1.1.1.0

  pub made_no_mixed : (z : Part) → In z made → is_of 17 18 z ≡ false
  made_no_mixed z h = let found = held make ps z w (in_pieces z h) in kinds_apart found.0 found.1.0 17 18 z found.1.1.0 found.1.1.1.1

  number_piece : (l g : ℤ) → In (Int l g) (settled_parts make ps) → In (Int l g) (int_parts ps)
  number_piece l g h = number_at (find make ps (Int l g) h)
    where
      number_at : Found make ps (Int l g) → In (Int l g) (int_parts ps)
      number_at (objects k) = let wrong : false ≡ true = (from_filter (is_of 1 5) (Int l g) ps k).1 in cc
      number_at (arrays k) = let wrong : false ≡ true = (array_cases make ps (Int l g) (nat_lt 1 (length (of_kinds 6 7 ps))) w k).1 in cc
      number_at (callables k) = let wrong : false ≡ true = (from_filter (is_of 8 8) (Int l g) ps k).1 in cc
      number_at (numbers k) = k
      number_at (floats k) = let wrong : false ≡ true = (from_filter (is_of 10 10) (Int l g) ps k).1 in cc
      number_at (texts k) = no_text (from_texts ps (Int l g) k)
        where
          no_text : TextFound ps (Int l g) → In (Int l g) (int_parts ps)
          no_text (inl e) = let wrong : Int l g ≡ Str Plain = e.0 in cc
          no_text (inr (inl a)) = let wrong : false ≡ true = (from_filter (is_free_literal (list_any is_plain ps) (list_any is_non_empty ps)) (Int l g) ps a.0).1 in cc
          no_text (inr (inr b)) = let wrong : false ≡ true = b.1 in cc
      number_at (others k) = let wrong : false ≡ true = (from_filter (is_of 12 16) (Int l g) ps k).1 in cc

  numbers_apart : (a b c d : ℤ) → In (Int a b) made → In (Int c d) made → (Int a b ≡ Int c d) ⊎ IsApart (Int a b) (Int c d)
  numbers_apart a b c d h k =
      let first = from_map range_part (Int a b) (few_ranges (put_ints ps [])) (number_piece a b (in_pieces (Int a b) h)) in
      let second = from_map range_part (Int c d) (few_ranges (put_ints ps [])) (number_piece c d (in_pieces (Int c d) k)) in
      elim (rise_apart first.0 second.0 (few_ranges (put_ints ps [])) (few_rise (put_ints ps []) (ints_rise ps [] (wholes_valid ps w) tt)) first.1.0 second.1.0) [
        | inl e ↦ inl (first.1.1 ∙ ap range_part e ∙ sym second.1.1)
        | inr m ↦ inr (subst (λ x. IsApart x (Int c d)) (sym first.1.1) (subst (IsApart (range_part first.0)) (sym second.1.1) m))
      ]

  pub made_apart : (p q : Part) → In p made → In q made → (p ≡ q) ⊎ IsApart p q
  made_apart (Int a b) (Int c d) h k = numbers_apart a b c d h k
  made_apart (Int a b) q h k = inr tt
  made_apart p q h k = inr tt

  pub text_piece : (z : Part) → is_of 11 11 z ≡ true → In z (settled_parts make ps) → In z (string_parts ps)
  text_piece z e h = text_at (find make ps z h)
    where
      text_at : Found make ps z → In z (string_parts ps)
      text_at (objects k) = let wrong : is_of 11 11 z ≡ false = kinds_apart 1 5 11 11 z (omega arith) (from_filter (is_of 1 5) z ps k).1 in cc
      text_at (arrays k) = let wrong : is_of 11 11 z ≡ false = kinds_apart 6 7 11 11 z (omega arith) (array_cases make ps z (nat_lt 1 (length (of_kinds 6 7 ps))) w k).1 in cc
      text_at (callables k) = let wrong : is_of 11 11 z ≡ false = kinds_apart 8 8 11 11 z (omega arith) (from_filter (is_of 8 8) z ps k).1 in cc
      text_at (numbers k) = let wrong : is_of 11 11 z ≡ false = kinds_apart 9 9 11 11 z (omega arith) (number_whole ps z w k).1 in cc
      text_at (floats k) = let wrong : is_of 11 11 z ≡ false = kinds_apart 10 10 11 11 z (omega arith) (from_filter (is_of 10 10) z ps k).1 in cc
      text_at (texts k) = k
      text_at (others k) = let wrong : is_of 11 11 z ≡ false = kinds_apart-below 12 16 11 11 z (omega arith) (from_filter (is_of 12 16) z ps k).1 in cc

  -- a literal stands there only where literals aren't too many
  pub few_free : (z : Part) → is_literal_string z ≡ true → In z made → (is_free_literal (list_any is_plain ps) (list_any is_non_empty ps) z ≡ true) × (nat_lt 32 (length (free_literals ps)) ≡ false)
  few_free (Str (Literal text)) e h = free_at (from_texts ps (Str (Literal text)) (text_piece (Str (Literal text)) refl (in_pieces (Str (Literal text)) h)))
    where
      free_at : TextFound ps (Str (Literal text))
          → (is_free_literal (list_any is_plain ps) (list_any is_non_empty ps) (Str (Literal text)) ≡ true) × (nat_lt 32 (length (free_literals ps)) ≡ false)
      free_at (inl f) = let wrong : Str (Literal text) ≡ Str Plain = f.0 in cc
      free_at (inr (inl a)) = ((from_filter (is_free_literal (list_any is_plain ps) (list_any is_non_empty ps)) (Str (Literal text)) ps a.0).1, a.1)
      free_at (inr (inr b)) = let wrong : false ≡ true = b.1 in cc
  few_free (Str NonEmpty) e h = let wrong : false ≡ true = e in cc
  few_free (Str Plain) e h = let wrong : false ≡ true = e in cc
  few_free z e h = let wrong : false ≡ true = e in cc
