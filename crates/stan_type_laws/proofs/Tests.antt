-- What a test for a kind keeps and what is left are the parts that pass two tests, and each part passes one of them.
use Rattle.std.proofs.Common.{◌≡◌, ℕ, ◌≤◌, Bool, true, false, cond, List, [], ◌∷◌, ◌++◌, length, refl, ap, sym, ◌∙◌, subst, inl, inr, arith}
use Rattle.std.specs.Prelude.{◌⊎◌, ◌&&◌, filter, nat_le, not}
use Rattle.std.specs.List.{flat_map, list_any}
use Rattle.std.specs.declared.cmp.Ordering.{Ordering}
use Rattle.std.specs.declared.cmp.Ordering.TheVariants.{Less}
use Rattle.std.proofs.lemmas.Bool.Decides.{nat_tests}
use Rattle.stan_model_types.specs.Types.{PhpType, Part, Object, Static, Meeting, AnyObject, Template, Callable, ImplicitMixed, ExplicitMixed, parts, of_parts}
use Rattle.stan_model_types.specs.TypeBytes.{part_order}
use Rattle.stan_model_types.specs.TypeFilters.{Filter, Nulls, Bools, Ints, Floats, Strings, Arrays, Objects, Callables, Truthy, Falsy, Only, is_kind, is_literal_string, is_taken, keep, kept, left, narrows, without}
use Rattle.stan_model_types.specs.TypeLimits.{type_count, type_depth}
use Rattle.stan_model_types.specs.NormalForms.{IsNormal, is_non_empty, is_of, is_plain, normal, union}
use Rattle.stan_type_laws.specs.Members.{In, Rises}
use Rattle.stan_type_laws.specs.Settled.{IsSettled}
use Rattle.stan_type_laws.specs.Tests.{IsKindTest, is_definite}
use Rattle.stan_type_laws.proofs.Sorting.{from_filter, in_both, in_filter, in_left, in_right}
use Rattle.stan_type_laws.proofs.Normals.{any_at, some_any, still_free}
use Rattle.stan_type_laws.proofs.Counts.{count_cons}
use Rattle.stan_type_laws.proofs.Again.{NormalOf, explicit, implicit, parted, form_of, parts_again, settled_alike}

-- ---- some of the parts of a normal form are one

module _ {X : Type 0} (order : X → X → Ordering) (k : X → Bool) where
  filter_rises_at : (x : X) (xs : List X) (b : Bool) → ((y : X) → In y xs → order x y ≡ Less) → Rises order (filter k xs) → Rises order (cond b (x ∷ filter k xs) (filter k xs))
  filter_rises_at x xs true below more = ((λ y h. below y (from_filter k y xs h).0), more)
  filter_rises_at x xs false below more = more

  filter_rises : (xs : List X) → Rises order xs → Rises order (filter k xs)
  filter_rises [] r = tt
  filter_rises (x ∷ xs) r = filter_rises_at x xs (k x) r.0 (filter_rises xs r.1)

module _ (k : Part → Bool) where
  count_both_at : (a : Part → Bool) (p : Part) (ps : List Part) (b : Bool) → length (filter a (filter k ps)) ≤ length (filter a ps) → length (filter a (cond b (p ∷ filter k ps) (filter k ps))) ≤ length (filter a (p ∷ ps))
  count_both_at a p ps true more = omega (arith, count_cons a p ps, count_cons a p (filter k ps), more)
  count_both_at a p ps false more = omega (arith, count_cons a p ps, more)

  count_both : (a : Part → Bool) (ps : List Part) → length (filter a (filter k ps)) ≤ length (filter a ps)
  count_both a [] = omega arith
  count_both a (p ∷ ps) = count_both_at a p ps (k p) (count_both a ps)

  smaller_at : (p : Part) (ps : List Part) (b : Bool) → type_count (of_parts (filter k ps)) ≤ type_count (of_parts ps) → type_count (of_parts (cond b (p ∷ filter k ps) (filter k ps))) ≤ type_count (of_parts (p ∷ ps))
  smaller_at p ps true more = omega (arith, more)
  smaller_at p ps false more = omega (arith, more)

  smaller : (ps : List Part) → type_count (of_parts (filter k ps)) ≤ type_count (of_parts ps)
  smaller [] = omega arith
  smaller (p ∷ ps) = smaller_at p ps (k p) (smaller ps)

  flatter_at : (p : Part) (ps : List Part) (b : Bool) → type_depth (of_parts (filter k ps)) ≤ type_depth (of_parts ps) → type_depth (of_parts (cond b (p ∷ filter k ps) (filter k ps))) ≤ type_depth (of_parts (p ∷ ps))
  flatter_at p ps true more = omega (arith, more)
  flatter_at p ps false more = omega (arith, more)

  flatter : (ps : List Part) → type_depth (of_parts (filter k ps)) ≤ type_depth (of_parts ps)
  flatter [] = omega arith
  flatter (p ∷ ps) = flatter_at p ps (k p) (flatter ps)

  any_less : (a : Part → Bool) (ps : List Part) → list_any a (filter k ps) ≡ true → list_any a ps ≡ true
  any_less a ps h = let found = some_any a (filter k ps) h in any_at a found.0 ps (from_filter k found.0 ps found.1.0).0 found.1.1

  within_less : (m n a b : ℕ) → a ≤ m → b ≤ n → (nat_le m 4096 && nat_le n 64) ≡ true → (nat_le a 4096 && nat_le b 64) ≡ true
  within_less m n a b h l e = grind (arith, nat_tests)

  pub some_settled : (ps : List Part) → IsSettled ps → IsSettled (filter k ps)
  some_settled ps s = record {
    rises = filter_rises part_order k ps s.rises;
    no_mixed = λ p h. s.no_mixed p (from_filter k p ps h).0;
    whole = λ p h. s.whole p (from_filter k p ps h).0;
    one_array = omega (arith, count_both (is_of 6 7) ps, s.one_array);
    apart = λ p q h l. s.apart p q (from_filter k p ps h).0 (from_filter k q ps l).0;
    few_ints = omega (arith, count_both (is_of 9 9) ps, s.few_ints);
    free = λ p h e. still_free (list_any is_plain ps) (list_any is_non_empty ps) (list_any is_plain (filter k ps)) (list_any is_non_empty (filter k ps)) p (any_less is_plain ps) (any_less is_non_empty ps) (s.free p (from_filter k p ps h).0 e);
    few_literals = omega (arith, count_both is_literal_string ps, s.few_literals);
    within = within_less (type_count (of_parts ps)) (type_depth (of_parts ps)) (type_count (of_parts (filter k ps))) (type_depth (of_parts (filter k ps))) (smaller ps) (flatter ps) s.within;
  }

-- ---- tests for a kind

kept_at : (f : Filter) (p : Part) → IsKindTest f → is_definite p ≡ true → kept f p ≡ cond (is_kind f p) (p ∷ []) []
kept_at Nulls (Template owner name bound) t d = let wrong : false ≡ true = d in cc
kept_at Nulls Callable t d = let wrong : false ≡ true = d in cc
kept_at Nulls ImplicitMixed t d = let wrong : false ≡ true = d in cc
kept_at Nulls ExplicitMixed t d = let wrong : false ≡ true = d in cc
kept_at Nulls p t d = refl
kept_at Bools (Template owner name bound) t d = let wrong : false ≡ true = d in cc
kept_at Bools Callable t d = let wrong : false ≡ true = d in cc
kept_at Bools ImplicitMixed t d = let wrong : false ≡ true = d in cc
kept_at Bools ExplicitMixed t d = let wrong : false ≡ true = d in cc
kept_at Bools p t d = refl
kept_at Ints (Template owner name bound) t d = let wrong : false ≡ true = d in cc
kept_at Ints Callable t d = let wrong : false ≡ true = d in cc
kept_at Ints ImplicitMixed t d = let wrong : false ≡ true = d in cc
kept_at Ints ExplicitMixed t d = let wrong : false ≡ true = d in cc
kept_at Ints p t d = refl
kept_at Floats (Template owner name bound) t d = let wrong : false ≡ true = d in cc
kept_at Floats Callable t d = let wrong : false ≡ true = d in cc
kept_at Floats ImplicitMixed t d = let wrong : false ≡ true = d in cc
kept_at Floats ExplicitMixed t d = let wrong : false ≡ true = d in cc
kept_at Floats p t d = refl
kept_at Strings (Template owner name bound) t d = let wrong : false ≡ true = d in cc
kept_at Strings Callable t d = let wrong : false ≡ true = d in cc
kept_at Strings ImplicitMixed t d = let wrong : false ≡ true = d in cc
kept_at Strings ExplicitMixed t d = let wrong : false ≡ true = d in cc
kept_at Strings p t d = refl
kept_at Arrays (Template owner name bound) t d = let wrong : false ≡ true = d in cc
kept_at Arrays Callable t d = let wrong : false ≡ true = d in cc
kept_at Arrays ImplicitMixed t d = let wrong : false ≡ true = d in cc
kept_at Arrays ExplicitMixed t d = let wrong : false ≡ true = d in cc
kept_at Arrays p t d = refl
kept_at Objects (Template owner name bound) t d = let wrong : false ≡ true = d in cc
kept_at Objects Callable t d = let wrong : false ≡ true = d in cc
kept_at Objects ImplicitMixed t d = let wrong : false ≡ true = d in cc
kept_at Objects ExplicitMixed t d = let wrong : false ≡ true = d in cc
kept_at Objects p t d = refl
kept_at Callables (Template owner name bound) t d = let wrong : false ≡ true = d in cc
kept_at Callables Callable t d = let wrong : false ≡ true = d in cc
kept_at Callables ImplicitMixed t d = let wrong : false ≡ true = d in cc
kept_at Callables ExplicitMixed t d = let wrong : false ≡ true = d in cc
kept_at Callables p t d = refl
kept_at Truthy p t d = absurd t
kept_at Falsy p t d = absurd t
kept_at (Only value) p t d = absurd t

not_cond : {X : Type 0} (b : Bool) (x y : X) → cond b x y ≡ cond (not b) y x
not_cond true x y = refl
not_cond false x y = refl

left_at : (f : Filter) (p : Part) → IsKindTest f → left f p ≡ cond (not (is_taken f p)) (p ∷ []) []
left_at Truthy p t = absurd t
left_at Falsy p t = absurd t
left_at (Only value) p t = absurd t
left_at f p t = not_cond (is_taken f p) [] (p ∷ [])

-- what isn't left is kept
covered : (f : Filter) (p : Part) → IsKindTest f → is_definite p ≡ true → (is_kind f p ≡ true) ⊎ (not (is_taken f p) ≡ true)
covered Truthy p t d = absurd t
covered Falsy p t d = absurd t
covered (Only value) p t d = absurd t
covered Objects (Template owner name bound) t d = let wrong : false ≡ true = d in cc
covered Objects (Object name ts) t d = inl refl
covered Objects (Static name) t d = inl refl
covered Objects (Meeting names) t d = inl refl
covered Objects AnyObject t d = inl refl
covered Objects p t d = inr refl
covered Callables Callable t d = let wrong : false ≡ true = d in cc
covered Callables (Object name ts) t d = inl refl
covered Callables p t d = inr refl
covered f p t d = either (is_kind f p)
  where
    either : (b : Bool) → (b ≡ true) ⊎ (not b ≡ true)
    either true = inl refl
    either false = inr refl

flat_is : (f : Part → List Part) (k : Part → Bool) (ps : List Part) → ((p : Part) → In p ps → f p ≡ cond (k p) (p ∷ []) []) → flat_map f ps ≡ filter k ps
flat_is f k [] h = refl
flat_is f k (p ∷ ps) h = ap (λ qs. qs ++ flat_map f ps) (h p (inl refl)) ∙ ap (λ qs. cond (k p) (p ∷ []) [] ++ qs) (flat_is f k ps (λ q m. h q (inr m))) ∙ one_at (k p)
  where
    one_at : (b : Bool) → cond b (p ∷ []) [] ++ filter k ps ≡ cond b (p ∷ filter k ps) (filter k ps)
    one_at true = refl
    one_at false = refl

kind_narrows : (f : Filter) → IsKindTest f → (t u : PhpType) → cond (narrows f) t u ≡ t
kind_narrows Truthy k t u = absurd k
kind_narrows Falsy k t u = absurd k
kind_narrows (Only value) k t u = absurd k
kind_narrows f k t u = refl

module _ (f : Filter) (t : IsKindTest f) (ps : List Part) (s : IsSettled ps) (d : (p : Part) → In p ps → is_definite p ≡ true) where
  keep_is : keep f (of_parts ps) ≡ of_parts (filter (is_kind f) ps)
  keep_is =
      kind_narrows f t (normal (flat_map (kept f) (parts (of_parts ps)))) (of_parts ps)
      ∙ ap (λ (qs : List Part). normal (flat_map (kept f) qs)) (parts_again ps)
      ∙ ap normal (flat_is (kept f) (is_kind f) ps (λ p h. kept_at f p t (d p h)))
      ∙ settled_alike (filter (is_kind f) ps) (filter (is_kind f) ps) (some_settled (is_kind f) ps s) (λ z h. h) (λ z h. h)

  without_is : without f (of_parts ps) ≡ of_parts (filter (λ p. not (is_taken f p)) ps)
  without_is =
      kind_narrows f t (normal (flat_map (left f) (parts (of_parts ps)))) (of_parts ps)
      ∙ ap (λ (qs : List Part). normal (flat_map (left f) qs)) (parts_again ps)
      ∙ ap normal (flat_is (left f) (λ p. not (is_taken f p)) ps (λ p h. left_at f p t))
      ∙ settled_alike (filter (λ p. not (is_taken f p)) ps) (filter (λ p. not (is_taken f p)) ps) (some_settled (λ p. not (is_taken f p)) ps s) (λ z h. h) (λ z h. h)

  all_there : (z : Part) → In z ps → In z (filter (is_kind f) ps ++ filter (λ p. not (is_taken f p)) ps)
  all_there z h =
      elim (covered f z t (d z h)) [
        | inl e ↦ in_left z (filter (is_kind f) ps) (filter (λ p. not (is_taken f p)) ps) (in_filter (is_kind f) z ps h e)
        | inr e ↦ in_right z (filter (is_kind f) ps) (filter (λ p. not (is_taken f p)) ps) (in_filter (λ p. not (is_taken f p)) z ps h e)
      ]

  none_else : (z : Part) → In z (filter (is_kind f) ps ++ filter (λ p. not (is_taken f p)) ps) → In z ps
  none_else z h =
      elim (in_both z (filter (is_kind f) ps) (filter (λ p. not (is_taken f p)) ps) h)
      [ inl a ↦ (from_filter (is_kind f) z ps a).0 | inr b ↦ (from_filter (λ p. not (is_taken f p)) z ps b).0 ]

  pub settled_whole : union (keep f (of_parts ps)) (without f (of_parts ps)) ≡ of_parts ps
  settled_whole =
      ap (λ u. union u (without f (of_parts ps))) keep_is ∙ ap (union (of_parts (filter (is_kind f) ps))) without_is
      ∙ ap (λ (qs : List Part). normal (qs ++ parts (of_parts (filter (λ p. not (is_taken f p)) ps)))) (parts_again (filter (is_kind f) ps))
      ∙ ap (λ (qs : List Part). normal (filter (is_kind f) ps ++ qs)) (parts_again (filter (λ p. not (is_taken f p)) ps))
      ∙ settled_alike ps (filter (is_kind f) ps ++ filter (λ p. not (is_taken f p)) ps) s none_else all_there

whole_at : (f : Filter) (t : PhpType) → IsKindTest f → NormalOf t → ((p : Part) → In p (parts t) → is_definite p ≡ true) → union (keep f t) (without f t) ≡ t
whole_at f t k (explicit e) d = let wrong : false ≡ true = d ExplicitMixed (subst (λ u. In ExplicitMixed (parts u)) (sym e) (inl refl)) in cc
whole_at f t k (implicit e) d = let wrong : false ≡ true = d ImplicitMixed (subst (λ u. In ImplicitMixed (parts u)) (sym e) (inl refl)) in cc
whole_at f t k (parted ps e s) d =
    subst (λ u. union (keep f u) (without f u) ≡ u) (sym e)
    (settled_whole f k ps s (λ p h. d p (subst (λ u. In p (parts u)) (sym e) (subst (In p) (sym (parts_again ps)) h))))

pub whole_again : (f : Filter) (t : PhpType) → IsKindTest f → IsNormal t → ((p : Part) → In p (parts t) → is_definite p ≡ true) → union (keep f t) (without f t) ≡ t
whole_again f t k h d = whole_at f t k (form_of t h) d
