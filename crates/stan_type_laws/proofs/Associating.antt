-- Types whose parts all stand together in one normal form may be united in any order.
use Rattle.std.proofs.Common.{◌≡◌, Bool, true, false, List, ◌++◌, refl, ap, sym, ◌∙◌, subst, inl, inr}
use Rattle.std.specs.Prelude.{filter}
use Rattle.std.specs.List.{list_any}
use Rattle.std.specs.Ordering.{match_ordering}
use Rattle.std.specs.declared.cmp.Ordering.{Ordering}
use Rattle.std.specs.declared.cmp.Ordering.TheVariants.{Less, Equal, Greater}
use Rattle.std.proofs.lemmas.Cmp.{tied_itself}
use Rattle.stan_model_types.specs.Types.{PhpType, Part, parts, of_parts}
use Rattle.stan_model_types.specs.TypeBytes.{part_order}
use Rattle.stan_model_types.specs.NormalForms.{normal, union}
use Rattle.stan_type_laws.specs.Laws.{Together}
use Rattle.stan_type_laws.specs.Members.{In}
use Rattle.stan_type_laws.specs.Settled.{IsSettled}
use Rattle.stan_type_laws.proofs.Sorting.{from_filter, in_both, in_filter, in_left, in_right, tie_same}
use Rattle.stan_type_laws.proofs.Ranges.{parts_total}
use Rattle.stan_type_laws.proofs.Normals.{any_at, some_any}
use Rattle.stan_type_laws.proofs.Again.{parts_again, settled_alike}
use Rattle.stan_type_laws.proofs.Tests.{some_settled}

abbrev ties : Part → Part → Bool
ties z y = match_ordering (part_order z y) false true false

abbrev among : List Part → Part → Bool
among xs z = list_any (ties z) xs

tie_true : (o : Ordering) → match_ordering o false true false ≡ true → o ≡ Equal
tie_true Less e = let wrong : false ≡ true = e in cc
tie_true Equal e = refl
tie_true Greater e = let wrong : false ≡ true = e in cc

module _ (ps : List Part) (s : IsSettled ps) (xs : List Part) (all : (y : Part) → In y xs → In y ps) where
  among_in : (z : Part) → In z ps → among xs z ≡ true → In z xs
  among_in z h e =
      let found = some_any (ties z) xs e in
      let same : z ≡ found.0 = tie_same part_order parts_total ps s.rises z found.0 h (all found.0 found.1.0) (tie_true (part_order z found.0) found.1.1) in
      subst (λ y. In y xs) (sym same) found.1.0

  in_among : (z : Part) → In z xs → among xs z ≡ true
  in_among z h = any_at (ties z) z xs h (ap (λ o. match_ordering o false true false) (tied_itself parts_total z))

  some_in : (z : Part) → In z (filter (among xs) ps) → In z xs
  some_in z h = let k = from_filter (among xs) z ps h in among_in z k.0 k.1

  in_some : (z : Part) → In z xs → In z (filter (among xs) ps)
  in_some z h = in_filter (among xs) z ps (all z h) (in_among z h)

  some_normal : normal xs ≡ of_parts (filter (among xs) ps)
  some_normal = settled_alike (filter (among xs) ps) xs (some_settled (among xs) ps s) in_some some_in

module _ (t u v : PhpType) (h : Together t u v) where
  abbrev whole : List Part
  whole = h.together

  of_first : (z : Part) → In z (parts t) → In z whole
  of_first z k = h.all z (in_left z (parts t) (parts u ++ parts v) k)

  of_second : (z : Part) → In z (parts u) → In z whole
  of_second z k = h.all z (in_right z (parts t) (parts u ++ parts v) (in_left z (parts u) (parts v) k))

  of_third : (z : Part) → In z (parts v) → In z whole
  of_third z k = h.all z (in_right z (parts t) (parts u ++ parts v) (in_right z (parts u) (parts v) k))

  first_two : (z : Part) → In z (parts t ++ parts u) → In z whole
  first_two z k = elim (in_both z (parts t) (parts u) k) [ inl a ↦ of_first z a | inr b ↦ of_second z b ]

  last_two : (z : Part) → In z (parts u ++ parts v) → In z whole
  last_two z k = elim (in_both z (parts u) (parts v) k) [ inl a ↦ of_second z a | inr b ↦ of_third z b ]

  to_left : (z : Part) → In z whole → In z (filter (among (parts t ++ parts u)) whole ++ parts v)
  to_left z k =
      elim (in_both z (parts t) (parts u ++ parts v) (h.only z k)) [
        | inl a ↦ in_left z (filter (among (parts t ++ parts u)) whole) (parts v) (in_some whole h.settled (parts t ++ parts u) first_two z (in_left z (parts t) (parts u) a))
        | inr b ↦ elim (in_both z (parts u) (parts v) b) [
          | inl c ↦ in_left z (filter (among (parts t ++ parts u)) whole) (parts v) (in_some whole h.settled (parts t ++ parts u) first_two z (in_right z (parts t) (parts u) c))
          | inr d ↦ in_right z (filter (among (parts t ++ parts u)) whole) (parts v) d
        ]
      ]

  to_right : (z : Part) → In z whole → In z (parts t ++ filter (among (parts u ++ parts v)) whole)
  to_right z k =
      elim (in_both z (parts t) (parts u ++ parts v) (h.only z k)) [
        | inl a ↦ in_left z (parts t) (filter (among (parts u ++ parts v)) whole) a
        | inr b ↦ in_right z (parts t) (filter (among (parts u ++ parts v)) whole) (in_some whole h.settled (parts u ++ parts v) last_two z b)
      ]

  left_is : union (union t u) v ≡ of_parts whole
  left_is =
      ap (λ w. union w v) (some_normal whole h.settled (parts t ++ parts u) first_two)
      ∙ ap (λ (qs : List Part). normal (qs ++ parts v)) (parts_again (filter (among (parts t ++ parts u)) whole))
      ∙ settled_alike whole (filter (among (parts t ++ parts u)) whole ++ parts v) h.settled
      (λ z k. elim (in_both z (filter (among (parts t ++ parts u)) whole) (parts v) k) [ inl a ↦ (from_filter (among (parts t ++ parts u)) z whole a).0 | inr b ↦ of_third z b ])
      to_left

  right_is : union t (union u v) ≡ of_parts whole
  right_is =
      ap (union t) (some_normal whole h.settled (parts u ++ parts v) last_two)
      ∙ ap (λ (qs : List Part). normal (parts t ++ qs)) (parts_again (filter (among (parts u ++ parts v)) whole))
      ∙ settled_alike whole (parts t ++ filter (among (parts u ++ parts v)) whole) h.settled
      (λ z k. elim (in_both z (parts t) (filter (among (parts u ++ parts v)) whole) k) [ inl a ↦ of_first z a | inr b ↦ (from_filter (among (parts u ++ parts v)) z whole b).0 ])
      to_right

  pub associates : union (union t u) v ≡ union t (union u v)
  associates = left_is ∙ sym right_is
