-- Lists that rise, merged, rise, and hold the parts of both.
use Rattle.std.proofs.Common.{◌≡◌, List, [], ◌∷◌, ◌++◌, refl, ap, sym, ◌∙◌, subst, inl, inr}
use Rattle.std.specs.Prelude.{◌⊎◌, Err, Ok, OnOk, Result}
use Rattle.std.specs.declared.cmp.Ordering.{Ordering}
use Rattle.std.specs.declared.cmp.Ordering.TheVariants.{Less, Equal, Greater}
use Rattle.std.specs.Ordering.{match_ordering, ordering_reverse}
use Rattle.stan_model_types.specs.Types.{Part}
use Rattle.stan_model_types.specs.TypeBytes.{part_order}
use Rattle.stan_type_laws.specs.Members.{In, Rises}
use Rattle.stan_type_laws.proofs.Sorting.{in_both, in_left, in_right}
use Rattle.stan_type_laws.proofs.Ranges.{parts_total}
use Rattle.stan_type_merge.specs.Merge.{AreTied, IsTied, above, below, merge}

below_is : (p q : Part) (qs : List Part) (o : Ordering) → part_order q p ≡ o → below p (q ∷ qs) ≡ match_ordering o (q ∷ below p qs) [] []
below_is p q qs o e = ap (λ k. match_ordering k (q ∷ below p qs) [] []) e

above_is : (p q : Part) (qs : List Part) (o : Ordering) → part_order q p ≡ o → above p (q ∷ qs) ≡ match_ordering o (above p qs) qs (q ∷ qs)
above_is p q qs o e = ap (λ k. match_ordering k (above p qs) qs (q ∷ qs)) e

-- ---- one part compared with the first of others

module _ (p q : Part) (qs ps : List Part) (e : ps ≡ q ∷ qs) where
  pub below_less : part_order q p ≡ Less → below p ps ≡ q ∷ below p qs
  below_less o = ap (below p) e ∙ below_is p q qs Less o

  pub above_less : part_order q p ≡ Less → above p ps ≡ above p qs
  above_less o = ap (above p) e ∙ above_is p q qs Less o

  pub below_equal : part_order q p ≡ Equal → below p ps ≡ []
  below_equal o = ap (below p) e ∙ below_is p q qs Equal o

  pub above_equal : part_order q p ≡ Equal → above p ps ≡ qs
  above_equal o = ap (above p) e ∙ above_is p q qs Equal o

  pub below_greater : part_order q p ≡ Greater → below p ps ≡ []
  below_greater o = ap (below p) e ∙ below_is p q qs Greater o

  pub above_greater : part_order q p ≡ Greater → above p ps ≡ ps
  above_greater o = ap (above p) e ∙ above_is p q qs Greater o ∙ sym e

  pub tied_less : part_order q p ≡ Less → IsTied p qs → IsTied p ps
  tied_less o t = subst (IsTied p) (sym e) ((λ f. t), (λ f. absurd (let wrong : Less ≡ Equal = sym o ∙ f in cc)))

  pub tied_equal : part_order q p ≡ Equal → q ≡ p → IsTied p ps
  tied_equal o same = subst (IsTied p) (sym e) ((λ f. absurd (let wrong : Equal ≡ Less = sym o ∙ f in cc)), (λ f. same))

  pub tied_greater : part_order q p ≡ Greater → IsTied p ps
  tied_greater o = subst (IsTied p) (sym e) ((λ f. absurd (let wrong : Greater ≡ Less = sym o ∙ f in cc)), (λ f. absurd (let wrong : Greater ≡ Equal = sym o ∙ f in cc)))

pub on_ok : {A E P Q : Type 0} (r : Result A E) → (P → Q) → OnOk r P → OnOk r Q
on_ok (Ok x) f h = f h
on_ok (Err e) f h = h

turned : (x y : Part) → part_order x y ≡ Greater → part_order y x ≡ Less
turned x y e = parts_total.antisymm y x ∙ ap ordering_reverse e

-- ---- the parts below and above one

record Parted (p : Part) (qs : List Part) : Type 0 where
  pub lower : (z : Part) → In z (below p qs) → In z qs × (part_order z p ≡ Less)
  pub upper : (z : Part) → In z (above p qs) → In z qs × (part_order p z ≡ Less)
  pub all : (z : Part) → In z qs → In z (below p qs) ⊎ ((z ≡ p) ⊎ In z (above p qs))
  pub lower_rises : Rises part_order (below p qs)
  pub upper_rises : Rises part_order (above p qs)

parted_at : (p q : Part) (qs : List Part) (o : Ordering) → part_order q p ≡ o → Rises part_order (q ∷ qs) → IsTied p (q ∷ qs) → (IsTied p qs → Parted p qs) → Parted p (q ∷ qs)
parted_at p q qs Less e r t more =
    let rest : Parted p qs = more (t.0 e) in
    record {
      lower = λ z h. elim (subst (In z) (below_is p q qs Less e) h) [ inl s ↦ (inl s, ap (λ x. part_order x p) s ∙ e) | inr k ↦ (inr (rest.lower z k).0, (rest.lower z k).1) ];
      upper = λ z h. let k = rest.upper z (subst (In z) (above_is p q qs Less e) h) in (inr k.0, k.1);
      all = λ z h. elim h [
        | inl s ↦ inl (subst (In z) (sym (below_is p q qs Less e)) (inl s))
        | inr m ↦ elim (rest.all z m) [
          | inl a ↦ inl (subst (In z) (sym (below_is p q qs Less e)) (inr a))
          | inr k ↦ elim k [ inl b ↦ inr (inl b) | inr c ↦ inr (inr (subst (In z) (sym (above_is p q qs Less e)) c)) ]
        ]
      ];
      lower_rises = subst (Rises part_order) (sym (below_is p q qs Less e)) ((λ y h. r.0 y (rest.lower y h).0), rest.lower_rises);
      upper_rises = subst (Rises part_order) (sym (above_is p q qs Less e)) rest.upper_rises;
    }
parted_at p q qs Equal e r t more =
    record {
      lower = λ z h. absurd (subst (In z) (below_is p q qs Equal e) h);
      upper = λ z h. let k = subst (In z) (above_is p q qs Equal e) h in (inr k, ap (λ x. part_order x z) (sym (t.1 e)) ∙ r.0 z k);
      all = λ z h. elim h [ inl s ↦ inr (inl (s ∙ t.1 e)) | inr m ↦ inr (inr (subst (In z) (sym (above_is p q qs Equal e)) m)) ];
      lower_rises = subst (Rises part_order) (sym (below_is p q qs Equal e)) tt;
      upper_rises = subst (Rises part_order) (sym (above_is p q qs Equal e)) r.1;
    }
parted_at p q qs Greater e r t more =
    record {
      lower = λ z h. absurd (subst (In z) (below_is p q qs Greater e) h);
      upper = λ z h. let k = subst (In z) (above_is p q qs Greater e) h in
          (k, elim k [ inl s ↦ ap (part_order p) s ∙ turned q p e | inr m ↦ parts_total.trans p q z (turned q p e) (r.0 z m) ]);
      all = λ z h. inr (inr (subst (In z) (sym (above_is p q qs Greater e)) h));
      lower_rises = subst (Rises part_order) (sym (below_is p q qs Greater e)) tt;
      upper_rises = subst (Rises part_order) (sym (above_is p q qs Greater e)) r;
    }

parted : (p : Part) (qs : List Part) → Rises part_order qs → IsTied p qs → Parted p qs
parted p [] r t = record { lower = λ z h. absurd h; upper = λ z h. absurd h; all = λ z h. absurd h; lower_rises = tt; upper_rises = tt }
parted p (q ∷ qs) r t = parted_at p q qs (part_order q p) refl r t (λ k. parted p qs r.1 k)

-- ---- both lists

rises_around : (xs : List Part) (p : Part) (ys : List Part) → Rises part_order xs → ((z : Part) → In z xs → part_order z p ≡ Less) → Rises part_order (p ∷ ys) → Rises part_order (xs ++ p ∷ ys)
rises_around [] p ys r low s = s
rises_around (x ∷ xs) p ys r low s = (
  (λ z h. elim (in_both z xs (p ∷ ys) h) [
    | inl a ↦ r.0 z a
    | inr b ↦ elim b [ inl e ↦ ap (part_order x) e ∙ low x (inl refl) | inr c ↦ parts_total.trans x p z (low x (inl refl)) (s.0 z c) ]
  ]),
  rises_around xs p ys r.1 (λ z h. low z (inr h)) s,
)

pub record Merges (ps qs : List Part) : Type 0 where
  pub rises : Rises part_order (merge ps qs)
  pub from : (z : Part) → In z (merge ps qs) → In z ps ⊎ In z qs
  pub first : (z : Part) → In z ps → In z (merge ps qs)
  pub second : (z : Part) → In z qs → In z (merge ps qs)

one_more : (p : Part) (ps qs : List Part) → Rises part_order (p ∷ ps) → Parted p qs → Merges ps (above p qs) → Merges (p ∷ ps) qs
one_more p ps qs r cut more = record {
  rises = rises_around (below p qs) p (merge ps (above p qs)) cut.lower_rises (λ z h. (cut.lower z h).1)
      ((λ z h. elim (more.from z h) [ inl a ↦ r.0 z a | inr b ↦ (cut.upper z b).1 ]), more.rises);
  from = λ z h. elim (in_both z (below p qs) (p ∷ merge ps (above p qs)) h) [
    | inl a ↦ inr (cut.lower z a).0
    | inr b ↦ elim b [ inl e ↦ inl (inl e) | inr c ↦ elim (more.from z c) [ inl d ↦ inl (inr d) | inr f ↦ inr (cut.upper z f).0 ] ]
  ];
  first = λ z h. in_right z (below p qs) (p ∷ merge ps (above p qs)) (elim h [ inl e ↦ inl e | inr k ↦ inr (more.first z k) ]);
  second = λ z h. elim (cut.all z h) [
    | inl a ↦ in_left z (below p qs) (p ∷ merge ps (above p qs)) a
    | inr k ↦ in_right z (below p qs) (p ∷ merge ps (above p qs)) (elim k [ inl e ↦ inl e | inr c ↦ inr (more.second z c) ])
  ];
}

pub merges : (ps qs : List Part) → Rises part_order ps → Rises part_order qs → AreTied ps qs → Merges ps qs
merges [] qs r s t = record { rises = s; from = λ z h. inr h; first = λ z h. absurd h; second = λ z h. h }
merges (p ∷ ps) qs r s t = let cut : Parted p qs = parted p qs s t.0 in one_more p ps qs r cut (merges ps (above p qs) r.1 cut.upper_rises t.1)
