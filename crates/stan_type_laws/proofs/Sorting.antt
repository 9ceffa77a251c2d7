-- Items put in order: which ones stand there, and that nothing else could stand there in order.
use Rattle.std.proofs.Common.{◌≡◌, Bool, true, false, List, [], ◌∷◌, ◌++◌, refl, ap, sym, ◌∙◌, subst, inl, inr}
use Rattle.std.specs.Prelude.{◌⊎◌, filter, cond}
use Rattle.std.specs.Cmp.{IsTotalOrder}
use Rattle.std.specs.declared.cmp.Ordering.{Ordering}
use Rattle.std.specs.declared.cmp.Ordering.TheVariants.{Less, Equal, Greater}
use Rattle.std.specs.Ordering.{match_ordering, ordering_reverse}
use Rattle.std.proofs.lemmas.Cmp.{tied_itself}
use Rattle.stan_model_types.specs.NormalForms.{put, put_all, ordered}
use Rattle.stan_type_laws.specs.Members.{In, Rises, Tells}

pub in_left : {X : Type 0} (x : X) (xs ys : List X) → In x xs → In x (xs ++ ys)
in_left x [] ys h = absurd h
in_left x (y ∷ xs) ys (inl e) = inl e
in_left x (y ∷ xs) ys (inr h) = inr (in_left x xs ys h)

pub in_right : {X : Type 0} (x : X) (xs ys : List X) → In x ys → In x (xs ++ ys)
in_right x [] ys h = h
in_right x (y ∷ xs) ys h = inr (in_right x xs ys h)

pub in_both : {X : Type 0} (x : X) (xs ys : List X) → In x (xs ++ ys) → In x xs ⊎ In x ys
in_both x [] ys h = inr h
in_both x (y ∷ xs) ys (inl e) = inl (inl e)
in_both x (y ∷ xs) ys (inr h) = elim (in_both x xs ys h) [ inl a ↦ inl (inr a) | inr b ↦ inr b ]

filter_is : {X : Type 0} (f : X → Bool) (x : X) (xs : List X) (b : Bool) → f x ≡ b → filter f (x ∷ xs) ≡ cond b (x ∷ filter f xs) (filter f xs)
filter_is f x xs b e = ap (λ c. cond c (x ∷ filter f xs) (filter f xs)) e

module _ {X : Type 0} (f : X → Bool) where
  in_filter_at : (x y : X) (ys : List X) (b : Bool) → f y ≡ b → In x (y ∷ ys) → f x ≡ true → (In x ys → In x (filter f ys)) → In x (filter f (y ∷ ys))
  in_filter_at x y ys true e (inl s) t more = subst (In x) (sym (filter_is f y ys true e)) (inl s)
  in_filter_at x y ys true e (inr h) t more = subst (In x) (sym (filter_is f y ys true e)) (inr (more h))
  in_filter_at x y ys false e (inl s) t more = let wrong : f x ≡ false = ap f s ∙ e in cc
  in_filter_at x y ys false e (inr h) t more = subst (In x) (sym (filter_is f y ys false e)) (more h)

  pub in_filter : (x : X) (xs : List X) → In x xs → f x ≡ true → In x (filter f xs)
  in_filter x [] h t = absurd h
  in_filter x (y ∷ ys) h t = in_filter_at x y ys (f y) refl h t (λ k. in_filter x ys k t)

  from_filter_at : (x y : X) (ys : List X) (b : Bool) → f y ≡ b → In x (filter f (y ∷ ys)) → (In x (filter f ys) → In x ys × (f x ≡ true)) → In x (y ∷ ys) × (f x ≡ true)
  from_filter_at x y ys true e h more =
      elim (subst (In x) (filter_is f y ys true e) h) [ inl s ↦ (inl s, ap f s ∙ e) | inr k ↦ (inr (more k).0, (more k).1) ]
  from_filter_at x y ys false e h more = let k = more (subst (In x) (filter_is f y ys false e) h) in (inr k.0, k.1)

  pub from_filter : (x : X) (xs : List X) → In x (filter f xs) → In x xs × (f x ≡ true)
  from_filter x [] h = absurd h
  from_filter x (y ∷ ys) h = from_filter_at x y ys (f y) refl h (λ k. from_filter x ys k)

module _ {X : Type 0} (order : X → X → Ordering) where
  pub put_is : (p q : X) (qs : List X) (o : Ordering) → order p q ≡ o → put order p (q ∷ qs) ≡ match_ordering o (p ∷ q ∷ qs) (q ∷ qs) (q ∷ put order p qs)
  put_is p q qs o e = ap (λ k. match_ordering k (p ∷ q ∷ qs) (q ∷ qs) (q ∷ put order p qs)) e

  from_put_at : (p x q : X) (qs : List X) (o : Ordering) → order p q ≡ o → In x (put order p (q ∷ qs)) → (In x (put order p qs) → (x ≡ p) ⊎ In x qs) → (x ≡ p) ⊎ In x (q ∷ qs)
  from_put_at p x q qs Less e h more = subst (In x) (put_is p q qs Less e) h
  from_put_at p x q qs Equal e h more = inr (subst (In x) (put_is p q qs Equal e) h)
  from_put_at p x q qs Greater e h more =
      elim (subst (In x) (put_is p q qs Greater e) h) [ inl s ↦ inr (inl s) | inr k ↦ elim (more k) [ inl a ↦ inl a | inr b ↦ inr (inr b) ] ]

  pub from_put : (p x : X) (qs : List X) → In x (put order p qs) → (x ≡ p) ⊎ In x qs
  from_put p x [] h = h
  from_put p x (q ∷ qs) h = from_put_at p x q qs (order p q) refl h (λ k. from_put p x qs k)

  stays_at : (p x q : X) (qs : List X) (o : Ordering) → order p q ≡ o → In x (q ∷ qs) → (In x qs → In x (put order p qs)) → In x (put order p (q ∷ qs))
  stays_at p x q qs Less e h more = subst (In x) (sym (put_is p q qs Less e)) (inr h)
  stays_at p x q qs Equal e h more = subst (In x) (sym (put_is p q qs Equal e)) h
  stays_at p x q qs Greater e (inl s) more = subst (In x) (sym (put_is p q qs Greater e)) (inl s)
  stays_at p x q qs Greater e (inr k) more = subst (In x) (sym (put_is p q qs Greater e)) (inr (more k))

  pub stays : (p x : X) (qs : List X) → In x qs → In x (put order p qs)
  stays p x [] h = absurd h
  stays p x (q ∷ qs) h = stays_at p x q qs (order p q) refl h (λ k. stays p x qs k)

  -- an item stands there, or one that it ties with
  abbrev Stands : X → List X → Type 0
  Stands p qs = (q : X) × (In q qs × ((p ≡ q) ⊎ (order p q ≡ Equal)))

  put_stands_at : (p q : X) (qs : List X) (o : Ordering) → order p q ≡ o → Stands p (put order p qs) → Stands p (put order p (q ∷ qs))
  put_stands_at p q qs Less e more = (p, (subst (In p) (sym (put_is p q qs Less e)) (inl refl), inl refl))
  put_stands_at p q qs Equal e more = (q, (subst (In q) (sym (put_is p q qs Equal e)) (inl refl), inr e))
  put_stands_at p q qs Greater e more = (more.0, (subst (In more.0) (sym (put_is p q qs Greater e)) (inr more.1.0), more.1.1))

  put_stands : (p : X) (qs : List X) → Stands p (put order p qs)
  put_stands p [] = (p, (inl refl, inl refl))
  put_stands p (q ∷ qs) = put_stands_at p q qs (order p q) refl (put_stands p qs)

  pub from_put_all : (x : X) (ps qs : List X) → In x (put_all order ps qs) → In x ps ⊎ In x qs
  from_put_all x [] qs h = inr h
  from_put_all x (p ∷ ps) qs h =
      elim (from_put_all x ps (put order p qs) h) [ inl a ↦ inl (inr a) | inr b ↦ elim (from_put p x qs b) [ inl s ↦ inl (inl s) | inr c ↦ inr c ] ]

  pub all_stay : (x : X) (ps qs : List X) → In x qs → In x (put_all order ps qs)
  all_stay x [] qs h = h
  all_stay x (p ∷ ps) qs h = all_stay x ps (put order p qs) (stays p x qs h)

  all_stand : (x : X) (ps qs : List X) → In x ps → Stands x (put_all order ps qs)
  all_stand x [] qs h = absurd h
  all_stand x (p ∷ ps) qs (inl s) =
      let here : Stands p (put order p qs) = put_stands p qs in
      (here.0, (all_stay here.0 ps (put order p qs) here.1.0, subst (λ z. (z ≡ here.0) ⊎ (order z here.0 ≡ Equal)) (sym s) here.1.1))
  all_stand x (p ∷ ps) qs (inr h) = all_stand x ps (put order p qs) h

  pub from_ordered : (x : X) (xs : List X) → In x (ordered order xs) → In x xs
  from_ordered x xs h = elim (from_put_all x xs [] h) [ inl a ↦ a | inr b ↦ absurd b ]

  module _ (o : IsTotalOrder order) where
    turned : (x y : X) → order x y ≡ Greater → order y x ≡ Less
    turned x y e = o.antisymm y x ∙ ap ordering_reverse e

    -- below and equal at once is nothing
    pub never_both : (x y : X) → order x y ≡ Less → order y x ≡ Less → ⊥
    never_both x y e f = let back : order x y ≡ Greater = o.antisymm x y ∙ ap ordering_reverse f in cc

    pub not_itself : (x : X) → order x x ≡ Less → ⊥
    not_itself x e = let tie = tied_itself o x in cc

    put_rises_at : (p q : X) (qs : List X) (k : Ordering) → order p q ≡ k → Rises order (q ∷ qs) → Rises order (put order p qs) → Rises order (put order p (q ∷ qs))
    put_rises_at p q qs Less e (below, rest) more =
        subst (Rises order) (sym (put_is p q qs Less e))
        ((λ y h. elim h [ inl s ↦ ap (order p) s ∙ e | inr k ↦ o.trans p q y e (below y k) ]), (below, rest))
    put_rises_at p q qs Equal e (below, rest) more = subst (Rises order) (sym (put_is p q qs Equal e)) (below, rest)
    put_rises_at p q qs Greater e (below, rest) more =
        subst (Rises order) (sym (put_is p q qs Greater e))
        ((λ y h. elim (from_put p y qs h) [ inl s ↦ ap (order q) s ∙ turned p q e | inr k ↦ below y k ]), more)

    put_rises : (p : X) (qs : List X) → Rises order qs → Rises order (put order p qs)
    put_rises p [] h = ((λ y k. absurd k), tt)
    put_rises p (q ∷ qs) (below, rest) = put_rises_at p q qs (order p q) refl (below, rest) (put_rises p qs rest)

    put_all_rises : (ps qs : List X) → Rises order qs → Rises order (put_all order ps qs)
    put_all_rises [] qs h = h
    put_all_rises (p ∷ ps) qs h = put_all_rises ps (put order p qs) (put_rises p qs h)

    pub ordered_rises : (ps : List X) → Rises order (ordered order ps)
    ordered_rises ps = put_all_rises ps [] tt

    -- two items of a list that rises tie only where they are one
    pub tie_same : (xs : List X) → Rises order xs → Tells order xs
    tie_same [] r x y h k e = absurd h
    tie_same (z ∷ xs) (below, rest) x y (inl s) (inl t) e = s ∙ sym t
    tie_same (z ∷ xs) (below, rest) x y (inl s) (inr k) e = let less : order x y ≡ Less = ap (λ w. order w y) s ∙ below y k in cc
    tie_same (z ∷ xs) (below, rest) x y (inr h) (inl t) e =
        let less : order y x ≡ Less = ap (λ w. order w x) t ∙ below x h in let back : order x y ≡ Greater = o.antisymm x y ∙ ap ordering_reverse less in cc
    tie_same (z ∷ xs) (below, rest) x y (inr h) (inr k) e = tie_same xs rest x y h k e

    first_same : (x y : X) (xs ys : List X) → Rises order (x ∷ xs) → Rises order (y ∷ ys) → In x (y ∷ ys) → In y (x ∷ xs) → x ≡ y
    first_same x y xs ys r s (inl e) k = e
    first_same x y xs ys r s (inr h) (inl e) = sym e
    first_same x y xs ys r s (inr h) (inr k) = absurd (never_both x y (r.0 y k) (s.0 x h))

    after : (x y z : X) (xs ys : List X) → Rises order (x ∷ xs) → x ≡ y → In z xs → In z (y ∷ ys) → In z ys
    after x y z xs ys r e h (inl s) = absurd (not_itself x (ap (order x) (e ∙ sym s) ∙ r.0 z h))
    after x y z xs ys r e h (inr k) = k

    -- lists that rise and have the same items are one
    pub unique : (xs ys : List X) → Rises order xs → Rises order ys → ((z : X) → In z xs → In z ys) → ((z : X) → In z ys → In z xs) → xs ≡ ys
    unique [] [] r s to back = refl
    unique [] (y ∷ ys) r s to back = absurd (back y (inl refl))
    unique (x ∷ xs) [] r s to back = absurd (to x (inl refl))
    unique (x ∷ xs) (y ∷ ys) r s to back =
        let e : x ≡ y = first_same x y xs ys r s (to x (inl refl)) (back y (inl refl)) in
        ap (λ z. z ∷ xs) e
        ∙ ap (λ zs. y ∷ zs) (unique xs ys r.1 s.1 (λ z h. after x y z xs ys r e h (to z (inr h))) (λ z h. after y x z ys xs s (sym e) h (back z (inr h))))

    stands_is : (x : X) (ys : List X) → ((z : X) → In z ys → order x z ≡ Equal → x ≡ z) → Stands x ys → In x ys
    stands_is x ys same found =
        elim found.1.1 [ inl e ↦ subst (λ z. In z ys) (sym e) found.1.0 | inr e ↦ subst (λ z. In z ys) (sym (same found.0 found.1.0 e)) found.1.0 ]

    -- where items that tie are equal, those in order are those
    pub to_ordered : (x : X) (xs : List X) → Tells order xs → In x xs → In x (ordered order xs)
    to_ordered x xs tells h = stands_is x (ordered order xs) (λ z k e. tells x z h (from_ordered z xs k) e) (all_stand x xs [] h)

    -- items of a list that rises, all of them, are that list in order
    pub ordered_same : (xs ys : List X) → Rises order xs → ((z : X) → In z ys → In z xs) → ((z : X) → In z xs → In z ys) → ordered order ys ≡ xs
    ordered_same xs ys r to back =
        unique (ordered order ys) xs (ordered_rises ys) r
        (λ z h. to z (from_ordered z ys h))
        (λ z h. to_ordered z ys (λ x y a b e. tie_same xs r x y (to x a) (to y b) e) (back z h))

    pub ordered_alike : (xs ys : List X) → Tells order xs → ((z : X) → In z ys → In z xs) → ((z : X) → In z xs → In z ys) → ordered order xs ≡ ordered order ys
    ordered_alike xs ys tells to back =
        unique (ordered order xs) (ordered order ys) (ordered_rises xs) (ordered_rises ys)
        (λ z h. to_ordered z ys (λ x y a b e. tells x y (to x a) (to y b) e) (back z (from_ordered z xs h)))
        (λ z h. to_ordered z xs tells (to z (from_ordered z ys h)))
