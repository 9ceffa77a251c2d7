-- The union of types doesn't depend on which comes first.
use Rattle.std.proofs.Common.{◌≡◌, ℕ, suc, List, [], ◌∷◌, ◌++◌, refl, ap, sym, ◌∙◌, subst, inl, inr}
use Rattle.stan_model_types.specs.Types.{PhpType, Part, ImplicitMixed, ExplicitMixed, parts}
use Rattle.stan_model_types.specs.TypeBytes.{part_order}
use Rattle.stan_model_types.specs.NormalForms.{IsNormal, normal, normal_within, ordered, settled, union}
use Rattle.stan_type_laws.specs.Members.{In, Tells}
use Rattle.stan_type_laws.specs.Settled.{IsWhole}
use Rattle.stan_type_laws.proofs.Sorting.{in_both, in_left, in_right, ordered_alike}
use Rattle.stan_type_laws.proofs.Ranges.{parts_total}
use Rattle.stan_type_laws.proofs.Settling.{all_whole}
use Rattle.stan_type_laws.proofs.Again.{NormalOf, explicit, implicit, parted, form_of, parts_again}

only_whole : (q p : Part) → IsWhole q → In p (q ∷ []) → IsWhole p
only_whole q p w (inl e) = subst IsWhole (sym e) w
only_whole q p w (inr h) = absurd h

wholes_at : (t : PhpType) → NormalOf t → (p : Part) → In p (parts t) → IsWhole p
wholes_at t (explicit e) p h = only_whole ExplicitMixed p (λ make. refl) (subst (λ u. In p (parts u)) e h)
wholes_at t (implicit e) p h = only_whole ImplicitMixed p (λ make. refl) (subst (λ u. In p (parts u)) e h)
wholes_at t (parted ps e s) p h = s.whole p (subst (In p) (parts_again ps) (subst (λ u. In p (parts u)) e h))

pub wholes_of : (t : PhpType) → IsNormal t → (p : Part) → In p (parts t) → IsWhole p
wholes_of t h = wholes_at t (form_of t h)

within_alike : (n : ℕ) (ps qs : List Part) → ((p : Part) → In p ps → IsWhole p) → ((p : Part) → In p qs → In p ps) → ((p : Part) → In p ps → In p qs) → Tells part_order ps → normal_within (suc n) ps ≡ normal_within (suc n) qs
unfolding normal_within
within_alike n ps qs w to back tells =
    ap (λ xs. settled (normal_within n) (ordered part_order xs)) (all_whole (normal_within n) ps w)
    ∙ ap (settled (normal_within n)) (ordered_alike part_order parts_total ps qs tells to back)
    ∙ sym (ap (λ xs. settled (normal_within n) (ordered part_order xs)) (all_whole (normal_within n) qs (λ p h. w p (to p h))))

-- parts of which each is alone what it is have one normal form in any order and number
pub normal_alike : (ps qs : List Part) → ((p : Part) → In p ps → IsWhole p) → ((p : Part) → In p qs → In p ps) → ((p : Part) → In p ps → In p qs) → Tells part_order ps → normal ps ≡ normal qs
unfolding normal
normal_alike ps qs w to back tells = within_alike 65 ps qs w to back tells

turned : {X : Type 0} (xs ys : List X) (x : X) → In x (xs ++ ys) → In x (ys ++ xs)
turned xs ys x h = elim (in_both x xs ys h) [ inl a ↦ in_right x ys xs a | inr b ↦ in_left x ys xs b ]

pub commutes : (t u : PhpType) → IsNormal t → IsNormal u → Tells part_order (parts t ++ parts u) → union t u ≡ union u t
commutes t u h k tells =
    normal_alike (parts t ++ parts u) (parts u ++ parts t)
    (λ p m. elim (in_both p (parts t) (parts u) m) [ inl a ↦ wholes_of t h p a | inr b ↦ wholes_of u k p b ])
    (turned (parts u) (parts t)) (turned (parts t) (parts u)) tells
