-- What the order of types says of their equality.
use Rattle.std.proofs.Common.{◌≡◌, ℕ, List, [], ◌++◌, refl, ap, sym, ◌∙◌, append-nil}
use Rattle.std.specs.declared.cmp.Ordering.{Ordering}
use Rattle.std.specs.declared.cmp.Ordering.TheVariants.{Less, Equal, Greater}
use Rattle.std.specs.Ordering.{nat_cmp, ordering_then}
use Rattle.std.specs.Cmp.Lexicographic.{slice_cmp}
use Rattle.std.proofs.lemmas.Cmp.{nat_list_cmp_total, tied_itself}
use Rattle.stan_model_types.specs.Types.{PhpType}
use Rattle.stan_model_types.specs.TypeBytes.{type_bytes}
use Rattle.stan_type_order.specs.Order.{Decides}

ordering_then-equal : (o : Ordering) → ordering_then o Equal ≡ o
ordering_then-equal Less = refl
ordering_then-equal Equal = refl
ordering_then-equal Greater = refl

-- the answer that decides is the order
pub answer_is : (o : Ordering) (a b : List ℕ) → Decides o a b → slice_cmp nat_cmp a b ≡ o
answer_is o a b d =
    ap (λ bs. slice_cmp nat_cmp bs b) (sym (append-nil a)) ∙ ap (slice_cmp nat_cmp (a ++ [])) (sym (append-nil b)) ∙ d [] [] ∙ ordering_then-equal o

-- equal types tie
pub equal_ties : (o : Ordering) (t u : PhpType) → o ≡ slice_cmp nat_cmp (type_bytes t) (type_bytes u) → t ≡ u → o ≡ Equal
equal_ties o t u e same = e ∙ ap (λ v. slice_cmp nat_cmp (type_bytes t) (type_bytes v)) (sym same) ∙ tied_itself nat_list_cmp_total (type_bytes t)

pub less_differs : (t u : PhpType) → Less ≡ slice_cmp nat_cmp (type_bytes t) (type_bytes u) → t ≡ u → ⊥
less_differs t u e same = let tie = equal_ties Less t u e same in cc

pub greater_differs : (t u : PhpType) → Greater ≡ slice_cmp nat_cmp (type_bytes t) (type_bytes u) → t ≡ u → ⊥
greater_differs t u e same = let tie = equal_ties Greater t u e same in cc
