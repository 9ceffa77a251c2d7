-- The order of faults, and that their members determine a list in order.
use Rattle.std.proofs.Common.{◌≡◌, List, refl}
use Rattle.std.specs.declared.cmp.Ordering.{Ordering}
use Rattle.std.specs.declared.cmp.Ordering.TheVariants.{Less, Equal, Greater}
use Rattle.std.specs.Ordering.{ordering_then}
use Rattle.std.specs.Cmp.{IsTotalOrder, then_total, on_total, nat_cmp_total}
use Rattle.std.specs.Cmp.Lexicographic.{nat_list_cmp_total}
use Rattle.std.specs.List.{Contains}
use Rattle.std.specs.List.Sorted.{IsStrictlySortedBy}
use Rattle.std.specs.FinMap as finite
use Rattle.std.specs.FinMap.{IsAntisymmetric, nat_cmp-IsAntisymmetric, slice_cmp-IsAntisymmetric}
use Rattle.stan_base.proofs.Orders.{members_in_order_are, members_in_order_alike}
use Rattle.stan_model_verdict.specs.Fault.{Fault, fault_cmp, in_order}

pub fault_cmp_total : IsTotalOrder fault_cmp
fault_cmp_total = then_total (on_total (λ (f : Fault). f.line) nat_cmp_total) (then_total (on_total (λ (f : Fault). f.rule) nat_cmp_total) (on_total (λ (f : Fault). f.text) nat_list_cmp_total))

-- an order that decides equality, through a part, and then another
equal_parts : (a b : Ordering) → ordering_then a b ≡ Equal → (a ≡ Equal) × (b ≡ Equal)
equal_parts Less b e = cc
equal_parts Equal b e = (refl, e)
equal_parts Greater b e = cc

pub fault_cmp-IsAntisymmetric : IsAntisymmetric fault_cmp
fault_cmp-IsAntisymmetric x y e =
    let line = equal_parts _ _ e in
    let rule = equal_parts _ _ line.1 in
    let lines = nat_cmp-IsAntisymmetric _ _ line.0 in
    let rules = nat_cmp-IsAntisymmetric _ _ rule.0 in
    let texts = slice_cmp-IsAntisymmetric nat_cmp-IsAntisymmetric _ _ rule.1 in
    λ i. record { line = lines i; rule = rules i; text = texts i }

-- a list of faults in strict order with the members of another
pub in_order_is : (faults ys : List Fault) → IsStrictlySortedBy fault_cmp ys → ((f : Fault) → Contains faults f → Contains ys f) → ((f : Fault) → Contains ys f → Contains faults f) → ys ≡ in_order faults
in_order_is = members_in_order_are fault_cmp_total fault_cmp-IsAntisymmetric

-- lists with the same members
pub in_order_alike : (xs ys : List Fault) → ((f : Fault) → Contains xs f → Contains ys f) → ((f : Fault) → Contains ys f → Contains xs f) → in_order xs ≡ in_order ys
in_order_alike = members_in_order_alike fault_cmp_total fault_cmp-IsAntisymmetric
