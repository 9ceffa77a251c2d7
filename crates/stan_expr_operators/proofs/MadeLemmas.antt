-- Nodes that hold lists.
use Rattle.std.proofs.Common.{◌≡◌, ℕ, ◌+◌, Bool, false, List, [], ◌∷◌, Some, refl, ap, subst}
use Rattle.std.specs.Prelude.{map, slice_get, IsTrue, ◌↔◌}
use Rattle.stan_syntax.specs.declared.tree.Expr.{Expr, roll-Expr}
use Rattle.stan_syntax.specs.declared.tree.Form.TheVariants as forms
use Rattle.stan_syntax.specs.declared.tree.Operation.{Operation}
use Rattle.stan_syntax.specs.Tree.{tree_of, operation_of}
use Rattle.stan_syntax.proofs.Layers.{tree_fields, tree-made, form-Chain, form-Binary}
use Rattle.stan_model_grammar.specs.declared.operators.BinaryOperator.{BinaryOperator}
use Rattle.stan_model_grammar.specs.declared.token.Token.{Token}
use Rattle.stan_model_grammar.specs.Strata.{binary_size, binary_stratum, fixity, right_side}
use Rattle.stan_model_grammar.specs.Trees.{Tree}
use Rattle.stan_expr_rules.specs.Parse.{Read, first_of, with_operations, binary}

pub false_is_not_true : IsTrue false → ⊥
false_is_not_true h = cc

pub first_is : (e : Expr) → first_of (tree_of e) ≡ e.first
first_is e = ap first_of (tree_fields e)

pub operations_made : (b : Bool) (e : Expr) (os : List Operation) → (IsTrue b ↔ (os ≡ [])) → b ≡ false
    → with_operations (tree_of e) (map operation_of os) ≡ tree_of (roll-Expr (record { first = e.first; form = forms.Chain e os }))
operations_made b e [] h f = absurd (false_is_not_true (subst IsTrue f (h.1 refl)))
operations_made b e (o ∷ os) h f = rw (tree-made e.first (forms.Chain e (o ∷ os)), form-Chain e (o ∷ os), first_is e) refl

-- an operator with both sides
pub binary_made : (ts : List Token) (below : Bool → ℕ → ℕ → Read Tree) (left right : Expr) (t : Token) (o : BinaryOperator) (at to : ℕ) → slice_get ts at ≡ Some t
    → below false (right_side (fixity o) (binary_stratum o)) (at + binary_size o) ≡ Some (tree_of right, to)
    → binary ts below (tree_of left) o at ≡ Some (tree_of (roll-Expr (record { first = left.first; form = forms.Binary left t o right })), to)
unfolding binary
binary_made ts below left right t o at to s b = rw (s, b, tree-made left.first (forms.Binary left t o right), form-Binary left t o right, first_is left) refl
