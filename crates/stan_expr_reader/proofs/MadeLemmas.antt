-- Nodes that operands are made of.
use Rattle.std.proofs.Common.{◌≡◌, ℕ, Bool, false, List, [], ◌∷◌, Some, refl, subst}
use Rattle.std.specs.Prelude.{map, IsTrue, ◌↔◌}
use Rattle.stan_model_grammar.specs.declared.operators.AssignmentOperator.{AssignmentOperator}
use Rattle.stan_model_grammar.specs.declared.token.Token.{Token}
use Rattle.stan_model_grammar.specs.Trees as model
use Rattle.stan_syntax.specs.declared.tree.Expr.{Expr, roll-Expr}
use Rattle.stan_syntax.specs.declared.tree.Form.{Form}
use Rattle.stan_syntax.specs.declared.tree.Form.TheVariants as forms
use Rattle.stan_syntax.specs.declared.tree.Suffix.{Suffix}
use Rattle.stan_syntax.specs.Tree.{tree_of, form_of, suffix_of}
use Rattle.stan_syntax.proofs.Layers.{tree-made, form-Post, form-Assignment}
use Rattle.stan_expr_rules.specs.Parse.{Read, with_suffixes, form_by, atom_with, assigned}
use Rattle.stan_expr_operators.proofs.MadeLemmas.{false_is_not_true, first_is}

pub suffixes_made : (b : Bool) (e : Expr) (ss : List Suffix) (at : ℕ) → (IsTrue b ↔ (ss ≡ [])) → b ≡ false → model.is_pattern (tree_of e) ≡ false
    → with_suffixes (tree_of e) (map suffix_of ss) at ≡ Some (tree_of (roll-Expr (record { first = e.first; form = forms.Post e ss })), at)
suffixes_made b e [] at h f p = absurd (false_is_not_true (subst IsTrue f (h.1 refl)))
suffixes_made b e (s ∷ ss) at h f p = rw (p, tree-made e.first (forms.Post e (s ∷ ss)), form-Post e (s ∷ ss), first_is e) refl

module _ (ts : List Token) (below : Bool → ℕ → ℕ → Read model.Tree) where
  -- what stands alone, with its first token
  pub atom_made : (t : Token) (f : Form) (at to : ℕ) → form_by ts below t.kind at ≡ Some (form_of f, to) → atom_with ts below t at ≡ Some (tree_of (roll-Expr (record { first = t; form = f })), to)
  unfolding atom_with
  atom_made t f at to read = rw (read, tree-made t f) refl

  -- a target with its value
  pub assigned_made : (target value : Expr) (o : AssignmentOperator) (at to : ℕ) → below false 24 at ≡ Some (tree_of value, to)
      → assigned ts below (tree_of target) o at ≡ Some (tree_of (roll-Expr (record { first = target.first; form = forms.Assignment target o value })), to)
  unfolding assigned
  assigned_made target value o at to read = rw (read, tree-made target.first (forms.Assignment target o value), form-Assignment target o value, first_is target) refl
