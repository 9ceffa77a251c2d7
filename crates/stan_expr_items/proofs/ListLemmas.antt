-- Lists of the program as lists of the model.
use Rattle.std.proofs.Common.{◌≡◌, List, [], ◌∷◌, refl, ap}
use Rattle.std.specs.Prelude.{map}
use Rattle.stan_model_grammar.specs.Trees as model
use Rattle.stan_syntax.specs.declared.tree.Expr.{Expr}
use Rattle.stan_syntax.specs.Tree.{tree_of}

pub positional_maps : (es : List Expr) → map (λ e. model.Positional (tree_of e)) es ≡ map model.Positional (map tree_of es)
positional_maps [] = refl
positional_maps (e ∷ es) = ap (λ xs. model.Positional (tree_of e) ∷ xs) (positional_maps es)
