-- What parameters in round brackets put, item by item.
use Rattle.std.proofs.Common.{◌≡◌, Bool, true, false, List, [], ◌∷◌, None, refl, ap, map}
use Rattle.stan_model_statements.specs.Rules as r
use Rattle.stan_model_statements.specs.TreeLists as lists
use Rattle.stan_model_files.specs.Put.{put_parameters, further_parameters}
use Rattle.stan_model_files.specs.Shapes.{Shape, nil, mark}
use Rattle.stan_stmt_trees.specs.Tree.{parameter_of}
use Rattle.stan_stmt_trees.specs.declared.statement.Parameter.{Parameter}
use Rattle.stan_stmt_parts.specs.Parse.{standing, items}
use Rattle.stan_stmt_lists.proofs.ListLemmas.{ends}
use Rattle.stan_stmt_lists.specs.Views.{closing_of}
use Rattle.stan_stmt_types.specs.Views.{parameter_piece, further_parameter_piece}
use Rattle.stan_stmt_members.specs.Views.{parameter_list_piece}

further_are : (ps : List Parameter) (f : Shape) → further_parameters (lists.parameters (map parameter_of ps)) f ≡ items (map further_parameter_piece ps) f
unfolding parameter_piece
further_are [] f = refl
further_are (p ∷ ps) f = ap (standing (further_parameter_piece p)) (further_are ps f)

pub parameters_are : (p : Parameter) (ps : List Parameter) (comma : Bool)
    → parameter_list_piece (p ∷ ps, comma) ≡ (r.parameters, None, mark (standing (parameter_piece p) (items (map further_parameter_piece ps) (standing (closing_of comma) nil))))
unfolding parameter_piece
parameters_are p ps comma = rw (ends comma nil, further_are ps (standing (closing_of comma) nil)) refl

pub parameter_list_stands : (ps : List Parameter) (comma : Bool) (f : Shape) → put_parameters (lists.parameters (map parameter_of ps)) comma f ≡ standing (parameter_list_piece (ps, comma)) f
parameter_list_stands [] false f = refl
parameter_list_stands [] true f = refl
parameter_list_stands (p ∷ ps) comma f = refl
