-- What a method puts, part by part.
use Rattle.std.proofs.Common.{◌≡◌, Bool, List, Option, Some, None, refl, map}
use Rattle.std.specs.Prelude.{option_map}
use Rattle.std.specs.Option.{is_some}
use Rattle.stan_model_grammar.specs.declared.token.Token.{Token}
use Rattle.stan_model_statements.specs.Rules as r
use Rattle.stan_model_statements.specs.TreeLists as lists
use Rattle.stan_model_files.specs.Put.{may_return, put_method_body}
use Rattle.stan_model_files.specs.Shapes.{Shape, nil, mark, word}
use Rattle.stan_syntax.specs.Tree.{may_type}
use Rattle.stan_syntax.specs.declared.tree.TypeTree.{TypeTree}
use Rattle.stan_syntax.specs.declared.tree.TypeTree.TheVariants as types
use Rattle.stan_stmt_trees.specs.Tree.{statement_of}
use Rattle.stan_stmt_trees.specs.declared.statement.Parameter.{Parameter}
use Rattle.stan_stmt_trees.specs.declared.statement.Stmt.{Stmt}
use Rattle.stan_stmt_parts.specs.Parse.{standing, optional}
use Rattle.stan_stmt_parts.proofs.Options.{flagged}
use Rattle.stan_stmt_items.specs.Views.{of_mark, part_behind}
use Rattle.stan_stmt_types.specs.Views.{type_piece}
use Rattle.stan_stmt_members.specs.Views.{parameter_list_piece, body_piece, method_piece}
use Rattle.stan_stmt_members.proofs.ParameterLemmas.{parameter_list_stands}

pub result_is : (o : Option TypeTree) (f : Shape) → may_return (may_type o) f ≡ optional (option_map (λ x. part_behind r.return_type (type_piece x)) o) f
unfolding type_piece
result_is None f = refl
result_is (Some (types.Nullable q t)) f = refl
result_is (Some (types.Union t ts)) f = refl

body_stands : (o : Option (List Stmt)) (f : Shape) → put_method_body (lists.may_block (option_map (map statement_of) o)) f ≡ standing (body_piece o) f
body_stands None f = refl
body_stands (Some ss) f = refl

pub method_parts : {A : Type 0} (reference : Option A) (name : Token) (ps : List Parameter) (comma : Bool) (type : Option TypeTree) (b : Option (List Stmt))
    → method_piece (record { by_reference = is_some reference; name = name; parameters = ps; comma = comma; result = type; body = b })
    ≡ (r.method, None, mark (optional (option_map (λ x. of_mark r.by_reference) reference) (word name (standing (parameter_list_piece (ps, comma)) (optional (option_map (λ x. part_behind r.return_type (type_piece x)) type) (standing (body_piece b) nil))))))
unfolding method_piece
method_parts reference name ps comma type b =
    rw (body_stands b nil)
    (rw (result_is type (standing (body_piece b) nil))
    (rw (parameter_list_stands ps comma (optional (option_map (λ x. part_behind r.return_type (type_piece x)) type) (standing (body_piece b) nil)))
    (rw (flagged r.by_reference reference (word name (standing (parameter_list_piece (ps, comma)) (optional (option_map (λ x. part_behind r.return_type (type_piece x)) type) (standing (body_piece b) nil))))) refl)))
