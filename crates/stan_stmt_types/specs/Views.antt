-- The productions that stand for what is read.
use Rattle.std.specs.Prelude.{Some}
use Rattle.stan_syntax.specs.declared.tree.TypeTree.{TypeTree}
use Rattle.stan_syntax.specs.Tree.{type_of}
use Rattle.stan_model_statements.specs.Rules as r
use Rattle.stan_model_files.specs.Put.{put_type, may_property_type, put_parameter, put_default}
use Rattle.stan_model_files.specs.Shapes.{nil}
use Rattle.stan_stmt_trees.specs.Tree.{parameter_of}
use Rattle.stan_stmt_trees.specs.declared.statement.Parameter.{Parameter}
use Rattle.stan_stmt_parts.specs.Parse.{Piece, piece_of}
use Rattle.stan_stmt_items.specs.Views.{part_behind}
use Rattle.stan_stmt_types.specs.declared.properties.PropertyTypeRule.{PropertyTypeRule}
use Rattle.stan_stmt_types.specs.declared.properties.PropertyTypeRule.TheVariants as properties

unfoldable pub type_piece : TypeTree → Piece
type_piece x = piece_of (put_type (type_of x) nil)

unfoldable pub property_type_piece : TypeTree → Piece
property_type_piece x = piece_of (may_property_type (Some (type_of x)) nil)

abbrev pub property_type_rule : PropertyTypeRule → r.Rule
property_type_rule properties.Nullable = r.nullable_property_type
property_type_rule properties.Static = r.static_property_type
property_type_rule properties.Union = r.union_property_type

unfoldable pub parameter_piece : Parameter → Piece
parameter_piece x = piece_of (put_parameter (parameter_of x).first (parameter_of x).visibility (parameter_of x).declared (parameter_of x).by_reference (parameter_of x).variadic (parameter_of x).name (put_default (parameter_of x).default nil) nil)

abbrev pub further_parameter_piece : Parameter → Piece
further_parameter_piece x = part_behind r.further_parameter (parameter_piece x)
