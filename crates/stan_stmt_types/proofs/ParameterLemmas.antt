-- What a parameter is made of, by its parts.
use Rattle.std.proofs.Common.{◌≡◌, Bool, List, [], ◌∷◌, Option, Some, None, refl, ap, map, ◌∙◌}
use Rattle.std.specs.Prelude.{option_map}
use Rattle.std.specs.Option.{is_some}
use Rattle.stan_model_grammar.specs.declared.token.Token.{Token}
use Rattle.stan_model_statements.specs.Rules as r
use Rattle.stan_model_statements.specs.TreeLists as lists
use Rattle.stan_model_files.specs.Put.{may_type, put_default}
use Rattle.stan_model_files.specs.Shapes.{Shape, nil, mark, word, some}
use Rattle.stan_syntax.specs.Tree.{may_type as model_type}
use Rattle.stan_syntax.specs.declared.tree.TypeTree.{TypeTree}
use Rattle.stan_syntax.specs.declared.tree.TypeTree.TheVariants as types
use Rattle.stan_stmt_trees.specs.Tree.{value_of}
use Rattle.stan_stmt_trees.specs.declared.statement.Value.{Value}
use Rattle.stan_stmt_trees.specs.declared.statement.Parameter.{Parameter, roll-Parameter}
use Rattle.stan_stmt_trees.proofs.Layers.{parameter-made}
use Rattle.stan_stmt_parts.specs.Parse.{optional}
use Rattle.stan_stmt_parts.proofs.Options.{flagged, worded}
use Rattle.stan_stmt_items.specs.Views.{value_behind, of_word, of_mark}
use Rattle.stan_stmt_types.specs.Views.{type_piece, parameter_piece}

pub typed : (o : Option TypeTree) (f : Shape) → may_type (model_type o) f ≡ optional (option_map type_piece o) f
unfolding type_piece
typed None f = refl
typed (Some (types.Nullable q t)) f = refl
typed (Some (types.Union t ts)) f = refl

pub defaulted : (o : Option Value) (f : Shape) → put_default (lists.may_value (option_map value_of o)) f ≡ optional (option_map (value_behind r.default) o) f
defaulted None f = refl
defaulted (Some v) f = refl

pub parameter_parts : {A B : Type 0} (first : Token) (visibility : Option Token) (declared : Option TypeTree) (reference : Option A) (dots : Option B) (name : Token) (default : Option Value)
    → parameter_piece (roll-Parameter (record { first = first; visibility = visibility; declared = declared; by_reference = is_some reference; is_variadic = is_some dots; name = name; default = default }))
    ≡ (r.parameter, Some first, optional (option_map (of_word r.visible) visibility) (optional (option_map type_piece declared) (optional (option_map (λ x. of_mark r.by_reference) reference) (optional (option_map (λ x. of_mark r.variadic) dots) (word name (optional (option_map (value_behind r.default) default) nil))))))
unfolding parameter_piece
parameter_parts first visibility declared reference dots name default =
    rw (parameter-made first visibility declared (is_some reference) (is_some dots) name default)
    (rw (defaulted default nil, flagged r.variadic dots (word name (optional (option_map (value_behind r.default) default) nil)))
    (rw (flagged r.by_reference reference (optional (option_map (λ x. of_mark r.variadic) dots) (word name (optional (option_map (value_behind r.default) default) nil))))
    (rw (typed declared (optional (option_map (λ x. of_mark r.by_reference) reference) (optional (option_map (λ x. of_mark r.variadic) dots) (word name (optional (option_map (value_behind r.default) default) nil)))))
    (rw (worded r.visible visibility (optional (option_map type_piece declared) (optional (option_map (λ x. of_mark r.by_reference) reference) (optional (option_map (λ x. of_mark r.variadic) dots) (word name (optional (option_map (value_behind r.default) default) nil)))))) refl))))

pub ruleset made = (parameter_parts)
