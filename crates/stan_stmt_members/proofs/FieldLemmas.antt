-- What constants and properties of classes put, item by item.
use Rattle.std.proofs.Common.{◌≡◌, Bool, true, false, List, ◌∷◌, Option, Some, None, refl, map}
use Rattle.std.specs.Prelude.{option_map}
use Rattle.stan_model_grammar.specs.declared.token.Token.{Token}
use Rattle.stan_model_grammar.specs.declared.token.TokenKind.TheVariants as k
use Rattle.stan_model_statements.specs.Kinds.{same_kind}
use Rattle.stan_model_statements.specs.Rules as r
use Rattle.stan_model_files.specs.Put.{may_property_type, put_union}
use Rattle.stan_model_files.specs.Shapes.{Shape, nil, mark}
use Rattle.stan_syntax.specs.Tree.{may_type}
use Rattle.stan_syntax.specs.declared.tree.TypeTree.{TypeTree}
use Rattle.stan_syntax.specs.declared.tree.TypeTree.TheVariants as types
use Rattle.stan_stmt_trees.specs.declared.statement.Constant.{Constant}
use Rattle.stan_stmt_trees.specs.declared.statement.Variable.{Variable}
use Rattle.stan_stmt_parts.specs.Parse.{piece_of, standing, optional, items}
use Rattle.stan_stmt_items.specs.Views.{part_behind, declared_of, constant_piece}
use Rattle.stan_stmt_lists.proofs.ListLemmas.{variables_are, constants_are}
use Rattle.stan_stmt_types.specs.Views.{property_type_piece}
use Rattle.stan_stmt_members.specs.Views.{class_constants_piece, properties_piece}

pub class_constants_are : (c : Constant) (cs : List Constant)
    → class_constants_piece (c ∷ cs)
    ≡ (r.class_constants, None, mark (standing (constant_piece r.class_constant c) (items (map (λ x. part_behind r.further_class_constant (constant_piece r.class_constant x)) cs) (mark nil))))
unfolding class_constants_piece constant_piece
class_constants_are c cs = rw (constants_are r.class_constant r.further_class_constant cs (mark nil)) refl

union_stands : (b : Bool) (t : Token) (ts : List Token) (f : Shape) → put_union b t ts f ≡ standing (piece_of (put_union b t ts nil)) f
union_stands true t ts f = refl
union_stands false t ts f = refl

typed : (o : Option TypeTree) (f : Shape) → may_property_type (may_type o) f ≡ optional (option_map property_type_piece o) f
unfolding property_type_piece
typed None f = refl
typed (Some (types.Nullable q t)) f = refl
typed (Some (types.Union t ts)) f = union_stands (same_kind t.kind k.Static) t ts f

pub properties_are : (type : Option TypeTree) (v : Variable) (vs : List Variable)
    → properties_piece (record { declared = type; variables = v ∷ vs })
    ≡ (r.properties, None, optional (option_map property_type_piece type) (standing (declared_of v) (items (map (λ x. part_behind r.further_declared (declared_of x)) vs) (mark nil))))
unfolding properties_piece declared_of
properties_are type v vs =
    rw (variables_are vs (mark nil))
    (rw (typed type (standing (declared_of v) (items (map (λ x. part_behind r.further_declared (declared_of x)) vs) (mark nil)))) refl)
