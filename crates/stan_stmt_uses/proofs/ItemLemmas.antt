-- What the items of a `use` put, one by one.
use Rattle.std.proofs.Common.{◌≡◌, List, [], ◌∷◌, Bool, true, false, Option, Some, None, refl, ap}
use Rattle.std.specs.Prelude.{map, option_map}
use Rattle.stan_model_grammar.specs.declared.token.Token.{Token}
use Rattle.stan_model_statements.specs.Rules as r
use Rattle.stan_model_statements.specs.Trees as model
use Rattle.stan_model_files.specs.Put.{put_item, put_item_by, put_group_item, may_alias, further_items, list_end}
use Rattle.stan_model_files.specs.Shapes.{Shape, nil}
use Rattle.stan_stmt_trees.specs.Files.{used_of}
use Rattle.stan_stmt_trees.specs.declared.top.Used.{Used}
use Rattle.stan_stmt_parts.specs.Parse.{piece_of, standing, optional, items}
use Rattle.stan_stmt_items.specs.Views.{behind_mark, part_behind}
use Rattle.stan_stmt_uses.specs.Views.{name_piece, item_piece, further_group_item_piece}

pub aliased : (o : Option Token) (f : Shape) → may_alias o f ≡ optional (option_map (behind_mark r.use_alias) o) f
aliased None f = refl
aliased (Some t) f = refl

-- An item without a kind is its name.
pub kindless : (x : Used) → x.kind ≡ None → item_piece x ≡ name_piece x
kindless x h = rw h refl

stands_by : (kind : Option Token) (x : model.Used) (f : Shape) → put_item_by kind x f ≡ standing (piece_of (put_item_by kind x nil)) f
stands_by None x f = refl
stands_by (Some t) x f = refl

pub item_stands : (x : Used) (f : Shape) → put_item (used_of x) f ≡ standing (item_piece x) f
item_stands x f = stands_by x.kind (used_of x) f

pub list_items_are : (xs : List Used) (f : Shape) → further_items r.further_use_item put_item (map used_of xs) f ≡ items (map (λ x. part_behind r.further_use_item (item_piece x)) xs) f
list_items_are [] f = refl
list_items_are (x ∷ xs) f = rw (item_stands x nil) (ap (standing (part_behind r.further_use_item (item_piece x))) (list_items_are xs f))

pub group_items_are : (xs : List Used) (f : Shape) → further_items r.further_group_item put_group_item (map used_of xs) f ≡ items (map further_group_item_piece xs) f
group_items_are [] f = refl
group_items_are (x ∷ xs) f = ap (standing (further_group_item_piece x)) (group_items_are xs f)

pub ends : (comma : Bool) (f : Shape) → list_end r.group_end r.comma_group_end comma f ≡ standing (piece_of (list_end r.group_end r.comma_group_end comma nil)) f
ends true f = refl
ends false f = refl
