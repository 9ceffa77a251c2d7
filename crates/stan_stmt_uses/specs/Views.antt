-- The productions that stand for what a `use` brings.
use Rattle.std.specs.Prelude.{Bool, List, None, map}
use Rattle.stan_model_statements.specs.Rules as r
use Rattle.stan_model_files.specs.Put.{put_name, put_item, put_group_item, first_items, list_end}
use Rattle.stan_model_files.specs.Shapes.{nil, mark, word, some}
use Rattle.stan_stmt_trees.specs.Files.{used_of}
use Rattle.stan_stmt_trees.specs.declared.top.Used.{Used}
use Rattle.stan_stmt_parts.specs.Parse.{Piece, piece_of}
use Rattle.stan_stmt_items.specs.Views.{part_behind}
use Rattle.stan_stmt_uses.specs.declared.lists.Brought.{Brought}
use Rattle.stan_stmt_uses.specs.declared.lists.Brought.TheVariants as brought

-- a name with its alias, whatever it brings
abbrev pub name_piece : Used → Piece
name_piece x = piece_of (put_name (used_of x) nil)

-- an item of a list
abbrev pub item_piece : Used → Piece
item_piece x = piece_of (put_item (used_of x) nil)

-- an item of a group, and a further one
abbrev pub group_item_piece : Used → Piece
group_item_piece x = piece_of (put_group_item (used_of x) nil)

abbrev pub further_group_item_piece : Used → Piece
further_group_item_piece x = part_behind r.further_group_item (group_item_piece x)

-- the end of a group, and whether a `,` stands before it
abbrev pub group_end_of : Bool → Piece
group_end_of comma = piece_of (list_end r.group_end r.comma_group_end comma nil)

abbrev pub group_items_of : List Used × Bool → Piece
group_items_of x = (r.group_items, None, mark (first_items r.further_group_item put_group_item (map used_of x.0) (list_end r.group_end r.comma_group_end x.1 nil)))

abbrev pub brought_of : Brought → Piece
brought_of (brought.List xs end) = (r.use_list, None, first_items r.further_use_item put_item (map used_of xs) (word end nil))
brought_of (brought.Group name xs comma end) = (r.use_group, None, word name (mark (some r.group_items None (mark (first_items r.further_group_item put_group_item (map used_of xs) (list_end r.group_end r.comma_group_end comma nil))) (word end nil))))
