-- The productions of each declaration at the top.
use Rattle.std.proofs.Common.{◌≡◌, Bool, List, [], ◌∷◌, Option, Some, refl, ap, ◌∙◌}
use Rattle.std.specs.Prelude.{map, option_map}
use Rattle.stan_model_grammar.specs.declared.token.Token.{Token}
use Rattle.stan_model_statements.specs.Rules as r
use Rattle.stan_model_statements.specs.TreeLists as lists
use Rattle.stan_model_statements.specs.Trees as model
use Rattle.stan_model_files.specs.Put.{put_top, put_tops}
use Rattle.stan_model_files.specs.Shapes.{Shape, nil, mark, word}
use Rattle.stan_stmt_trees.proofs.TopLayers.{top-Namespace, top-NamespaceBlock, top-Use, top-UseGroup}
use Rattle.stan_stmt_trees.specs.Files.{top_of}
use Rattle.stan_stmt_trees.specs.declared.top.Top.{Top}
use Rattle.stan_stmt_trees.specs.declared.top.Top.TheVariants as variants
use Rattle.stan_stmt_trees.specs.declared.top.Used.{Used}
use Rattle.stan_stmt_parts.proofs.Options.{worded}
use Rattle.stan_stmt_parts.specs.Parse.{piece_of, standing, optional, items}
use Rattle.stan_stmt_items.specs.Views.{of_word}
use Rattle.stan_stmt_uses.specs.Views.{brought_of}
use Rattle.stan_stmt_uses.specs.declared.lists.Brought.TheVariants as brought
use Rattle.stan_stmt_tops.specs.Views.{top_piece, tops_of}

put_stands : (x : model.Top) (f : Shape) → put_top x f ≡ standing (piece_of (put_top x nil)) f
put_stands (model.Namespace t name end) f = refl
put_stands (model.NamespaceBlock t name xs) f = refl
put_stands (model.Use t kind xs end) f = refl
put_stands (model.UseGroup t kind name xs comma end) f = refl
put_stands (model.Plain s) f = refl

top_is : (x : Top) (f : Shape) → put_top (top_of x) f ≡ standing (top_piece x) f
unfolding top_piece
top_is x f = put_stands (top_of x) f

pub tops_are : (xs : List Top) (f : Shape) → put_tops (lists.tops (map top_of xs)) f ≡ items (map top_piece xs) f
tops_are [] f = refl
tops_are (x ∷ xs) f = top_is x (put_tops (lists.tops (map top_of xs)) f) ∙ ap (standing (top_piece x)) (tops_are xs f)

pub namespace_is : (t name end : Token) → top_piece (variants.Namespace t name end) ≡ (r.namespace_statement, Some t, mark (word name (word end nil)))
unfolding top_piece
namespace_is t name end = rw (top-Namespace t name end) refl

pub namespace_block_is : (t : Token) (name : Option Token) (xs : List Top) → top_piece (variants.NamespaceBlock t name xs)
    ≡ (r.namespace_block, Some t, mark (optional (option_map (of_word r.namespace_name) name) (standing (tops_of xs) nil)))
unfolding top_piece
namespace_block_is t name xs = rw (top-NamespaceBlock t name xs) (rw (worded r.namespace_name name (standing (tops_of xs) nil)) refl)

pub use_is : (t : Token) (kind : Option Token) (xs : List Used) (end : Token) → top_piece (variants.Use t kind xs end)
    ≡ (r.use_declaration, Some t, mark (optional (option_map (of_word r.use_kind) kind) (standing (brought_of (brought.List xs end)) nil)))
unfolding top_piece
use_is t kind xs end = rw (top-Use t kind xs end) (rw (worded r.use_kind kind (standing (brought_of (brought.List xs end)) nil)) refl)

pub use_group_is : (t : Token) (kind : Option Token) (name : Token) (xs : List Used) (comma : Bool) (end : Token) → top_piece (variants.UseGroup t kind name xs comma end)
    ≡ (r.use_declaration, Some t, mark (optional (option_map (of_word r.use_kind) kind) (standing (brought_of (brought.Group name xs comma end)) nil)))
unfolding top_piece
use_group_is t kind name xs comma end = rw (top-UseGroup t kind name xs comma end) (rw (worded r.use_kind kind (standing (brought_of (brought.Group name xs comma end)) nil)) refl)
