-- The model's tree of each variant of the program's declarations.
use Rattle.std.proofs.Common.{◌≡◌, Bool, List, Option, ap, sym, ◌∙◌}
use Rattle.std.specs.Prelude.{map}
use Rattle.stan_model_grammar.specs.declared.token.Token.{Token}
use Rattle.stan_model_statements.specs.Trees as model
use Rattle.stan_model_statements.specs.TreeLists as lists
use Rattle.stan_stmt_trees.specs.declared.statement.Stmt.{Stmt}
use Rattle.stan_stmt_trees.specs.declared.top.Used.{Used}
use Rattle.stan_stmt_trees.specs.declared.top.Top.{Top, roll-Top, fold-roll-Top}
use Rattle.stan_stmt_trees.specs.declared.top.Top.TheVariants as variants
use Rattle.stan_stmt_trees.specs.declared.top.Top.TheOpen.{Top-F}
use Rattle.stan_stmt_trees.specs.declared.top.Top.TheFolds.{map-Top}
use Rattle.stan_stmt_trees.specs.Tree.{statement_of}
use Rattle.stan_stmt_trees.specs.Files.{used_of, top_step, top_of}

module _ where
  open_top : (l : Top-F Top) → top_of (roll-Top l) ≡ top_step (map-Top Top model.Top top_of l)
  unfolding top_of
  open_top = fold-roll-Top model.Top top_step

pub top-Namespace : (t name end : Token) → top_of (variants.Namespace t name end) ≡ model.Namespace t name end
top-Namespace t name end = ap top_of (sym (variants.rolls-Namespace t name end)) ∙ open_top (Top-F.Namespace t name end)

pub top-NamespaceBlock : (t : Token) (name : Option Token) (ts : List Top) → top_of (variants.NamespaceBlock t name ts) ≡ model.NamespaceBlock t name (lists.tops (map top_of ts))
top-NamespaceBlock t name ts = ap top_of (sym (variants.rolls-NamespaceBlock t name ts)) ∙ open_top (Top-F.NamespaceBlock t name ts)

pub top-Use : (t : Token) (kind : Option Token) (xs : List Used) (end : Token) → top_of (variants.Use t kind xs end) ≡ model.Use t kind (map used_of xs) end
top-Use t kind xs end = ap top_of (sym (variants.rolls-Use t kind xs end)) ∙ open_top (Top-F.Use t kind xs end)

pub top-UseGroup : (t : Token) (kind : Option Token) (name : Token) (xs : List Used) (comma : Bool) (end : Token) → top_of (variants.UseGroup t kind name xs comma end) ≡ model.UseGroup t kind name (map used_of xs) comma end
top-UseGroup t kind name xs comma end = ap top_of (sym (variants.rolls-UseGroup t kind name xs comma end)) ∙ open_top (Top-F.UseGroup t kind name xs comma end)

pub top-Plain : (s : Stmt) → top_of (variants.Plain s) ≡ model.Plain (statement_of s)
top-Plain s = ap top_of (sym (variants.rolls-Plain s)) ∙ open_top (Top-F.Plain s)

pub ruleset tops = (top-Namespace, top-NamespaceBlock, top-Use, top-UseGroup, top-Plain)
