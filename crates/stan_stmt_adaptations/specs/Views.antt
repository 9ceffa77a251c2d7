-- The productions that stand for the end of a `use` of traits and its parts.
use Rattle.std.specs.Prelude.{List, Option, Some, None, map}
use Rattle.stan_model_grammar.specs.declared.token.Token.{Token}
use Rattle.stan_model_statements.specs.Rules as r
use Rattle.stan_model_files.specs.Put.{put_from, put_adapting, put_adaptations, put_use_end}
use Rattle.stan_model_files.specs.Shapes.{nil, mark, word}
use Rattle.stan_stmt_trees.specs.Tree.{adapting_of, adaptation_of, adaptations_of}
use Rattle.stan_stmt_trees.specs.declared.statement.Adaptation.{Adaptation}
use Rattle.stan_stmt_trees.specs.declared.statement.Adapting.{Adapting}
use Rattle.stan_stmt_parts.specs.Parse.{Piece, piece_of}
use Rattle.stan_stmt_adaptations.specs.declared.aliases.AliasRule.{AliasRule}
use Rattle.stan_stmt_adaptations.specs.declared.aliases.AliasRule.TheVariants as rules
use Rattle.stan_stmt_adaptations.specs.declared.aliases.Renamed.{Renamed}
use Rattle.stan_stmt_adaptations.specs.declared.aliases.Renamed.TheVariants as renamed

abbrev pub alias_rule : AliasRule → r.Rule
alias_rule rules.Visibility = r.alias_visibility
alias_rule rules.Visible = r.visible_alias
alias_rule rules.Plain = r.plain_alias

abbrev pub visibility_of : Renamed → Option Token
visibility_of (renamed.Visibility v) = Some v
visibility_of (renamed.Visible v t) = Some v
visibility_of (renamed.Plain t) = None

abbrev pub name_of : Renamed → Option Token
name_of (renamed.Visibility v) = None
name_of (renamed.Visible v t) = Some t
name_of (renamed.Plain t) = Some t

abbrev pub alias_piece : Renamed → Piece
alias_piece (renamed.Visibility v) = (r.alias_visibility, None, word v (mark nil))
alias_piece (renamed.Visible v t) = (r.visible_alias, None, word v (word t (mark nil)))
alias_piece (renamed.Plain t) = (r.plain_alias, None, word t (mark nil))

abbrev pub adapted_trait_piece : Token → Piece
adapted_trait_piece t = (r.adapted_trait, None, word t (mark nil))

-- a method, and what becomes of it
abbrev pub adapting_piece : Token → Adapting → Piece
adapting_piece t x = piece_of (put_adapting t (adapting_of x) nil)

abbrev pub adaptation_piece : Adaptation → Piece
adaptation_piece x = (r.adaptation, None, put_from (adaptation_of x).from (put_adapting (adaptation_of x).method (adaptation_of x).adapting nil))

abbrev pub adaptations_piece : List Adaptation → Piece
adaptations_piece xs = (r.adaptation_list, None, mark (put_adaptations (map adaptation_of xs) (mark nil)))

-- without adaptations a `;` stands
abbrev pub use_end_piece : Option (List Adaptation) → Piece
use_end_piece x = piece_of (put_use_end (adaptations_of x) nil)
