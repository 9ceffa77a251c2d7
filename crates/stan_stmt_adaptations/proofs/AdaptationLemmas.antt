-- What adaptations put, item by item.
use Rattle.std.proofs.Common.{◌≡◌, List, [], ◌∷◌, Option, Some, None, refl, ap, map}
use Rattle.std.specs.Prelude.{option_map}
use Rattle.stan_model_grammar.specs.declared.token.Token.{Token}
use Rattle.stan_model_statements.specs.Rules as r
use Rattle.stan_model_files.specs.Put.{put_from, put_alias, put_adapting, put_adaptations}
use Rattle.stan_model_files.specs.Shapes.{Shape, nil}
use Rattle.stan_stmt_trees.specs.Tree.{adapting_of, adaptation_of}
use Rattle.stan_stmt_trees.specs.declared.statement.Adaptation.{Adaptation}
use Rattle.stan_stmt_trees.specs.declared.statement.Adapting.{Adapting}
use Rattle.stan_stmt_trees.specs.declared.statement.Adapting.TheVariants as adapting
use Rattle.stan_stmt_parts.specs.Parse.{standing, optional, items}
use Rattle.stan_stmt_adaptations.specs.Views.{visibility_of, name_of, alias_piece, adapted_trait_piece, adapting_piece, adaptation_piece}
use Rattle.stan_stmt_adaptations.specs.declared.aliases.Renamed.{Renamed}
use Rattle.stan_stmt_adaptations.specs.declared.aliases.Renamed.TheVariants as renamed

pub alias_stands : (x : Renamed) (f : Shape) → put_alias (visibility_of x) (name_of x) f ≡ standing (alias_piece x) f
alias_stands (renamed.Visibility v) f = refl
alias_stands (renamed.Visible v t) f = refl
alias_stands (renamed.Plain t) f = refl

adapting_stands : (t : Token) (x : Adapting) (f : Shape) → put_adapting t (adapting_of x) f ≡ standing (adapting_piece t x) f
adapting_stands t (adapting.InsteadOf ts) f = refl
adapting_stands t (adapting.Alias visibility name) f = refl

from_is : (o : Option Token) (f : Shape) → put_from o f ≡ optional (option_map adapted_trait_piece o) f
from_is None f = refl
from_is (Some t) f = refl

pub adaptation_parts : (from : Option Token) (method : Token) (x : Adapting)
    → adaptation_piece (record { from = from; method = method; adapting = x }) ≡ (r.adaptation, None, optional (option_map adapted_trait_piece from) (standing (adapting_piece method x) nil))
adaptation_parts from method x = rw (adapting_stands method x nil) (rw (from_is from (standing (adapting_piece method x) nil)) refl)

pub adaptations_are : (xs : List Adaptation) (f : Shape) → put_adaptations (map adaptation_of xs) f ≡ items (map adaptation_piece xs) f
adaptations_are [] f = refl
adaptations_are (x ∷ xs) f = ap (standing (adaptation_piece x)) (adaptations_are xs f)
