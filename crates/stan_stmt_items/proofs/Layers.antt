-- What is read, by one layer of it, and lists of words.
use Rattle.std.proofs.Common.{◌≡◌, List, [], ◌∷◌, None, refl, ap, map}
use Rattle.stan_model_grammar.specs.declared.token.Token.{Token}
use Rattle.stan_model_statements.specs.Rules.{Rule}
use Rattle.stan_model_files.specs.Put.{further_words}
use Rattle.stan_model_files.specs.Shapes.{Shape, nil, mark, word, some}
use Rattle.stan_stmt_trees.proofs.Layers.{variable-made, constant-made}
use Rattle.stan_stmt_parts.specs.Parse.{items}
use Rattle.stan_stmt_items.specs.Views.{behind_mark}

pub ruleset made = (variable-made, constant-made)

pub further_are : (r : Rule) (ts : List Token) (f : Shape) → further_words r ts f ≡ items (map (behind_mark r) ts) f
further_are r [] f = refl
further_are r (t ∷ ts) f = ap (some r None (mark (word t nil))) (further_are r ts f)
