use Rattle.std.proofs.Common.{◌≡◌, ℕ, ◌≤◌, Some, take}
use Rattle.std.specs.Prelude.{map, slice_get}
use Rattle.stan_model_grammar.specs.declared.token.Token.{Token}
use Rattle.stan_model_files.specs.Owners.{owner_of}
use Rattle.stan_owners.proofs.owners.owners_of.Given as goal

abbrev pub invariant-loop-comment : goal.invariant-loop-comment
invariant-loop-comment l =
    (l.found.items ≡ map (owner_of l.owners) (take l.comment-index l.comments))
    × ((j : ℕ) (comment : Token) → l.comment-index ≤ j → slice_get l.comments j ≡ Some comment → owner_of l.owners comment ≡ owner_of l.rest comment)
