use Rattle.std.proofs.Common.{◌≡◌, ◌≤◌, length}
use Rattle.stan_model_grammar.specs.declared.token.Token.{Token}
use Rattle.stan_model_files.specs.Owners.{owner_of}
use Rattle.stan_owners.proofs.owners.behind.Given as goal

abbrev pub invariant-loop-rest : goal.invariant-loop-rest
invariant-loop-rest l = (comment : Token) → l.start ≤ comment.start → owner_of l.owners comment ≡ owner_of l.rest comment

abbrev pub decreases-loop-rest : goal.decreases-loop-rest
decreases-loop-rest l = length l.rest
