use Rattle.std.proofs.Common.{◌≡◌, take}
use Rattle.stan_model_grammar.specs.Tokens.{comments}
use Rattle.stan_lexer.proofs.parts.comments.Given as goal

abbrev pub invariant-loop-token : goal.invariant-loop-token
invariant-loop-token l = l.comments.items ≡ comments (take l.token-index l.tokens)
