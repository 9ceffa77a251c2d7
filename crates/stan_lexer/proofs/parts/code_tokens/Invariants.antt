use Rattle.std.proofs.Common.{◌≡◌, take}
use Rattle.stan_model_grammar.specs.Tokens.{code_tokens}
use Rattle.stan_lexer.proofs.parts.code_tokens.Given as goal

abbrev pub invariant-loop-token : goal.invariant-loop-token
invariant-loop-token l = l.code.items ≡ code_tokens (take l.token-index l.tokens)
