use Rattle.std.proofs.Common.{ap, length, arith}
use Rattle.stan_analyse.proofs.TokenCount.{tokens_few}
use Rattle.stan_analyse.proofs.reading.read_text.Goals as goal

pub file-requires-clause-few : goal.file-requires-clause-few
file-requires-clause-few c = omega (arith, ap length c.as_slice.ensures.value, tokens_few c.args.source.now c.in_ok-tokens.tokens.items c.in_ok-tokens.ensures, c.requires.0)
