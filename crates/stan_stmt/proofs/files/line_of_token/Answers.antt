use Rattle.std.proofs.Common.{refl, length, arith}
use Rattle.std.proofs.lemmas.List.{take_all}
use Rattle.stan_base.specs.Bytes.{line_of}
use Rattle.stan_stmt.proofs.files.line_of_token.Goals as goal

pub returns-else-token-last : goal.returns-else-token-last
unfolding line_of
returns-else-token-last c = rw (c.line_at-else-token-last.ensures, take_all (length c.args.source.now) c.args.source.now (omega arith), take_all c.args.token.start c.args.source.now (omega (arith, c.if-token-last.false))) refl
