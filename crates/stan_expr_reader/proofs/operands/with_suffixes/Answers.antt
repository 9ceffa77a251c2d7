use Rattle.std.proofs.Common.{sym, ◌∙◌}
use Rattle.stan_expr_reader.proofs.MadeLemmas.{suffixes_made}
use Rattle.stan_expr_reader.proofs.operands.with_suffixes.Goals as goal

pub returns : goal.returns
returns c = rw c.in_ok-new.ensures (suffixes_made c.is_empty.result c.args.e c.args.suffixes c.args.place c.is_empty.ensures c.if-is_empty.false (sym c.is_pattern.ensures ∙ c.if-is_pattern.false))
