use Rattle.stan_syntax.proofs.Layers.{arguments_fields}
use Rattle.stan_syntax.proofs.exit.ends_program.Goals as goal

pub returns-in-Some : goal.returns-in-Some
returns-in-Some c = record { exact = rw (c.in-Some.is, arguments_fields, ← c.as_slice.ensures) c.is_plain.ensures }
