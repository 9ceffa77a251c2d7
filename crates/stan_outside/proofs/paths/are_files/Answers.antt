use Rattle.stan_outside.proofs.MemoryLemmas.{files_of_rising}
use Rattle.stan_outside.proofs.paths.are_files.Goals as goal

pub returns-then-are_proper-clause-files : goal.returns-then-are_proper-clause-files
returns-then-are_proper-clause-files c =
    λ yes. files_of_rising c.args.files.now (record { proper = c.are_proper.ensures.0 c.if-are_proper.true; rise = c.rise.ensures.0 yes })
