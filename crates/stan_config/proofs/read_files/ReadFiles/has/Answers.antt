use Rattle.std.proofs.Common.{◌∙◌}
use Rattle.stan_config.proofs.ListLemmas.{among_names}
use Rattle.stan_config.proofs.read_files.ReadFiles.has.Goals as goal

pub returns : goal.returns
returns c = c.contains.ensures ∙ among_names c.args.self.now.names.keys c.args.file.now
