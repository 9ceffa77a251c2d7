use Rattle.stan_config.proofs.ListLemmas.{name_added}
use Rattle.stan_config.proofs.read_files.ReadFiles.add.Goals as goal

pub returns : goal.returns
returns c = name_added c.args.self.now.names.keys c.insert.new.self.keys c.in_ok-from_str.field-0 c.args.file.now c.in_ok-insert.ensures.keys c.in_ok-from_str.ensures.ok c.requires
