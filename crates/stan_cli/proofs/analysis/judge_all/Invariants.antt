use Rattle.std.proofs.Common.{map, take, string_bytes}
use Rattle.std.specs.List.{zip}
use Rattle.stan_table.specs.Index.{index_table}
use Rattle.stan_cli.specs.Files.{file_of}
use Rattle.stan_cli.specs.Report.{AreJudged}
use Rattle.stan_cli.specs.Sources.{source_bytes}
use Rattle.stan_cli.proofs.analysis.judge_all.Given as goal

-- the files so far are judged
abbrev pub invariant-loop-place : goal.invariant-loop-place
invariant-loop-place l = AreJudged (index_table l.index) (take l.place (zip (map string_bytes l.paths) (map source_bytes l.sources))) (map file_of l.files.items)
