use Rattle.std.proofs.Common.{◌≡◌, map, take}
use Rattle.stan_cases.specs.Played.{single_files}
use Rattle.stan_outside.specs.Memory.{file_of}
use Rattle.stan_cases.proofs.play.single_files.Given as goal

abbrev pub invariant-loop-files : goal.invariant-loop-files
invariant-loop-files l = map file_of l.single.items ≡ single_files (take l.files-index l.all)
