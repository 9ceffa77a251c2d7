use Rattle.std.proofs.Common.{◌+◌, ◌-◌, vec_len}
use Rattle.stan_outside.specs.declared.folder_tree.TheConstants.{MOST_NAMES}
use Rattle.stan_outside.proofs.folder_tree.list_files.Given as goal

abbrev pub decreases-loop-folder : goal.decreases-loop-folder
decreases-loop-folder g l = vec_len l.walk.folders + (MOST_NAMES - l.walk.names)
