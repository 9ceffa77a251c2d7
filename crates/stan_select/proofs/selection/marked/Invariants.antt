use Rattle.std.proofs.Common.{map, string_bytes}
use Rattle.stan_select.specs.Selection.{chosen_files}
use Rattle.stan_select.specs.Lookups.{AreMarked}
use Rattle.stan_select.proofs.selection.marked.Given as goal

-- the paths so far
abbrev pub invariant-loop-path : goal.invariant-loop-path
invariant-loop-path l = AreMarked l.lookups (map string_bytes l.yielded) (chosen_files l.files.items)
