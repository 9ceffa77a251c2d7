-- How a walk through folders goes on.
use Rattle.std.specs.Prelude.{◌+◌, ◌≤◌, vec_len}
use Rattle.stan_outside.specs.declared.folder_tree.Walk.{Walk}

-- each folder that is left to read is one of the names seen
abbrev pub GoesOn : Walk → Walk → Type 0
GoesOn old new = vec_len new.folders + old.names ≤ vec_len old.folders + new.names
