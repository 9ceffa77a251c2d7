-- What a tree in memory shows.
use Rattle.std.specs.Prelude.{ℕ}
use Rattle.stan_outside.specs.Contents.{Contents}
use Rattle.stan_outside.specs.declared.calls.Calls.{Calls}
use Rattle.stan_outside.specs.declared.memory_tree.MemoryTree.{MemoryTree}
use Rattle.stan_outside.specs.Memory.{tree_contents}

abbrev pub memory_contents : MemoryTree → Contents
memory_contents tree = tree_contents tree.files.items

abbrev pub tree_calls : MemoryTree → Calls
tree_calls tree = tree.calls

abbrev pub tree_listings : MemoryTree → ℕ
tree_listings tree = tree.listings

abbrev pub tree_reads : MemoryTree → ℕ
tree_reads tree = tree.reads
