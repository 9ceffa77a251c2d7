use Rattle.std.proofs.Common.{rules}
use Rattle.stan_outside.proofs.MemoryLemmas.{read_at_place}
use Rattle.stan_outside.proofs.memory_tree.MemoryTreeTree.read.Goals as goal

pub returns-clause-bytes : goal.returns-clause-bytes
returns-clause-bytes c =
    let tree = c.args.self.now in
    read_at_place tree.files.items c.place_of-place.result c.index.result.now _ _ _ tree.are_files (search rules) (search rules) (search rules) (search rules)
