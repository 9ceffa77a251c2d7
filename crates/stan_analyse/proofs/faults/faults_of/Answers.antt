use Rattle.std.proofs.Common.{sym}
use Rattle.stan_stmt_trees.specs.Files.{file_of}
use Rattle.stan_table.specs.Index.{index_table}
use Rattle.stan_analyse.proofs.FactLemmas.{faults_of_facts}
use Rattle.stan_analyse.proofs.faults.faults_of.Goals as goal

pub returns-in_ok-tree_faults-in-Readable : goal.returns-in_ok-tree_faults-in-Readable
returns-in_ok-tree_faults-in-Readable c =
    rw (c.in-Readable.is, sym (faults_of_facts (index_table c.args.index.now) c.args.source.now (file_of c.in-Readable.tree).tops))
    (rw (c.at_level.ensures, c.in_ok-tree_faults-in-Readable.ensures) at c.in_order.ensures)
