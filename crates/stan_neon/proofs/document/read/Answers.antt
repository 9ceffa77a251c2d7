use Rattle.std.proofs.Common.{◌∙◌, sym}
use Rattle.stan_neon.specs.Reader.{ahead}
use Rattle.stan_neon.proofs.DocumentLemmas.{is-bad, is-tree}
use Rattle.stan_neon.proofs.document.read.Goals as goal

pub returns-in-Some-clause-bad : goal.returns-in-Some-clause-bad
returns-in-Some-clause-bad c =
    is-bad c.args.text.now c.in-Some.line (ahead c.in_ok-reader.reader) (ahead c.tree.new.self) c.if-text-gt-MOST_BYTES.false c.in_ok-reader.ensures.ahead c.in_ok-node.ensures.lines (sym c.in-Some.is ∙ c.number.ensures)

pub returns-clause-tree : goal.returns-clause-tree
returns-clause-tree c =
    is-tree c.args.text.now c.in_ok-node.node (ahead c.in_ok-reader.reader) (ahead c.tree.new.self) c.if-text-gt-MOST_BYTES.false c.in_ok-reader.ensures.ahead c.in_ok-node.ensures.lines (sym c.in-None.is ∙ c.number.ensures)
    c.in_ok-node.ensures.value c.in_ok-node.ensures.empty
