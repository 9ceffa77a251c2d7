use Rattle.std.proofs.Common.{◌≡◌, ◌+◌, length}
use Rattle.stan_neon.proofs.IndentationLemmas.{behind-other_front, behind-other_space, behind-last_space, differ, same}
use Rattle.stan_neon.proofs.reader.is_behind.Goals as goal

pub returns-then-ne : goal.returns-then-ne
returns-then-ne c = behind-other_front c.args.indentation.now c.args.dash.now (differ _ c.args.dash.now c.ne.result c.ne.ensures c.if-ne.true)

pub returns-then-indentation-at-ne32 : goal.returns-then-indentation-at-ne32
returns-then-indentation-at-ne32 c = behind-other_space c.args.indentation.now c.args.dash.now c.if-indentation-at-ne32.true

pub returns : goal.returns
returns c =
    let n : length c.args.indentation.now ≡ length c.args.dash.now + 2 = c.if-indentation-at.false in
    behind-last_space c.args.indentation.now c.args.dash.now n (same _ c.args.dash.now c.ne.result c.ne.ensures c.if-ne.false) c.if-indentation-at-ne32.false
