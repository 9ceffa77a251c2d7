use Rattle.stan_config.proofs.FileLemmas.{read_good, read_refused, read_bad}
use Rattle.stan_config.proofs.file.read_text.Goals as goal

pub returns-in-Ok-clause-content : goal.returns-in-Ok-clause-content
returns-in-Ok-clause-content c = read_good c.args.text.now c.args.file.now c.in-Ok.node c.in-Ok.ensures.tree c.judge.result c.judge.ensures.content

pub returns-in-Ok-clause-refused : goal.returns-in-Ok-clause-refused
returns-in-Ok-clause-refused c = read_refused c.args.text.now c.args.file.now c.in-Ok.node c.in-Ok.ensures.tree c.judge.result c.judge.ensures.refused

pub returns-in_ok-path-in-Err-Bad-clause-refused : goal.returns-in_ok-path-in-Err-Bad-clause-refused
returns-in_ok-path-in-Err-Bad-clause-refused c = λ _. read_bad c.args.text.now c.args.file.now c.in-Err-Bad.line (rw c.in-Err-Bad.field-0-is at c.in-Err-Bad.ensures.bad) _ c.in_ok-path-in-Err-Bad.ensures.ok
