use Rattle.std.proofs.Common.{map, string_bytes, Ok, Err}
use Rattle.stan_cli.specs.Seen.{seen, seen_tree, seen_sink}
use Rattle.stan_cli.proofs.RunLemmas.{reads_within}
use Rattle.stan_cli.proofs.run.run_alone.Goals as goal

pub returns-in-Ok-clause-steady_sink : goal.returns-in-Ok-clause-steady_sink
returns-in-Ok-clause-steady_sink g c told text status report room = ((c.in-Ok.ensures.room told text status report room).0, λ e. cc)

pub returns-in-Err-clause-steady_sink : goal.returns-in-Err-clause-steady_sink
returns-in-Err-clause-steady_sink g c told text status report room =
    let steady = c.in-Err.ensures.room told text status report room in
    (steady.0, λ e. steady.1 cc)

pub returns-in-Ok-clause-read_at_most_once : goal.returns-in-Ok-clause-read_at_most_once
returns-in-Ok-clause-read_at_most_once g c = reads_within (map string_bytes c.args.words.now)
    (seen (seen_tree g.T.Tree.tells g.T.Tree.contents g.T.Tree.never_fails g.T.Tree.faults g.T.Tree.listings g.T.Tree.reads c.args.tree.now c.attempt.new.tree) (seen_sink g.K.Sink.tells g.K.Sink.written g.K.Sink.faults c.args.sink.now c.attempt.new.sink))
    (Ok c.in-Ok.done) c.in-Ok.ensures.comes

pub returns-in-Err-clause-read_at_most_once : goal.returns-in-Err-clause-read_at_most_once
returns-in-Err-clause-read_at_most_once g c = reads_within (map string_bytes c.args.words.now)
    (seen (seen_tree g.T.Tree.tells g.T.Tree.contents g.T.Tree.never_fails g.T.Tree.faults g.T.Tree.listings g.T.Tree.reads c.args.tree.now c.attempt.new.tree) (seen_sink g.K.Sink.tells g.K.Sink.written g.K.Sink.faults c.args.sink.now c.attempt.new.sink))
    (Err c.in-Err.refusal) c.in-Err.ensures.comes
