use Rattle.std.proofs.Common.{◌≡◌, ◌∙◌, map, ap, subst, [], string_bytes}
use Rattle.std.specs.FinMap as finite
use Rattle.std.proofs.lemmas.Result.{IfOk-weaker}
use Rattle.stan_cases.specs.Played.{IsRun, folder_of, single_files}
use Rattle.stan_outside.specs.Outside.{Rose}
use Rattle.stan_outside.specs.MemorySink.{sink_bytes, sink_calls}
use Rattle.stan_outside.specs.MemoryTree.{memory_contents, tree_calls}
use Rattle.stan_cases.proofs.play.what_is_wrong.Goals as goal

pub returns : goal.returns
returns c =
    let e = c.run_alone-outcome.ensures in
    let outcome = c.run_alone-outcome.result in
    let written = sink_bytes c.run_alone-outcome.new.sink in
    let contents : memory_contents c.new-tree.result ≡ folder_of c.args.case =
    c.new-tree.ensures.contents ∙ ap finite.from_entries (c.in_ok-files.ensures ∙ ap single_files c.deref.ensures.value) in
    let of_tree = (tree_calls c.run_alone-outcome.new.tree).faults in
    let of_sink = (sink_calls c.run_alone-outcome.new.sink).faults in
    let first_tree : (tree_calls c.new-tree.result).faults ≡ 0 = c.new-tree.ensures.calls.faults in
    let first_sink : (sink_calls c.in_ok-sink.sink).faults ≡ 0 = c.in_ok-sink.ensures.calls.faults in
    let ran : IsRun (map string_bytes c.deref-3.result.now) (memory_contents c.new-tree.result) outcome (sink_bytes c.in_ok-sink.sink) written of_tree of_sink = record {
      report = λ none. e.report none tt tt;
      tally = λ none. e.tally none tt;
      limits = λ none. e.limits none tt;
      refused = e.refused;
      bad_words = e.bad_words;
      too_many_files = λ counted is. e.too_many_files counted is tt;
      too_many_bytes = λ counted is. e.too_many_bytes counted is tt;
      tree_fault = λ is. subst (λ first. Rose first of_tree) first_tree (e.tree_fault is);
      sink_fault = λ is. subst (λ first. Rose first of_sink) first_sink (e.sink_fault is);
      front = λ is. (e.front is tt).1 tt;
      untouched = λ some other. e.untouched some other tt;
      complete = λ accepted limits no_tree no_sink. e.complete accepted tt limits (λ rose. no_tree (subst (λ first. Rose first of_tree) first_tree rose)) (λ rose. no_sink (subst (λ first. Rose first of_sink) first_sink rose));
    } in
    let run : IsRun (map string_bytes c.args.case.words.items) (folder_of c.args.case) outcome [] written of_tree of_sink =
    subst (λ those. IsRun those (folder_of c.args.case) outcome [] written of_tree of_sink) (ap (map string_bytes) c.deref-3.ensures.value)
    (subst (λ those. IsRun (map string_bytes c.deref-3.result.now) those outcome [] written of_tree of_sink) contents
    (subst (λ those. IsRun (map string_bytes c.deref-3.result.now) (memory_contents c.new-tree.result) outcome those written of_tree of_sink) c.in_ok-sink.ensures.bytes ran)) in
    record { right = IfOk-weaker c.differences.result _ _ (λ wrong same none. record { outcome = outcome; of_tree = of_tree; of_sink = of_sink; written = written; run = run; as_wanted = same none }) c.differences.ensures }
