use Rattle.std.proofs.Common.{rules, tests}
use Rattle.std.proofs.lemmas.List.Sorted.{answers_always}
use Rattle.stan_outside.proofs.MemoryLemmas.{is_before, rise_decided}
use Rattle.stan_outside.proofs.paths.rise.Goals as goal

pub returns : goal.returns
returns c =
    rise_decided c.args.files.now c.is_sorted_by.result (c.is_sorted_by.ensures.cases is_before (answers_always _ _ _ (λ f a r g called. search (rules, tests))))
