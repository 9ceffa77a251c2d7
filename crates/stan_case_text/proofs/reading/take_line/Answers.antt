use Rattle.stan_case_text.proofs.CaseLemmas.{names-kept, on_ok}
use Rattle.stan_case_text.proofs.reading.take_line.Goals as goal

pub returns-in-Some-last_mut : goal.returns-in-Some-last_mut
returns-in-Some-last_mut c =
    on_ok c.take_line.result (names-kept c.args.cases.now.items _ c.take_line.new.self c.in-Some-last_mut.case.now c.args.line.now c.take_line.ensures c.in-Some-last_mut.ensures.value c.in_default.ensures.cases)
