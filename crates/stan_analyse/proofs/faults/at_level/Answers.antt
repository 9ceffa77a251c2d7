use Rattle.std.proofs.Common.{◌∙◌, ap, map, rules}
use Rattle.std.proofs.lemmas.Fn.{filter_same}
use borrow.Author.Tests.{tests}
use Rattle.stan_analyst.specs.Verdict.{fault_of}
use Rattle.stan_model_verdict.specs.Levels.{is_within}
use Rattle.stan_analyse.proofs.FaultLemmas.{filter_through}
use Rattle.stan_analyse.proofs.faults.at_level.Goals as goal

pub returns : goal.returns
returns c =
    ap (map fault_of) (filter_same _ (λ fault. is_within c.args.level (fault_of fault)) _ (λ x b q k. search (rules, tests)) _ _ c.retain.ensures.filtered)
    ∙ filter_through fault_of (is_within c.args.level) c.args.faults.items
