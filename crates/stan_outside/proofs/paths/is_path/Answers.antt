use Rattle.std.proofs.Common.{lit<, rules, tests}
use Rattle.std.proofs.lemmas.Iterator.Search.{all_from_yields_List}
use Rattle.std.proofs.lemmas.Iterator.Splits.{YieldsList-from_str_split}
use Rattle.stan_outside.specs.Memory.{is_name}
use Rattle.stan_outside.proofs.paths.is_path.Goals as goal

pub returns : goal.returns
returns c =
    let split = c.split.ensures in
    all_from_yields_List is_name _ _ _ c.all.ensures.ran (YieldsList-from_str_split 47 c.args.path.now (lit< tt) split.text split.has_more split.pattern) (λ x b q k. search (rules, tests))
