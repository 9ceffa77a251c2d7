use Rattle.std.proofs.Common.{◌∙◌, sym, map, rules, string_bytes}
use Rattle.std.proofs.lemmas.Iterator.{YieldsList-from_slice}
use Rattle.std.proofs.lemmas.Iterator.Search.{any_from_yields_List}
use borrow.Author.Tests.{tests}
use Rattle.stan_model_config.specs.Faults.{is_among}
use Rattle.stan_config.proofs.ListLemmas.{list_any-map}
use Rattle.stan_config.proofs.walk.lead_back.Goals as goal

pub returns : goal.returns
returns c =
    any_from_yields_List (λ include. is_among (map (λ other. other.now) c.args.chain.now) (string_bytes include)) _ _ c.any.result c.any.ensures.ran (YieldsList-from_slice c.args.includes.now cc) (λ x b q k. search (rules, tests))
    ∙ sym (list_any-map (λ include. is_among (map (λ other. other.now) c.args.chain.now) include) string_bytes c.args.includes.now)
