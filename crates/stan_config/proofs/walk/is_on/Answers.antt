use Rattle.std.proofs.Common.{◌∙◌, sym, rules}
use Rattle.std.specs.Str.{bytes_eq}
use Rattle.std.proofs.lemmas.Iterator.{YieldsList-from_slice}
use Rattle.std.proofs.lemmas.Iterator.Search.{any_from_yields_List}
use borrow.Author.Tests.{tests}
use Rattle.stan_config.proofs.ListLemmas.{list_any-map}
use Rattle.stan_config.proofs.walk.is_on.Goals as goal

pub returns : goal.returns
returns c =
    any_from_yields_List (λ other. bytes_eq other.now c.args.file.now) _ _ c.any.result c.any.ensures.ran (YieldsList-from_slice c.args.chain.now cc) (λ x b q k. search (rules, tests))
    ∙ sym (list_any-map (λ other. bytes_eq other c.args.file.now) (λ other. other.now) c.args.chain.now)
