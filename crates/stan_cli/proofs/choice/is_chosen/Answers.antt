use Rattle.std.proofs.Common.{◌∙◌, sym, rules, string_bytes}
use Rattle.std.proofs.lemmas.Iterator.{YieldsList-from_slice}
use Rattle.std.proofs.lemmas.Iterator.Search.{any_from_yields_List}
use borrow.Author.Tests.{tests}
use Rattle.stan_cli.specs.Project.{chooses}
use Rattle.stan_cli.proofs.ListLemmas.{list_any-map}
use Rattle.stan_cli.proofs.choice.is_chosen.Goals as goal

pub returns : goal.returns
returns c =
    any_from_yields_List (λ path. chooses (string_bytes path) c.args.file.now) _ _ c.any.result c.any.ensures.ran (YieldsList-from_slice c.args.paths.now cc) (λ x b q k. search (rules, tests))
    ∙ sym (list_any-map (λ path. chooses path c.args.file.now) string_bytes c.args.paths.now)
