use Rattle.std.proofs.Common.{◌∙◌, sym, rules, string_bytes, codes}
use Rattle.std.specs.Prelude.{not, nat_eq}
use Rattle.std.specs.List.{starts_with}
use Rattle.std.proofs.lemmas.List.Folds.{list_all-map}
use Rattle.std.proofs.lemmas.Iterator.{YieldsList-from_slice}
use Rattle.std.proofs.lemmas.Iterator.Search.{all_from_yields_List}
use borrow.Author.Tests.{tests}
use Rattle.stan_cli.proofs.words.none_is_option.Goals as goal

pub returns : goal.returns
returns c =
    all_from_yields_List (λ path. not (starts_with nat_eq (string_bytes path) (codes "-"))) _ _ c.all.result c.all.ensures.ran (YieldsList-from_slice c.args.paths.now cc) (λ x b q k. search (rules, tests))
    ∙ sym (list_all-map _ string_bytes c.args.paths.now)
