use Rattle.std.proofs.Common.{rules, lit<, codes}
use Rattle.std.specs.Str.{bytes_eq}
use Rattle.std.proofs.lemmas.Iterator.Search.{any_from_yields_List}
use Rattle.std.proofs.lemmas.Iterator.Splits.{YieldsList-from_str_split}
use borrow.Author.Tests.{tests}
use Rattle.stan_cli.proofs.words.has_parent_part.Goals as goal

pub returns : goal.returns
returns c =
    any_from_yields_List (λ part. bytes_eq part (codes "..")) _ _ c.any.result c.any.ensures.ran (YieldsList-from_str_split 47 c.args.path.now (lit< tt) (cc) (cc) (cc)) (λ x b q k. search (rules, tests))
