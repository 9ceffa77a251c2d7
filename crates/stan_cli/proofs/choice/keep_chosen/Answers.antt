use Rattle.std.proofs.Common.{rules, map, string_bytes}
use Rattle.std.proofs.lemmas.Fn.{filter_same}
use borrow.Author.Tests.{tests}
use Rattle.stan_cli.specs.Project.{is_chosen}
use Rattle.stan_cli.proofs.choice.keep_chosen.Goals as goal

pub returns : goal.returns
returns c = filter_same _ (λ file. is_chosen (map string_bytes c.args.paths.now) (string_bytes file)) _ (λ x b q k. search (rules, tests)) _ _ c.retain.ensures.filtered
