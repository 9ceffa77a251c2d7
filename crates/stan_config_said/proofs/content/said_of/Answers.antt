use Rattle.std.proofs.Common.{◌∙◌, sym, ap}
use Rattle.stan_model_config.specs.Keys.{parameter}
use Rattle.stan_model_config.specs.Said.{said_with, with}
use Rattle.stan_config_said.specs.Views.{said_view}
use Rattle.stan_config_said.proofs.Folds.{said_last}
use Rattle.stan_config_said.proofs.content.said_of.Goals as goal

pub loop-pair-preserved : goal.loop-pair-preserved
loop-pair-preserved c =
    let file = c.args.file.now in
    let pair = c.in-Some.pair in
    let said = said_view c.loop-pair.said in
    c.loop-pair.invariant
    ∙ ap (λ left. said_with file left said) c.in-Some.ensures
    ∙ said_last file c.pop.new.self pair said
    ∙ ap (said_with file c.pop.new.self) (sym (c.in_ok-said.ensures ∙ ap (λ key. with file key pair.1 said) (c.parameter.ensures ∙ ap parameter c.as_str.ensures)))
