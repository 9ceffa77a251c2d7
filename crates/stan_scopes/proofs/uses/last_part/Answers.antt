use Rattle.std.proofs.Common.{◌∙◌, ◌-◌, sym, length, drop, length-drop, arith}
use Rattle.std.proofs.lemmas.List.{take_all}
use Rattle.stan_scopes.proofs.LastPart.{behind_last}
use Rattle.stan_scopes.proofs.uses.last_part.Goals as goal

pub returns : goal.returns
returns c =
    let name = c.args.name.now in
    let at = c.front_len.ensures in
    take_all (length name - c.front_len.result) (drop c.front_len.result name) (omega (arith, length-drop c.front_len.result name))
    ∙ sym (behind_last name c.front_len.result at.within at.ends at.last)
