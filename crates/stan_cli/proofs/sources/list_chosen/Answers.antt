use Rattle.std.proofs.Common.{◌∙◌, sym, ap, map, length, string_bytes, arith}
use Rattle.std.proofs.lemmas.List.{length-map}
use Rattle.stan_cli.proofs.ChoiceLemmas.{choice_of_contents, length-choice}
use Rattle.stan_cli.proofs.sources.list_chosen.Goals as goal

pub returns-then-number-gt-MOST_FILES-clause-refused : goal.returns-then-number-gt-MOST_FILES-clause-refused
returns-then-number-gt-MOST_FILES-clause-refused g c told =
    let number = length-choice (g.T.Tree.contents c.args.tree.now) _ _ (map string_bytes c.in_ok-files.files.items) (c.in_ok-listed.ensures.paths told) c.in_ok-files.ensures in
    let same = length-map c.in_ok-files.files.items string_bytes in
    let here = ap length c.as_slice-number.ensures.value ∙ sym same ∙ number in
    (here, omega (arith, here))

pub returns-clause-chosen : goal.returns-clause-chosen
returns-clause-chosen g c told = choice_of_contents (g.T.Tree.contents c.args.tree.now) _ _ _ (c.in_ok-listed.ensures.paths told) c.in_ok-files.ensures
