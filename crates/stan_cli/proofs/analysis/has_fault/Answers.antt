use Rattle.std.proofs.Common.{◌∙◌, sym, ap, rules, length, Bool}
use Rattle.std.specs.Prelude.{not, ◌==◌}
use Rattle.std.specs.List.{list_any}
use Rattle.std.proofs.lemmas.List.{length-map}
use Rattle.std.proofs.lemmas.Iterator.{YieldsList-from_slice}
use Rattle.std.proofs.lemmas.Iterator.Search.{any_from_yields_List}
use borrow.Author.Tests.{tests}
use Rattle.stan_analyst.specs.Verdict.{fault_of}
use Rattle.stan_analyst.specs.declared.verdict.FileFaults.{FileFaults}
use Rattle.stan_cli.specs.Files.{file_of}
use Rattle.stan_cli.proofs.ListLemmas.{list_any-map}
use Rattle.stan_cli.proofs.analysis.has_fault.Goals as goal

pub returns : goal.returns
returns c =
    let test : FileFaults → Bool = λ file. not (length file.faults.items == 0) in
    any_from_yields_List test _ _ c.any.result c.any.ensures.ran (YieldsList-from_slice c.args.files.now cc) (λ x b q k. search (rules, tests))
    ∙ ap (λ (p : FileFaults → Bool). list_any p c.args.files.now) (λ i file. not (sym (length-map file.faults.items fault_of) i == 0))
    ∙ sym (list_any-map (λ file. not (length file.1 == 0)) file_of c.args.files.now)
