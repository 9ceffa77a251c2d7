use Rattle.std.proofs.Common.{map, string_bytes, List, ℕ}
use Rattle.std.proofs.lemmas.Result.{IfOk-weaker}
use Rattle.stan_select.specs.Selection.{chosen_files, IsSelection}
use Rattle.stan_select.specs.Lookups.{AreMarked}
use Rattle.stan_select.proofs.SelectionLemmas.{selection_is}
use Rattle.stan_select.proofs.selection.select.Goals as goal

pub returns : goal.returns
returns c =
    let lookups = c.in_ok-lookups.lookups in
    let listed : List (List ℕ) = map string_bytes c.args.listed.now in
    let found : List (List ℕ) = map string_bytes c.in_ok-paths.paths.items in
    let ordered : List (List ℕ) = map string_bytes c.put_in_order.new.paths.items in
    IfOk-weaker c.marked.result (λ files. AreMarked lookups ordered (chosen_files files.items)) (λ files. IsSelection c.args.config.now listed (chosen_files files.items))
    (λ files marked. selection_is c.args.config.now lookups listed found ordered (chosen_files files.items) c.in_ok-lookups.ensures c.in_ok-paths.ensures c.in_ok-put_in_order.ensures marked)
    c.marked.ensures
