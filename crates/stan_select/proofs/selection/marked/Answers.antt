use Rattle.std.proofs.Common.{◌≡◌, ◌++◌, [], ◌∷◌, map, string_bytes, ◌∙◌, ap}
use Rattle.std.specs.Prelude.{◌↔◌, IsTrue}
use Rattle.std.proofs.lemmas.List.{map-append}
use Rattle.stan_select.specs.Selection.{chosen_files}
use Rattle.stan_select.specs.Names.{HasChooser}
use Rattle.stan_select.proofs.SelectionLemmas.{AreMarked-push}
use Rattle.stan_select.proofs.selection.marked.Goals as goal

pub loop-path-preserved : goal.loop-path-preserved
loop-path-preserved c =
    let chooser = c.has_chooser-analysed.ensures in
    let is : IsTrue c.has_chooser-analysed.result ↔ HasChooser c.args.lookups.now.analysed (string_bytes c.in-Some.path) = rw c.as_bytes.ensures.value at chooser in
    let paths : map string_bytes (c.loop-path.yielded ++ c.in-Some.path ∷ []) ≡ map string_bytes c.loop-path.yielded ++ string_bytes c.in-Some.path ∷ [] = map-append string_bytes c.loop-path.yielded (c.in-Some.path ∷ []) in
    let files : chosen_files c.push.new.self.items ≡ chosen_files c.loop-path.files.items ++ (string_bytes c.in-Some.path, c.has_chooser-analysed.result) ∷ [] =
    ap chosen_files c.in_ok-push.ensures.items ∙ map-append (λ file. (string_bytes file.0, file.1)) c.loop-path.files.items _ in
    rw (paths, files) (AreMarked-push c.args.lookups.now (map string_bytes c.loop-path.yielded) (chosen_files c.loop-path.files.items) (string_bytes c.in-Some.path) c.has_chooser-analysed.result is c.loop-path.invariant)
