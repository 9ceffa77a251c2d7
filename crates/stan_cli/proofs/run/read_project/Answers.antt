use Rattle.std.proofs.Common.{◌≡◌, ◌∙◌, refl, sym, ap, subst, map, length, string_bytes, ◌≤◌}
use Rattle.std.specs.Prelude.{IsSome}
use Rattle.std.specs.List.{Contains, zip}
use Rattle.std.specs.FinMap as finite
use Rattle.std.proofs.lemmas.Result.{err_from_is_err_and}
use Rattle.std.proofs.lemmas.List.{length-map}
use Rattle.stan_cli.specs.Project.{chosen_files, paths_of, sources_of, most_files}
use Rattle.stan_cli.proofs.ChosenLemmas.{Contains-chosen}
use Rattle.stan_cli.specs.Seen.{seen_tree}
use Rattle.stan_cli.specs.Sources.{source_bytes, source_at}
use Rattle.stan_cli.proofs.ProjectLemmas.{sources-chosen, zip-files}
use Rattle.stan_cli.proofs.RunLemmas.{project_refusal-read, number}
use Rattle.stan_cli.proofs.run.read_project.Goals as goal

pub read_sources-requires : goal.read_sources-requires
read_sources-requires g c told path h =
    let list = c.in_ok-paths.ensures in
    let contents = g.T.Tree.contents c.args.tree.now in
    let files = chosen_files (map string_bytes c.args.paths.now) contents in
    let same : map string_bytes c.deref.result.now ≡ paths_of files = ap (map string_bytes) c.deref.ensures.value ∙ list.chosen (list.keeps.tells_alike.1 told) in
    let held = (Contains-chosen contents (map string_bytes c.args.paths.now) path).0 (subst (λ ps. Contains ps path) same h) in
    subst (λ those. IsSome (finite.get those path)) (sym list.keeps.same_contents) held.0

pub returns-in_err-sources-clause-refused : goal.returns-in_err-sources-clause-refused
returns-in_err-sources-clause-refused g c =
    let p = err_from_is_err_and c.from_residual-in_err-sources.result c.from_residual-in_err-sources.ensures.1 in
    let list = c.in_ok-paths.ensures in
    let contents = g.T.Tree.contents c.args.tree.now in
    let files = chosen_files (map string_bytes c.args.paths.now) contents in
    let keeps = list.keeps in
    let same : g.T.Tree.tells c.args.tree.now → map (source_at (g.T.Tree.contents c.list_chosen.new.tree)) (map string_bytes c.deref.result.now) ≡ sources_of files = λ told.
    (λ i. map (source_at (keeps.same_contents i)) (map string_bytes (c.deref.ensures.value i)))
    ∙ ap (map (source_at contents)) (list.chosen told)
    ∙ sym (sources-chosen contents (map string_bytes c.args.paths.now)) in
    let few : g.T.Tree.tells c.args.tree.now → length files ≤ most_files = λ told. number c.in_ok-paths.paths.items files (map string_bytes c.in_ok-paths.paths.items) (list.chosen told) (length-map c.in_ok-paths.paths.items string_bytes) list.few in
    let old = seen_tree g.T.Tree.tells g.T.Tree.contents g.T.Tree.never_fails g.T.Tree.faults g.T.Tree.listings g.T.Tree.reads c.args.tree.now c.read_sources.new.tree in
    let mid = seen_tree g.T.Tree.tells g.T.Tree.contents g.T.Tree.never_fails g.T.Tree.faults g.T.Tree.listings g.T.Tree.reads c.list_chosen.new.tree c.read_sources.new.tree in
    rw (p.1, p.2) (project_refusal-read old mid _ files keeps.still_never_fails keeps.no_fewer_faults refl keeps.tells_alike.0 same few list.unread refl c.in_err-sources.field-0.0 c.in_err-sources.ensures.refused)

pub returns-clause-files : goal.returns-clause-files
returns-clause-files g c told =
    let list = c.in_ok-paths.ensures in
    let contents = g.T.Tree.contents c.args.tree.now in
    let files = chosen_files (map string_bytes c.args.paths.now) contents in
    let paths : map string_bytes c.in_ok-paths.paths.items ≡ paths_of files = list.chosen told in
    let sources : map source_bytes c.in_ok-sources.sources.items ≡ sources_of files =
    c.in_ok-sources.ensures.sources (list.keeps.tells_alike.0 told)
    ∙ (λ i. map (source_at (list.keeps.same_contents i)) (map string_bytes (c.deref.ensures.value i)))
    ∙ ap (map (source_at contents)) paths
    ∙ sym (sources-chosen contents (map string_bytes c.args.paths.now)) in
    (λ i. zip (paths i) (sources i)) ∙ zip-files files
