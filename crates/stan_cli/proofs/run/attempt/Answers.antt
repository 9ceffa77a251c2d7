use Rattle.std.proofs.Common.{◌≡◌, ◌∙◌, refl, sym, ap, subst, map, length, string_bytes, None, take, ◌++◌}
use Rattle.std.proofs.lemmas.Bool.{false≢true}
use Rattle.std.proofs.lemmas.Result.{err_from_is_err_and}
use Rattle.stan_cli.specs.Project.{chosen_files, sources_of}
use Rattle.stan_outside.specs.Outside.{RoseBy}
use Rattle.stan_cli.specs.Seen.{seen, seen_tree, seen_sink}
use Rattle.stan_cli.specs.Sources.{source_bytes, ReadsWithin}
use Rattle.stan_cli.specs.Words.{refused_part}
use Rattle.stan_cli.specs.Run.{files_of, IsProjectRefusal}
use Rattle.stan_cli.proofs.RunLemmas.{comes-project, whole_read, rest-map, read_files, read_report, report_fits, keeps_limits, length-files}
use Rattle.stan_cli.proofs.run.attempt.Goals as goal

pub returns-in_err-project-clause-comes : goal.returns-in_err-project-clause-comes
returns-in_err-project-clause-comes g c =
    let p = err_from_is_err_and c.from_residual.result c.from_residual.ensures.1 in
    let words = map string_bytes c.args.words.now in
    let contents = g.T.Tree.contents c.args.tree.now in
    let none : refused_part words ≡ None = sym c.refused_part.ensures ∙ c.in_default.is in
    let tree = seen_tree g.T.Tree.tells g.T.Tree.contents g.T.Tree.never_fails g.T.Tree.faults g.T.Tree.listings g.T.Tree.reads c.args.tree.now c.read_project.new.tree in
    let sink = seen_sink g.K.Sink.tells g.K.Sink.written g.K.Sink.faults c.args.sink.now c.args.sink.now in
    let refused = subst (λ ps. IsProjectRefusal tree (chosen_files ps contents) c.in_err-project.field-0.0) (rest-map string_bytes c.args.words.now) c.in_err-project.ensures.refused in
    rw (p.1, p.2) (comes-project words (seen tree sink) c.in_err-project.field-0.0 (none, c.in_err-project.ensures.listed) (λ _. refl) refused)

pub returns-in_err-report-clause-comes : goal.returns-in_err-report-clause-comes
returns-in_err-report-clause-comes g c =
    let p = err_from_is_err_and c.from_residual-in_err-report.result c.from_residual-in_err-report.ensures.1 in
    let words = map string_bytes c.args.words.now in
    let contents = g.T.Tree.contents c.args.tree.now in
    let files = files_of words contents in
    let none : refused_part words ≡ None = sym c.refused_part.ensures ∙ c.in_default.is in
    let project = c.in_ok-project.ensures in
    let tree = seen_tree g.T.Tree.tells g.T.Tree.contents g.T.Tree.never_fails g.T.Tree.faults g.T.Tree.listings g.T.Tree.reads c.args.tree.now c.read_project.new.tree in
    let within : ReadsWithin (sources_of files) tree = λ told.
    let zipped = read_files string_bytes c.args.words.now contents _ (project.files told) in
    whole_read tree files (keeps_limits files string_bytes source_bytes _ _ zipped project.few project.each project.within)
    (subst (λ n. RoseBy n (g.T.Tree.reads c.args.tree.now) (g.T.Tree.reads c.read_project.new.tree)) (length-files files string_bytes source_bytes _ _ zipped project.few project.each) project.read_once) in
    rw (p.1, p.2) ((none, project.listed), within, λ _. refl)

pub returns-in_err-write_text-clause-comes : goal.returns-in_err-write_text-clause-comes
returns-in_err-write_text-clause-comes g c =
    let p = err_from_is_err_and c.from_residual-in_err-write_text.result c.from_residual-in_err-write_text.ensures.1 in
    let words = map string_bytes c.args.words.now in
    let contents = g.T.Tree.contents c.args.tree.now in
    let files = files_of words contents in
    let none : refused_part words ≡ None = sym c.refused_part.ensures ∙ c.in_default.is in
    let project = c.in_ok-project.ensures in
    let written = c.in_err-write_text.ensures in
    rw (p.1, p.2) (
      (none, project.listed),
      written.failed,
      λ told.
          let zipped = read_files string_bytes c.args.words.now contents _ (project.files told) in
          let report = read_report string_bytes source_bytes _ _ _ _ files _ _ c.deref.ensures.value c.deref-2.ensures.value zipped c.in_ok-report.ensures in (
            keeps_limits files string_bytes source_bytes _ _ zipped project.few project.each project.within,
            subst (λ n. RoseBy n (g.T.Tree.reads c.args.tree.now) (g.T.Tree.reads c.read_project.new.tree)) (length-files files string_bytes source_bytes _ _ zipped project.few project.each) project.read_once,
            λ sink_told.
                let front = written.front sink_told in
                record { text = string_bytes c.in_ok-report.report.text; status = c.in_ok-report.report.status; report = report; count = front.0; added = front.2 ∙ ap (λ text. g.K.Sink.written c.args.sink.now ++ take front.0 text) c.as_bytes.ensures.value },
          ),
    )

pub returns-in_err-write_text-clause-room : goal.returns-in_err-write_text-clause-room
returns-in_err-write_text-clause-room g c told text status report room =
    let contents = g.T.Tree.contents c.args.tree.now in
    let files = files_of (map string_bytes c.args.words.now) contents in
    let project = c.in_ok-project.ensures in
    let zipped = read_files string_bytes c.args.words.now contents _ (project.files told) in
    let own = read_report string_bytes source_bytes _ _ _ _ files _ _ c.deref.ensures.value c.deref-2.ensures.value zipped c.in_ok-report.ensures in
    let fits = report_fits files text _ c.as_bytes.result.now status _ _ report own c.as_bytes.ensures.value room in
    absurd (false≢true (c.in_err-write_text.ensures.room fits).0)

pub returns-clause-comes : goal.returns-clause-comes
returns-clause-comes g c =
    let words = map string_bytes c.args.words.now in
    let contents = g.T.Tree.contents c.args.tree.now in
    let files = files_of words contents in
    let none : refused_part words ≡ None = sym c.refused_part.ensures ∙ c.in_default.is in
    let project = c.in_ok-project.ensures in (
      (none, project.listed),
      subst (λ n. RoseBy n (g.T.Tree.reads c.args.tree.now) (g.T.Tree.reads c.read_project.new.tree)) (sym (ap length c.as_slice.ensures.value)) project.read_once,
      λ told.
          let zipped = read_files string_bytes c.args.words.now contents _ (project.files told) in
          let report = read_report string_bytes source_bytes _ _ _ _ files _ _ c.deref.ensures.value c.deref-2.ensures.value zipped c.in_ok-report.ensures in
          record {
            number = ap length c.as_slice.ensures.value ∙ length-files files string_bytes source_bytes _ _ zipped project.few project.each;
            limits = keeps_limits files string_bytes source_bytes _ _ zipped project.few project.each project.within;
            text = string_bytes c.in_ok-report.report.text;
            report = report;
            added = λ sink_told. c.in_ok-write_text.ensures.written sink_told ∙ ap (λ text. g.K.Sink.written c.args.sink.now ++ text) c.as_bytes.ensures.value;
          },
    )

pub returns-clause-room : goal.returns-clause-room
returns-clause-room g c told text status report room =
    let contents = g.T.Tree.contents c.args.tree.now in
    let files = files_of (map string_bytes c.args.words.now) contents in
    let project = c.in_ok-project.ensures in
    let zipped = read_files string_bytes c.args.words.now contents _ (project.files told) in
    let own = read_report string_bytes source_bytes _ _ _ _ files _ _ c.deref.ensures.value c.deref-2.ensures.value zipped c.in_ok-report.ensures in
    let fits = report_fits files text _ c.as_bytes.result.now status _ _ report own c.as_bytes.ensures.value room in
    ((c.in_ok-write_text.ensures.room fits).1, λ e. cc)
