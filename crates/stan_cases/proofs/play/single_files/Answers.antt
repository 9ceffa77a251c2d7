use Rattle.std.proofs.Common.{◌≡◌, ◌∙◌, ◌++◌, map, ap, sym, string_bytes}
use Rattle.stan_cases.specs.Played.{files_at}
use Rattle.stan_outside.specs.Memory.{file_of}
use Rattle.stan_cases.proofs.PlayLemmas.{copied, file-more, files-more}
use Rattle.stan_cases.proofs.play.single_files.Goals as goal
use Rattle.stan_cases.proofs.play.single_files.Goals.{in-At+in_ok-clone-in-At+in_ok-clone-in-At-2+in_ok-push-in-At, in-Numbered+in_ok-push_numbered-in-Numbered}

pub loop-files-preserved : goal.loop-files-preserved
loop-files-preserved c =
    let added : map file_of c.match-files.single.items ≡ map file_of c.loop-files.single.items ++ files_at c.files-item.result.place c.files-item.result.bytes.items =
    elim c.match-files.branch [
      | in-At+in_ok-clone-in-At+in_ok-clone-in-At-2+in_ok-push-in-At w ↦
          let path = w.in_ok-clone-in-At.ensures.cases in
          let bytes = copied _ _ w.in_ok-clone-in-At-2.ensures.cases.0 in
          let more = file-more _ _ _ (string_bytes w.in-At.path) c.files-item.result.bytes.items w.in_ok-push-in-At.ensures.items (λ i. (path i, bytes i)) in
          ap (λ single. map file_of single.items) w.single-is ∙ more ∙ ap (λ place. map file_of c.loop-files.single.items ++ files_at place c.files-item.result.bytes.items) (sym w.in-At.is)
      | in-Numbered+in_ok-push_numbered-in-Numbered w ↦
          ap (λ single. map file_of single.items) w.single-is ∙ w.in_ok-push_numbered-in-Numbered.ensures
          ∙ ap (λ place. map file_of c.loop-files.single.items ++ files_at place c.files-item.result.bytes.items) (sym w.in-Numbered.is)
    ] in
    files-more c.args.all.now c.loop-files.files-index c.files-item.result (map file_of c.loop-files.single.items) _ c.loop-files-test.true c.files-item.is added c.loop-files.invariant
