use Rattle.std.proofs.Common.{◌≡◌, ◌≤◌, ◌<◌, ◌+◌, ◌∙◌, sym, ap, subst, map, take, length, arith, List, ℕ, get_or, string_bytes, ◌++◌, ◌∷◌, []}
use Rattle.std.specs.List.{zip}
use Rattle.std.proofs.lemmas.List.{get_or-map, length-map, take_all, map_push}
use Rattle.std.proofs.lemmas.Slice.Zip.{get_or-zip, length-zip}
use Rattle.stan_table.specs.Index.{index_table}
use Rattle.stan_cli.specs.Files.{file_of}
use Rattle.stan_cli.specs.Report.{AreJudged}
use Rattle.stan_cli.specs.Sources.{source_bytes}
use Rattle.stan_cli.proofs.ReportLemmas.{AreJudged-more}
use Rattle.stan_cli.proofs.analysis.judge_all.Goals as goal

pub loop-place-preserved : goal.loop-place-preserved
loop-place-preserved c =
    let ps = map string_bytes c.args.paths.now in
    let ss = map source_bytes c.args.sources.now in
    let i = c.loop-place.place in
    let path = string_bytes c.index-paths-place.result in
    let source = source_bytes c.index-sources-place.result in
    let lp : i < length ps = omega (arith, length-map c.args.paths.now string_bytes, c.requires, c.loop-place-test.true) in
    let ls : i < length ss = omega (arith, length-map c.args.sources.now source_bytes, c.loop-place-test.true) in
    let lt : i < length (zip ps ss) = omega (arith, length-zip ps ss, lp, ls) in
    let at_path : path ≡ get_or ps i path = ap string_bytes c.index-paths-place.is ∙ sym (get_or-map string_bytes c.args.paths.now i c.index-paths-place.result path (omega (arith, c.requires, c.loop-place-test.true))) in
    let at_source : source ≡ get_or ss i source = ap source_bytes c.index-sources-place.is ∙ sym (get_or-map source_bytes c.args.sources.now i c.index-sources-place.result source c.loop-place-test.true) in
    let at : ◌≡◌ {A = List ℕ × List ℕ} (path, source) (get_or (zip ps ss) i (path, source)) = (λ j. (at_path j, at_source j)) ∙ sym (get_or-zip ps ss i (path, source) lp ls) in
    let verdict = c.in_ok-verdict.ensures in
    let file = c.in_ok-file_faults.field-0 in
    let fault = c.in_ok-file_faults.ensures ∙ (λ j. (c.as_str.ensures.value j, verdict.2.faults_are j)) in
    let items : map file_of c.push.new.self.items ≡ map file_of c.loop-place.files.items ++ file_of file ∷ [] = ap (map file_of) c.in_ok-push.ensures.items ∙ map_push file_of c.loop-place.files.items file in
    subst (AreJudged (index_table c.args.index.now) (take (i + 1) (zip ps ss))) (sym items)
    (AreJudged-more (index_table c.args.index.now) (zip ps ss) i (path, source) (path, source) (map file_of c.loop-place.files.items) (file_of file) lt at c.loop-place.invariant (verdict.0, verdict.1, fault))

pub returns : goal.returns
returns c =
    let ps = map string_bytes c.args.paths.now in
    let ss = map source_bytes c.args.sources.now in
    let all : length (zip ps ss) ≤ c.loop-place.place = omega (arith, length-zip ps ss, length-map c.args.sources.now source_bytes, c.loop-place-test.false) in
    subst (λ files. AreJudged (index_table c.args.index.now) files (map file_of c.loop-place.files.items)) (take_all c.loop-place.place (zip ps ss) all) c.loop-place.invariant
