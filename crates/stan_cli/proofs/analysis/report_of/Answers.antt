use Rattle.std.proofs.Common.{◌≡◌, ◌∙◌, sym, ap, subst, map, length, string_bytes}
use Rattle.std.specs.List.{zip}
use Rattle.std.proofs.lemmas.List.{length-map}
use Rattle.std.proofs.lemmas.Slice.Zip.{seconds-zip}
use Rattle.stan_table.specs.Index.{index_table}
use Rattle.stan_cli.specs.Files.{file_of}
use Rattle.stan_cli.specs.Raw.{raw_text}
use Rattle.stan_cli.specs.Report.{IsTable, status_of}
use Rattle.stan_cli.specs.Sources.{source_bytes}
use Rattle.stan_cli.proofs.ReportLemmas.{report_is}
use Rattle.stan_cli.proofs.analysis.report_of.Goals as goal

pub returns : goal.returns
returns c =
    let ps = map string_bytes c.args.paths.now in
    let ss = map source_bytes c.args.sources.now in
    let each : length ss ≡ length ps = length-map c.args.sources.now source_bytes ∙ c.requires.each ∙ sym (length-map c.args.paths.now string_bytes) in
    let table = index_table c.in_ok-index.index in
    let faults = map file_of c.in_ok-files.files.items in
    let text : string_bytes c.in_ok-text.text ≡ raw_text faults = c.in_ok-text.ensures ∙ ap (λ files. raw_text (map file_of files)) c.deref.ensures.value in
    let status : c.status_of.result ≡ status_of faults = c.status_of.ensures ∙ ap (λ files. status_of (map file_of files)) c.deref-2.ensures.value in
    report_is (zip ps ss) table faults _ _ (subst (λ ts. IsTable ts table) (sym (seconds-zip ps ss each)) c.in_ok-index.ensures) c.in_ok-files.ensures text status
