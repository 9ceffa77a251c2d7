use Rattle.std.proofs.Common.{◌≡◌, ◌≤◌, ◌<◌, ◌+◌, ◌∙◌, sym, ap, subst, map, take, length, arith, get_or, vec_len}
use Rattle.std.specs.List.{sum_by}
use Rattle.std.proofs.lemmas.List.{get_or-map, length-map, take_all, map-append}
use Rattle.std.proofs.lemmas.List.Sums.{sum_by_more}
use Rattle.std.proofs.lemmas.Result.{IfOk-weaker}
use Rattle.stan_cli.specs.Project.{most_bytes}
use Rattle.stan_table.specs.Table.{node_of}
use Rattle.stan_table.specs.Index.{index_table}
use Rattle.stan_table.specs.declared.source.Source.{Source}
use Rattle.stan_cli.specs.Report.{IsTable}
use Rattle.stan_cli.specs.Sources.{source_bytes}
use Rattle.stan_cli.proofs.ReportLemmas.{IsTable-more, sum_by-within}
use Rattle.stan_cli.proofs.analysis.index_of.Goals as goal

pub loop-source-preserved : goal.loop-source-preserved
loop-source-preserved c =
    let ss = map source_bytes c.args.sources.now in
    let i = c.loop-source.source-index in
    let d = source_bytes c.source-item.result in
    let bytes : c.as_slice.result.now ≡ d = c.as_slice.ensures.value ∙ ap (λ (source : Source). source.bytes.items) c.deref.ensures in
    let at : c.as_slice.result.now ≡ get_or ss i d = bytes ∙ ap source_bytes c.source-item.is ∙ sym (get_or-map source_bytes c.args.sources.now i c.source-item.result d c.loop-source-test.true) in
    let lt : i < length ss = subst (λ n. i < n) (sym (length-map c.args.sources.now source_bytes)) c.loop-source-test.true in
    let items : map node_of c.append.new.self.items ≡ _ = ap (map node_of) c.in_ok-append.ensures.items ∙ map-append node_of c.loop-source.nodes.items c.in_ok-declared.declared.items in
    let longer : vec_len c.append.new.self ≡ vec_len c.loop-source.nodes + vec_len c.in_ok-declared.declared = c.in_ok-append.ensures.len in
    record {
      nodes = subst (IsTable (take (i + 1) ss)) (sym items) (IsTable-more ss i d c.as_slice.result.now (map node_of c.loop-source.nodes.items) (map node_of c.in_ok-declared.declared.items) lt at c.loop-source.invariant.nodes c.in_ok-declared.ensures.nodes);
      few = omega (arith, longer, c.loop-source.invariant.few, c.in_ok-declared.ensures.few, ap length at, sum_by_more length ss i d lt);
    }

pub build-requires : goal.build-requires
build-requires c =
    let ss = map source_bytes c.args.sources.now in
    let all : length ss ≤ c.loop-source.source-index = subst (λ n. n ≤ c.loop-source.source-index) (sym (length-map c.args.sources.now source_bytes)) c.loop-source-test.false in
    let within : 0 + sum_by length ss ≤ most_bytes = sum_by-within 0 ss (omega arith) c.requires in
    omega (arith, c.loop-source.invariant.few, ap (sum_by length) (take_all c.loop-source.source-index ss all), within)

pub returns : goal.returns
returns c =
    let ss = map source_bytes c.args.sources.now in
    let all : length ss ≤ c.loop-source.source-index = subst (λ n. n ≤ c.loop-source.source-index) (sym (length-map c.args.sources.now source_bytes)) c.loop-source-test.false in
    IfOk-weaker c.build.result (λ index. index_table index ≡ map node_of c.loop-source.nodes.items) (λ index. IsTable ss (index_table index))
    (λ index e. subst (IsTable ss) (sym e) (subst (λ ts. IsTable ts (map node_of c.loop-source.nodes.items)) (take_all c.loop-source.source-index ss all) c.loop-source.invariant.nodes)) c.build.ensures
