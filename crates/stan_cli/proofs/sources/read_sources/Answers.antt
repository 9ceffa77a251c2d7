use Rattle.std.proofs.Common.{rules, refl, ◌++◌, ◌≡◌, ◌+◌, ◌<◌, ◌≤◌, ◌∙◌, sym, ap, subst, map, length, string_bytes, arith, List, ℕ, String, Global, get_or, Some}
use Rattle.std.proofs.lemmas.Grind.{common_steps}
use Rattle.std.proofs.lemmas.Result.{err_from_is_err_and}
use Rattle.stan_cli.specs.Project.{excess_from, most_bytes, reads_until}
use Rattle.stan_table.specs.declared.source.Source.{Source}
use Rattle.stan_outside.specs.Outside.{RoseBy}
use Rattle.stan_cli.specs.Seen.{seen_tree}
use Rattle.stan_cli.specs.Sources.{ReadsWithin, source_bytes, source_at}
use Rattle.stan_cli.proofs.ListLemmas.{map_twice}
use Rattle.stan_cli.proofs.SourceLemmas.{excess_from-none, excess_from-found, RoseBy-then, last_read, one_more_read, until_more, read_refusal-one}
use Rattle.stan_cli.proofs.sources.read_sources.Goals as goal

pub returns-then-total-gt-MOST_BYTES-clause-refused : goal.returns-then-total-gt-MOST_BYTES-clause-refused
returns-then-total-gt-MOST_BYTES-clause-refused g c told =
    let inv = c.loop-path.invariant in
    let contents = g.T.Tree.contents c.args.tree.now in
    let f : String Global → List ℕ = λ path. source_at contents (string_bytes path) in
    let source : source_bytes c.in_ok-source.source ≡ source_at contents (string_bytes c.path-item.result) =
    c.in_ok-source.ensures.source (inv.keeps.tells_alike.0 told) ∙ (λ i. source_at (inv.keeps.same_contents i) (c.as_str.ensures.value i)) in
    let at : f (get_or c.args.paths.now c.loop-path.path-index c.path-item.result) ≡ source_bytes c.in_ok-source.source = ap f (sym c.path-item.is) ∙ sym source in
    let long : length c.as_slice.result.now ≡ length (source_bytes c.in_ok-source.source) = ap length (c.as_slice.ensures.value ∙ ap (λ (source : Source). source.bytes.items) c.deref.ensures) in
    let over : most_bytes < c.loop-path.total + length (source_bytes c.in_ok-source.source) = omega (arith, long) in
    let found : excess_from 0 (map f c.args.paths.now) ≡ Some (c.loop-path.total + length (source_bytes c.in_ok-source.source)) =
    excess_from-found f c.args.paths.now c.loop-path.path-index c.loop-path.total c.path-item.result _ (source_bytes c.in_ok-source.source) c.loop-path-test.true (inv.sources told ∙ map_twice (source_at contents) string_bytes _) at inv.sum over in
    let front = inv.sources told ∙ map_twice (source_at contents) string_bytes _ in
    let last = last_read f c.args.paths.now c.loop-path.path-index c.loop-path.total c.path-item.result _ c.loop-path-test.true front inv.until (subst (λ bs. most_bytes < c.loop-path.total + length bs) (sym at) over) in (
      ap (excess_from 0) (map_twice (source_at contents) string_bytes c.args.paths.now) ∙ found ∙ ap (λ n. Some (c.loop-path.total + n)) (sym long),
      subst (λ n. RoseBy n (g.T.Tree.reads c.args.tree.now) (g.T.Tree.reads c.read_source.new.tree)) (sym (ap (reads_until 0) (map_twice (source_at contents) string_bytes c.args.paths.now) ∙ last)) (RoseBy-then c.loop-path.path-index 1 _ _ _ inv.read c.in_ok-source.ensures.read),
    )

pub returns-clause-within : goal.returns-clause-within
returns-clause-within g c = excess_from-none c.loop-path.total (map source_bytes c.loop-path.sources.items) c.loop-path.invariant.sum

pub loop-path-preserved : goal.loop-path-preserved
loop-path-preserved g c =
    let inv = c.loop-path.invariant in
    let long : length c.as_slice.result.now ≡ length (source_bytes c.in_ok-source.source) = ap length (c.as_slice.ensures.value ∙ ap (λ (source : Source). source.bytes.items) c.deref.ensures) in
    let fits : c.loop-path.total + length (source_bytes c.in_ok-source.source) ≤ most_bytes = omega (arith, long) in
    let more = until_more source_bytes c.loop-path.sources.items c.in_ok-source.source c.loop-path.path-index c.loop-path.total inv.until fits in
    record {
      keeps = search rules;
      sources = grind (arith, common_steps);
      each = search rules;
      sum = grind (arith, common_steps);
      within = search rules;
      until = λ rest. ap (λ those. reads_until 0 (map source_bytes those ++ rest)) c.in-Ok.ensures.items ∙ more rest ∙ ap (λ n. (c.loop-path.path-index + 1) + reads_until (c.loop-path.total + n) rest) (sym long);
      unlisted = search rules;
      read = RoseBy-then c.loop-path.path-index 1 _ _ _ inv.read c.in_ok-source.ensures.read;
    }

pub returns-in_err-source-clause-refused : goal.returns-in_err-source-clause-refused
returns-in_err-source-clause-refused g c =
    let p = err_from_is_err_and c.from_residual.result c.from_residual.ensures.1 in
    let inv = c.loop-path.invariant in
    let contents = g.T.Tree.contents c.args.tree.now in
    let f : String Global → List ℕ = λ path. source_at contents (string_bytes path) in
    let old = seen_tree g.T.Tree.tells g.T.Tree.contents g.T.Tree.never_fails g.T.Tree.faults g.T.Tree.listings g.T.Tree.reads c.args.tree.now c.read_source.new.tree in
    let within : ReadsWithin (map (source_at contents) (map string_bytes c.args.paths.now)) old = λ told.
    let front = inv.sources told ∙ map_twice (source_at contents) string_bytes _ in (
      c.loop-path.path-index + 1,
      subst (λ ss. c.loop-path.path-index + 1 ≤ reads_until 0 ss) (sym (map_twice (source_at contents) string_bytes c.args.paths.now)) (one_more_read f c.args.paths.now c.loop-path.path-index c.loop-path.total c.path-item.result _ c.loop-path-test.true front inv.until),
      RoseBy-then c.loop-path.path-index 1 _ _ _ inv.read c.in_err-source.ensures.read,
    ) in
    let mid = seen_tree g.T.Tree.tells g.T.Tree.contents g.T.Tree.never_fails g.T.Tree.faults g.T.Tree.listings g.T.Tree.reads c.loop-path.tree c.read_source.new.tree in
    rw (p.1, p.2) (read_refusal-one old mid (map (source_at contents) (map string_bytes c.args.paths.now)) inv.keeps.still_never_fails inv.keeps.no_fewer_faults refl within c.in_err-source.field-0.0 c.in_err-source.ensures.refused)

pub returns-in-Err-clause-refused : goal.returns-in-Err-clause-refused
returns-in-Err-clause-refused g c =
    let inv = c.loop-path.invariant in
    let contents = g.T.Tree.contents c.args.tree.now in
    let f : String Global → List ℕ = λ path. source_at contents (string_bytes path) in
    let old = seen_tree g.T.Tree.tells g.T.Tree.contents g.T.Tree.never_fails g.T.Tree.faults g.T.Tree.listings g.T.Tree.reads c.args.tree.now c.read_source.new.tree in
    let within : ReadsWithin (map (source_at contents) (map string_bytes c.args.paths.now)) old = λ told.
    let front = inv.sources told ∙ map_twice (source_at contents) string_bytes _ in (
      c.loop-path.path-index + 1,
      subst (λ ss. c.loop-path.path-index + 1 ≤ reads_until 0 ss) (sym (map_twice (source_at contents) string_bytes c.args.paths.now)) (one_more_read f c.args.paths.now c.loop-path.path-index c.loop-path.total c.path-item.result _ c.loop-path-test.true front inv.until),
      RoseBy-then c.loop-path.path-index 1 _ _ _ inv.read c.in_ok-source.ensures.read,
    ) in
    within
