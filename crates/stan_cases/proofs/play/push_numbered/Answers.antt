use Rattle.std.proofs.Common.{◌∙◌, ◌++◌, map, ap, codes}
use Rattle.std.specs.Fmt.{styled_decimal}
use Rattle.stan_cases.specs.Played.{numbered_path}
use Rattle.stan_outside.specs.Memory.{file_of}
use Rattle.stan_cases.proofs.PlayLemmas.{numbered_path-written, copied, file-more, numbered-more}
use Rattle.stan_cases.proofs.play.push_numbered.Goals as goal

pub loop-place-preserved : goal.loop-place-preserved
loop-place-preserved c =
    let count = c.loop-place.place-counter in
    let path = c.in_ok-format.ensures.ok ∙ ap (λ spec. styled_decimal spec count ++ codes ".php") c.laid_out.ensures ∙ numbered_path-written count in
    let bytes = copied _ _ c.in_ok-clone.ensures.cases.0 in
    let more = file-more _ _ _ (numbered_path count) c.args.bytes.now.items c.in_ok-push.ensures.items (λ i. (path i, bytes i)) in
    numbered-more (map file_of c.args.single.now.items) _ _ count c.args.bytes.now.items more c.loop-place.invariant
