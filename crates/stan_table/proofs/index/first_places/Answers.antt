use Rattle.std.proofs.Common.{◌≡◌, ◌∙◌, map, take, ap, sym, arith}
use Rattle.std.specs.Option.{is_some}
use Rattle.stan_base.specs.Names.{fold_name}
use Rattle.stan_model_names.specs.Resolve.{same_ask}
use Rattle.stan_model_table.specs.Table.{kind_of}
use Rattle.stan_table.specs.Table.{node_of, declared_name}
use Rattle.stan_table.specs.Places.{place_at}
use Rattle.stan_table.proofs.FirstPlaces.{same_ask-by_eq, Answers-passed, Answers-kept, Answers-added, nodes-more, length-nodes}
use Rattle.stan_table.proofs.index.first_places.Goals as goal
use Rattle.stan_table.proofs.index.first_places.Goals.{then-eq+in_ok-folded+then-not-contains_key+in_ok-insert, then-eq+in_ok-folded+else-not-contains_key, else-eq}

pub loop-place-preserved : goal.loop-place-preserved
loop-place-preserved c =
    let nodes = c.args.nodes.now in
    let at = c.loop-place.place in
    let kind = c.args.kind in
    let declared = c.index-nodes-place.result in
    let node = node_of declared in
    let old = c.loop-place.places in
    let table = map node_of (take at nodes) in
    let before = c.loop-place.invariant in
    let alike : c.eq.result ≡ same_ask (kind_of node) kind = c.eq.ensures ∙ same_ask-by_eq c.kind.result kind ∙ ap (λ k. same_ask k kind) c.kind.ensures in
    let more = nodes-more nodes at declared (omega arith) c.index-nodes-place.is in
    elim c.if-eq.branch [
      | then-eq+in_ok-folded+then-not-contains_key+in_ok-insert w ↦
          let bytes = w.in_ok-folded.folded.items in
          let folded : bytes ≡ fold_name kind (declared_name declared) = w.in_ok-folded.ensures ∙ ap (fold_name kind) (w.bytes.ensures ∙ w.name.ensures) in
          let has : w.contains_key.result ≡ is_some (place_at old bytes) = w.contains_key.ensures ∙ ap (λ bs. is_some (place_at old bs)) w.as_slice.ensures.value in
          let added = Answers-added kind table node (sym alike ∙ w.if-eq.true) old w.insert.new.self bytes at w.in_ok-insert.ensures.updates before folded
          (sym has ∙ w.if-not-contains_key.true) (length-nodes nodes at (omega arith)) in
          rw (w.places-is, more) added
      | then-eq+in_ok-folded+else-not-contains_key w ↦
          let bytes = w.in_ok-folded.folded.items in
          let folded : bytes ≡ fold_name kind (declared_name declared) = w.in_ok-folded.ensures ∙ ap (fold_name kind) (w.bytes.ensures ∙ w.name.ensures) in
          let has : w.contains_key.result ≡ is_some (place_at old bytes) = w.contains_key.ensures ∙ ap (λ bs. is_some (place_at old bs)) w.as_slice.ensures.value in
          let kept = Answers-kept kind table node (sym alike ∙ w.if-eq.true) old before (ap (λ bs. is_some (place_at old bs)) (sym folded) ∙ sym has ∙ w.if-not-contains_key.false) in
          rw (w.places-is, more) kept
      | else-eq w ↦
          let passed = Answers-passed kind table node old before (sym alike ∙ w.if-eq.false) in
          rw (w.places-is, more) passed
    ]
