use Rattle.std.proofs.Common.{◌≡◌, ◌+◌, ◌++◌, [], ◌∷◌, ℕ, List, map, take, string_bytes, sym, ap, ◌∙◌, arith}
use Rattle.std.specs.Prelude.{◌↔◌, IsTrue}
use Rattle.std.proofs.lemmas.Bool.{false≢true}
use Rattle.std.proofs.lemmas.List.{map_more, map-append, take_all}
use Rattle.stan_select.specs.Lookups.{IsKept}
use Rattle.stan_select.proofs.SelectionLemmas.{AreKept-kept, AreKept-left}
use Rattle.stan_select.proofs.selection.kept.Goals as goal
use Rattle.stan_select.proofs.selection.kept.Goals.{then-is_kept+in_ok-clone+in_ok-push, else-is_kept}

pub loop-file-preserved : goal.loop-file-preserved
loop-file-preserved c =
    let listed = c.args.listed.now in
    let at : ℕ = c.loop-file.file-index in
    let item = c.file-item.result in
    let file : List ℕ = string_bytes item in
    let before : List (List ℕ) = map string_bytes (take at listed) in
    let paths : List (List ℕ) = map string_bytes c.loop-file.paths.items in
    let more : map string_bytes (take (at + 1) listed) ≡ before ++ file ∷ [] = map_more string_bytes listed at item (omega arith) ∙ ap (λ f. before ++ string_bytes f ∷ []) (sym c.file-item.is) in
    let kept = c.is_kept.ensures in
    let is : IsTrue c.is_kept.result ↔ IsKept c.args.lookups.now file = rw c.as_bytes.ensures.value at kept in
    elim c.if-is_kept.branch [
      | then-is_kept+in_ok-clone+in_ok-push w ↦
          let clone : string_bytes w.in_ok-clone.field-0 ≡ file = w.in_ok-clone.ensures.cases in
          let pushed : map string_bytes c.if-is_kept.paths.items ≡ paths ++ file ∷ [] =
          ap (λ v. map string_bytes v.items) w.paths-is ∙ ap (map string_bytes) w.in_ok-push.ensures.items ∙ map-append string_bytes c.loop-file.paths.items (w.in_ok-clone.field-0 ∷ []) ∙ ap (λ f. paths ++ f ∷ []) clone in
          rw (more, pushed) (AreKept-kept c.args.lookups.now before paths file c.loop-file.invariant (is.0 w.if-is_kept.true))
      | else-is_kept w ↦ rw (more, w.paths-is) (AreKept-left c.args.lookups.now before paths file c.loop-file.invariant (λ h. false≢true (sym w.if-is_kept.false ∙ is.1 h)))
    ]

pub returns : goal.returns
returns c =
    let whole : take c.loop-file.file-index c.args.listed.now ≡ c.args.listed.now = take_all c.loop-file.file-index c.args.listed.now c.loop-file-test.false in
    rw whole at c.loop-file.invariant
