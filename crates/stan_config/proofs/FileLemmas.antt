-- One file, read and judged.
use Rattle.std.proofs.Common.{◌≡◌, ◌∙◌, ℕ, List, Result, Ok, Err, sym, ap}
use Rattle.std.specs.Prelude.{IfOk, IfErr}
use Rattle.stan_model_neon.specs.declared.node.Node.{Node}
use Rattle.stan_neon.specs.Texts.{IsTreeOf, IsBadAt}
use Rattle.stan_config_said.specs.declared.content.Content.{Content}
use Rattle.stan_config_said.specs.Views.{content_view}
use Rattle.stan_model_config.specs.Faults.{file_fault}
use Rattle.stan_model_config.specs.Files.{BadNeon, judged, read_as}
use Rattle.stan_config.specs.declared.stop.ConfigStop.{ConfigStop}
use Rattle.stan_config.specs.Neon.{IsMeant}
use Rattle.stan_config.specs.Stops.{IsCause}
use Rattle.stan_config.proofs.NeonLemmas.{neon_tree, neon_bad}
use Rattle.stan_config.proofs.StopLemmas.{cause_after}

module _ (text file : List ℕ) where
  -- a text with a tree
  pub read_good : (node : Node) → IsTreeOf text node → (result : Result Content ConfigStop) → IfOk result (λ content. judged file node (file_fault file node) ≡ Ok (content_view content))
      → IfOk result (λ content. IsMeant (λ neon. read_as file (neon text)) (Ok (content_view content)))
  read_good node tree (Ok content) e = λ neon is. ap (read_as file) (neon_tree neon is text node tree) ∙ e
  read_good node tree (Err stop) e = e

  pub read_refused : (node : Node) → IsTreeOf text node → (result : Result Content ConfigStop) → IfErr result (λ stop. IsCause (Unit {0}) ⊥ (λ _. judged file node (file_fault file node)) stop)
      → IfErr result (λ stop. IsCause (Unit {0}) ⊥ (λ neon. read_as file (neon text)) stop)
  read_refused node tree (Ok content) h = h
  read_refused node tree (Err stop) h =
      cause_after (Unit {0}) ⊥ (Unit {0}) ⊥ (λ _. judged file node (file_fault file node)) (λ neon. read_as file (neon text)) (λ t. t) (λ r. r)
      (λ t neon is s e. ap (read_as file) (neon_tree neon is text node tree) ∙ e) stop h

  pub read_bad : (line : ℕ) → IsBadAt text line → (path : List ℕ) → path ≡ file → IsMeant (λ neon. read_as file (neon text)) (Err (BadNeon path line))
  read_bad line bad path e = λ neon is. ap (read_as file) (neon_bad neon is text line bad) ∙ ap (λ p. Err (BadNeon p line)) (sym e)
