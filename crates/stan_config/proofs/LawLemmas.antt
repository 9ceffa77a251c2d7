-- Every project has one answer.
use Rattle.std.proofs.Common.{◌≡◌, ◌∙◌, ◌⊎◌, ℕ, List, [], Some, Result, Ok, Err, inl, inr, ap}
use Rattle.stan_model_neon.specs.declared.node.Node.{Node}
use Rattle.stan_neon.specs.Texts.{IsTreeOf, IsBadAt}
use Rattle.stan_neon.proofs.DocumentLemmas.{answered}
use Rattle.stan_outside.specs.Contents.{Contents}
use Rattle.stan_model_config.specs.Faults.{is_among}
use Rattle.stan_model_config.specs.Files.{Neon, Stop, Asked, content_at, root_of, configuration, most_includes, then_ok, said_from, with_paths, meaning}
use Rattle.stan_config.specs.Neon.{IsReadAs, IsNeon}
use Rattle.stan_config.proofs.NeonLemmas.{neon_tree, neon_bad}
use Rattle.stan_config.proofs.WalkLemmas.{found_err}

abbrev Answer : List ℕ → Type 0
Answer text = ((node : Node) × IsTreeOf text node) ⊎ ((line : ℕ) × IsBadAt text line)

abbrev told : (text : List ℕ) → Answer text → Result Node ℕ
told text (inl tree) = Ok tree.0
told text (inr bad) = Err bad.0

told-is : (text : List ℕ) (answer : Answer text) → IsReadAs text (told text answer)
told-is text (inl tree) = tree.1
told-is text (inr bad) = bad.1

pub some_neon : (neon : Neon) × IsNeon neon
some_neon = (λ text. told text (answered text), λ text. told-is text (answered text))

same_at : (neon : Neon) → IsNeon neon → (text : List ℕ) (answer : Result Node ℕ) → IsReadAs text answer → neon text ≡ answer
same_at neon is text (Ok node) tree = neon_tree neon is text node tree
same_at neon is text (Err line) bad = neon_bad neon is text line bad

same_neon : (neon other : Neon) → IsNeon neon → IsNeon other → neon ≡ other
same_neon neon other is are = λ i. λ text. same_at neon is text (other text) (are text) i

pub one_answer : (neon other : Neon) → IsNeon neon → IsNeon other → (contents : Contents) (listed : List (List ℕ)) (words : Asked) → configuration neon contents listed words ≡ configuration other contents listed words
one_answer neon other is are contents listed words = ap (λ n. configuration n contents listed words) (same_neon neon other is are)

pub root_first : (neon : Neon) (contents : Contents) (listed : List (List ℕ)) (words : Asked) (root : List ℕ) (stop : Stop) → root_of (is_among listed) words.configuration ≡ Some root
    → content_at neon contents (is_among listed) root ≡ Err stop → configuration neon contents listed words ≡ Err stop
root_first neon contents listed words root stop at e =
    ap (λ r. then_ok (said_from (content_at neon contents (is_among listed)) r) (λ said. with_paths (meaning words said))) at
    ∙ ap (λ r. then_ok (then_ok r (λ found. Ok found.said)) (λ said. with_paths (meaning words said))) (found_err (content_at neon contents (is_among listed)) most_includes [] [] root stop e)
