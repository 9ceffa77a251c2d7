-- A folder that is kept step by step is kept.
use Rattle.std.proofs.Common.{◌∙◌, ℕ, arith}
use Rattle.stan_outside.specs.Contents.{Contents}
use Rattle.stan_outside.specs.Outside.{Rose}
use Rattle.stan_config.specs.Folder.{KeepsTree}
use Rattle.stan_config.proofs.StopLemmas.{Rose_later}

module _ {T : Type 0} (tells : T → Type 0) (contents : T → Contents) (faults listings : T → ℕ) (never_fails : T → Type 0) where
  pub keeps_then : (a b c : T) → KeepsTree tells contents faults listings never_fails a b → KeepsTree tells contents faults listings never_fails b c → KeepsTree tells contents faults listings never_fails a c
  keeps_then a b c p q = record {
    tells_alike = (λ t. q.tells_alike.0 (p.tells_alike.0 t), λ t. p.tells_alike.1 (q.tells_alike.1 t));
    same_contents = q.same_contents ∙ p.same_contents;
    no_fewer_faults = omega (arith, p.no_fewer_faults, q.no_fewer_faults);
    same_listings = q.same_listings ∙ p.same_listings;
    same_faults = λ n. q.same_faults (p.still_never_fails n) ∙ p.same_faults n;
    still_never_fails = λ n. q.still_never_fails (p.still_never_fails n);
  }

  -- faults that rose behind a step rose in all
  pub rose_behind : (a b c : T) → KeepsTree tells contents faults listings never_fails a b → Rose (faults b) (faults c) → Rose (faults a) (faults c)
  rose_behind a b c p = Rose_later (faults a) (faults b) (faults c) p.no_fewer_faults
