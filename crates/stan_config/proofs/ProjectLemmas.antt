-- What a project's files say, and what its configuration means.
use Rattle.std.proofs.Common.{◌≡◌, ◌∙◌, ℕ, Bool, List, [], Option, Some, Result, Ok, Err, sym, ap}
use Rattle.std.specs.Prelude.{IfOk, IfErr}
use Rattle.stan_outside.specs.Contents.{Contents}
use Rattle.stan_settings.specs.declared.Config.{Config}
use Rattle.stan_config_said.specs.declared.content.Said.{Said as CodeSaid}
use Rattle.stan_config_said.specs.Views.{said_view}
use Rattle.stan_model_config.specs.Faults.{is_among}
use Rattle.stan_model_config.specs.Said.{Said}
use Rattle.stan_model_config.specs.Files.{Neon, Stop, Asked, Found, then_ok, content_at, found_at, most_includes, said_from, root_of, meaning, with_paths, configuration}
use Rattle.stan_config.specs.declared.stop.ConfigStop.{ConfigStop}
use Rattle.stan_config.specs.Neon.{IsMeant}
use Rattle.stan_config.specs.Stops.{IsCause}
use Rattle.stan_config.specs.Views.{config_view}
use Rattle.stan_config.specs.Walk.{file_means}
use Rattle.stan_config.proofs.StopLemmas.{cause_after}

-- ---- what the files say, from the root on

module _ (contents : Contents) (is_listed : List ℕ → Bool) (tells : Type 0) (chain read : List (List ℕ)) (file : List ℕ) (root : Option (List ℕ)) (is_chain : chain ≡ []) (is_read : read ≡ []) (is_root : root ≡ Some file) where
  from_root : (neon : Neon) (answer : Result Found Stop) → file_means contents is_listed most_includes chain read file neon ≡ answer → said_from (content_at neon contents is_listed) root ≡ then_ok answer (λ found. Ok found.said)
  from_root neon answer e =
      ap (λ r. said_from (content_at neon contents is_listed) r) is_root
      ∙ (λ i. then_ok (found_at (content_at neon contents is_listed) most_includes (sym is_chain i) (sym is_read i) file) (λ found. Ok found.said))
      ∙ ap (λ r. then_ok r (λ found. Ok found.said)) e

  pub root_good : (last : List (List ℕ)) (result : Result CodeSaid ConfigStop) → IfOk result (λ said. tells → IsMeant (file_means contents is_listed most_includes chain read file) (Ok (record { said = said_view said; read = last })))
      → IfOk result (λ said. tells → IsMeant (λ neon. said_from (content_at neon contents is_listed) root) (Ok (said_view said)))
  root_good last (Ok said) h = λ told neon is. from_root neon (Ok (record { said = said_view said; read = last })) (h told neon is)
  root_good last (Err stop) h = h

  pub root_refused : (rose : Type 0) (result : Result CodeSaid ConfigStop) → IfErr result (λ stop. IsCause tells rose (file_means contents is_listed most_includes chain read file) stop)
      → IfErr result (λ stop. IsCause tells rose (λ neon. said_from (content_at neon contents is_listed) root) stop)
  root_refused rose (Ok said) h = h
  root_refused rose (Err stop) h =
      cause_after tells rose tells rose (file_means contents is_listed most_includes chain read file) (λ neon. said_from (content_at neon contents is_listed) root) (λ t. t) (λ r. r)
      (λ told neon is s e. from_root neon (Err s) e) stop h

-- ---- the configuration, from what the files say

module _ (contents : Contents) (listed : List (List ℕ)) (is_listed : List ℕ → Bool) (are : (text : List ℕ) → is_listed text ≡ is_among listed text) (words : Asked) (root : Option (List ℕ)) (is_root : root ≡ root_of is_listed words.configuration) (tells : Type 0) where
  same_listed : is_listed ≡ is_among listed
  same_listed = λ i. λ text. are text i

  from_said : (neon : Neon) (answer : Result Said Stop) → said_from (content_at neon contents is_listed) root ≡ answer → configuration neon contents listed words ≡ then_ok answer (λ said. with_paths (meaning words said))
  from_said neon answer e =
      (λ i. then_ok (said_from (content_at neon contents (sym same_listed i)) (root_of (sym same_listed i) words.configuration)) (λ said. with_paths (meaning words said)))
      ∙ ap (λ r. then_ok (said_from (content_at neon contents is_listed) r) (λ said. with_paths (meaning words said))) (sym is_root)
      ∙ ap (λ r. then_ok r (λ said. with_paths (meaning words said))) e

  -- what was said is not refused
  module _ (said : Said) (by_files : tells → IsMeant (λ neon. said_from (content_at neon contents is_listed) root) (Ok said)) where
    pub said_good : (result : Result Config ConfigStop) → IfOk result (λ config. with_paths (meaning words said) ≡ Ok (config_view config)) → IfOk result (λ config. tells → IsMeant (λ neon. configuration neon contents listed words) (Ok (config_view config)))
    said_good (Ok config) h = λ told neon is. from_said neon (Ok said) (by_files told neon is) ∙ h
    said_good (Err stop) h = h

    pub said_refused : (rose : Type 0) (result : Result Config ConfigStop) → IfErr result (λ stop. IsCause (Unit {0}) ⊥ (λ _. with_paths (meaning words said)) stop) → IfErr result (λ stop. IsCause tells rose (λ neon. configuration neon contents listed words) stop)
    said_refused rose (Ok config) h = h
    said_refused rose (Err stop) h =
        cause_after (Unit {0}) ⊥ tells rose (λ _. with_paths (meaning words said)) (λ neon. configuration neon contents listed words) (λ t. tt) (λ r. absurd r)
        (λ told neon is s e. from_said neon (Ok said) (by_files told neon is) ∙ e) stop h

  pub files_refused : (rose : Type 0) (stop : ConfigStop) → IsCause tells rose (λ neon. said_from (content_at neon contents is_listed) root) stop → IsCause tells rose (λ neon. configuration neon contents listed words) stop
  files_refused rose =
      cause_after tells rose tells rose (λ neon. said_from (content_at neon contents is_listed) root) (λ neon. configuration neon contents listed words) (λ t. t) (λ r. r)
      (λ told neon is s e. from_said neon (Err s) e)
