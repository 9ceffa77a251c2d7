-- What holds of every project: each is the contract of a function of the module `laws`.
use Rattle.std.specs.Prelude.{◌≡◌, ◌≢◌, ℕ, List, Some, Err}
use Rattle.std.specs.List.{AllPairs}
use Rattle.stan_outside.specs.Contents.{Contents}
use Rattle.stan_model_config.specs.Faults.{is_among}
use Rattle.stan_model_config.specs.Files.{Neon, Stop, Asked, content_at, root_of, configuration}
use Rattle.stan_config.specs.Neon.{IsNeon}
use Rattle.stan_config.specs.Reads.{files_read}

-- Every text is some NEON or none, so every project's configuration means something or is refused.
abbrev pub EveryProjectIsAnswered : Type 0
EveryProjectIsAnswered = (neon : Neon) × IsNeon neon

-- A configuration has one meaning, or one refusal.
abbrev pub OneAnswer : Type 0
OneAnswer = (neon other : Neon) → IsNeon neon → IsNeon other → (contents : Contents) (listed : List (List ℕ)) (words : Asked) → configuration neon contents listed words ≡ configuration other contents listed words

-- What the root is refused for decides, whatever stands in other files.
abbrev pub TheRootComesFirst : Type 0
TheRootComesFirst = (neon : Neon) (contents : Contents) (listed : List (List ℕ)) (words : Asked) (root : List ℕ) (stop : Stop) → root_of (is_among listed) words.configuration ≡ Some root
    → content_at neon contents (is_among listed) root ≡ Err stop → configuration neon contents listed words ≡ Err stop

-- No file is read twice for a configuration.
abbrev pub NoFileIsReadTwice : Type 0
NoFileIsReadTwice = (neon : Neon) (contents : Contents) (listed : List (List ℕ)) (words : Asked) → AllPairs (λ x y. x ≢ y) (files_read neon contents listed words)
