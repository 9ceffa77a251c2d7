-- A stop of one step is a stop of the steps that begin with it.
use Rattle.std.proofs.Common.{◌≡◌, ◌∙◌, ℕ, ◌≤◌, List, Result, Err, inl, inr, sym, arith}
use Rattle.std.specs.Prelude.{codes}
use Rattle.stan_model_config.specs.Files.{Neon, Stop, BadConfig}
use Rattle.stan_config.specs.declared.stop.ConfigStop.{ConfigStop}
use Rattle.stan_config.specs.declared.stop.ConfigStop.TheVariants as stops
use Rattle.stan_config.specs.Neon.{IsNeon}
use Rattle.stan_config.specs.Stops.{IsCause, IsAtIncludes}
use Rattle.stan_outside.specs.Outside.{Rose}

-- Where each stop of what is meant first is one of what is meant in all.
pub cause_after : {A B : Type 0} (tells_first rose_first tells rose : Type 0) (first : Neon → Result A Stop) (whole : Neon → Result B Stop)
    → (tells → tells_first) → (rose_first → rose) → (tells → (neon : Neon) → IsNeon neon → (stop : Stop) → first neon ≡ Err stop → whole neon ≡ Err stop)
    → (stop : ConfigStop) → IsCause tells_first rose_first first stop → IsCause tells rose whole stop
cause_after tells_first rose_first tells rose first whole told rises then (stops.Missing path) cause = λ t neon is. then t neon is _ (cause (told t) neon is)
cause_after tells_first rose_first tells rose first whole told rises then (stops.BadNeon path line) cause = λ t neon is. then t neon is _ (cause (told t) neon is)
cause_after tells_first rose_first tells rose first whole told rises then (stops.BadConfig path key) cause = λ t neon is. then t neon is _ (cause (told t) neon is)
cause_after tells_first rose_first tells rose first whole told rises then stops.NoPaths cause = λ t neon is. then t neon is _ (cause (told t) neon is)
cause_after tells_first rose_first tells rose first whole told rises then stops.Tree cause = rises cause
cause_after tells_first rose_first tells rose first whole told rises then stops.OutOfMemory cause = tt

pub Rose_later : (a b c : ℕ) → a ≤ b → Rose b c → Rose a c
Rose_later a b c le (inl lt) = inl (omega arith)
Rose_later a b c le (inr e) = inr e

-- a file that is refused at its includes, where it is meant to be
pub cause_at_includes : {A : Type 0} (tells rose : Type 0) (means : Neon → Result A Stop) (file : List ℕ) → (tells → (neon : Neon) → IsNeon neon → means neon ≡ Err (BadConfig file (codes "includes")))
    → (stop : ConfigStop) → IsAtIncludes file stop → IsCause tells rose means stop
cause_at_includes tells rose means file meant (stops.Missing path) at = absurd at
cause_at_includes tells rose means file meant (stops.BadNeon path line) at = absurd at
cause_at_includes tells rose means file meant (stops.BadConfig path key) at = λ t neon is. meant t neon is ∙ (λ i. Err (BadConfig (sym at.0 i) (sym at.1 i)))
cause_at_includes tells rose means file meant stops.NoPaths at = absurd at
cause_at_includes tells rose means file meant stops.Tree at = absurd at
cause_at_includes tells rose means file meant stops.OutOfMemory at = absurd at
