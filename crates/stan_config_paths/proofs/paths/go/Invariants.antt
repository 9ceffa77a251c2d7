use Rattle.std.proofs.Common.{◌≡◌, drop}
use Rattle.std.specs.Prelude.{map}
use Rattle.stan_model_config.specs.Paths.{go}
use Rattle.stan_config_paths.proofs.paths.go.Given as goal

-- The parts that are left lead on from here.
abbrev pub invariant-loop-part : goal.invariant-loop-part
invariant-loop-part l = go (map (λ part. part.now) l.fn.from.items) (map (λ part. part.now) l.fn.parts) ≡ go (map (λ part. part.now) l.folder.items) (map (λ part. part.now) (drop l.part-index l.parts))
