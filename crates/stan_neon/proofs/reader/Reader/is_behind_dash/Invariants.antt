use Rattle.std.proofs.Common.{◌≡◌, drop}
use Rattle.std.specs.Prelude.{map}
use Rattle.std.specs.List.{list_any}
use Rattle.std.specs.Str.{bytes_eq}
use Rattle.stan_model_neon.specs.Outlines.{behind_dash}
use Rattle.stan_neon.specs.Reader.{dashes_of}
use Rattle.stan_neon.proofs.reader.Reader.is_behind_dash.Given as goal

-- None of the dashes so far.
abbrev pub invariant-loop-dash : goal.invariant-loop-dash
invariant-loop-dash l = list_any (λ dash. bytes_eq l.indentation (behind_dash dash)) (dashes_of l.self) ≡ list_any (λ dash. bytes_eq l.indentation (behind_dash dash)) (map (λ dash. dash.now) (drop l.dash-index l.self.dashes.items))
