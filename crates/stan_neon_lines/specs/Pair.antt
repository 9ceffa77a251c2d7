-- Pairs of the code as the model's.
use Rattle.std.specs.Prelude.{ℕ, List, Option, Some, None}
use Rattle.stan_model_neon.specs.declared.node.Node.{Node}
use Rattle.stan_neon_lines.specs.declared.entries.Pair.{Pair}
use Rattle.stan_neon_lines.specs.declared.entries.Behind.{Behind}
use Rattle.stan_neon_lines.specs.declared.entries.Behind.TheVariants as behind

abbrev pub pair_of : Pair → List ℕ × Option Node
pair_of pair = (pair.key, pair.value)

abbrev pub behind_of : Behind → Option (Option Node)
behind_of behind.Nothing = Some None
behind_of (behind.Value node) = Some (Some node)
behind_of behind.Broken = None
