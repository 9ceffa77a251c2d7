-- Tests of values, as the code makes them.
use Rattle.std.specs.Prelude.{ℕ, if◌then◌else◌, Bool, List, Some, None, codes}
use Rattle.std.specs.List.{list_any}
use Rattle.std.specs.Str.{bytes_eq}
use Rattle.stan_model_neon.specs.declared.node.Node.{Node}
use Rattle.stan_model_config.specs.declared.place.Place.TheVariants as places
use Rattle.stan_model_config.specs.Faults.{Fault}

-- a value is at fault unless it means something
abbrev pub fault_unless : Bool → Fault
fault_unless means = if means then None else Some places.Here

abbrev pub has_message : List (List ℕ × Node) → Bool
has_message pairs = list_any (λ pair. bytes_eq pair.0 (codes "message")) pairs
