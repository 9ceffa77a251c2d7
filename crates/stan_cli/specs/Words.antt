-- Which words the program accepts: `analyse --error-format=raw PATH..`, and which part of others it refuses.
use Rattle.std.specs.Prelude.{ℕ, ◌==◌, ◌&&◌, not, if◌then◌else◌, Bool, List, [], ◌∷◌, Option, Some, None, length, codes}
use Rattle.std.specs.List.{list_any, list_all, starts_with}
use Rattle.std.specs.Prelude.{nat_eq}
use Rattle.std.specs.Str.{bytes_eq}
use Rattle.stan_cli.specs.Project.{leads_outside}
use Rattle.stan_cli.specs.declared.words.WordsPart.{WordsPart}
use Rattle.stan_cli.specs.declared.words.WordsPart.TheVariants.{Command, Options, Value}

-- a path begins with `/` or has a part `..`
abbrev pub refused_paths : List (List ℕ) → Option WordsPart
refused_paths paths = if list_any leads_outside paths then Some Value else None

abbrev pub none_is_option : List (List ℕ) → Bool
none_is_option paths = list_all (λ path. not (starts_with nat_eq path (codes "-"))) paths

-- at least one path, and none that begins with `-`
abbrev pub are_positional : List (List ℕ) → Bool
are_positional paths = not (length paths == 0) && none_is_option paths

abbrev pub refused_options : List (List ℕ) → Option WordsPart
refused_options [] = Some Options
refused_options (format ∷ paths) = if bytes_eq format (codes "--error-format=raw") && are_positional paths then refused_paths paths else Some Options

abbrev pub refused_part : List (List ℕ) → Option WordsPart
refused_part [] = Some Command
refused_part (command ∷ words) = if bytes_eq command (codes "analyse") then refused_options words else Some Command
