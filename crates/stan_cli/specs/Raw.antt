-- The raw report: a line `PATH:LINE:TEXT` for each fault.
use Rattle.std.specs.Prelude.{ℕ, List, ◌++◌, codes}
use Rattle.std.specs.List.{flat_map}
use Rattle.std.specs.Fmt.{decimal}
use Rattle.stan_model_verdict.specs.Fault.{Fault}

abbrev pub raw_line : List ℕ → Fault → List ℕ
raw_line path fault = path ++ codes ":" ++ decimal fault.line ++ codes ":" ++ fault.text ++ codes "\n"

abbrev pub raw_lines : List ℕ × List Fault → List ℕ
raw_lines file = flat_map (raw_line file.0) file.1

abbrev pub raw_text : List (List ℕ × List Fault) → List ℕ
raw_text files = flat_map raw_lines files
