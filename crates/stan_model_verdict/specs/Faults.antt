-- The faults of a file over a whole table: of each fact what the rules say of it, at this level, in order.
use Rattle.std.specs.Prelude.{ℕ, List, ◌++◌, filter}
use Rattle.std.specs.List.{flat_map}
use Rattle.stan_model_readings.specs.Reading.{Reading, Readable, TooLarge, NotUtf8, Broken}
use Rattle.stan_model_table.specs.Table.{Exported}
use Rattle.stan_model_facts.specs.Facts.{Fact, facts_of}
use Rattle.stan_model_verdict.specs.Fault.{Fault, in_order}
use Rattle.stan_model_verdict.specs.Levels.{is_within}
use Rattle.stan_model_verdict.specs.UnreadableFile.{unreadable_file}
use Rattle.stan_model_verdict.specs.FunctionNotFound.{functions_not_found}
use Rattle.stan_model_verdict.specs.ConstantNotFound.{constants_not_found}

-- one line a rule
abbrev pub faults_of_fact : List Exported → Fact → List Fault
faults_of_fact table fact =
    functions_not_found table fact
    ++ constants_not_found table fact

abbrev pub faults_of : List Exported → List ℕ → ℕ → Reading → List Fault
faults_of table source level (Readable file) = in_order (filter (is_within level) (flat_map (faults_of_fact table) (facts_of source file.tops)))
faults_of table source level TooLarge = unreadable_file TooLarge
faults_of table source level NotUtf8 = unreadable_file NotUtf8
faults_of table source level (Broken line) = unreadable_file (Broken line)
