-- The report of a project: each file is judged over the table of all.
use Rattle.std.specs.Prelude.{◌≡◌, ℕ, ◌==◌, not, if◌then◌else◌, List, [], ◌∷◌, length}
use Rattle.std.specs.List.{list_any}
use Rattle.stan_model_readings.specs.Reading.{Reading, AreReadings}
use Rattle.stan_model_relations.specs.Exports.{table_of}
use Rattle.stan_model_table.specs.Table.{Exported}
use Rattle.stan_model_verdict.specs.Fault.{Fault}
use Rattle.stan_model_verdict.specs.Faults.{faults_of}
use Rattle.stan_cli.specs.Project.{sources_of}
use Rattle.stan_cli.specs.Raw.{raw_text}

-- the level of all runs
abbrev pub run_level : ℕ
run_level = 0

-- each path with the faults of its source over a table
abbrev pub judged : List Exported → List (List ℕ × List ℕ) → List Reading → List (List ℕ × List Fault)
judged table [] readings = []
judged table (file ∷ files) [] = []
judged table (file ∷ files) (reading ∷ readings) = (file.0, faults_of table file.1 run_level reading) ∷ judged table files readings

-- 1 where a file has a fault, else 0
abbrev pub status_of : List (List ℕ × List Fault) → ℕ
status_of files = if list_any (λ file. not (length file.1 == 0)) files then 1 else 0

-- the faults of all files, as the files are read
abbrev pub faults_of_project : List (List ℕ × List ℕ) → List Reading → List (List ℕ × List Fault)
faults_of_project files readings = judged (table_of (sources_of files) readings) files readings

-- The text and the status of the files, which are read in one way.
pub record IsReport (files : List (List ℕ × List ℕ)) (text : List ℕ) (status : ℕ) : Type 0 where
  pub readings : List Reading
  pub are_read : AreReadings (sources_of files) readings
  pub text_is : text ≡ raw_text (faults_of_project files readings)
  pub status_is : status ≡ status_of (faults_of_project files readings)

-- a table of what the sources declare
abbrev pub IsTable : List (List ℕ) → List Exported → Type 0
IsTable sources table = (readings : List Reading) × AreReadings sources readings × (table ≡ table_of sources readings)

-- the files with their faults over a table
abbrev pub AreJudged : List Exported → List (List ℕ × List ℕ) → List (List ℕ × List Fault) → Type 0
AreJudged table files faults = (readings : List Reading) × AreReadings (sources_of files) readings × (faults ≡ judged table files readings)
