-- The program's verdicts as the definitions see them.
use Rattle.std.specs.Prelude.{◌≡◌, ℕ, List, [], map, string_bytes}
use Rattle.stan_base.specs.Name.{name_bytes}
use Rattle.stan_model_readings.specs.Reading.{Reading}
use Rattle.stan_model_table.specs.Table.{Exported}
use Rattle.stan_model_verdict.specs.Fault as faults
use Rattle.stan_model_verdict.specs.Faults.{faults_of}
use Rattle.stan_analyst.specs.declared.verdict.Collected.{Collected}
use Rattle.stan_analyst.specs.declared.verdict.Collected.TheVariants as variants
use Rattle.stan_analyst.specs.declared.verdict.Fault.{Fault}
use Rattle.stan_analyst.specs.declared.verdict.Verdict.{Verdict}

abbrev pub fault_of : Fault → faults.Fault
fault_of fault = record { line = fault.line; rule = fault.rule; text = string_bytes fault.text }

-- what a collector keeps, with the bytes of its names
pub data Kept : Type 0 where
  TraitDeclared : List ℕ → ℕ → Kept
  TraitUsed : List ℕ → Kept

abbrev pub collected_of : Collected → Kept
collected_of (variants.TraitDeclared name line) = TraitDeclared (name_bytes name) line
collected_of (variants.TraitUsed name) = TraitUsed (name_bytes name)

-- the verdict of a file that is read so, over a table, at a level
pub record IsVerdict (table : List Exported) (source : List ℕ) (level : ℕ) (reading : Reading) (verdict : Verdict) : Type 0 where
  pub faults_are : map fault_of verdict.faults.items ≡ faults_of table source level reading
  pub nothing_collected : verdict.collected.items ≡ []
  pub nothing_ignored : verdict.ignored.items ≡ []
