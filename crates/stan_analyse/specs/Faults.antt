-- The faults of parts of a file, in the order in which they are found.
use Rattle.std.specs.Prelude.{ℕ, List}
use Rattle.std.specs.List.{flat_map}
use Rattle.stan_model_facts.specs.Facts.{fact_of_found}
use Rattle.stan_model_names.specs.Resolve.{Scope}
use Rattle.stan_model_statements.specs.Trees.{Statement, Tops}
use Rattle.stan_model_table.specs.Table.{Exported}
use Rattle.stan_model_verdict.specs.Fault.{Fault}
use Rattle.stan_model_verdict.specs.Faults.{faults_of_fact}
use Rattle.stan_model_walk.specs.Findings.{Found, findings}
use Rattle.stan_model_walk.specs.Scopes.{outside, in_tops}

module _ (table : List Exported) (source : List ℕ) where
  abbrev pub faults_of_found : Scope → Found → List Fault
  faults_of_found scope f = flat_map (faults_of_fact table) (fact_of_found source scope f)

  abbrev pub faults_of_statement : Scope → Statement → List Fault
  faults_of_statement scope s = flat_map (faults_of_found scope) (findings s)

  abbrev pub faults_of_tops : Tops → List Fault
  faults_of_tops tops = in_tops faults_of_statement source outside tops
