-- Rule 1: a function is called by a name that no file declares.
use Rattle.std.specs.Prelude.{if◌then◌else◌, List, [], ◌∷◌, ◌++◌, codes}
use Rattle.stan_base.specs.declared.ask_kind.AskKind.TheVariants as kinds
use Rattle.stan_model_table.specs.Table.{Exported}
use Rattle.stan_model_facts.specs.Facts.{NameFact, Fact, CallFact, ConstantFact}
use Rattle.stan_model_verdict.specs.Fault.{Fault, shown}
use Rattle.stan_model_verdict.specs.Missing.{is_missing, missing_name}

abbrev pub function_not_found : NameFact → Fault
function_not_found fact = record { line = fact.line; rule = 1; text = codes "Function " ++ shown (missing_name fact) ++ codes " not found." }

abbrev pub functions_not_found : List Exported → Fact → List Fault
functions_not_found table (CallFact fact) = if is_missing table kinds.Function fact then function_not_found fact ∷ [] else []
functions_not_found table (ConstantFact fact) = []
