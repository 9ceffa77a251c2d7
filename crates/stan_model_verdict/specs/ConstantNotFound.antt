-- Rule 15: a constant is named that no file declares.
use Rattle.std.specs.Prelude.{if◌then◌else◌, List, [], ◌∷◌, ◌++◌, codes}
use Rattle.stan_base.specs.declared.ask_kind.AskKind.TheVariants as kinds
use Rattle.stan_model_table.specs.Table.{Exported}
use Rattle.stan_model_facts.specs.Facts.{NameFact, Fact, CallFact, ConstantFact}
use Rattle.stan_model_verdict.specs.Fault.{Fault, shown}
use Rattle.stan_model_verdict.specs.Missing.{is_missing, missing_name}

abbrev pub constant_not_found : NameFact → Fault
constant_not_found fact = record { line = fact.line; rule = 15; text = codes "Constant " ++ shown (missing_name fact) ++ codes " not found." }

abbrev pub constants_not_found : List Exported → Fact → List Fault
constants_not_found table (CallFact fact) = []
constants_not_found table (ConstantFact fact) = if is_missing table kinds.Constant fact then constant_not_found fact ∷ [] else []
