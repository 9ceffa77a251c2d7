-- The program's facts, as the definitions see them.
use Rattle.std.specs.Prelude.{option_map}
use Rattle.stan_base.specs.Name.{name_bytes}
use Rattle.stan_model_facts.specs.Facts as model
use Rattle.stan_analyse.specs.declared.facts.NameFact.{NameFact}
use Rattle.stan_analyse.specs.declared.facts.Fact.{Fact}
use Rattle.stan_analyse.specs.declared.facts.Fact.TheVariants as facts

abbrev pub name_fact_of : NameFact → model.NameFact
name_fact_of fact = record { line = fact.line; name = name_bytes fact.name; second = option_map name_bytes fact.second }

abbrev pub fact_of : Fact → model.Fact
fact_of (facts.Call fact) = model.CallFact (name_fact_of fact)
fact_of (facts.Constant fact) = model.ConstantFact (name_fact_of fact)
