-- A name that no file declares, by either of the names that it may mean.
use Rattle.std.specs.Prelude.{ℕ, Bool, true, ◌&&◌, List, is_none}
use Rattle.std.specs.Option.{option_map_or}
use Rattle.stan_base.specs.declared.ask_kind.AskKind.{AskKind}
use Rattle.stan_model_table.specs.Table.{Exported, answer_of}
use Rattle.stan_model_facts.specs.Facts.{NameFact}

abbrev pub is_absent : List Exported → AskKind → List ℕ → Bool
is_absent table kind name = is_none (answer_of table kind name)

-- the table lacks both
abbrev pub is_missing : List Exported → AskKind → NameFact → Bool
is_missing table kind fact = is_absent table kind fact.name && option_map_or (is_absent table kind) fact.second true

-- the name that is shown: a second one stands without the namespace
abbrev pub missing_name : NameFact → List ℕ
missing_name fact = option_map_or (λ name. name) fact.second fact.name
