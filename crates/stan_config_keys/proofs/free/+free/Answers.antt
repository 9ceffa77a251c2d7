use Rattle.std.proofs.Common.{rules}
use Rattle.stan_config_keys.proofs.FreeLemmas.{free-List, free-Map, free-Null, free-Bool, free-Int, free-Text}
use Rattle.stan_config_keys.proofs.free.+free.Goals as goal

pub free_fault-returns-in-List : goal.free_fault-returns-in-List
free_fault-returns-in-List t c = rw (c.in-List.is, free-List) (search rules)

pub free_fault-returns-in-Map : goal.free_fault-returns-in-Map
free_fault-returns-in-Map t c = rw (c.in-Map.is, free-Map) (search rules)

pub free_fault-returns-in-Null : goal.free_fault-returns-in-Null
free_fault-returns-in-Null t c = rw (c.in-Null.is, free-Null) (search rules)

pub free_fault-returns-in-Bool : goal.free_fault-returns-in-Bool
free_fault-returns-in-Bool t c = rw (c.in-Bool.is, free-Bool) (search rules)

pub free_fault-returns-in-Int : goal.free_fault-returns-in-Int
free_fault-returns-in-Int t c = rw (c.in-Int.is, free-Int) (search rules)

pub free_fault-returns-in-Text : goal.free_fault-returns-in-Text
free_fault-returns-in-Text t c = rw (c.in-Text.is, free-Text) (search rules)
