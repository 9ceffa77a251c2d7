use Rattle.std.proofs.Common.{rules, tests}
use Rattle.std.proofs.lemmas.Iterator.{YieldsList-from_slice}
use Rattle.std.proofs.lemmas.Iterator.Search.{all_from_yields_List}
use Rattle.stan_outside.specs.Memory.{is_path, path_of}
use Rattle.stan_outside.proofs.MemoryLemmas.{proper_decided}
use Rattle.stan_outside.proofs.paths.are_proper.Goals as goal

pub returns : goal.returns
returns c =
    proper_decided c.args.files.now c.all.result (all_from_yields_List (λ file. is_path (path_of file)) _ _ _ c.all.ensures.ran (YieldsList-from_slice c.args.files.now cc) (λ x b q k. search (rules, tests)))
