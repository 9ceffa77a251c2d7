use Rattle.std.proofs.Common.{◌≡◌, ◌+◌, ◌*◌, drop, length, string_bytes}
use Rattle.std.specs.Prelude.{map}
use Rattle.stan_config_paths.specs.TextSet.{has}
use Rattle.stan_model_config.specs.Files.{Neon}
use Rattle.stan_config.specs.Folder.{KeepsTree}
use Rattle.stan_config.specs.Neon.{IsNeon}
use Rattle.stan_config.specs.Reads.{ReadsAdded}
use Rattle.stan_config.specs.Views.{files_view, found_view}
use Rattle.stan_config.specs.Walk.{includes_mean, found_nothing, include_reads}
use Rattle.stan_config.proofs.walk.+walk.Given as goal

-- A file leaves room for one include less, and its includes stand below it.
abbrev pub decreases-each_include : goal.decreases-each_include
decreases-each_include g l = 2 * l.left + 1

abbrev pub decreases-found_at : goal.decreases-found_at
decreases-found_at g l = 2 * l.left

-- What was found so far, with the includes that are left, is all that they mean.
abbrev pub invariant-each_include-loop-include : goal.invariant-each_include-loop-include
invariant-each_include-loop-include g l = record {
  keeps : KeepsTree g.T.Tree.tells g.T.Tree.contents g.T.Tree.faults g.T.Tree.listings g.T.Tree.never_fails l.fn.tree l.tree;
  means : g.T.Tree.tells l.fn.tree → (neon : Neon) → IsNeon neon
      → includes_mean (g.T.Tree.contents l.fn.tree) (has l.listed) l.left (map (λ other. other.now) l.chain) (found_nothing (files_view l.fn.read)) (map string_bytes l.includes) neon
      ≡ includes_mean (g.T.Tree.contents l.fn.tree) (has l.listed) l.left (map (λ other. other.now) l.chain) (found_view l.read l.said) (map string_bytes (drop l.include-index l.includes)) neon;
  once : ReadsAdded (length (files_view l.fn.read)) (length (files_view l.read)) (g.T.Tree.reads l.fn.tree) (g.T.Tree.reads l.tree);
  reads : g.T.Tree.tells l.fn.tree → (neon : Neon) → IsNeon neon
      → include_reads (g.T.Tree.contents l.fn.tree) (has l.listed) l.left (map (λ other. other.now) l.chain) (files_view l.fn.read) (map string_bytes l.includes) neon
      ≡ include_reads (g.T.Tree.contents l.fn.tree) (has l.listed) l.left (map (λ other. other.now) l.chain) (files_view l.read) (map string_bytes (drop l.include-index l.includes)) neon;
}
