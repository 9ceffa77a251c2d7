use Rattle.std.proofs.Common.{◌≡◌, ℕ, ◌+◌, ◌≤◌, List, ◌++◌, map, take, string_bytes, length}
use Rattle.stan_cli.specs.Project.{most_bytes, excess_from, reads_until}
use Rattle.stan_outside.specs.Outside.{RoseBy}
use Rattle.stan_cli.specs.Sources.{KeepsTree, source_bytes, source_at}
use Rattle.stan_cli.proofs.sources.read_sources.Given as goal

-- the sources of the paths so far, whose bytes are counted
abbrev pub invariant-loop-path : goal.invariant-loop-path
invariant-loop-path g l = record {
  keeps : KeepsTree g.T.Tree.tells g.T.Tree.contents g.T.Tree.faults g.T.Tree.never_fails l.initial.tree l.tree;
  sources : g.T.Tree.tells l.initial.tree → map source_bytes l.sources.items ≡ map (source_at (g.T.Tree.contents l.initial.tree)) (map string_bytes (take l.path-index l.paths));
  each : length l.sources.items ≡ l.path-index;
  sum : (rest : List (List ℕ)) → excess_from 0 (map source_bytes l.sources.items ++ rest) ≡ excess_from l.total rest;
  within : l.total ≤ most_bytes;
  until : (rest : List (List ℕ)) → reads_until 0 (map source_bytes l.sources.items ++ rest) ≡ l.path-index + reads_until l.total rest;
  unlisted : g.T.Tree.listings l.tree ≡ g.T.Tree.listings l.initial.tree;
  read : RoseBy l.path-index (g.T.Tree.reads l.initial.tree) (g.T.Tree.reads l.tree);
}
