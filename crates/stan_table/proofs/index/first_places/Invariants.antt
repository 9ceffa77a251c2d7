use Rattle.std.proofs.Common.{map, take}
use Rattle.stan_table.specs.Table.{node_of}
use Rattle.stan_table.specs.Places.{Answers}
use Rattle.stan_table.proofs.index.first_places.Given as goal

-- the map answers as the nodes so far
abbrev pub invariant-loop-place : goal.invariant-loop-place
invariant-loop-place l = Answers l.kind l.places (map node_of (take l.place l.nodes))
