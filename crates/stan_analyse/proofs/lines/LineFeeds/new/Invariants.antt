use Rattle.std.proofs.Common.{◌≡◌, ◌++◌, drop}
use Rattle.stan_analyse.specs.Lines.{feeds_from}
use Rattle.stan_analyse.proofs.lines.LineFeeds.new.Given as goal

-- the places so far and those of the rest are those of the source
abbrev pub invariant-loop-place : goal.invariant-loop-place
invariant-loop-place l = l.places.items ++ feeds_from l.place (drop l.place l.source) ≡ feeds_from 0 l.source
