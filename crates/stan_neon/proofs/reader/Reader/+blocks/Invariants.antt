use Rattle.std.proofs.Common.{◌≡◌, ◌++◌, ◌+◌, ◌*◌, length}
use Rattle.stan_model_neon.specs.Outlines.{Items as ItemLines}
use Rattle.stan_model_neon.specs.Outlines.{Pairs as PairLines}
use Rattle.stan_model_neon.specs.Outlines.{items_of, pairs_of}
use Rattle.stan_neon.specs.Reader.{ahead, dashes_of, indentation_of}
use Rattle.stan_neon.specs.Reading.{read_lines}
use Rattle.stan_neon.proofs.reader.Reader.+blocks.Given as goal

-- A call goes down in the blocks that are left, else in the order of this list.
abbrev pub decreases-lines : goal.decreases-lines
decreases-lines l = 8 * l.left + 7

abbrev pub decreases-items : goal.decreases-items
decreases-items l = 8 * l.left + 6

abbrev pub decreases-item : goal.decreases-item
decreases-item l = 8 * l.left + 5

abbrev pub decreases-map : goal.decreases-map
decreases-map l = 8 * l.left + 4

abbrev pub decreases-pairs : goal.decreases-pairs
decreases-pairs l = 8 * l.left + 3

abbrev pub decreases-pair : goal.decreases-pair
decreases-pair l = 8 * l.left + 2

abbrev pub decreases-value : goal.decreases-value
decreases-value l = 8 * l.left + 1

abbrev pub decreases-block : goal.decreases-block
decreases-block l = 8 * l.left

-- The lines that are left complete the items.
abbrev pub invariant-items-loop-nodes : goal.invariant-items-loop-nodes
invariant-items-loop-nodes l = record {
  value : items_of (read_lines l.left (dashes_of l.fn.self) ItemLines (indentation_of l.place) (ahead l.fn.self)).0 ≡ l.nodes ++ items_of (read_lines l.left (dashes_of l.fn.self) ItemLines (indentation_of l.place) (ahead l.self)).0;
  rest : (read_lines l.left (dashes_of l.fn.self) ItemLines (indentation_of l.place) (ahead l.fn.self)).1 ≡ (read_lines l.left (dashes_of l.fn.self) ItemLines (indentation_of l.place) (ahead l.self)).1;
  dashes : dashes_of l.self ≡ dashes_of l.fn.self;
}

abbrev pub decreases-items-loop-nodes : goal.decreases-items-loop-nodes
decreases-items-loop-nodes l = length (ahead l.self)

-- The lines that are left complete the pairs.
abbrev pub invariant-pairs-loop-pairs : goal.invariant-pairs-loop-pairs
invariant-pairs-loop-pairs l = record {
  value : l.fn.before ++ pairs_of (read_lines l.left (dashes_of l.fn.self) PairLines (indentation_of l.place) (ahead l.fn.self)).0 ≡ l.pairs ++ pairs_of (read_lines l.left (dashes_of l.fn.self) PairLines (indentation_of l.place) (ahead l.self)).0;
  rest : (read_lines l.left (dashes_of l.fn.self) PairLines (indentation_of l.place) (ahead l.fn.self)).1 ≡ (read_lines l.left (dashes_of l.fn.self) PairLines (indentation_of l.place) (ahead l.self)).1;
  dashes : dashes_of l.self ≡ dashes_of l.fn.self;
}

abbrev pub decreases-pairs-loop-pairs : goal.decreases-pairs-loop-pairs
decreases-pairs-loop-pairs l = length (ahead l.self)
