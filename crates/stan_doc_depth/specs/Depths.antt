-- How deep a part is.
use Rattle.std.specs.Prelude.{ℕ, ◌+◌}
use Rattle.stan_model_doc.specs.Depth.{levels, depth}
use Rattle.stan_doc_descent.specs.Parse.{Piece}

-- what its production adds, and the deepest of what it is made of
abbrev pub piece_depth : Piece → ℕ
piece_depth p = levels p.0 p.1 + depth p.1
