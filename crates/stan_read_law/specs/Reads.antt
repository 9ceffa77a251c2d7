-- What the parser on places reads of declarations and statements in a row.
use Rattle.std.specs.Prelude.{◌≡◌, ℕ, Bool, List, Some}
use Rattle.stan_model_grammar.specs.declared.token.Token.{Token}
use Rattle.stan_model_statements.specs.Symbols.{Top}
use Rattle.stan_model_statements.specs.Trees.{Tops, no_top, top}
use Rattle.stan_model_files.specs.Put.{put_top}
use Rattle.stan_model_files.specs.Shapes.{nil}
use Rattle.stan_model_readings.specs.Fronts.{Ended}
use Rattle.stan_expr_rules.specs.Parse.{Read}
use Rattle.stan_stmt_rules.specs.Parse.{behind}
use Rattle.stan_stmt_parts.specs.Parse.{Piece, piece_of, one, read}
use Rattle.stan_stmt_bodies.specs.Values.{value_at}

-- So deep nest the productions of what opens at most 200 levels, with those in the bodies of its closures: at most 7 in each level, and 6
-- outside of all.
abbrev pub enough : ℕ
enough = 1406

module _ (ts : List Token) (named : Token → Bool) where
  -- the declaration or statement that the parser reads there, with room for so many productions in one another
  abbrev pub top_read : ℕ → ℕ → Read Piece
  top_read room at = one ts named (value_at ts named) (behind ts) (read ts named (value_at ts named) (behind ts) room 0) 0 Top at

  -- They are read one after the other, each ended.
  abbrev pub AreRead : ℕ → Tops → ℕ → ℕ → Type 0
  AreRead room no_top from to = from ≡ to
  AreRead room (top x xs) from to = (b : ℕ) × (top_read room from ≡ Some (piece_of (put_top x nil), b)) × Ended ts named b × AreRead room xs b to
