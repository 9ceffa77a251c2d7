-- The rows of a table of words or marks.
use Rattle.std.specs.Prelude.{ℕ, List}
use Rattle.std.specs.Borrow.{Bor}
use Rattle.stan_model_grammar.specs.declared.token.TokenKind.{TokenKind}

-- the word and its kind
abbrev pub row_of : Bor (List ℕ) × TokenKind → List ℕ × TokenKind
row_of row = (row.0.now, row.1)
