-- The rows of a table of words or marks.
use Rattle.std.specs.Prelude.{ℕ, List, [], ◌∷◌, if◌then◌else◌}
use Rattle.std.specs.Borrow.{Bor}
use Rattle.std.specs.Str.{bytes_eq}
use Rattle.stan_base.specs.Bytes.{fold_case}
use Rattle.stan_model_doc.specs.declared.token.DocKind.{DocKind}

-- the word and its kind
abbrev pub row_of : Bor (List ℕ) × DocKind → List ℕ × DocKind
row_of row = (row.0.now, row.1)

-- the kind that a table gives a word, whose case is passed over, or another one
abbrev pub kind_of_folded : List (List ℕ × DocKind) → DocKind → List ℕ → DocKind
kind_of_folded [] other word = other
kind_of_folded (row ∷ rows) other word = if bytes_eq (fold_case word) (fold_case row.0) then row.1 else kind_of_folded rows other word
