-- The rows of a text.
use Rattle.std.specs.Prelude.{ℕ, ◌==◌, ◌||◌, not, Bool, List, codes, filter, length, nat_eq}
use Rattle.std.specs.List.{slice_split, starts_with}

-- the lines of a text, one more than it has line feeds
abbrev pub lines_of : List ℕ → List (List ℕ)
lines_of text = slice_split (λ byte. byte == 10) text

-- Each line is a row that is neither empty nor a remark, which begins with `#` and a blank.
abbrev pub is_row : List ℕ → Bool
is_row line = not ((length line == 0) || starts_with nat_eq line (codes "# "))

-- the rows of a text, in its order
abbrev pub rows_of : List ℕ → List (List ℕ)
rows_of text = filter is_row (lines_of text)
