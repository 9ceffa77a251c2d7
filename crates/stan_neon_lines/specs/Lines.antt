-- The lines of a text, and those that have content.
use Rattle.std.specs.Prelude.{suc, ℕ, ◌==◌, ◌||◌, ◌-◌, not, if◌then◌else◌, List, [], ◌∷◌, Option, Some, None, length, take, map, slice_index}
use Rattle.std.specs.List.{prefix_len}
use Rattle.std.specs.Str.{is_utf8}
use Rattle.stan_model_neon.specs.declared.node.Entry.{Entry}
use Rattle.stan_model_neon.specs.declared.node.Entry.TheVariants as entries
use Rattle.stan_model_neon.specs.Characters.{is_blank}
use Rattle.stan_model_neon.specs.Outlines.{Line}
use Rattle.stan_neon_scalars.specs.Quotes.{first, is_empty, unblanked}
use Rattle.stan_neon_lines.specs.Entries.{entry}

abbrev pub onto_first : ℕ → List (List ℕ) → List (List ℕ)
onto_first b [] = (b ∷ []) ∷ []
onto_first b (line ∷ lines) = (b ∷ line) ∷ lines

-- the pieces between line feeds
abbrev pub pieces : List ℕ → List (List ℕ)
pieces [] = [] ∷ []
pieces (b ∷ bs) = if b == 10 then [] ∷ pieces bs else onto_first b (pieces bs)

-- without one carriage return at the end
unfoldable pub without_return : List ℕ → List ℕ
without_return piece = if slice_index piece (length piece - 1) == 13 then take (length piece - 1) piece else piece

-- the lines of a text, without their ends
abbrev pub lines : List ℕ → List (List ℕ)
lines text = map without_return (pieces text)

-- The indentation of a line and what stands behind it. None where the line is blank or a comment, and so means nothing.
unfoldable pub content : List ℕ → Option (List ℕ × Entry)
content line =
    if not (is_utf8 line) then Some ([], entries.Broken) else (
    if is_empty (unblanked line) || (first (unblanked line) == 35) then None else
    Some (take (prefix_len is_blank line) line, entry (unblanked line)))

abbrev pub with_content : ℕ → Option (List ℕ × Entry) → List Line → List Line
with_content number None more = more
with_content number (Some (indentation, entry)) more = (record { number = number; indentation = indentation; entry = entry }) ∷ more

-- the lines with content, with their numbers from this one on
abbrev pub contents : ℕ → List (List ℕ) → List Line
contents number [] = []
contents number (line ∷ lines) = with_content number (content line) (contents (suc number) lines)
