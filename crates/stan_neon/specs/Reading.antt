-- Outlines as they are read: each line takes what follows it as long as that belongs to it.
use Rattle.std.specs.Prelude.{zero, suc, ℕ, ◌-◌, ◌&&◌, nat_le, if◌then◌else◌, Bool, List, [], ◌∷◌, length}
use Rattle.stan_model_neon.specs.Outlines.{Line, Outline, End, Stand, Kind, Pairs, kind_of, is_alone, begins_map, is_deeper, behind_dash, is_in_block, dashes_under}

-- an outline, and the lines that it leaves
abbrev pub Read : Type 0
Read = Outline × List Line

-- the lines of a block of this kind and indentation, with so many blocks left inside it, under these dashes
abbrev pub Reader : Type 0
Reader = ℕ → List (List ℕ) → Kind → List ℕ → List Line → Read

-- whether a deeper block may begin with a line
abbrev pub opens : ℕ → Line → Line → Bool
opens left above line = nat_le 1 left && (is_alone above.entry && is_deeper above.indentation line.indentation)

abbrev pub opened : Reader → ℕ → List (List ℕ) → Line → List Line → Read
opened read left dashes above [] = (End, [])
opened read left dashes above (line ∷ lines) = if opens left above line then read (left - 1) dashes (kind_of line.entry) line.indentation (line ∷ lines) else (End, line ∷ lines)

-- the deeper block under a line
abbrev pub under : Reader → ℕ → List (List ℕ) → Line → List Line → Read
under read left dashes line lines = opened read left (dashes_under dashes line) line lines

-- the further pairs of the map behind a dash
abbrev pub further : Reader → ℕ → List (List ℕ) → Line → List Line → Read
further read left dashes line lines = if begins_map line.entry then read left dashes Pairs (behind_dash line.indentation) lines else (End, lines)

abbrev pub standing : Line → Outline → Outline → Read → Read
standing line below more next = (Stand line below more next.0, next.1)

-- a line with what belongs to it, and the next ones of its block
abbrev pub with_next : Reader → ℕ → List (List ℕ) → Kind → List ℕ → Line → Outline → Read → Read
with_next read left dashes kind indentation line below more = standing line below more.0 (read left dashes kind indentation more.1)

abbrev pub with_further : Reader → ℕ → List (List ℕ) → Kind → List ℕ → Line → Read → Read
with_further read left dashes kind indentation line below = with_next read left dashes kind indentation line below.0 (further read left dashes line below.1)

abbrev pub stood : Reader → ℕ → List (List ℕ) → Kind → List ℕ → Line → List Line → Read
stood read left dashes kind indentation line lines = with_further read left dashes kind indentation line (under read left dashes line lines)

-- at most as many lines as a number says
abbrev pub lines_within : ℕ → Reader
lines_within zero left dashes kind indentation lines = (End, lines)
lines_within (suc n) left dashes kind indentation [] = (End, [])
lines_within (suc n) left dashes kind indentation (line ∷ lines) = if is_in_block dashes kind indentation line then stood (lines_within n) left dashes kind indentation line lines else (End, line ∷ lines)

unfoldable pub read_lines : Reader
read_lines left dashes kind indentation lines = lines_within (length lines) left dashes kind indentation lines

-- the outline of a whole text, and the lines that it leaves
unfoldable pub read_outline : List Line → Read
read_outline [] = (End, [])
read_outline (line ∷ lines) = read_lines 63 [] (kind_of line.entry) line.indentation (line ∷ lines)
