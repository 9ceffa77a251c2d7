-- What a reader has before it.
use Rattle.std.specs.Prelude.{ℕ, List, [], ◌∷◌, Bool, false, ◌&&◌, nat_le, Option, Some, None, map, if◌then◌else◌}
use Rattle.stan_model_neon.specs.Outlines.{Line, Kind, Items, Pairs, behind_dash, kind_of, is_deeper, is_in_block}
use Rattle.stan_neon_lines.specs.declared.lines.Feed.{Feed}
use Rattle.stan_neon_lines.specs.declared.lines.Line.{Line as CodeLine}
use Rattle.stan_neon_lines.specs.Feed.{line_of}
use Rattle.stan_neon_lines.specs.Rest.{contents_left}
use Rattle.stan_neon.specs.declared.reader.Reader.{Reader}
use Rattle.stan_neon.specs.declared.reader.Opened.{Opened}
use Rattle.stan_neon.specs.declared.reader.Place.{Place}
use Rattle.stan_neon.specs.declared.reader.Kind.{Kind as CodeKind}
use Rattle.stan_neon.specs.declared.reader.Kind.TheVariants as kinds

abbrev pub lines_ahead : Option CodeLine → Feed → List Line
lines_ahead None feed = []
lines_ahead (Some line) feed = line_of line ∷ contents_left feed

-- the lines that were not read yet
abbrev pub ahead : Reader → List Line
ahead reader = lines_ahead reader.next reader.feed

-- the dashes that are open
abbrev pub dashes_of : Reader → List (List ℕ)
dashes_of reader = map (λ dash. dash.now) reader.dashes.items

-- where the lines of a block stand
abbrev pub indentation_of : Place → List ℕ
indentation_of place = if place.behind_dash then behind_dash place.indentation.now else place.indentation.now

abbrev pub kind_is : CodeKind → Kind
kind_is kinds.Items = Items
kind_is kinds.Pairs = Pairs

abbrev pub opened_of : Opened → Kind × List ℕ
opened_of opened = (kind_is opened.kind, opened.indentation.now)

-- ---- what the next line is

abbrev pub next_is_in : List (List ℕ) → Kind → List ℕ → List Line → Bool
next_is_in dashes kind indentation [] = false
next_is_in dashes kind indentation (line ∷ _) = is_in_block dashes kind indentation line

-- the kind and the indentation of the next line, where it stands deeper and a block more may stand there
abbrev pub next_opens : ℕ → List ℕ → List Line → Option (Kind × List ℕ)
next_opens left above [] = None
next_opens left above (line ∷ _) = if nat_le 1 left && is_deeper above line.indentation then Some (kind_of line.entry, line.indentation) else None

abbrev pub next_number : List Line → Option ℕ
next_number [] = None
next_number (line ∷ _) = Some line.number

-- where the next line stands
abbrev pub first_of : List Line → Option (Kind × List ℕ)
first_of [] = None
first_of (line ∷ _) = Some (kind_of line.entry, line.indentation)
