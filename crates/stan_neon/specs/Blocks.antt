-- What stands under a line, as the reader gives it.
use Rattle.std.specs.Prelude.{ℕ, ◌-◌, ◌++◌, List, [], ◌∷◌, Option, Some, None}
use Rattle.stan_model_neon.specs.declared.node.Node.{Node}
use Rattle.stan_model_neon.specs.declared.node.Entry.{Entry}
use Rattle.stan_model_neon.specs.declared.node.Entry.TheVariants as entries
use Rattle.stan_model_neon.specs.Nodes.{Null, Mapped}
use Rattle.stan_model_neon.specs.Outlines.{Line, End, Kind, Pairs, kind_of, behind_dash, node_of, pairs_of}
use Rattle.stan_neon.specs.Reader.{next_opens}
use Rattle.stan_neon.specs.Reading.{Read, read_lines}

abbrev pub next_kind : List Line → Option Kind
next_kind [] = None
next_kind (line ∷ _) = Some (kind_of line.entry)

abbrev pub block_of : ℕ → List (List ℕ) → List Line → Option (Kind × List ℕ) → Read
block_of left dashes lines None = (End, lines)
block_of left dashes lines (Some (kind, indentation)) = read_lines (left - 1) dashes kind indentation lines

-- the deeper block under a line of an indentation that is alone
unfoldable pub block_under : ℕ → List (List ℕ) → List ℕ → List Line → Read
block_under left dashes above lines = block_of left dashes lines (next_opens left above lines)

-- a value, or what stands in the block in its place, and the lines that are left
abbrev pub value_under : ℕ → List (List ℕ) → Option Node → List ℕ → List Line → Node × List Line
value_under left dashes None above lines = (node_of (block_under left dashes above lines).0, (block_under left dashes above lines).1)
value_under left dashes (Some node) above lines = (node, lines)

abbrev pub map_behind : ℕ → List (List ℕ) → List ℕ → List ℕ → Node × List Line → Node × List Line
map_behind left dashes key dash value =
    (Mapped ((key, value.0) ∷ pairs_of (read_lines left dashes Pairs (behind_dash dash) value.1).0), (read_lines left dashes Pairs (behind_dash dash) value.1).1)

-- the map behind a dash, and the lines that are left
abbrev pub map_under : ℕ → List (List ℕ) → List ℕ → Option Node → List ℕ → List Line → Node × List Line
map_under left dashes key value dash lines = map_behind left dashes key dash (value_under left (dashes ++ dash ∷ []) value dash lines)

abbrev pub item_under_entry : ℕ → List (List ℕ) → List ℕ → List Line → Entry → Node × List Line
item_under_entry left dashes indentation lines (entries.Item value) = value_under left dashes value indentation lines
item_under_entry left dashes indentation lines (entries.MapItem key value) = map_under left dashes key value indentation lines
item_under_entry left dashes indentation lines (entries.Pair key value) = (Null, lines)
item_under_entry left dashes indentation lines entries.Broken = (Null, lines)

-- what an item holds, and the lines that are left
unfoldable pub item_under : ℕ → List (List ℕ) → Line → List Line → Node × List Line
item_under left dashes line lines = item_under_entry left dashes line.indentation lines line.entry

abbrev pub keyed : List ℕ → Node × List Line → (List ℕ × Node) × List Line
keyed key value = ((key, value.0), value.1)

abbrev pub pair_under_entry : ℕ → List (List ℕ) → List ℕ → List Line → Entry → (List ℕ × Node) × List Line
pair_under_entry left dashes indentation lines (entries.Pair key value) = keyed key (value_under left dashes value indentation lines)
pair_under_entry left dashes indentation lines (entries.Item value) = (([], Null), lines)
pair_under_entry left dashes indentation lines (entries.MapItem key value) = (([], Null), lines)
pair_under_entry left dashes indentation lines entries.Broken = (([], Null), lines)

-- a pair, and the lines that are left
unfoldable pub pair_under : ℕ → List (List ℕ) → Line → List Line → (List ℕ × Node) × List Line
pair_under left dashes line lines = pair_under_entry left dashes line.indentation lines line.entry
