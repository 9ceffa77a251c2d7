-- Which tree a text has, and at which line it has none.
use Rattle.std.specs.Prelude.{◌≡◌, ◌⊎◌, ℕ, ◌<◌, ◌≤◌, List, ◌++◌, length, take}
use Rattle.stan_model_neon.specs.declared.node.Node.{Node}
use Rattle.stan_model_neon.specs.Outlines.{Outline, spelled, IsOutline, tree_of}
use Rattle.stan_neon_lines.specs.Lines.{lines, contents}

-- The outline of lines: it spells those that have content, in their order.
pub record IsOutlineOf (of_lines : List (List ℕ)) (outline : Outline) : Type 0 where
  pub spells : spelled outline ≡ contents 1 of_lines
  pub is_outline : IsOutline outline

-- Lines begin a text of the grammar: with some lines behind them they have an outline.
abbrev pub BeginText : List (List ℕ) → Type 0
BeginText front = (more : List (List ℕ)) × ((outline : Outline) × IsOutlineOf (front ++ more) outline)

-- The first line at which the lines up to and with it begin no text.
pub record IsBadLine (of_lines : List (List ℕ)) (line : ℕ) : Type 0 where
  pub counts_from_one : 1 ≤ line
  pub within : line ≤ length of_lines
  pub broken : BeginText (take line of_lines) → ⊥
  pub earlier : (k : ℕ) → k < line → BeginText (take k of_lines)

-- the most bytes of a text
abbrev pub most_bytes : ℕ
most_bytes = 67108864

-- the tree of a text
pub record IsTreeOf (text : List ℕ) (node : Node) : Type 0 where
  pub size : length text ≤ most_bytes
  pub tree : (outline : Outline) × (IsOutlineOf (lines text) outline × (node ≡ tree_of outline))

-- the line at which a text has no tree: the first where it is too long
abbrev pub IsBadAt : List ℕ → ℕ → Type 0
IsBadAt text line = ((most_bytes < length text) × (line ≡ 1)) ⊎ ((length text ≤ most_bytes) × IsBadLine (lines text) line)
