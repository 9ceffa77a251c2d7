-- What a feed of lines still has.
use Rattle.std.specs.Prelude.{ℕ, nat_le, if◌then◌else◌, List, [], length, drop, map}
use Rattle.stan_model_neon.specs.Outlines.{Line}
use Rattle.stan_neon_lines.specs.declared.lines.Feed.{Feed}
use Rattle.stan_neon_lines.specs.Lines.{pieces, without_return, contents}

-- the lines of a text from a place on, which may be one past the end
unfoldable pub lines_from : List ℕ → ℕ → List (List ℕ)
lines_from text at = if nat_le at (length text) then map without_return (pieces (drop at text)) else []

-- the lines that were not given yet
abbrev pub lines_left : Feed → List (List ℕ)
lines_left feed = lines_from feed.text.now feed.at

-- the lines with content that were not given yet
abbrev pub contents_left : Feed → List Line
contents_left feed = contents feed.number (lines_left feed)
