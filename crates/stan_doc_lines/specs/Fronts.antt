-- What stands before a byte in its line.
use Rattle.std.specs.Prelude.{ℕ, ◌==◌, ◌||◌, ◌&&◌, ◌+◌, if◌then◌else◌, Bool}
use Rattle.stan_base.specs.Bytes.{is_blank}

-- whether nothing but blanks stands before the next byte
abbrev pub front_behind : Bool → ℕ → Bool
front_behind front byte = (byte == 10) || (is_blank byte && front)

-- the line of the next byte
abbrev pub line_behind : ℕ → ℕ → ℕ
line_behind line byte = if byte == 10 then line + 1 else line
