-- The bytes of a source: blanks, identifiers, case and lines.
use Rattle.std.specs.Prelude.{ℕ, ◌+◌, ◌==◌, ◌||◌, ◌&&◌, nat_le, Bool, List, map, take, count_by}
use Rattle.std.specs.Char.{to_ascii_lowercase}

-- space, tab, line feed and carriage return
abbrev pub is_blank : ℕ → Bool
is_blank b = (b == 32) || (b == 9) || (b == 10) || (b == 13)

-- an ASCII letter, an underscore or a byte from 80 (hexadecimal) on
abbrev pub begins_identifier : ℕ → Bool
begins_identifier b = (nat_le 65 b && nat_le b 90) || (nat_le 97 b && nat_le b 122) || (b == 95) || nat_le 128 b

-- such a byte or a digit
abbrev pub continues_identifier : ℕ → Bool
continues_identifier b = begins_identifier b || (nat_le 48 b && nat_le b 57)

-- with A to Z read as a to z
abbrev pub fold_case : List ℕ → List ℕ
fold_case = map to_ascii_lowercase

-- the line of the byte at an offset: one more than the number of line feeds before it
unfoldable pub line_of : List ℕ → ℕ → ℕ
line_of source offset = count_by (λ b. b == 10) (take offset source) + 1
