-- The characters that lines are made of.
use Rattle.std.specs.Prelude.{ℕ, ◌==◌, ◌||◌, ◌&&◌, not, nat_le, if◌then◌else◌, Bool, Option, Some, None}

-- space and tab
abbrev pub is_blank : ℕ → Bool
is_blank b = (b == 32) || (b == 9)

abbrev pub is_digit : ℕ → Bool
is_digit b = nat_le 48 b && nat_le b 57

-- `"` and `'`
abbrev pub is_quote : ℕ → Bool
is_quote b = (b == 34) || (b == 39)

-- an ASCII letter, a digit, `_`, `-` or `.`
abbrev pub is_in_key : ℕ → Bool
is_in_key b = is_digit b || (nat_le 65 b && nat_le b 90) || (nat_le 97 b && nat_le b 122) || (b == 95) || (b == 45) || (b == 46)

-- none of `" ' [ ] { } # , - :` and no blank
abbrev pub begins_plain : ℕ → Bool
begins_plain b = not (is_blank b || is_quote b || (b == 91) || (b == 93) || (b == 123) || (b == 125) || (b == 35) || (b == 44) || (b == 45) || (b == 58))

-- what a character behind `\` means between `"`: `\`, `"`, `n`, `t` and `r`
abbrev pub letter : ℕ → Option ℕ
letter b =
    if (b == 92) || (b == 34) then Some b else (
    if b == 110 then Some 10 else (
    if b == 116 then Some 9 else (
    if b == 114 then Some 13 else None)))

-- what two characters mean that stand for one between quotes: `''` between `'`, a `\` with a letter between `"`
abbrev pub escape : ℕ → ℕ → ℕ → Option ℕ
escape quote b c =
    if quote == 39 then (if (b == 39) && (c == 39) then Some 39 else None) else (
    if b == 92 then letter c else None)
