-- What is read at the front of bytes: blanks, quoted texts and keys.
use Rattle.std.specs.Prelude.{zero, suc, ℕ, ◌==◌, ◌&&◌, ◌||◌, if◌then◌else◌, Bool, true, false, List, [], ◌∷◌, Option, Some, None, drop, take, slice_index}
use Rattle.std.specs.Option.{option_and_then}
use Rattle.std.specs.List.{prefix_len}
use Rattle.std.specs.Str.{is_utf8}
use Rattle.stan_model_neon.specs.Characters.{is_blank, is_quote, is_in_key, escape}

abbrev pub first : List ℕ → ℕ
first bytes = slice_index bytes 0

abbrev pub is_empty : List ℕ → Bool
is_empty [] = true
is_empty (_ ∷ _) = false

-- without the blanks at the front
abbrev pub unblanked : List ℕ → List ℕ
unblanked bytes = drop (prefix_len is_blank bytes) bytes

-- whether a line may end here: with blanks, or with a blank and a comment
unfoldable pub ends : List ℕ → Bool
ends bytes = is_empty (unblanked bytes) || ((first (unblanked bytes) == 35) && is_blank (first bytes))

-- a byte before the text that is read behind it
abbrev pub onto : ℕ → Option (List ℕ × List ℕ) → Option (List ℕ × List ℕ)
onto b None = None
onto b (Some (text, rest)) = Some (b ∷ text, rest)

-- what a character means that is no part of an escape
abbrev pub single : ℕ → ℕ → List ℕ → Option (List ℕ × List ℕ) → Option (List ℕ × List ℕ)
single quote b rest more = if b == quote then Some ([], rest) else (if (quote == 34) && (b == 92) then None else onto b more)

abbrev pub resolved : Option ℕ → Option (List ℕ × List ℕ) → Option (List ℕ × List ℕ) → Option (List ℕ × List ℕ)
resolved (Some e) behind other = onto e behind
resolved None behind other = other

-- The text up to the closing quote, and what stands behind that. So many bytes are passed over first.
abbrev pub quoted_behind : ℕ → ℕ → List ℕ → Option (List ℕ × List ℕ)
quoted_behind quote skip [] = None
quoted_behind quote zero (b ∷ bs) = resolved (escape quote b (first bs)) (quoted_behind quote 1 bs) (single quote b bs (quoted_behind quote 0 bs))
quoted_behind quote (suc skip) (b ∷ bs) = quoted_behind quote skip bs

-- a text between quotes, and what stands behind it
unfoldable pub quoted : List ℕ → Option (List ℕ × List ℕ)
quoted bytes = if is_quote (first bytes) then quoted_behind (first bytes) 0 (drop 1 bytes) else None

-- the run of characters of a key, and what stands behind it
unfoldable pub bare : List ℕ → Option (List ℕ × List ℕ)
bare bytes = if is_in_key (first bytes) then Some (take (prefix_len is_in_key bytes) bytes, drop (prefix_len is_in_key bytes) bytes) else None

-- only where the text is UTF-8
abbrev pub if_utf8 : List ℕ × List ℕ → Option (List ℕ × List ℕ)
if_utf8 read = if is_utf8 read.0 then Some read else None

-- a key, bare or quoted, and what stands behind it
unfoldable pub key : List ℕ → Option (List ℕ × List ℕ)
key bytes = option_and_then if_utf8 (if is_quote (first bytes) then quoted bytes else bare bytes)
