-- What the signs of a row stand for, and what a row wants.
use Rattle.std.specs.Prelude.{ℕ, ◌==◌, ◌≡◌, ◌++◌, ◌⊎◌, List, [], ◌∷◌, cond, codes, map}
use Rattle.std.specs.Str.{chars, trim, encode_utf8_all}

-- What a character of a row stands for: a sign for a byte that can't be seen, or itself.
abbrev pub meant_char : ℕ → ℕ
meant_char c =
    cond (c == 0x2420) 0x20 (
    cond (c == 0x2404) 0x04 (
    cond (c == 0x2407) 0x07 (
    cond (c == 0x2409) 0x09 (
    cond (c == 0x240a) 0x0a (
    cond (c == 0x240b) 0x0b (
    cond (c == 0x240c) 0x0c (
    cond (c == 0x240d) 0x0d (
    cond (c == 0x241b) 0x1b (
    cond (c == 0x2422) 0xfeff c)))))))))

-- a text with the bytes for which its signs stand
unfoldable pub plain_text : List ℕ → List ℕ
plain_text text = encode_utf8_all (map meant_char (chars text))

-- what stands between the text of a row and what it wants
abbrev pub wants_sign : List ℕ
wants_sign = codes "~~>"

-- Of a row's text is read what the row wants, by a relation between texts and what may be read of them.
abbrev pub IsRight : (List ℕ → List ℕ → Type 0) → List ℕ → Type 0
IsRight reads row =
    (text : List ℕ) × (wanted : List ℕ) × (row ≡ text ++ (wants_sign ++ wanted)) × reads (trim text) (plain_text (trim wanted))

-- Of a row's text is read something else, or the row wants nothing.
abbrev pub IsWrong : (List ℕ → List ℕ → Type 0) → List ℕ → List ℕ → Type 0
IsWrong reads row other =
    ((text : List ℕ) × (wanted : List ℕ) × (row ≡ text ++ (wants_sign ++ wanted)) × reads (trim text) other × (other ≡ plain_text (trim wanted) → ⊥))
    ⊎ ((text wanted : List ℕ) → row ≡ text ++ (wants_sign ++ wanted) → ⊥)

-- what stands between the two parts of a text: `⋯` in UTF-8
abbrev pub parts_sign : List ℕ
parts_sign = 0xe2 ∷ 0x8b ∷ 0xaf ∷ []

-- The parts of a text are what stands before and behind its sign, the blanks around them aside; without a sign all is the first part.
abbrev pub ArePartsOf : List ℕ → List ℕ → List ℕ → Type 0
ArePartsOf text first second =
    ((before : List ℕ) × (behind : List ℕ) × (text ≡ before ++ (parts_sign ++ behind)) × (first ≡ trim before) × (second ≡ trim behind))
    ⊎ (((before behind : List ℕ) → text ≡ before ++ (parts_sign ++ behind) → ⊥) × (first ≡ trim text) × (second ≡ []))
