-- Texts as they are written between quotes.
use Rattle.std.specs.Prelude.{ℕ, ◌==◌, if◌then◌else◌, List, [], ◌∷◌, ◌++◌}

-- a character between `"`: `\`, `"` and a line feed behind a `\`
abbrev pub escaped : ℕ → List ℕ
escaped b =
    if b == 92 then 92 ∷ 92 ∷ [] else (
    if b == 34 then 92 ∷ 34 ∷ [] else (
    if b == 10 then 92 ∷ 110 ∷ [] else (b ∷ [])))

abbrev pub all_escaped : List ℕ → List ℕ
all_escaped [] = []
all_escaped (b ∷ bs) = escaped b ++ all_escaped bs

-- a text between `"`
abbrev pub in_double_quotes : List ℕ → List ℕ
in_double_quotes text = 34 ∷ (all_escaped text ++ 34 ∷ [])

-- with each `'` twice
abbrev pub all_doubled : List ℕ → List ℕ
all_doubled [] = []
all_doubled (b ∷ bs) = (if b == 39 then 39 ∷ 39 ∷ [] else (b ∷ [])) ++ all_doubled bs

-- a text between `'`
abbrev pub in_single_quotes : List ℕ → List ℕ
in_single_quotes text = 39 ∷ (all_doubled text ++ 39 ∷ [])
