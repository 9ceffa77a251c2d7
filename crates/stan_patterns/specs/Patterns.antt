-- Which texts a pattern matches.
use Rattle.std.specs.Prelude.{◌≡◌, ◌≢◌, ◌⊎◌, ℕ, List, [], ◌∷◌, ◌++◌}

-- Any bytes, and a rest of which a fact holds.
pub record BehindAny (Rest : List ℕ → Type 0) (text : List ℕ) : Type 0 where
  pub any : List ℕ
  pub rest : List ℕ
  pub splits : text ≡ any ++ rest
  pub holds : Rest rest

-- A byte, and a rest of which a fact holds.
pub record BehindByte (byte : ℕ) (Rest : List ℕ → Type 0) (text : List ℕ) : Type 0 where
  pub rest : List ℕ
  pub splits : text ≡ byte ∷ rest
  pub holds : Rest rest

-- A pattern matches a whole text: each `*` (42) stands for any bytes, none and `/` among them, and each other byte for itself.
unfoldable pub Matches : List ℕ → List ℕ → Type 0
Matches [] text = text ≡ []
Matches (byte ∷ pattern) text =
    ((byte ≡ 42) × BehindAny (Matches pattern) text)
    ⊎ ((byte ≢ 42) × BehindByte byte (Matches pattern) text)
