-- What texts are: their trees, or the lines at which they have none.
use Rattle.std.specs.Prelude.{◌≡◌, ℕ, List, Result, Ok, Err}
use Rattle.stan_model_neon.specs.declared.node.Node.{Node}
use Rattle.stan_neon.specs.Texts.{IsTreeOf, IsBadAt}
use Rattle.stan_model_config.specs.Files.{Neon, Stop}

abbrev pub IsReadAs : List ℕ → Result Node ℕ → Type 0
IsReadAs text (Ok node) = IsTreeOf text node
IsReadAs text (Err line) = IsBadAt text line

-- It says of each text what the text is.
abbrev pub IsNeon : Neon → Type 0
IsNeon neon = (text : List ℕ) → IsReadAs text (neon text)

-- What holds of NEON gives this answer.
abbrev pub IsMeant : {A : Type 0} → (Neon → Result A Stop) → Result A Stop → Type 0
IsMeant means answer = (neon : Neon) → IsNeon neon → means neon ≡ answer
