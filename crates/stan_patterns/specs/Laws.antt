-- What holds of every pattern: each is the contract of a function of the module `laws`.
use Rattle.std.specs.Prelude.{◌≡◌, ◌↔◌, ℕ, List, [], ◌∷◌, ◌++◌}
use Rattle.std.specs.List.{Contains}
use Rattle.stan_patterns.specs.Patterns.{Matches}

-- A pattern without `*` matches itself alone.
abbrev pub PlainPatternsMatchThemselves : Type 0
PlainPatternsMatchThemselves = (pattern text : List ℕ) → (Contains pattern 42 → ⊥) → Matches pattern text ↔ (text ≡ pattern)

-- Between two texts without `*`, a `*` stands for whatever stands between them.
abbrev pub StarsStandForAnyBytes : Type 0
StarsStandForAnyBytes = (front any back : List ℕ) → (Contains front 42 → ⊥) → (Contains back 42 → ⊥) → Matches (front ++ 42 ∷ back) (front ++ (any ++ back))

-- `*` alone matches every text.
abbrev pub AStarMatchesAll : Type 0
AStarMatchesAll = (text : List ℕ) → Matches (42 ∷ []) text
