-- The line feeds of a source.
use Rattle.std.specs.Prelude.{◌≡◌, ℕ, ◌+◌, ◌==◌, if◌then◌else◌, List, [], ◌∷◌}
use Rattle.stan_analyse.specs.declared.lines.LineFeeds.{LineFeeds}

-- the places of the line feeds, where the first byte stands at this place
abbrev pub feeds_from : ℕ → List ℕ → List ℕ
feeds_from at [] = []
feeds_from at (b ∷ bs) = if b == 10 then at ∷ feeds_from (at + 1) bs else feeds_from (at + 1) bs

-- the places that are kept are those of the source's line feeds
abbrev pub AreFeeds : List ℕ → LineFeeds → Type 0
AreFeeds source feeds = feeds.places.items ≡ feeds_from 0 source
