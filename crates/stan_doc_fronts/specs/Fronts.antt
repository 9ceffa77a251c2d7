-- The longest front, found by trying each, the longest first.
use Rattle.std.specs.Prelude.{ℕ, zero, suc, ◌+◌, ◌*◌, nat_le, if◌then◌else◌, List, length, take, Option, Some, None}
use Rattle.stan_model_doc.specs.declared.token.DocToken.{DocToken}
use Rattle.stan_model_doc.specs.Trees.{Forest}
use Rattle.stan_model_doc.specs.Depth.{depth}
use Rattle.stan_model_doc.specs.Fronts.{IsLongestFront, HasNoFront}
use Rattle.stan_doc_levels.specs.Levels.{level}
use Rattle.stan_doc_fronts.specs.Wholes.{whole_tag}

-- As many levels as trees of so many tokens can have: at most eight a token.
abbrev pub enough : List DocToken → ℕ
enough ts = 8 * (length ts + 1)

-- the tree of all these tokens
abbrev pub tree_of : List DocToken → Option Forest
tree_of ts = whole_tag ts (level (enough ts))

-- a tree that is not too deep, or else another reading
abbrev pub or_shorter : ℕ → Option Forest → Option (Forest × ℕ) → Option (Forest × ℕ)
or_shorter to None shorter = shorter
or_shorter to (Some f) shorter = if nat_le (depth f) 64 then Some (f, to) else shorter

-- the longest of the fronts of at most so many tokens
abbrev pub longest_up_to : List DocToken → ℕ → Option (Forest × ℕ)
longest_up_to ts zero = None
longest_up_to ts (suc n) = or_shorter (suc n) (tree_of (take (suc n) ts)) (longest_up_to ts n)

abbrev pub longest_front : List DocToken → Option (Forest × ℕ)
longest_front ts = longest_up_to ts (length ts)

abbrev pub IsReadingOf : List DocToken → Option (Forest × ℕ) → Type 0
IsReadingOf ts None = HasNoFront ts
IsReadingOf ts (Some x) = IsLongestFront ts x.0 x.1

-- The tokens of a tag have one reading: its longest front, or none.
abbrev pub EveryTagHasAReading : Type 0
EveryTagHasAReading = (ts : List DocToken) → IsReadingOf ts (longest_front ts)
