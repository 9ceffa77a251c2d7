-- The longest front of the tokens in trees of files.
use Rattle.std.specs.Prelude.{◌≡◌, ◌⊎◌, ℕ, ◌+◌, ◌≤◌, Bool, IsFalse, List, length, codes, slice_range}
use Rattle.std.specs.Str.{bytes_eq}
use Rattle.stan_base.specs.Bytes.{fold_case}
use Rattle.stan_model_grammar.specs.declared.token.Token.{Token}
use Rattle.stan_model_grammar.specs.Files.{goes_on}
use Rattle.stan_model_grammar.specs.Strata.{kind_at}
use Rattle.stan_model_statements.specs.Trees.{Tops, no_top, top}
use Rattle.stan_model_files.specs.Files.{ReadsTops, SpellsFile}

-- the word `strict_types`, without case
abbrev pub is_strict_types : List ℕ → Token → Bool
is_strict_types source t = bytes_eq (fold_case (slice_range source t.start t.end)) (codes "strict_types")

abbrev pub count : Tops → ℕ
count no_top = 0
count (top x xs) = 1 + count xs

-- `named` tells the word `strict_types`.
module _ (ts : List Token) (named : Token → Bool) where
  -- No token follows that goes on with it.
  abbrev pub Ended : ℕ → Type 0
  Ended to = IsFalse (goes_on (kind_at ts to))

  -- Trees of files spell the tokens up to a place, and no token follows that goes on with the last.
  abbrev pub IsFront : Tops → ℕ → Type 0
  IsFront xs to = ReadsTops ts named xs 0 to × ((xs ≡ no_top) ⊎ Ended to)

  -- No front has more, nor ends later, and all the tokens have a tree only where it ends with them.
  pub record IsLongestFront (xs : Tops) (to : ℕ) : Type 0 where
    pub front : IsFront xs to
    pub longest : (ys : Tops) (end : ℕ) → IsFront ys end → (count ys ≤ count xs) × (end ≤ to)
    pub whole : (ys : Tops) → SpellsFile ts named ys → to ≡ length ts
