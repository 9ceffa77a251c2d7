-- The places before which no quoted text begins.
use Rattle.std.specs.Prelude.{◌≡◌, ◌≤◌, ◌<◌, ◌+◌, ℕ, List, slice_index}
use Rattle.stan_model_doc.specs.declared.token.DocKind.TheVariants as docs
use Rattle.stan_model_doc.specs.Tokens.{doc_quoted}
use Rattle.stan_doc_tokens.specs.declared.quotes.Seen.{Seen}

-- No quoted text begins with this byte at a place from one on that is before another.
abbrev pub BeginsNone : List ℕ → ℕ → ℕ → ℕ → Type 0
BeginsNone text byte from stop = (p : ℕ) → from ≤ p → p < stop → slice_index text p ≡ byte → doc_quoted text p ≡ (docs.Other, p + 1)

-- the same for both quotes
pub record AreSeen (text : List ℕ) (from : ℕ) (seen : Seen) : Type 0 where
  pub single : BeginsNone text 39 from seen.single
  pub double : BeginsNone text 34 from seen.double
