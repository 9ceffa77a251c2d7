-- Tokens that are being read.
use Rattle.std.specs.Prelude.{◌≡◌, ℕ, List, ◌++◌}
use Rattle.stan_model_doc.specs.declared.token.DocToken.{DocToken}
use Rattle.stan_model_doc.specs.Tokens.{AreDocTokens}

-- The tokens from a place on were added behind others.
abbrev pub AddsTokens : List ℕ → ℕ → List DocToken → List DocToken → Type 0
AddsTokens text from old new = (ts : List DocToken) × (new ≡ old ++ ts) × AreDocTokens text from ts

-- Of the tokens from one place on those before another were added behind others: the tokens from there on complete them.
abbrev pub AddsTokensUpTo : List ℕ → ℕ → ℕ → List DocToken → List DocToken → Type 0
AddsTokensUpTo text from at old new = (tail : List DocToken) → AreDocTokens text at tail → AddsTokens text from old (new ++ tail)
