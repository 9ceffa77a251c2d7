-- What was read, as the text and what stands behind it.
use Rattle.std.specs.Prelude.{ℕ, List, drop}
use Rattle.stan_neon_scalars.specs.declared.quotes.ReadBytes.{ReadBytes}
use Rattle.stan_neon_scalars.specs.declared.quotes.ReadText.{ReadText}

abbrev pub read_bytes : List ℕ → ReadBytes → List ℕ × List ℕ
read_bytes bytes read = (read.bytes.items, drop read.end bytes)

abbrev pub read_text : List ℕ → ReadText → List ℕ × List ℕ
read_text bytes read = (read.text, drop read.end bytes)
