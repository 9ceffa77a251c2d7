-- The reading of all levels: which function of places reads each production.
use Rattle.std.specs.Prelude.{ℕ, zero, suc, ◌+◌, ◌&&◌, nat_le, if◌then◌else◌, List, [], length, Some, None, slice_range}
use Rattle.stan_model_doc.specs.declared.token.DocKind.TheVariants as k
use Rattle.stan_model_doc.specs.declared.token.DocToken.{DocToken}
use Rattle.stan_model_doc.specs.Symbols.{AtComma}
use Rattle.stan_model_doc.specs.Rules.{Rule, conditional, default_value, symbols}
use Rattle.stan_model_doc.specs.Trees.{Forest, nil, mark, any}
use Rattle.stan_model_doc.specs.Grammar.{matches}
use Rattle.stan_doc_descent.specs.Parse.{Read, ◌>>=◌, after, run}
use Rattle.stan_doc_descent.specs.Descent.{IsSound}
use Rattle.stan_doc_descent.specs.Alternatives.{ReadsProductions}
use Rattle.stan_doc_conditions.specs.Conditions.{condition}

-- how many tokens, at most so many, stand there in which brackets match and no comma stands outside of them
abbrev pub most : List DocToken → ℕ → ℕ → ℕ
most ts at zero = zero
most ts at (suc n) = if nat_le (at + suc n) (length ts) && matches AtComma [] (slice_range ts at (at + suc n)) then suc n else most ts at n

-- a default goes as far as it can
abbrev pub default_text : List DocToken → ℕ → Read Forest
default_text ts at = after ts k.Equals at >>= λ b. Some (mark (any (most ts b (length ts)) nil), b + most ts b (length ts))

-- one level, over the readings of the levels below it, of each text
abbrev pub production : List DocToken → (List DocToken → Rule → ℕ → Read Forest) → Rule → ℕ → Read Forest
production ts below conditional at = condition ts below at
production ts below default_value at = default_text ts at
production ts below r at = run ts (below ts) (symbols r) at

-- what so many levels read of a production at a place
abbrev pub level : ℕ → List DocToken → Rule → ℕ → Read Forest
level zero ts r at = None
level (suc n) ts r at = production ts (level n) r at

-- So many levels read trees that nest less than so deep. All productions but tags are read, or a longer one.
abbrev pub AllLevelsAreRead : Type 0
AllLevelsAreRead = (n : ℕ) (ts : List DocToken) → IsSound ts (level n ts) n × ReadsProductions ts (level n ts) n
