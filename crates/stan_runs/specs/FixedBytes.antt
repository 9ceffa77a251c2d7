-- The fixed bytes of a text.
use Rattle.std.specs.Prelude.{ℕ, ◌-◌, ◌==◌, ◌||◌, ◌&&◌, not, Bool, List, slice_index}
use Rattle.stan_model_grammar.specs.Texts.{is_escaped, begins_wrong_escape, begins_insertion}
use Rattle.stan_runs.specs.declared.fixed.Quote.{Quote}
use Rattle.stan_runs.specs.declared.fixed.Quote.TheVariants as quotes

-- whether a byte that is escaped or isn't belongs to them
abbrev pub fixed : Quote → Bool → List ℕ → ℕ → Bool
fixed quotes.Single escaped source k = escaped || not (slice_index source k == 39)
fixed quotes.Double escaped source k = escaped || not ((slice_index source k == 34) || begins_insertion source k || begins_wrong_escape source k)
fixed quotes.Heredoc escaped source k = not (begins_insertion source k) && (escaped || not (begins_wrong_escape source k))

-- the same of those that begin at a place
abbrev pub fixed_from : Quote → List ℕ → ℕ → ℕ → Bool
fixed_from quote source from k = fixed quote (is_escaped source from (k - from)) source k
