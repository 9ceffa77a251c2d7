-- What the places of a run hold.
use Rattle.std.specs.Prelude.{ℕ, Bool, List}
use Rattle.stan_model_grammar.specs.Runs.{blank_at, space_at, word_at, name_at, line_at, remark_at, comment_at}
use Rattle.stan_lexer.specs.declared.runs.Run.{Run}
use Rattle.stan_lexer.specs.declared.runs.Run.TheVariants as runs

abbrev pub passes : Run → List ℕ → ℕ → Bool
passes runs.Blanks = blank_at
passes runs.Spaces = space_at
passes runs.Word = word_at
passes runs.Name = name_at
passes runs.Line = line_at
passes runs.Remark = remark_at
passes runs.Comment = comment_at
