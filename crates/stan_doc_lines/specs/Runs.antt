-- What the places of a run hold.
use Rattle.std.specs.Prelude.{ℕ, Bool, List}
use Rattle.stan_model_grammar.specs.Runs.{blank_at, word_at}
use Rattle.stan_model_doc.specs.Comment.{tag_word_at}
use Rattle.stan_model_doc.specs.Tokens.{doc_name_at}
use Rattle.stan_doc_lines.specs.declared.runs.Run.{Run}
use Rattle.stan_doc_lines.specs.declared.runs.Run.TheVariants as runs

abbrev pub passes : Run → List ℕ → ℕ → Bool
passes runs.Blanks = blank_at
passes runs.Word = word_at
passes runs.TagWord = tag_word_at
passes runs.Name = doc_name_at
