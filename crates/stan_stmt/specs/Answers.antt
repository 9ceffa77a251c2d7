-- What `file` answers.
use Rattle.std.specs.Prelude.{ℕ, List, Result, Ok, Err}
use Rattle.stan_model_grammar.specs.declared.token.Token.{Token}
use Rattle.stan_model_readings.specs.Reading.{IsTree, IsBrokenAt}
use Rattle.stan_stmt_trees.specs.Files.{file_of}
use Rattle.stan_stmt_trees.specs.declared.top.FileTree.{FileTree}
use Rattle.stan_stmt.specs.declared.files.FileStop.{FileStop}
use Rattle.stan_stmt.specs.declared.files.FileStop.TheVariants.{Memory, Broken}

abbrev pub Answers : List ℕ → List Token → Result FileTree FileStop → Type 0
Answers source tokens (Ok f) = IsTree source tokens (file_of f)
Answers source tokens (Err Memory) = Unit {0}
Answers source tokens (Err (Broken line)) = IsBrokenAt source tokens line
