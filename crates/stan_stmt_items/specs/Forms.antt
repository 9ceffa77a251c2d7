-- Parts that have one production, which begins with a mark or a word, opens no level and holds no first token.
use Rattle.std.specs.Prelude.{◌≡◌, ℕ, if◌then◌else◌, Bool, false, List, Option, Some, None}
use Rattle.stan_model_grammar.specs.declared.token.TokenKind.{TokenKind}
use Rattle.stan_model_statements.specs.Kinds.{has}
use Rattle.stan_model_statements.specs.Rules.{sort_of, symbols, weight}
use Rattle.stan_model_statements.specs.Symbols.{Sort, Symbol}
use Rattle.stan_model_files.specs.Shapes.{has_first}
use Rattle.stan_stmt_rules.specs.Ahead.{pick, single}

-- which kinds it begins with, and the symbols that it is made of
pub record HasForm (s : Sort) (ks : List TokenKind) (xs : List Symbol) : Type 0 where
  pub picked : (a b c d : TokenKind) → pick s a b c d ≡ (if has ks a then Some (single s) else None)
  pub made_of : symbols (single s) ≡ xs
  pub weighs : weight (single s) ≡ 0
  pub firstless : has_first (sort_of (single s)) ≡ false
