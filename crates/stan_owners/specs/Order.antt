-- Tokens in the order of the file.
use Rattle.std.specs.Prelude.{◌≡◌, ℕ, ◌≤◌, List, Some, slice_get}
use Rattle.stan_model_grammar.specs.declared.token.Token.{Token}

abbrev pub IsInOrder : List Token → Type 0
IsInOrder ts = (i j : ℕ) (t u : Token) → i ≤ j → slice_get ts i ≡ Some t → slice_get ts j ≡ Some u → t.start ≤ u.start
