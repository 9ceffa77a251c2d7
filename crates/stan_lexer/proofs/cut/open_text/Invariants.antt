use Rattle.std.proofs.Common.{◌≡◌, ℕ, ◌<◌, ◌≤◌, take}
use Rattle.stan_model_grammar.specs.Tokens.{open_texts}
use Rattle.stan_lexer.proofs.cut.open_text.Given as goal

-- so many texts are open, the first of them from this place on
abbrev pub invariant-loop-i : goal.invariant-loop-i
invariant-loop-i l = record {
  count : l.count ≡ open_texts (take l.i l.tokens);
  small : l.count ≤ l.i;
  first : 0 < l.count → l.first < l.i;
  outside : 0 < l.count → open_texts (take l.first l.tokens) ≡ 0;
  inside : 0 < l.count → (j : ℕ) → l.first < j → j ≤ l.i → 0 < open_texts (take j l.tokens);
}
