use Rattle.std.proofs.Common.{◌-◌, ◌≤◌, length}
use Rattle.stan_lexer.proofs.LexemeLemmas.{AreLexemesUpTo}
use Rattle.stan_lexer.proofs.lexemes.lexemes.Given as goal

abbrev pub invariant-lexemes : goal.invariant-lexemes
invariant-lexemes l = record {
  within : l.at ≤ length l.source;
  read : AreLexemesUpTo l.source l.from l.stack.items l.at l.lexemes.items;
}

abbrev pub decreases-lexemes : goal.decreases-lexemes
decreases-lexemes l = length l.source - l.at
