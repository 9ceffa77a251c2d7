use Rattle.std.proofs.Common.{◌≡◌, map, drop}
use Rattle.stan_lexer.specs.Tables.{row_of}
use Rattle.stan_model_grammar.specs.Words.{kind_among}
use Rattle.stan_lexer.proofs.words.kind_among.Given as goal

-- the rows that are left give the word its kind
abbrev pub invariant-loop-row : goal.invariant-loop-row
invariant-loop-row l = kind_among (map row_of (drop l.row-index l.rows)) l.word ≡ kind_among (map row_of l.rows) l.word
