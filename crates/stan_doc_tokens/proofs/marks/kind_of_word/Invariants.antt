use Rattle.std.proofs.Common.{◌≡◌, map, drop}
use Rattle.stan_doc_tokens.specs.Tables.{row_of}
use Rattle.stan_model_doc.specs.Tokens.{kind_of_word}
use Rattle.stan_doc_tokens.proofs.marks.kind_of_word.Given as goal

-- the rows that are left give the word its kind
abbrev pub invariant-loop-row : goal.invariant-loop-row
invariant-loop-row l = kind_of_word (map row_of (drop l.row-index l.rows)) l.other l.word ≡ kind_of_word (map row_of l.rows) l.other l.word
