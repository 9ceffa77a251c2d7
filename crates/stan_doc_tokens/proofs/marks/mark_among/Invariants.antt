use Rattle.std.proofs.Common.{◌≡◌, map, drop}
use Rattle.stan_doc_tokens.specs.Tables.{row_of}
use Rattle.stan_model_doc.specs.Tokens.{mark_among}
use Rattle.stan_doc_tokens.proofs.marks.mark_among.Given as goal

-- the rows that are left hold the mark
abbrev pub invariant-loop-row : goal.invariant-loop-row
invariant-loop-row l = mark_among (map row_of (drop l.row-index l.rows)) l.text l.at ≡ mark_among (map row_of l.rows) l.text l.at
