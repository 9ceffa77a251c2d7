use Rattle.std.proofs.Common.{◌≡◌}
use Rattle.stan_base.specs.Bytes.{line_of}
use Rattle.stan_model_doc.specs.Comment.{is_line_front}
use Rattle.stan_doc_lines.proofs.StartLemmas.{tags_before}
use Rattle.stan_doc_lines.proofs.starts.open_tags.Given as goal

abbrev pub invariant-loop-at : goal.invariant-loop-at
invariant-loop-at l = record {
  read : l.tags.items ≡ tags_before l.text l.at;
  front : l.front ≡ is_line_front l.text 0 l.at;
  line : l.line ≡ line_of l.text l.at;
}
