use Rattle.std.proofs.Common.{◌≡◌, ◌-◌, map}
use Rattle.stan_model_doc.specs.Comment.{places, text_start, is_line_front, text_byte}
use Rattle.stan_doc_lines.proofs.text.doc_text.Given as goal

abbrev pub invariant-loop-at : goal.invariant-loop-at
invariant-loop-at l = record {
  read : l.text.items ≡ map (text_byte l.comment) (places l.at);
  front : l.front ≡ is_line_front l.comment (text_start l.comment) (l.at - text_start l.comment);
}
