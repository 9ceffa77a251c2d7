use Rattle.stan_doc_lines.proofs.PlaceLemmas.{placed_spans}
use Rattle.stan_doc_lines.proofs.spans.tag_spans.Goals as goal

-- src/spans.rt
pub returns-clause-placed : goal.returns-clause-placed
returns-clause-placed c = placed_spans c.args.text.now c.in_ok-spans.spans.items c.in_ok-spans.ensures
