use Rattle.std.proofs.Common.{◌∙◌, ◌+◌, ◌-◌, ◌∷◌, sym, ap, length, take, drop}
use Rattle.std.proofs.lemmas.List.{take_rest}
use Rattle.stan_neon_lines.specs.Rest.{lines_from}
use Rattle.stan_neon_lines.proofs.PieceLemmas.{lines-past, lines-next}
use Rattle.stan_neon_lines.proofs.lines.Feed.next_line.Goals as goal

pub returns-then-self-clause-value : goal.returns-then-self-clause-value
returns-then-self-clause-value c = lines-past c.args.self.now.text.now c.args.self.now.at c.if-self.true

pub returns-clause-value : goal.returns-clause-value
returns-clause-value c =
    let text = c.args.self.now.text.now in
    let at = c.args.self.now.at in
    let len = c.line_len-len.result in
    lines-next text (take (length text - at) (drop at text)) at len c.if-self.false (take_rest text at) c.line_len-len.ensures.value c.line_len-len.ensures.within
    ∙ ap (λ l. l ∷ lines_from text (at + (len + 1))) (sym c.without_return.ensures)
