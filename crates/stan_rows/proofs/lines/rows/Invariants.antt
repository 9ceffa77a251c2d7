use Rattle.std.proofs.Common.{◌≡◌, map}
use Rattle.std.specs.Prelude.{string_bytes, filter}
use Rattle.stan_rows.specs.Rows.{is_row}
use Rattle.stan_rows.proofs.lines.rows.Given as goal

abbrev pub invariant-loop-line : goal.invariant-loop-line
invariant-loop-line l =
    (goal.iterator-loop-line).can_next l.line-iterator ×
    (goal.iterator-loop-line).is_finite l.line-iterator ×
    (map string_bytes l.rows.items ≡ filter is_row (map (λ line. line.now) l.yielded))
