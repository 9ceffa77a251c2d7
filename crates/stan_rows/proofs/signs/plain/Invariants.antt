use Rattle.std.proofs.Common.{◌≡◌, map, encode_utf8_all}
use Rattle.std.specs.Prelude.{string_bytes}
use Rattle.stan_rows.specs.Signs.{meant_char}
use Rattle.stan_rows.proofs.signs.plain.Given as goal

abbrev pub invariant-loop-character : goal.invariant-loop-character
invariant-loop-character l =
    (goal.iterator-loop-character).can_next l.character-iterator ×
    (goal.iterator-loop-character).is_finite l.character-iterator ×
    (string_bytes l.out ≡ encode_utf8_all (map meant_char l.yielded))
