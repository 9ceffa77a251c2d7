use Rattle.std.proofs.Common.{◌≡◌, ◌++◌, drop}
use Rattle.stan_model_grammar.specs.Values.{unindented}
use Rattle.stan_lexer.proofs.escapes.unindented.Given as goal

-- The bytes that are left complete the lines.
abbrev pub invariant-loop-byte : goal.invariant-loop-byte
invariant-loop-byte l = l.out.items ++ unindented l.indent l.left (drop l.byte-index l.bytes) ≡ unindented l.indent l.indent l.bytes
