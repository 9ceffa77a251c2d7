use Rattle.std.proofs.Common.{◌≡◌, ◌++◌, drop, false}
use Rattle.stan_model_grammar.specs.Values.{single_resolved}
use Rattle.stan_lexer.proofs.escapes.single_resolved.Given as goal

-- The bytes that are left complete the text.
abbrev pub invariant-loop-byte : goal.invariant-loop-byte
invariant-loop-byte l = l.out.items ++ single_resolved l.escaped (drop l.byte-index l.bytes) ≡ single_resolved false l.bytes
