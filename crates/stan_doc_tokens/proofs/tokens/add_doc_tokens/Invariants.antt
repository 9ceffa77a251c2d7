use Rattle.std.proofs.Common.{◌-◌, length}
use Rattle.stan_doc_tokens.specs.Reading.{AddsTokensUpTo}
use Rattle.stan_doc_tokens.specs.Quotes.{AreSeen}
use Rattle.stan_doc_tokens.proofs.tokens.add_doc_tokens.Given as goal

abbrev pub invariant-tokens : goal.invariant-tokens
invariant-tokens l = record {
  read : AddsTokensUpTo l.text l.from l.at l.initial.tokens.items l.tokens.items;
  seen : AreSeen l.text l.at l.seen;
}

abbrev pub decreases-tokens : goal.decreases-tokens
decreases-tokens l = length l.text - l.at
