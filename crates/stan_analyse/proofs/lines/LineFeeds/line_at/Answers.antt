use Rattle.std.proofs.Common.{◌≡◌, ◌+◌, ℕ, ◌∙◌, ltb, ap, subst, sym, rules}
use Rattle.std.specs.List.{count_by}
use Rattle.std.specs.List.Sorted.{IsNonDecreasingBy}
use Rattle.std.proofs.lemmas.List.Sorted.{IsPartitionPoint-from_clause, IsPartitionedBy-ltb}
use Rattle.stan_base.specs.Bytes.{line_of}
use Rattle.stan_analyse.specs.Lines.{feeds_from}
use Rattle.stan_analyse.proofs.FeedLemmas.{feeds-rise, count-partition, count-feeds}
use Rattle.stan_analyse.proofs.lines.LineFeeds.line_at.Goals as goal

pub returns : goal.returns
unfolding line_of
returns c = λ source are.
    let offset = c.args.offset in
    let held : c.deref.result.now ≡ feeds_from 0 source = c.deref.ensures.value ∙ are in
    let rise : IsNonDecreasingBy (λ (p : ℕ). p) c.deref.result.now = subst (IsNonDecreasingBy (λ (p : ℕ). p)) (sym held) (feeds-rise source 0) in
    let parted = IsPartitionedBy-ltb (λ (p : ℕ). p) c.deref.result.now offset rise in
    let point = IsPartitionPoint-from_clause (λ p. ltb p offset) _ _ c.partition_point.ensures.partitioned parted (λ a r q k. search rules) in
    let counted : c.partition_point.result ≡ count_by (λ p. ltb p offset) c.deref.result.now = count-partition _ _ _ c.partition_point.ensures.bound point in
    ap (λ n. n + 1) (counted ∙ ap (count_by (λ p. ltb p offset)) held ∙ count-feeds source offset)
