use Rattle.std.proofs.Common.{arith}
use Rattle.stan_owners.proofs.OwnerLemmas.{one_more}
use Rattle.stan_owners.proofs.owners.owners_of.Goals as goal

pub loop-comment-preserved : goal.loop-comment-preserved
loop-comment-preserved c =
    one_more c.args.owners.now c.args.comments.now c.loop-comment.rest.now c.behind-rest.result.now c.loop-comment.found.items c.push.new.self.items c.copied.result c.loop-comment.comment-index _
    c.loop-comment-test.true c.requires c.loop-comment.invariant (grind (arith, c.push.ensures.items, c.in_ok-push.is)) (grind (arith, c.copied.ensures, c.first.ensures.value)) c.behind-rest.ensures.passed c.behind-rest.ensures.first
