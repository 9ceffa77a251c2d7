use Rattle.stan_doc_fronts.proofs.CommentLemmas.{every_comment_has_a_reading}
use Rattle.stan_doc_fronts.proofs.laws.every_comment_has_a_reading.Goals as goal

pub returns : goal.returns
returns c = every_comment_has_a_reading
