use Rattle.stan_doc_descent.proofs.Reading.{descent_reads_the_longest}
use Rattle.stan_doc_descent.proofs.laws.descent_reads_the_longest.Goals as goal

pub returns : goal.returns
returns c = descent_reads_the_longest
