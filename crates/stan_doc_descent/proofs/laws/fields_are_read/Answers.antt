use Rattle.stan_doc_descent.proofs.FieldLemmas.{fields_are_read}
use Rattle.stan_doc_descent.proofs.laws.fields_are_read.Goals as goal

pub returns : goal.returns
returns c = fields_are_read
