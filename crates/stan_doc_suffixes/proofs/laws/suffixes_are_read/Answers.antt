use Rattle.stan_doc_suffixes.proofs.Suffixes.{suffixes_are_read}
use Rattle.stan_doc_suffixes.proofs.laws.suffixes_are_read.Goals as goal

pub returns : goal.returns
returns c = suffixes_are_read
