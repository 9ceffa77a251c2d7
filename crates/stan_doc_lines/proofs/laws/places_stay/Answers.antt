use Rattle.stan_doc_lines.proofs.PlaceLemmas.{places_stay}
use Rattle.stan_doc_lines.proofs.laws.places_stay.Goals as goal

pub returns : goal.returns
returns c = places_stay
