-- What the program finds, as the definitions see it.
use Rattle.stan_model_walk.specs.Findings as model
use Rattle.stan_expr_walk.specs.declared.found.Finding.{Finding}
use Rattle.stan_expr_walk.specs.declared.found.Finding.TheVariants as findings
use Rattle.stan_expr_walk.specs.declared.found.Found.{Found}

abbrev pub finding_of : Finding → model.Finding
finding_of (findings.Calls t) = model.Calls t
finding_of (findings.Defines t text) = model.Defines t text
finding_of (findings.Fetches t) = model.Fetches t
finding_of (findings.DeclaresClass t) = model.DeclaresClass t
finding_of (findings.DeclaresFunction t) = model.DeclaresFunction t
finding_of (findings.DeclaresConstant t) = model.DeclaresConstant t

abbrev pub found_of : Found → model.Found
found_of f = record { inner = f.inner; finding = finding_of f.finding }
