-- The sites of the model that values of the program stand for.
use Rattle.std.specs.Prelude.{Bool, true, false, List, [], ◌∷◌, Option, Some, None}
use Rattle.stan_model_grammar.specs.declared.operators.Production.{Production}
use Rattle.stan_model_grammar.specs.declared.operators.Production.TheVariants as productions
use Rattle.stan_model_grammar.specs.declared.token.Token.{Token}
use Rattle.stan_model_grammar.specs.Trees.{Tree, production, Steps, step, Call}
use Rattle.stan_model_grammar.specs.Sites as model
use Rattle.stan_sites.specs.declared.sites.HeldBody.{HeldBody}
use Rattle.stan_sites.specs.declared.sites.Site.{Site}
use Rattle.stan_sites.specs.declared.sites.Site.TheVariants as sites

abbrev pub held_of : HeldBody → model.HeldBody
held_of body = record { levels = body.levels; first = body.from; last = body.to }

abbrev pub site_of : Site → model.Site
site_of (sites.Call t) = model.CallSite t
site_of (sites.Body b) = model.BodySite (held_of b)

-- ---- what functions inside promise each other

-- the call of a name that may be there
abbrev pub call_of : Option Token → List model.Site
call_of None = []
call_of (Some t) = model.CallSite t ∷ []

abbrev pub is_name_production : Production → Bool
is_name_production productions.Name = true
is_name_production _ = false

abbrev pub is_name : Tree → Bool
is_name e = is_name_production (production e)

-- whether brackets with arguments stand first
abbrev pub begins_with_call : Steps → Bool
begins_with_call (step (Call es) ss) = true
begins_with_call _ = false
