-- What names hold, as the definitions see it.
use Rattle.std.specs.Prelude.{map}
use Rattle.stan_base.specs.Name.{name_bytes}
use Rattle.stan_model_names.specs.Resolve as model
use Rattle.stan_names.specs.declared.names.Use.{Use}
use Rattle.stan_names.specs.declared.names.Names.{Names}

abbrev pub use_of : Use → model.Use
use_of u = record { kind = u.kind; alias = u.alias.items; name = name_bytes u.name }

abbrev pub scope_of : Names → model.Scope
scope_of names = record { namespace = names.namespace.items; uses = map use_of names.uses }
