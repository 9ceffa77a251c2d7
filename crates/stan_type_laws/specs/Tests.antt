-- The tests for a kind, and the parts that they cut in no way.
use Rattle.std.specs.Prelude.{Bool, true, false}
use Rattle.stan_model_types.specs.Types.{Part, Template, Callable, ImplicitMixed, ExplicitMixed}
use Rattle.stan_model_types.specs.TypeFilters.{Filter, Truthy, Falsy, Only}

-- a test that asks for a kind, not for one value or whether a value counts as true
abbrev pub IsKindTest : Filter → Type 0
IsKindTest Truthy = ⊥
IsKindTest Falsy = ⊥
IsKindTest (Only value) = ⊥
IsKindTest _ = Unit {0}

-- a part that isn't `mixed`, a template or `callable`
abbrev pub is_definite : Part → Bool
is_definite (Template owner name bound) = false
is_definite Callable = false
is_definite ImplicitMixed = false
is_definite ExplicitMixed = false
is_definite _ = true
