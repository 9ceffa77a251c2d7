-- How large a type is, and the limits of it: 4,096 parts and fields at all depths together, and 64 levels.
use Rattle.std.specs.Prelude.{ℕ, ◌+◌, max, Bool, ◌&&◌, nat_le, if◌then◌else◌}
use Rattle.stan_model_types.specs.Types.{PhpType, never, part_and, Part, Object, Static, Meeting, AnyObject, Template, Array, Shape, Callable, Int, Float, Str, ClassString, ClassStringOf, False, True, Null, Void, ImplicitMixed, ExplicitMixed, Types, no_type, type_and, Fields, no_field, field_and}

-- how many parts and fields it has, at all depths together
abbrev mutual
  pub type_count : PhpType → ℕ
  type_count never = 0
  type_count (part_and p t) = 1 + part_count p + type_count t

  -- those inside a part
  pub part_count : Part → ℕ
  part_count (Object name ts) = types_count ts
  part_count (Static name) = 0
  part_count (Meeting names) = 0
  part_count AnyObject = 0
  part_count (Template owner name bound) = type_count bound
  part_count (Array key value list non_empty) = type_count key + type_count value
  part_count (Shape fs) = fields_count fs
  part_count Callable = 0
  part_count (Int least greatest) = 0
  part_count Float = 0
  part_count (Str form) = 0
  part_count ClassString = 0
  part_count (ClassStringOf t) = type_count t
  part_count False = 0
  part_count True = 0
  part_count Null = 0
  part_count Void = 0
  part_count ImplicitMixed = 0
  part_count ExplicitMixed = 0

  pub types_count : Types → ℕ
  types_count no_type = 0
  types_count (type_and t ts) = type_count t + types_count ts

  pub fields_count : Fields → ℕ
  fields_count no_field = 0
  fields_count (field_and k o t fs) = 1 + type_count t + fields_count fs

-- how deep its parts stand inside one another, as arguments, keys, values, fields and bounds: a part that stands in no other is 0 deep
abbrev mutual
  pub type_depth : PhpType → ℕ
  type_depth never = 0
  type_depth (part_and p t) = max (part_depth p) (type_depth t)

  -- the same of a type inside a part: one without parts adds nothing
  pub inner_depth : PhpType → ℕ
  inner_depth never = 0
  inner_depth (part_and p t) = 1 + max (part_depth p) (type_depth t)

  pub part_depth : Part → ℕ
  part_depth (Object name ts) = types_depth ts
  part_depth (Static name) = 0
  part_depth (Meeting names) = 0
  part_depth AnyObject = 0
  part_depth (Template owner name bound) = inner_depth bound
  part_depth (Array key value list non_empty) = max (inner_depth key) (inner_depth value)
  part_depth (Shape fs) = fields_depth fs
  part_depth Callable = 0
  part_depth (Int least greatest) = 0
  part_depth Float = 0
  part_depth (Str form) = 0
  part_depth ClassString = 0
  part_depth (ClassStringOf t) = inner_depth t
  part_depth False = 0
  part_depth True = 0
  part_depth Null = 0
  part_depth Void = 0
  part_depth ImplicitMixed = 0
  part_depth ExplicitMixed = 0

  pub types_depth : Types → ℕ
  types_depth no_type = 0
  types_depth (type_and t ts) = max (inner_depth t) (types_depth ts)

  pub fields_depth : Fields → ℕ
  fields_depth no_field = 0
  fields_depth (field_and k o t fs) = max (inner_depth t) (fields_depth fs)

-- whether a type is within the limits
abbrev pub is_within : PhpType → Bool
is_within t = nat_le (type_count t) 4096 && nat_le (type_depth t) 64

abbrev pub explicit_mixed : PhpType
explicit_mixed = part_and ExplicitMixed never

abbrev pub implicit_mixed : PhpType
implicit_mixed = part_and ImplicitMixed never

-- one that is not is explicit `mixed`
abbrev pub limited : PhpType → PhpType
limited t = if is_within t then t else explicit_mixed
