-- The test of the model that a test of the program stands for.
use Rattle.stan_model_types.specs.TypeFilters as model
use Rattle.stan_type_parts.specs.Parts.{part_of}
use Rattle.stan_type_filters.specs.declared.falsy.FalseValue.{FalseValue}
use Rattle.stan_type_filters.specs.declared.falsy.FalseValue.TheVariants as values
use Rattle.stan_type_filters.specs.declared.filter.Filter.{Filter}
use Rattle.stan_type_filters.specs.declared.filter.Filter.TheVariants as rows

abbrev pub filter_of : Filter → model.Filter
filter_of rows.Null = model.Nulls
filter_of rows.Bool = model.Bools
filter_of rows.Int = model.Ints
filter_of rows.Float = model.Floats
filter_of rows.Str = model.Strings
filter_of rows.Array = model.Arrays
filter_of rows.Object = model.Objects
filter_of rows.Callable = model.Callables
filter_of rows.Truthy = model.Truthy
filter_of rows.Falsy = model.Falsy
filter_of (rows.Literal part) = model.Only (part_of part)

-- ---- what functions inside promise each other

abbrev pub value_of : FalseValue → model.FalseValue
value_of values.EmptyArray = model.EmptyArray
value_of values.Zero = model.Zero
value_of values.EmptyText = model.EmptyText
value_of values.ZeroText = model.ZeroText
value_of values.FalseItself = model.FalseItself
value_of values.NullItself = model.NullItself
