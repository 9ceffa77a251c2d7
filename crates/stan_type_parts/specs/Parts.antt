-- The part of the model that a part of the program stands for.
use Rattle.std.specs.Prelude.{map, Option, Some, None}
use Rattle.stan_base.specs.Name.{name_bytes}
use Rattle.stan_model_types.specs.Types as model
use Rattle.stan_type_parts.specs.declared.part.Field.{Field}
use Rattle.stan_type_parts.specs.declared.part.Key.{Key}
use Rattle.stan_type_parts.specs.declared.part.Key.TheVariants as keys
use Rattle.stan_type_parts.specs.declared.part.Part.{Part}
use Rattle.stan_type_parts.specs.declared.part.Part.TheVariants as rows
use Rattle.stan_type_parts.specs.declared.part.StringForm.{StringForm}
use Rattle.stan_type_parts.specs.declared.part.StringForm.TheVariants as forms

abbrev pub form_of : StringForm → model.StringForm
form_of (forms.Literal text) = model.Literal text
form_of forms.NonEmpty = model.NonEmpty
form_of forms.Plain = model.Plain

abbrev pub key_of : Key → model.Key
key_of (keys.Int k) = model.IntKey k
key_of (keys.Text text) = model.TextKey text

abbrev pub field_of : Field → model.Field
field_of f = record { key = key_of f.key; optional = f.optional; value = f.value }

abbrev pub class_string_of : Option model.PhpType → model.Part
class_string_of None = model.ClassString
class_string_of (Some t) = model.ClassStringOf t

abbrev pub part_of : Part → model.Part
part_of (rows.Object name arguments) = model.Object (name_bytes name) (model.of_types arguments.items)
part_of (rows.Static name) = model.Static (name_bytes name)
part_of (rows.Meeting names) = model.Meeting (map name_bytes names.items)
part_of rows.AnyObject = model.AnyObject
part_of (rows.Template owner name bound) = model.Template (name_bytes owner) (name_bytes name) bound
part_of (rows.Array key value list non_empty) = model.Array key value list non_empty
part_of (rows.Shape fields) = model.Shape (model.of_fields (map field_of fields.items))
part_of rows.Callable = model.Callable
part_of (rows.Int least greatest) = model.Int least greatest
part_of rows.Float = model.Float
part_of (rows.Str form) = model.Str (form_of form)
part_of (rows.ClassString t) = class_string_of t
part_of rows.False = model.False
part_of rows.True = model.True
part_of rows.Null = model.Null
part_of rows.Void = model.Void
part_of rows.ImplicitMixed = model.ImplicitMixed
part_of rows.ExplicitMixed = model.ExplicitMixed
