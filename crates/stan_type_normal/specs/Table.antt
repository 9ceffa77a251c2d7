-- What an array and a shape have in common, as the program holds it.
use Rattle.stan_model_types.specs.NormalForms as model
use Rattle.stan_type_normal.specs.declared.form.Table.{Table}

abbrev pub table_of : Table → model.Table
table_of a = record { key = a.key; value = a.value; is_list = a.is_list; is_filled = a.is_filled }
