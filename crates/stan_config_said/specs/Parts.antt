-- What the keys of an entry say.
use Rattle.std.specs.Prelude.{map, option_map, string_bytes}
use Rattle.stan_config_said.specs.declared.entry.EntryParts.{EntryParts}
use Rattle.stan_model_config.specs.Said as model

abbrev pub parts_view : EntryParts → model.EntryParts
parts_view parts = record { message = string_bytes parts.message; path = option_map string_bytes parts.path; paths = map string_bytes parts.paths.items; count = parts.count; report = parts.report_unmatched }
