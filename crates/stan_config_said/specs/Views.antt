-- What the code's values say.
use Rattle.std.specs.Prelude.{map, string_bytes}
use Rattle.stan_settings.specs.declared.IgnoreEntry.{IgnoreEntry}
use Rattle.stan_config_said.specs.declared.content.Said.{Said}
use Rattle.stan_config_said.specs.declared.content.Content.{Content}
use Rattle.stan_model_config.specs.Said as model

abbrev pub entry_view : IgnoreEntry → model.Entry
entry_view entry = record { message = string_bytes entry.message; paths = map string_bytes entry.paths.items; count = entry.count; report = entry.report_unmatched }

abbrev pub said_view : Said → model.Said
said_view said = record {
  level = said.level;
  paths = map string_bytes said.paths.items;
  exclude = map string_bytes said.exclude.items;
  scan_files = map string_bytes said.scan_files.items;
  scan_directories = map string_bytes said.scan_directories.items;
  ignore = map entry_view said.ignore.items;
  report = said.report_unmatched;
}

abbrev pub content_view : Content → model.Content
content_view content = record { includes = map string_bytes content.includes.items; said = said_view content.said }
