-- What words ask for and what a configuration says.
use Rattle.std.specs.Prelude.{ℕ, List, map, option_map, string_bytes}
use Rattle.stan_settings.specs.declared.Config.{Config}
use Rattle.stan_settings.specs.declared.Words.{Words}
use Rattle.stan_config_said.specs.declared.content.Said.{Said}
use Rattle.stan_config.specs.declared.read_files.ReadFiles.{ReadFiles}
use Rattle.stan_config_said.specs.Views.{entry_view, said_view}
use Rattle.stan_model_config.specs.Files as model

abbrev pub asked : Words → model.Asked
asked words = record { configuration = option_map string_bytes words.configuration; level = words.level; paths = map string_bytes words.paths.items }

abbrev pub config_view : Config → model.Meaning
config_view config = record {
  level = config.level;
  paths = map string_bytes config.paths.items;
  exclude = map string_bytes config.exclude.items;
  scan_files = map string_bytes config.scan_files.items;
  scan_directories = map string_bytes config.scan_directories.items;
  ignore = map entry_view config.ignore.items;
  report = config.report_unmatched;
}

-- the paths of the files that were read, in their order
abbrev pub files_view : ReadFiles → List (List ℕ)
files_view files = map string_bytes files.names.keys

-- what was said, and which files were read
abbrev pub found_view : ReadFiles → Said → model.Found
found_view files said = record { said = said_view said; read = files_view files }
