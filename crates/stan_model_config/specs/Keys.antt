-- The names of keys, one table a map.
use Rattle.std.specs.Prelude.{ℕ, ◌||◌, if◌then◌else◌, Bool, List, Option, Some, None, codes}
use Rattle.std.specs.Str.{bytes_eq}
use Rattle.stan_model_config.specs.declared.keys.TopKey.{TopKey}
use Rattle.stan_model_config.specs.declared.keys.TopKey.TheVariants as tops
use Rattle.stan_model_config.specs.declared.keys.Parameter.{Parameter}
use Rattle.stan_model_config.specs.declared.keys.Parameter.TheVariants as parameters
use Rattle.stan_model_config.specs.declared.keys.EntryKey.{EntryKey}
use Rattle.stan_model_config.specs.declared.keys.EntryKey.TheVariants as entries

abbrev pub top_key : List ℕ → Option TopKey
top_key key =
    if bytes_eq key (codes "includes") then Some tops.Includes else (
    if bytes_eq key (codes "parameters") then Some tops.Parameters else None)

-- Keys that PHPStan knows and that change nothing here.
abbrev pub is_without_effect : List ℕ → Bool
is_without_effect key =
    bytes_eq key (codes "tmpDir") || bytes_eq key (codes "parallel") || bytes_eq key (codes "editorUrl") || bytes_eq key (codes "phpVersion") || bytes_eq key (codes "treatPhpDocTypesAsCertain")

abbrev pub parameter : List ℕ → Option Parameter
parameter key =
    if bytes_eq key (codes "level") then Some parameters.Level else (
    if bytes_eq key (codes "paths") then Some parameters.Paths else (
    if bytes_eq key (codes "excludePaths") then Some parameters.ExcludePaths else (
    if bytes_eq key (codes "scanFiles") then Some parameters.ScanFiles else (
    if bytes_eq key (codes "scanDirectories") then Some parameters.ScanDirectories else (
    if bytes_eq key (codes "ignoreErrors") then Some parameters.IgnoreErrors else (
    if bytes_eq key (codes "reportUnmatchedIgnoredErrors") then Some parameters.ReportUnmatched else (
    if is_without_effect key then Some parameters.WithoutEffect else None)))))))

abbrev pub entry_key : List ℕ → Option EntryKey
entry_key key =
    if bytes_eq key (codes "message") then Some entries.Message else (
    if bytes_eq key (codes "path") then Some entries.Path else (
    if bytes_eq key (codes "paths") then Some entries.Paths else (
    if bytes_eq key (codes "count") then Some entries.Count else (
    if bytes_eq key (codes "reportUnmatched") then Some entries.ReportUnmatched else None))))
