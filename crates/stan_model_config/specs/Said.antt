-- What a file says that is at no fault: one table of keys, and what each gives.
use Rattle.std.specs.Prelude.{ℕ, ◌++◌, Bool, List, [], ◌∷◌, Option, Some, None, unwrap_or, option_to_list, map}
use Rattle.std.specs.List.{filter_map}
use Rattle.stan_model_neon.specs.declared.node.Node.{Node, out-Node}
use Rattle.stan_model_neon.specs.declared.node.Node.TheOpen.{Node-F}
use Rattle.stan_model_config.specs.declared.keys.TopKey.{TopKey}
use Rattle.stan_model_config.specs.declared.keys.TopKey.TheVariants as tops
use Rattle.stan_model_config.specs.declared.keys.Parameter.{Parameter}
use Rattle.stan_model_config.specs.declared.keys.Parameter.TheVariants as parameters
use Rattle.stan_model_config.specs.declared.keys.EntryKey.{EntryKey}
use Rattle.stan_model_config.specs.declared.keys.EntryKey.TheVariants as entries
use Rattle.stan_model_config.specs.Keys.{top_key, parameter, entry_key}
use Rattle.stan_model_config.specs.Values.{Value, level_of, count_of, truth_of, text_of, path_of}

-- an entry of `ignoreErrors`
pub record Entry : Type 0 where
  pub message : List ℕ
  pub paths : List (List ℕ)
  pub count : Option ℕ
  pub report : Option Bool

-- what a file says, or several
pub record Said : Type 0 where
  pub level : Option ℕ
  pub paths : List (List ℕ)
  pub exclude : List (List ℕ)
  pub scan_files : List (List ℕ)
  pub scan_directories : List (List ℕ)
  pub ignore : List Entry
  pub report : Option Bool

-- what one file says, and which files it includes
pub record Content : Type 0 where
  pub includes : List (List ℕ)
  pub said : Said

abbrev pub nothing : Said
nothing = record { level = None; paths = []; exclude = []; scan_files = []; scan_directories = []; ignore = []; report = None }

-- ---- values

abbrev pub paths_in : List ℕ → Value → List (List ℕ)
paths_in file (Node-F.List nodes) = filter_map (path_of file) nodes
paths_in file Node-F.Null = []
paths_in file (Node-F.Bool _) = []
paths_in file (Node-F.Int _) = []
paths_in file (Node-F.Text _) = []
paths_in file (Node-F.Map _) = []

-- the paths of a list
abbrev pub paths_of : List ℕ → Node → List (List ℕ)
paths_of file node = paths_in file (out-Node node)

-- an entry as its keys give it, with `path` for itself
pub record EntryParts : Type 0 where
  pub message : List ℕ
  pub path : Option (List ℕ)
  pub paths : List (List ℕ)
  pub count : Option ℕ
  pub report : Option Bool

abbrev pub no_parts : EntryParts
no_parts = record { message = []; path = None; paths = []; count = None; report = None }

abbrev pub entry_with : List ℕ → Option EntryKey → Node → EntryParts → EntryParts
entry_with file None node parts = parts
entry_with file (Some entries.Message) node parts = record parts { message = unwrap_or (text_of node) [] }
entry_with file (Some entries.Path) node parts = record parts { path = path_of file node }
entry_with file (Some entries.Paths) node parts = record parts { paths = paths_of file node }
entry_with file (Some entries.Count) node parts = record parts { count = count_of node }
entry_with file (Some entries.ReportUnmatched) node parts = record parts { report = truth_of node }

abbrev pub parts_with : List ℕ → List (List ℕ × Node) → EntryParts → EntryParts
parts_with file [] parts = parts
parts_with file (pair ∷ pairs) parts = entry_with file (entry_key pair.0) pair.1 (parts_with file pairs parts)

-- Its `path` comes before its `paths`.
abbrev pub entry_from : EntryParts → Entry
entry_from parts = record { message = parts.message; paths = option_to_list parts.path ++ parts.paths; count = parts.count; report = parts.report }

abbrev pub entry_in : List ℕ → Value → Entry
entry_in file (Node-F.Text text) = record { message = text; paths = []; count = None; report = None }
entry_in file (Node-F.Map pairs) = entry_from (parts_with file pairs no_parts)
entry_in file Node-F.Null = entry_from no_parts
entry_in file (Node-F.Bool _) = entry_from no_parts
entry_in file (Node-F.Int _) = entry_from no_parts
entry_in file (Node-F.List _) = entry_from no_parts

abbrev pub entry_of : List ℕ → Node → Entry
entry_of file node = entry_in file (out-Node node)

abbrev pub entries_in : List ℕ → Value → List Entry
entries_in file (Node-F.List nodes) = map (entry_of file) nodes
entries_in file Node-F.Null = []
entries_in file (Node-F.Bool _) = []
entries_in file (Node-F.Int _) = []
entries_in file (Node-F.Text _) = []
entries_in file (Node-F.Map _) = []

abbrev pub entries_of : List ℕ → Node → List Entry
entries_of file node = entries_in file (out-Node node)

-- ---- what each key gives

abbrev pub with : List ℕ → Option Parameter → Node → Said → Said
with file None node said = said
with file (Some parameters.Level) node said = record said { level = level_of node }
with file (Some parameters.Paths) node said = record said { paths = paths_of file node }
with file (Some parameters.ExcludePaths) node said = record said { exclude = paths_of file node }
with file (Some parameters.ScanFiles) node said = record said { scan_files = paths_of file node }
with file (Some parameters.ScanDirectories) node said = record said { scan_directories = paths_of file node }
with file (Some parameters.IgnoreErrors) node said = record said { ignore = entries_of file node }
with file (Some parameters.ReportUnmatched) node said = record said { report = truth_of node }
with file (Some parameters.WithoutEffect) node said = said

-- what the pairs of `parameters` give over what was said
abbrev pub said_with : List ℕ → List (List ℕ × Node) → Said → Said
said_with file [] said = said
said_with file (pair ∷ pairs) said = with file (parameter pair.0) pair.1 (said_with file pairs said)

abbrev pub parameters_in : List ℕ → Value → Said
parameters_in file (Node-F.Map pairs) = said_with file pairs nothing
parameters_in file Node-F.Null = nothing
parameters_in file (Node-F.Bool _) = nothing
parameters_in file (Node-F.Int _) = nothing
parameters_in file (Node-F.Text _) = nothing
parameters_in file (Node-F.List _) = nothing

abbrev pub parameters_of : List ℕ → Node → Said
parameters_of file node = parameters_in file (out-Node node)

abbrev pub content_with : List ℕ → Option TopKey → Node → Content → Content
content_with file None node content = content
content_with file (Some tops.Includes) node content = record content { includes = paths_of file node }
content_with file (Some tops.Parameters) node content = record content { said = parameters_of file node }

abbrev pub contents_with : List ℕ → List (List ℕ × Node) → Content → Content
contents_with file [] content = content
contents_with file (pair ∷ pairs) content = content_with file (top_key pair.0) pair.1 (contents_with file pairs content)

abbrev pub empty : Content
empty = record { includes = []; said = nothing }

abbrev pub content_in : List ℕ → Value → Content
content_in file (Node-F.Map pairs) = contents_with file pairs empty
content_in file Node-F.Null = empty
content_in file (Node-F.Bool _) = empty
content_in file (Node-F.Int _) = empty
content_in file (Node-F.Text _) = empty
content_in file (Node-F.List _) = empty

-- what a file says whose tree is this
abbrev pub content_of : List ℕ → Node → Content
content_of file node = content_in file (out-Node node)
