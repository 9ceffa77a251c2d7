-- Where a file is first at fault, in the order of its lines: at a key that is unknown, stands twice in its map or has a value of another form, or at a path that leads outside.
use Rattle.std.specs.Prelude.{ℕ, ◌+◌, ◌++◌, if◌then◌else◌, Bool, List, [], ◌∷◌, Option, Some, None, map, codes, decimal}
use Rattle.std.specs.List.{list_any}
use Rattle.std.specs.Str.{bytes_eq}
use Rattle.stan_model_neon.specs.declared.node.Node.{Node, out-Node}
use Rattle.stan_model_neon.specs.declared.node.Node.TheOpen.{Node-F}
use Rattle.stan_model_neon.specs.declared.node.Node.TheFolds as folds
use Rattle.stan_model_config.specs.declared.place.Place.{Place}
use Rattle.stan_model_config.specs.declared.place.Place.TheVariants as places
use Rattle.stan_model_config.specs.declared.keys.TopKey.{TopKey}
use Rattle.stan_model_config.specs.declared.keys.TopKey.TheVariants as tops
use Rattle.stan_model_config.specs.declared.keys.Parameter.{Parameter}
use Rattle.stan_model_config.specs.declared.keys.Parameter.TheVariants as parameters
use Rattle.stan_model_config.specs.declared.keys.EntryKey.{EntryKey}
use Rattle.stan_model_config.specs.declared.keys.EntryKey.TheVariants as entries
use Rattle.stan_model_config.specs.Keys.{top_key, parameter, entry_key}
use Rattle.stan_model_config.specs.Values.{Value, level_of, count_of, truth_of, text_of, path_of}

-- where a value is first at fault, if it is
abbrev pub Fault : Type 0
Fault = Option Place

-- ---- lists and maps, by the faults of what stands in them

-- a place in a value, seen from the map or list in which the value stands at a key or a position
abbrev pub behind : List ℕ → Place → Place
behind key places.Here = places.Below key
behind key (places.Below rest) = places.Below (key ++ (codes "." ++ rest))

-- the fault of one value, else that of what comes behind it
abbrev pub first_of : List ℕ → Fault → Fault → Fault
first_of key None rest = rest
first_of key (Some place) rest = Some (behind key place)

-- The first fault of the items of a list, which count from a number on.
abbrev pub items_fault : ℕ → List Fault → Fault
items_fault at [] = None
items_fault at (fault ∷ faults) = first_of (decimal at) fault (items_fault (at + 1) faults)

abbrev pub is_among : List (List ℕ) → List ℕ → Bool
is_among keys key = list_any (λ other. bytes_eq other key) keys

-- The first fault of the pairs of a map, behind other keys. A key that stands a second time is one, whatever its value.
abbrev pub pairs_fault : List (List ℕ) → List (List ℕ × Fault) → Fault
pairs_fault before [] = None
pairs_fault before (pair ∷ pairs) = if is_among before pair.0 then Some (places.Below pair.0) else first_of pair.0 pair.1 (pairs_fault (before ++ pair.0 ∷ []) pairs)

-- ---- forms of values

-- The value itself is at fault where it means nothing.
abbrev pub unless_some : {A : Type 0} → Option A → Fault
unless_some None = Some places.Here
unless_some (Some _) = None

-- any value: in its maps no key stands twice, at any depth
abbrev pub free_step : Node-F Fault → Fault
free_step Node-F.Null = None
free_step (Node-F.Bool _) = None
free_step (Node-F.Int _) = None
free_step (Node-F.Text _) = None
free_step (Node-F.List faults) = items_fault 0 faults
free_step (Node-F.Map pairs) = pairs_fault [] pairs

unfoldable pub free_fault : Node → Fault
free_fault = folds.fold-Node Fault free_step

-- a list of paths
abbrev pub paths_fault_in : List ℕ → Value → Fault
paths_fault_in file (Node-F.List nodes) = items_fault 0 (map (λ node. unless_some (path_of file node)) nodes)
paths_fault_in file Node-F.Null = Some places.Here
paths_fault_in file (Node-F.Bool _) = Some places.Here
paths_fault_in file (Node-F.Int _) = Some places.Here
paths_fault_in file (Node-F.Text _) = Some places.Here
paths_fault_in file (Node-F.Map _) = Some places.Here

abbrev pub paths_fault : List ℕ → Node → Fault
paths_fault file node = paths_fault_in file (out-Node node)

-- a list of paths with one at least
abbrev pub some_paths_fault_in : List ℕ → Value → Fault
some_paths_fault_in file (Node-F.List []) = Some places.Here
some_paths_fault_in file (Node-F.List (node ∷ nodes)) = items_fault 0 (map (λ node. unless_some (path_of file node)) (node ∷ nodes))
some_paths_fault_in file Node-F.Null = Some places.Here
some_paths_fault_in file (Node-F.Bool _) = Some places.Here
some_paths_fault_in file (Node-F.Int _) = Some places.Here
some_paths_fault_in file (Node-F.Text _) = Some places.Here
some_paths_fault_in file (Node-F.Map _) = Some places.Here

abbrev pub some_paths_fault : List ℕ → Node → Fault
some_paths_fault file node = some_paths_fault_in file (out-Node node)

-- ---- what stands at each key

abbrev pub entry_key_fault : List ℕ → Option EntryKey → Node → Fault
entry_key_fault file None node = Some places.Here
entry_key_fault file (Some entries.Message) node = unless_some (text_of node)
entry_key_fault file (Some entries.Path) node = unless_some (path_of file node)
entry_key_fault file (Some entries.Paths) node = some_paths_fault file node
entry_key_fault file (Some entries.Count) node = unless_some (count_of node)
entry_key_fault file (Some entries.ReportUnmatched) node = unless_some (truth_of node)

abbrev pub entry_pair_fault : List ℕ → List ℕ × Node → List ℕ × Fault
entry_pair_fault file pair = (pair.0, entry_key_fault file (entry_key pair.0) pair.1)

-- An entry without `message` is at fault itself, behind the faults of its keys.
abbrev pub unless_named : List (List ℕ × Node) → Fault → Fault
unless_named pairs (Some place) = Some place
unless_named pairs None = if list_any (λ pair. bytes_eq pair.0 (codes "message")) pairs then None else Some places.Here

-- an entry of `ignoreErrors`: a text, or a map
abbrev pub entry_fault_in : List ℕ → Value → Fault
entry_fault_in file (Node-F.Text _) = None
entry_fault_in file (Node-F.Map pairs) = unless_named pairs (pairs_fault [] (map (entry_pair_fault file) pairs))
entry_fault_in file Node-F.Null = Some places.Here
entry_fault_in file (Node-F.Bool _) = Some places.Here
entry_fault_in file (Node-F.Int _) = Some places.Here
entry_fault_in file (Node-F.List _) = Some places.Here

abbrev pub entry_fault : List ℕ → Node → Fault
entry_fault file node = entry_fault_in file (out-Node node)

abbrev pub entries_fault_in : List ℕ → Value → Fault
entries_fault_in file (Node-F.List nodes) = items_fault 0 (map (entry_fault file) nodes)
entries_fault_in file Node-F.Null = Some places.Here
entries_fault_in file (Node-F.Bool _) = Some places.Here
entries_fault_in file (Node-F.Int _) = Some places.Here
entries_fault_in file (Node-F.Text _) = Some places.Here
entries_fault_in file (Node-F.Map _) = Some places.Here

abbrev pub entries_fault : List ℕ → Node → Fault
entries_fault file node = entries_fault_in file (out-Node node)

abbrev pub parameter_fault : List ℕ → Option Parameter → Node → Fault
parameter_fault file None node = Some places.Here
parameter_fault file (Some parameters.Level) node = unless_some (level_of node)
parameter_fault file (Some parameters.Paths) node = paths_fault file node
parameter_fault file (Some parameters.ExcludePaths) node = paths_fault file node
parameter_fault file (Some parameters.ScanFiles) node = paths_fault file node
parameter_fault file (Some parameters.ScanDirectories) node = paths_fault file node
parameter_fault file (Some parameters.IgnoreErrors) node = entries_fault file node
parameter_fault file (Some parameters.ReportUnmatched) node = unless_some (truth_of node)
parameter_fault file (Some parameters.WithoutEffect) node = free_fault node

abbrev pub parameter_pair_fault : List ℕ → List ℕ × Node → List ℕ × Fault
parameter_pair_fault file pair = (pair.0, parameter_fault file (parameter pair.0) pair.1)

abbrev pub parameters_fault_in : List ℕ → Value → Fault
parameters_fault_in file (Node-F.Map pairs) = pairs_fault [] (map (parameter_pair_fault file) pairs)
parameters_fault_in file Node-F.Null = Some places.Here
parameters_fault_in file (Node-F.Bool _) = Some places.Here
parameters_fault_in file (Node-F.Int _) = Some places.Here
parameters_fault_in file (Node-F.Text _) = Some places.Here
parameters_fault_in file (Node-F.List _) = Some places.Here

abbrev pub parameters_fault : List ℕ → Node → Fault
parameters_fault file node = parameters_fault_in file (out-Node node)

abbrev pub top_fault : List ℕ → Option TopKey → Node → Fault
top_fault file None node = Some places.Here
top_fault file (Some tops.Includes) node = paths_fault file node
top_fault file (Some tops.Parameters) node = parameters_fault file node

abbrev pub top_pair_fault : List ℕ → List ℕ × Node → List ℕ × Fault
top_pair_fault file pair = (pair.0, top_fault file (top_key pair.0) pair.1)

abbrev pub file_fault_in : List ℕ → Value → Fault
file_fault_in file (Node-F.Map pairs) = pairs_fault [] (map (top_pair_fault file) pairs)
file_fault_in file Node-F.Null = Some places.Here
file_fault_in file (Node-F.Bool _) = Some places.Here
file_fault_in file (Node-F.Int _) = Some places.Here
file_fault_in file (Node-F.Text _) = Some places.Here
file_fault_in file (Node-F.List _) = Some places.Here

-- Where a file is first at fault: itself where its top block is a list.
abbrev pub file_fault : List ℕ → Node → Fault
file_fault file node = file_fault_in file (out-Node node)

-- a place as a key: the keys and positions that lead there, and nothing for the whole file
abbrev pub written : Place → List ℕ
written places.Here = []
written (places.Below key) = key
