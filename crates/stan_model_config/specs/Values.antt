-- What values mean: each form of value, and none where a value has another form.
use Rattle.std.specs.Prelude.{ℕ, ℤ, pos, negsuc, ◌&&◌, nat_le, if◌then◌else◌, Bool, List, Option, Some, None, codes}
use Rattle.std.specs.Str.{bytes_eq}
use Rattle.stan_model_neon.specs.declared.node.Node.{Node, out-Node}
use Rattle.stan_model_neon.specs.declared.node.Node.TheOpen.{Node-F}
use Rattle.stan_model_config.specs.Paths.{resolved}

abbrev pub Value : Type 0
Value = Node-F Node

-- 0 to 9
abbrev pub level_of_number : ℤ → Option ℕ
level_of_number (pos n) = if nat_le n 9 then Some n else None
level_of_number (negsuc _) = None

abbrev pub level_in : Value → Option ℕ
level_in (Node-F.Int n) = level_of_number n
level_in (Node-F.Text text) = if bytes_eq text (codes "max") then Some 9 else None
level_in Node-F.Null = None
level_in (Node-F.Bool _) = None
level_in (Node-F.List _) = None
level_in (Node-F.Map _) = None

-- 0 to 9, or `max`, which is 9
abbrev pub level_of : Node → Option ℕ
level_of node = level_in (out-Node node)

abbrev pub count_of_number : ℤ → Option ℕ
count_of_number (pos n) = if nat_le 1 n && nat_le n 2147483647 then Some n else None
count_of_number (negsuc _) = None

abbrev pub count_in : Value → Option ℕ
count_in (Node-F.Int n) = count_of_number n
count_in (Node-F.Text _) = None
count_in Node-F.Null = None
count_in (Node-F.Bool _) = None
count_in (Node-F.List _) = None
count_in (Node-F.Map _) = None

-- 1 to 2^31-1
abbrev pub count_of : Node → Option ℕ
count_of node = count_in (out-Node node)

abbrev pub truth_in : Value → Option Bool
truth_in (Node-F.Bool b) = Some b
truth_in (Node-F.Int _) = None
truth_in (Node-F.Text _) = None
truth_in Node-F.Null = None
truth_in (Node-F.List _) = None
truth_in (Node-F.Map _) = None

abbrev pub truth_of : Node → Option Bool
truth_of node = truth_in (out-Node node)

abbrev pub text_in : Value → Option (List ℕ)
text_in (Node-F.Text text) = Some text
text_in (Node-F.Int _) = None
text_in (Node-F.Bool _) = None
text_in Node-F.Null = None
text_in (Node-F.List _) = None
text_in (Node-F.Map _) = None

abbrev pub text_of : Node → Option (List ℕ)
text_of node = text_in (out-Node node)

abbrev pub path_in : List ℕ → Value → Option (List ℕ)
path_in file (Node-F.Text text) = resolved file text
path_in file (Node-F.Int _) = None
path_in file (Node-F.Bool _) = None
path_in file Node-F.Null = None
path_in file (Node-F.List _) = None
path_in file (Node-F.Map _) = None

-- a text that is a path relative to the folder of a file
abbrev pub path_of : List ℕ → Node → Option (List ℕ)
path_of file node = path_in file (out-Node node)
