-- Values: scalars and lists of them.
use Rattle.std.specs.Prelude.{zero, suc, ℕ, ◌==◌, if◌then◌else◌, Bool, true, false, List, [], ◌∷◌, Option, Some, None, length, drop}
use Rattle.std.specs.Option.{option_and_then}
use Rattle.std.specs.Str.{is_utf8}
use Rattle.stan_model_neon.specs.declared.node.Node.{Node}
use Rattle.stan_model_neon.specs.Characters.{is_quote}
use Rattle.stan_model_neon.specs.Nodes.{Text, Listed}
use Rattle.stan_neon_scalars.specs.Quotes.{first, ends, unblanked, quoted}
use Rattle.stan_neon_scalars.specs.Numbers.{plain, plain_front}

abbrev pub text_read : List ℕ × List ℕ → Option (Node × List ℕ)
text_read read = if is_utf8 read.0 then Some (Text read.0, read.1) else None

abbrev pub before : Option Node → List ℕ → Option (Node × List ℕ)
before None rest = None
before (Some node) rest = Some (node, rest)

-- a scalar, and what stands behind it
unfoldable pub scalar : Bool → List ℕ → Option (Node × List ℕ)
scalar listed bytes =
    if is_quote (first bytes) then option_and_then text_read (quoted bytes)
    else before (plain (plain_front listed bytes)) (drop (length (plain_front listed bytes)) bytes)

abbrev pub listed_before : Node → Option (List Node × List ℕ) → Option (List Node × List ℕ)
listed_before node None = None
listed_before node (Some (nodes, rest)) = Some (node ∷ nodes, rest)

-- what follows an item of a list: further items behind a comma, or its end
abbrev pub after_item : Node → List ℕ → Option (List Node × List ℕ) → Option (List Node × List ℕ)
after_item node rest more = if first rest == 44 then listed_before node more else (if first rest == 93 then Some (node ∷ [], drop 1 rest) else None)

-- one item or more of a list up to its `]`, and what stands behind that; at most as many as a number says
abbrev pub items_within : ℕ → List ℕ → Option (List Node × List ℕ)
items_within zero bytes = None
items_within (suc n) bytes = option_and_then (λ (read : Node × List ℕ). after_item read.0 (unblanked read.1) (items_within n (unblanked (drop 1 (unblanked read.1))))) (scalar true bytes)

unfoldable pub items : List ℕ → Option (List Node × List ℕ)
items bytes = items_within (length bytes) bytes

-- what stands behind `[`, and what stands behind the `]`
unfoldable pub list : List ℕ → Option (List Node × List ℕ)
list bytes = if first (unblanked bytes) == 93 then Some ([], drop 1 (unblanked bytes)) else items (unblanked bytes)

abbrev pub if_ends : Node × List ℕ → Option Node
if_ends read = if ends read.1 then Some read.0 else None

abbrev pub listed_node : List Node × List ℕ → Option Node
listed_node read = if_ends (Listed read.0, read.1)

-- a scalar or a list up to the line's end
unfoldable pub value : List ℕ → Option Node
value bytes = if first bytes == 91 then option_and_then listed_node (list (drop 1 bytes)) else option_and_then if_ends (scalar false bytes)
