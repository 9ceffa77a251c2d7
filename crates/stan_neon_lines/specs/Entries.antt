-- What stands in a line behind its indentation.
use Rattle.std.specs.Prelude.{ℕ, ◌==◌, ◌&&◌, ◌||◌, if◌then◌else◌, Bool, List, Option, Some, None, option_map, drop}
use Rattle.std.specs.Option.{option_and_then}
use Rattle.stan_model_neon.specs.declared.node.Node.{Node}
use Rattle.stan_model_neon.specs.declared.node.Entry.{Entry}
use Rattle.stan_model_neon.specs.declared.node.Entry.TheVariants as entries
use Rattle.stan_model_neon.specs.Characters.{is_blank}
use Rattle.stan_neon_scalars.specs.Quotes.{first, ends, unblanked, key}
use Rattle.stan_neon_scalars.specs.Scalars.{value}

abbrev pub present : Node → Option Node
present node = Some node

-- what stands behind the `:` of a key: nothing, or a value behind a blank
unfoldable pub behind_key : List ℕ → Option (Option Node)
behind_key bytes = if ends bytes then Some None else (if is_blank (first bytes) then option_map present (value (unblanked bytes)) else None)

abbrev pub keyed : List ℕ → Option (Option Node) → Option (List ℕ × Option Node)
keyed name None = None
keyed name (Some value) = Some (name, value)

abbrev pub behind_name : List ℕ × List ℕ → Option (List ℕ × Option Node)
behind_name read = if first read.1 == 58 then keyed read.0 (behind_key (drop 1 read.1)) else None

-- a key with its `:`, and a value where one stands in this line
unfoldable pub pair : List ℕ → Option (List ℕ × Option Node)
pair bytes = option_and_then behind_name (key bytes)

abbrev pub value_item : Option Node → Entry
value_item None = entries.Broken
value_item (Some node) = entries.Item (Some node)

-- An item that can be read as a pair is no scalar.
abbrev pub pair_or_value : Option (List ℕ × Option Node) → Option Node → Entry
pair_or_value None other = value_item other
pair_or_value (Some (name, value)) other = entries.MapItem name value

-- what stands behind a dash
unfoldable pub item : List ℕ → Entry
item bytes = if ends bytes then entries.Item None else (if is_blank (first bytes) then pair_or_value (pair (unblanked bytes)) (value (unblanked bytes)) else entries.Broken)

abbrev pub pair_entry : Option (List ℕ × Option Node) → Entry
pair_entry None = entries.Broken
pair_entry (Some (name, value)) = entries.Pair name value

-- whether a dash stands there, and not a key that begins with `-`
unfoldable pub begins_item : List ℕ → Bool
begins_item bytes = (first bytes == 45) && (ends (drop 1 bytes) || is_blank (first (drop 1 bytes)))

unfoldable pub entry : List ℕ → Entry
entry bytes = if begins_item bytes then item (drop 1 bytes) else pair_entry (pair bytes)
