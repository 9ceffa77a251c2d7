-- The outline of a text: which line stands in which block, and what the text holds.
use Rattle.std.specs.Prelude.{ℕ, ◌≤◌, ◌-◌, ◌&&◌, not, if◌then◌else◌, Bool, true, false, is_none, IsTrue, List, [], ◌∷◌, ◌++◌, unwrap_or, ◌==◌}
use Rattle.std.specs.List.{list_any}
use Rattle.std.specs.Str.{bytes_eq}
use Rattle.stan_model_neon.specs.declared.node.Node.{Node}
use Rattle.stan_model_neon.specs.declared.node.Entry.{Entry}
use Rattle.stan_model_neon.specs.declared.node.Entry.TheVariants as entries
use Rattle.stan_model_neon.specs.Nodes.{Null, Listed, Mapped}

-- a line of content: its number from 1, its run of tabs and spaces, and what stands behind them
pub record Line : Type 0 where
  pub number : ℕ
  pub indentation : List ℕ
  pub entry : Entry

-- Lines of one block, each with the deeper block under it, the further pairs of the map behind its dash, and the lines of its block that come next.
pub data Outline : Type 0 where
  End : Outline
  Stand : Line → Outline → Outline → Outline → Outline

-- the lines in their order
abbrev pub spelled : Outline → List Line
spelled End = []
spelled (Stand line under further next) = line ∷ (spelled under ++ (spelled further ++ spelled next))

-- ---- what a line is

pub data Kind : Type 0 where
  Items : Kind
  Pairs : Kind

-- An item begins with a dash, a pair with a key.
abbrev pub is_of : Kind → Entry → Bool
is_of Items (entries.Item _) = true
is_of Items (entries.MapItem _ _) = true
is_of Items (entries.Pair _ _) = false
is_of Items entries.Broken = false
is_of Pairs (entries.Item _) = false
is_of Pairs (entries.MapItem _ _) = false
is_of Pairs (entries.Pair _ _) = true
is_of Pairs entries.Broken = false

abbrev pub kind_of : Entry → Kind
kind_of (entries.Item _) = Items
kind_of (entries.MapItem _ _) = Items
kind_of (entries.Pair _ _) = Pairs
kind_of entries.Broken = Items

-- a dash or a key without a value: a deeper block may stand under it, and without one it is null
abbrev pub is_alone : Entry → Bool
is_alone (entries.Item value) = is_none value
is_alone (entries.MapItem _ value) = is_none value
is_alone (entries.Pair _ value) = is_none value
is_alone entries.Broken = false

-- a dash with a pair behind it
abbrev pub begins_map : Entry → Bool
begins_map (entries.Item _) = false
begins_map (entries.MapItem _ _) = true
begins_map (entries.Pair _ _) = false
begins_map entries.Broken = false

-- ---- where a line stands

-- A deeper indentation begins with the other one and is longer.
abbrev pub is_deeper : List ℕ → List ℕ → Bool
is_deeper [] [] = false
is_deeper [] (_ ∷ _) = true
is_deeper (_ ∷ _) [] = false
is_deeper (a ∷ outer) (b ∷ inner) = (a == b) && is_deeper outer inner

-- where the further pairs of the map behind a dash stand: two spaces behind the dash's indentation
abbrev pub behind_dash : List ℕ → List ℕ
behind_dash dash = dash ++ (32 ∷ 32 ∷ [])

-- a pair that belongs to the map behind one of these dashes, whatever else is open there
abbrev pub is_claimed : List (List ℕ) → Line → Bool
is_claimed dashes line = is_of Pairs line.entry && list_any (λ dash. bytes_eq line.indentation (behind_dash dash)) dashes

-- a line of a block: its indentation and kind are the block's, and no dash that is open there claims it
abbrev pub is_in_block : List (List ℕ) → Kind → List ℕ → Line → Bool
is_in_block dashes kind indentation line = bytes_eq line.indentation indentation && (is_of kind line.entry && not (is_claimed dashes line))

-- the dashes that are open under a line, outermost first: with its own, where it begins a map
abbrev pub dashes_under : List (List ℕ) → Line → List (List ℕ)
dashes_under dashes line = if begins_map line.entry then dashes ++ line.indentation ∷ [] else dashes

abbrev pub first_kind : Outline → Kind
first_kind End = Items
first_kind (Stand line _ _ _) = kind_of line.entry

abbrev pub first_indentation : Outline → List ℕ
first_indentation End = []
first_indentation (Stand line _ _ _) = line.indentation

-- ---- which outlines are those of texts

-- A deeper block may begin with a line under another one, where so many blocks may still stand inside one another.
pub record Begins (left : ℕ) (above first : Line) : Type 0 where
  pub room : 1 ≤ left
  pub alone : IsTrue (is_alone above.entry)
  pub deeper : IsTrue (is_deeper above.indentation first.indentation)

-- Under a line stands nothing or a deeper block.
abbrev pub MayStandUnder : ℕ → Line → Outline → Type 0
MayStandUnder left above End = Unit {0}
MayStandUnder left above (Stand first _ _ _) = Begins left above first

-- Further pairs stand behind a dash with a pair alone.
abbrev pub MayStandFurther : Line → Outline → Type 0
MayStandFurther above End = Unit {0}
MayStandFurther above (Stand _ _ _ _) = IsTrue (begins_map above.entry)

-- A line stands in its block with what belongs to it.
pub record Stands (left : ℕ) (dashes : List (List ℕ)) (kind : Kind) (indentation : List ℕ) (line : Line) (under further : Outline) (IsUnder IsFurther IsNext : Type 0) : Type 0 where
  pub here : IsTrue (is_in_block dashes kind indentation line)
  pub may_under : MayStandUnder left line under
  pub may_further : MayStandFurther line further
  pub is_under : IsUnder
  pub is_further : IsFurther
  pub is_next : IsNext

-- The lines of one block, all items or all pairs of one indentation. A deeper block leaves room for one block less, the further pairs of a map behind a dash don't count.
abbrev pub AreInBlock : ℕ → List (List ℕ) → Kind → List ℕ → Outline → Type 0
AreInBlock left dashes kind indentation End = Unit {0}
AreInBlock left dashes kind indentation (Stand line under further next) =
    Stands left dashes kind indentation line under further
    (AreInBlock (left - 1) (dashes_under dashes line) (first_kind under) (first_indentation under) under)
    (AreInBlock left dashes Pairs (behind_dash line.indentation) further)
    (AreInBlock left dashes kind indentation next)

-- The outline of a text: nothing, or one block in which at most 63 stand inside one another.
abbrev pub IsOutline : Outline → Type 0
IsOutline outline = AreInBlock 63 [] (first_kind outline) (first_indentation outline) outline

-- ---- what a text holds

-- what a block holds, by the kind of its first line, where its lines hold these items or these pairs
abbrev pub held : Outline → List Node → List (List ℕ × Node) → Node
held End items pairs = Null
held (Stand first _ _ _) items pairs = if is_of Pairs first.entry then Mapped pairs else Listed items

-- what an item holds, with what stands under it and its further pairs
abbrev pub item_of : Entry → Node → List (List ℕ × Node) → Node
item_of (entries.Item value) under further = unwrap_or value under
item_of (entries.MapItem key value) under further = Mapped ((key, unwrap_or value under) ∷ further)
item_of (entries.Pair key value) under further = Null
item_of entries.Broken under further = Null

-- what a pair holds, with what stands under it
abbrev pub pair_of : Entry → Node → List ℕ × Node
pair_of (entries.Item value) under = ([], Null)
pair_of (entries.MapItem key value) under = ([], Null)
pair_of (entries.Pair key value) under = (key, unwrap_or value under)
pair_of entries.Broken under = ([], Null)

abbrev mutual
  pub items_of : Outline → List Node
  items_of End = []
  items_of (Stand line under further next) = item_of line.entry (held under (items_of under) (pairs_of under)) (pairs_of further) ∷ items_of next

  pub pairs_of : Outline → List (List ℕ × Node)
  pairs_of End = []
  pairs_of (Stand line under further next) = pair_of line.entry (held under (items_of under) (pairs_of under)) ∷ pairs_of next

-- what a block holds
abbrev pub node_of : Outline → Node
node_of outline = held outline (items_of outline) (pairs_of outline)

-- the tree of a text. A text without any block is a map without pairs.
abbrev pub tree_of : Outline → Node
tree_of End = Mapped []
tree_of (Stand line under further next) = node_of (Stand line under further next)
