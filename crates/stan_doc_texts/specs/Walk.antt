-- A text of any tokens, token by token.
use Rattle.std.specs.Prelude.{ℕ, suc, ◌+◌, ◌||◌, if◌then◌else◌, Bool, true, false, List, [], ◌∷◌, Option, Some, None}
use Rattle.stan_model_doc.specs.declared.token.DocKind.{DocKind}
use Rattle.stan_model_doc.specs.declared.token.DocToken.{DocToken}
use Rattle.stan_model_doc.specs.Tokens.{same_kind}
use Rattle.stan_model_doc.specs.Symbols.{Stop, Nowhere, AtComma}
use Rattle.stan_model_doc.specs.Grammar.{closer, is_closer, stops}
use Rattle.stan_doc_texts.specs.declared.extent.Border.{Border}
use Rattle.stan_doc_texts.specs.declared.extent.Border.TheVariants as borders
use Rattle.stan_doc_texts.specs.declared.brackets.Turn.{Turn}
use Rattle.stan_doc_texts.specs.declared.brackets.Turn.TheVariants as turns

abbrev pub stop_of : Border → Stop
stop_of borders.Nowhere = Nowhere
stop_of borders.AtComma = AtComma

-- the brackets that are awaited behind one that opens, the innermost first
abbrev pub opened : List DocKind → DocKind → List DocKind
opened stack kind = elim (closer kind) [ None ↦ stack | Some close ↦ close ∷ stack ]

-- the brackets that are awaited behind a token
abbrev pub left : List DocKind → DocKind → List DocKind
left [] kind = opened [] kind
left (awaited ∷ outer) kind = if is_closer kind then outer else opened (awaited ∷ outer) kind

-- what a token does
abbrev pub turn_of : Stop → List DocKind → DocKind → Turn
turn_of stop [] kind = if is_closer kind || stops stop kind then turns.Ends else turns.Goes
turn_of stop (awaited ∷ outer) kind = if is_closer kind then (if same_kind kind awaited then turns.Goes else turns.Breaks) else turns.Goes

abbrev pub is_outside : List DocKind → Bool
is_outside [] = true
is_outside stack = false

-- the last place outside of brackets
abbrev pub marked : List DocKind → ℕ → ℕ → ℕ
marked stack k last = if is_outside stack then k else last

abbrev pub by_turn : Turn → ℕ × Bool → ℕ → ℕ × Bool
by_turn turns.Goes further last = further
by_turn turns.Ends further last = (last, true)
by_turn turns.Breaks further last = (last, false)

-- The last place at which the text may end, behind so many tokens, and whether it goes on to where it has to end.
abbrev pub walk : Stop → List DocKind → List DocToken → ℕ → ℕ → ℕ × Bool
walk stop stack [] k last = (marked stack k last, is_outside stack)
walk stop stack (t ∷ ts) k last =
    by_turn (turn_of stop stack t.kind) (walk stop (left stack t.kind) ts (suc k) (marked stack k last)) (marked stack k last)
