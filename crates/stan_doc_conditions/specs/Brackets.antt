-- Brackets in symbols: each production closes what it opens.
use Rattle.std.specs.Prelude.{◌≡◌, ℕ, Bool, true, false, ◌&&◌, not, if◌then◌else◌, List, [], ◌∷◌, Option, Some, None}
use Rattle.stan_model_doc.specs.declared.token.DocKind.{DocKind}
use Rattle.stan_model_doc.specs.declared.token.DocToken.{DocToken}
use Rattle.stan_model_doc.specs.Symbols.{Symbol, Mark, Word, Any, Part}
use Rattle.stan_model_doc.specs.Trees.{Forest}
use Rattle.stan_model_doc.specs.Grammar.{Runs, closer, is_closer}
use Rattle.stan_doc_descent.specs.Tables.{is_end}

abbrev pub outer_of : List DocKind → Option (List DocKind)
outer_of [] = None
outer_of (awaited ∷ outer) = Some outer

-- the brackets that are awaited behind a token
abbrev pub awaited_behind : List DocKind → DocKind → Option (List DocKind)
awaited_behind stack kind = if is_closer kind then outer_of stack else Some (elim (closer kind) [ None ↦ stack | Some close ↦ close ∷ stack ])

-- no bracket is among them
abbrev pub quiet : List DocKind → Bool
quiet [] = true
quiet (kind ∷ kinds) = (not (is_closer kind) && elim (closer kind) [ None ↦ true | Some close ↦ false ]) && quiet kinds

abbrev pub is_last : List Symbol → Bool
is_last [] = true
is_last xs = false

abbrev pub is_outermost : List DocKind → Bool
is_outermost [] = true
is_outermost stack = false

-- whether symbols close the brackets that are awaited and all that they open
abbrev pub balanced : List DocKind → List Symbol → Bool
balanced stack [] = is_outermost stack
balanced stack (Mark kind ∷ xs) = not (is_end kind) && elim (awaited_behind stack kind) [ None ↦ false | Some next ↦ balanced next xs ]
balanced stack (Word kinds ∷ xs) = quiet kinds && balanced stack xs
balanced stack (Any stop ∷ xs) = balanced stack xs
balanced stack (Part need s ∷ xs) = balanced stack xs

-- whether their last one closes a bracket that was opened before them, and no other does
abbrev pub ended : List DocKind → List Symbol → Bool
ended stack [] = false
ended stack (Mark kind ∷ xs) =
    if is_last xs then is_closer kind && is_outermost stack else not (is_end kind) && elim (awaited_behind stack kind) [ None ↦ false | Some next ↦ ended next xs ]
ended stack (Word kinds ∷ xs) = quiet kinds && ended stack xs
ended stack (Any stop ∷ xs) = ended stack xs
ended stack (Part need s ∷ xs) = ended stack xs

-- All trees of such symbols at a place have the same end.
abbrev pub BracketsEndOnce : Type 0
BracketsEndOnce = (ts : List DocToken) (xs : List Symbol) (f g : Forest) (at to end : ℕ) → ended [] xs ≡ true → Runs ts xs f at to → Runs ts xs g at end → to ≡ end
