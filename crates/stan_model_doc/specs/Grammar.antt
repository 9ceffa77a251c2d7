-- The relation between trees and the tokens that they spell, once for all productions.
use Rattle.std.specs.Prelude.{◌≡◌, ℕ, ◌+◌, ◌≤◌, Bool, true, false, ◌&&◌, not, if◌then◌else◌, IsTrue, List, [], ◌∷◌, Option, Some, None, length, slice_range}
use Rattle.stan_model_doc.specs.declared.token.DocKind.{DocKind}
use Rattle.stan_model_doc.specs.declared.token.DocKind.TheVariants as k
use Rattle.stan_model_doc.specs.declared.token.DocToken.{DocToken}
use Rattle.stan_model_doc.specs.Tokens.{same_kind, has, Is, Stands}
use Rattle.stan_model_doc.specs.Symbols.{Stop, Nowhere, AtComma, Symbol, Mark, Word, Any, Part, lacks, rest}
use Rattle.stan_model_doc.specs.Rules.{sort_of, symbols}
use Rattle.stan_model_doc.specs.Trees.{Forest, nil, mark, word, any, none, some}

-- ---- brackets that match

-- the bracket that closes one
abbrev pub closer : DocKind → Option DocKind
closer k.LeftParenthesis = Some k.RightParenthesis
closer k.LeftBracket = Some k.RightBracket
closer k.LeftBrace = Some k.RightBrace
closer _ = None

abbrev pub is_closer : DocKind → Bool
is_closer k.RightParenthesis = true
is_closer k.RightBracket = true
is_closer k.RightBrace = true
is_closer _ = false

-- whether a text of any tokens ends before a token of this kind outside of brackets
abbrev pub stops : Stop → DocKind → Bool
stops Nowhere kind = false
stops AtComma kind = same_kind kind k.Comma

-- Whether these tokens close the brackets that are awaited, the innermost first, and all that they open, each by its own. Outside of brackets none of them stops the text.
abbrev pub matches : Stop → List DocKind → List DocToken → Bool
matches stop [] [] = true
matches stop (awaited ∷ outer) [] = false
matches stop [] (t ∷ ts) =
    not (is_closer t.kind) && not (stops stop t.kind) && (elim (closer t.kind) [ None ↦ matches stop [] ts | Some close ↦ matches stop (close ∷ []) ts ])
matches stop (awaited ∷ outer) (t ∷ ts) =
    if is_closer t.kind then same_kind t.kind awaited && matches stop outer ts else
    elim (closer t.kind) [ None ↦ matches stop (awaited ∷ outer) ts | Some close ↦ matches stop (close ∷ awaited ∷ outer) ts ]

-- ---- trees

abbrev pub Runs : List DocToken → List Symbol → Forest → ℕ → ℕ → Type 0
Runs ts [] nil from to = from ≡ to
Runs ts (Mark kind ∷ xs) (mark f) from to = Is ts from kind × Runs ts xs f (from + 1) to
Runs ts (Word kinds ∷ xs) (word t f) from to = Stands ts from t × (has kinds t.kind ≡ true) × Runs ts xs f (from + 1) to
Runs ts (Any stop ∷ xs) (any n f) from to = (from + n ≤ length ts) × IsTrue (matches stop [] (slice_range ts from (from + n))) × Runs ts xs f (from + n) to
Runs ts (Part need s ∷ xs) (none f) from to = (lacks need ≡ true) × Runs ts xs f from to
Runs ts (Part need s ∷ xs) (some r ps f) from to = (middle : ℕ) × (sort_of r ≡ s) × Runs ts (symbols r) ps from middle × Runs ts (rest need s xs) f middle to
Runs ts _ _ from to = ⊥
