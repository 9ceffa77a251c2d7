-- What the descent reads, where what it reads of parts is right.
use Rattle.std.specs.Prelude.{◌≡◌, ◌⊎◌, ℕ, ◌≤◌, ◌<◌, true, false, List, ◌∷◌, length, Option, Some}
use Rattle.stan_model_doc.specs.declared.token.DocKind.{DocKind}
use Rattle.stan_model_doc.specs.declared.token.DocToken.{DocToken}
use Rattle.stan_model_doc.specs.Tokens.{kind_at, has}
use Rattle.stan_model_doc.specs.Symbols.{Sort, Symbol}
use Rattle.stan_model_doc.specs.Rules.{Rule, default_value, symbols, sort_of}
use Rattle.stan_model_doc.specs.Trees.{Forest}
use Rattle.stan_model_doc.specs.Grammar.{Runs}
use Rattle.stan_model_doc.specs.Choices.{Better, left, choices, More, size}
use Rattle.stan_doc_descent.specs.Parse.{Read, Piece, one, run, height}
use Rattle.stan_doc_descent.specs.Tables.{rule_goes, is_tag, ends, fine, is_special}

-- What is read of a production is a tree of it that nests less than so deep.
abbrev pub IsSound : List DocToken → (Rule → ℕ → Read Forest) → ℕ → Type 0
IsSound ts below n = (r : Rule) (at : ℕ) (x : Forest × ℕ) → below r at ≡ Some x → Runs ts (symbols r) x.0 at x.1 × (height x.0 < n)

-- The end is this place, or it is beyond it, and the token at this place is one of these kinds.
abbrev pub Reaches : List DocToken → List DocKind → ℕ → ℕ → Type 0
Reaches ts kinds to end = (end ≡ to) ⊎ ((to < end) × (has kinds (kind_at ts to) ≡ true))

-- What is read of symbols counts before each other tree of them, or is that tree. It is as long, or longer, and the token behind that tree is one with which they go on.
abbrev pub Reads : List DocToken → List Symbol → Forest → ℕ → Read Forest → Type 0
Reads ts xs f to o = (x : Forest × ℕ) × (o ≡ Some x) × Better xs x.0 f × Reaches ts (ends xs) to x.1

-- a part that is the same, or counts before
abbrev pub BetterPiece : Piece → Rule → Forest → Type 0
BetterPiece p r ps = (p ≡ (r, ps)) ⊎ More (left p.0 ∷ choices (symbols p.0) p.1) (left r ∷ choices (symbols r) ps)

-- A longer text of any tokens is no better tree: it has no choices. It is only longer.
abbrev pub Outgrown : Rule → Forest → Forest → Type 0
Outgrown r ps x = (r ≡ default_value) × (size ps < size x)

-- the same of a part
abbrev pub ReadsPiece : List DocToken → Rule → Forest → ℕ → Option (Piece × ℕ) → Type 0
ReadsPiece ts r ps b o = (x : Piece × ℕ) × (o ≡ Some x) × (BetterPiece x.0 r ps ⊎ Outgrown r ps x.0.1) × Reaches ts (rule_goes r) b x.1

-- Each part but a tag that nests less than so deep is read, or a longer one.
abbrev pub ReadsParts : List DocToken → (Rule → ℕ → Read Forest) → ℕ → Type 0
ReadsParts ts below n = (s : Sort) (r : Rule) (ps : Forest) (at b : ℕ) → is_tag s ≡ false → sort_of r ≡ s → height ps < n → b ≤ length ts → Runs ts (symbols r) ps at b → ReadsPiece ts r ps b (one ts below s at)

-- What the descent reads is a tree of the symbols.
abbrev pub DescentIsSound : Type 0
DescentIsSound = (ts : List DocToken) (below : Rule → ℕ → Read Forest) (n : ℕ) → IsSound ts below n
    → (xs : List Symbol) (at : ℕ) (x : Forest × ℕ) → run ts below xs at ≡ Some x → Runs ts xs x.0 at x.1 × (height x.0 ≤ n)

-- Of symbols that pass the test the descent reads each tree, or a longer one.
abbrev pub DescentReadsTheLongest : Type 0
DescentReadsTheLongest = (ts : List DocToken) (below : Rule → ℕ → Read Forest) (n : ℕ) → IsSound ts below n → ReadsParts ts below n
    → (xs : List Symbol) (f : Forest) (at to : ℕ) → fine xs ≡ true → height f ≤ n → to ≤ length ts → Runs ts xs f at to → Reads ts xs f to (run ts below xs at)

-- The productions that pass the test.
abbrev pub PlainProductionsAreFine : Type 0
PlainProductionsAreFine = (r : Rule) → is_special r ≡ false → fine (symbols r) ≡ true
