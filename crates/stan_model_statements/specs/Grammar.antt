-- The relation between trees and the tokens that they spell, once for all productions.
use Rattle.std.specs.Prelude.{◌≡◌, ℕ, ◌+◌, Bool, true, false, List, [], ◌∷◌, Option, Some, None}
use Rattle.stan_model_grammar.specs.declared.token.Token.{Token}
use Rattle.stan_model_grammar.specs.declared.token.TokenKind.{TokenKind}
use Rattle.stan_model_grammar.specs.declared.token.TokenKind.TheVariants as k
use Rattle.stan_model_grammar.specs.Strata.{kind_at, loosest}
use Rattle.stan_model_grammar.specs.Expressions.{Is, Stands, Reads, IsEnd}
use Rattle.stan_model_grammar.specs.Trees.{Tree}
use Rattle.stan_model_statements.specs.Kinds.{same_kind, has, identifiers, modifiers}
use Rattle.stan_model_statements.specs.Symbols.{Sort, Check, strict_types, modifier, Symbol, Mark, Word, Checked, Expression, Part, lacks, rest}
use Rattle.stan_model_statements.specs.Rules.{Rule, sort_of, symbols}
use Rattle.stan_model_statements.specs.Forests.{Forest, nil, mark, word, expr, none, some}

abbrev pub checked_kinds : Check → List TokenKind
checked_kinds strict_types = identifiers
checked_kinds modifier = modifiers

-- what is asked of a token, by the kind of the next one; `named` tells the word `strict_types`
abbrev pub Holds : (Token → Bool) → Check → Token → TokenKind → Type 0
Holds named strict_types t next = named t ≡ true
Holds named modifier t next = same_kind next k.Bar ≡ false

-- `X` reads an expression, which may be a pattern or not. `P` is asked at each part: the production that stands, or none.
module _ (ts : List Token) (named : Token → Bool) (X : Bool → Tree → ℕ → ℕ → Type 0) (P : Sort → ℕ → Option Rule → Type 0) where
  abbrev pub Runs : List Symbol → Forest → ℕ → ℕ → Type 0
  Runs [] nil from to = from ≡ to
  Runs (Mark kind ∷ xs) (mark f) from to = Is ts from kind × Runs xs f (from + 1) to
  Runs (Word ks ∷ xs) (word t f) from to = Stands ts from t × (has ks t.kind ≡ true) × Runs xs f (from + 1) to
  Runs (Checked c ∷ xs) (word t f) from to = Stands ts from t × (has (checked_kinds c) t.kind ≡ true) × Holds named c t (kind_at ts (from + 1)) × Runs xs f (from + 1) to
  Runs (Expression p ∷ xs) (expr e f) from to = (b : ℕ) × X p e from b × Runs xs f b to
  Runs (Part n s ∷ xs) (none f) from to = (lacks n ≡ true) × P s from None × Runs xs f from to
  Runs (Part n s ∷ xs) (some r ps f) from to = (b : ℕ) × (sort_of r ≡ s) × P s from (Some r) × Runs (symbols r) ps from b × Runs (rest n s xs) f b to
  Runs _ _ from to = ⊥

-- any production may stand
abbrev pub Any : Sort → ℕ → Option Rule → Type 0
Any s at r = Unit {0}

-- an expression spells these tokens, and an end token or nothing follows
abbrev pub Ends : List Token → Bool → Tree → ℕ → ℕ → Type 0
Ends ts pattern e from to = Reads ts (λ low k at. Unit {0}) pattern loosest e from to × IsEnd ts to

-- the tokens that a tree spells
abbrev pub Spells : List Token → (Token → Bool) → List Symbol → Forest → ℕ → ℕ → Type 0
Spells ts named = Runs ts named (Ends ts) Any
