-- What the laws say.
use Rattle.std.specs.Prelude.{◌≡◌, ℕ, Bool, List, Option, Some}
use Rattle.stan_model_grammar.specs.declared.token.Token.{Token}
use Rattle.stan_model_grammar.specs.declared.token.TokenKind.{TokenKind}
use Rattle.stan_model_grammar.specs.Trees.{Tree}
use Rattle.stan_expr_rules.specs.Parse.{Read}
use Rattle.stan_model_statements.specs.Symbols.{Sort}
use Rattle.stan_model_statements.specs.Forests.{expr}
use Rattle.stan_model_files.specs.Shapes.{Shape, forest}
use Rattle.stan_stmt_rules.specs.Parse as plain
use Rattle.stan_stmt_parts.specs.Parse.{Piece, Putting, one, read}

abbrev pub bare : Piece → plain.Piece
bare p = (p.0, forest p.2)

-- What is read by the left is read by the right, but for what the map forgets.
abbrev pub Forgets : {A B : Type 0} → (A → B) → Read A → Read B → Type 0
Forgets {A} f r q = (y : A × ℕ) → r ≡ Some y → q ≡ Some (f y.0, y.1)

-- Expressions that are read by the left have the trees that are read by the right.
abbrev pub HaveTrees : Read Putting → Read Tree → Type 0
HaveTrees r q = (y : Putting × ℕ) → r ≡ Some y → (e : Tree) × (q ≡ Some (e, y.1)) × ((f : Shape) → forest (y.0 f) ≡ expr e (forest f))

abbrev pub PartsAreThoseOfProductions : Type 0
PartsAreThoseOfProductions = (ts : List Token) (named : Token → Bool) (values : ℕ → ℕ → Bool → ℕ → Read Putting) (expression : ℕ → Bool → ℕ → Read Tree) (behind : ℕ → ℕ → TokenKind)
    → ((room levels : ℕ) (p : Bool) (at : ℕ) → HaveTrees (values room levels p at) (expression levels p at))
    → (room levels : ℕ) (s : Sort) (at : ℕ) → Forgets bare (one ts named values behind (read ts named values behind room levels) levels s at) (plain.one ts named expression behind (plain.read ts named expression behind room levels) levels s at)
