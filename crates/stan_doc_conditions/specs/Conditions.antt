-- How a condition is read: its `:` is the last one that can part the branches.
use Rattle.std.specs.Prelude.{ℕ, zero, suc, ◌≤◌, ◌≡◌, ◌&&◌, nat_le, if◌then◌else◌, List, [], ◌∷◌, length, take, Some, None, ◌+◌}
use Rattle.stan_model_doc.specs.declared.token.DocKind.TheVariants as k
use Rattle.stan_model_doc.specs.declared.token.DocToken.{DocToken}
use Rattle.stan_model_doc.specs.Symbols.{Written, Negation, One, May, Symbol, Mark, Part}
use Rattle.stan_model_doc.specs.Rules.{Rule, conditional, negation, variables, symbols}
use Rattle.stan_model_doc.specs.Trees.{Forest, nil, mark, word, none, some}
use Rattle.stan_model_doc.specs.Grammar.{Runs}
use Rattle.stan_doc_descent.specs.Parse.{Read, ◌>>=◌, onto, choose, standing, after, word_at, one, run, height}
use Rattle.stan_doc_descent.specs.Descent.{IsSound}
use Rattle.stan_doc_descent.specs.Alternatives.{ReadsProduction, ReadsProductions}

-- what stands behind the first branch
abbrev pub Second : List Symbol
Second = Mark k.Colon ∷ Part One Written ∷ Mark k.RightParenthesis ∷ []

abbrev pub Branches : List Symbol
Branches = Part One Written ∷ Second

abbrev pub Test : List Symbol
Test = Part One Written ∷ Mark k.Question ∷ Branches

abbrev pub Negatable : List Symbol
Negatable = Part May Negation ∷ Test

module _ (ts : List DocToken) (below : List DocToken → Rule → ℕ → Read Forest) where
  -- A type and what is read behind it, where the type ends at a place: it is read as if the text ended there.
  abbrev pub parted_at : (ℕ → Read Forest) → ℕ → ℕ → Read Forest
  parted_at behind at c = one (take c ts) (below (take c ts)) Written at >>= λ a. if nat_le a.1 c && nat_le c a.1 then behind c >>= onto (standing a.0) else None

  -- the same at the last such place before one
  abbrev pub last_parted : (ℕ → Read Forest) → ℕ → ℕ → Read Forest
  last_parted behind at zero = None
  last_parted behind at (suc c) = choose (parted_at behind at c) Some (last_parted behind at c)

  abbrev pub second : ℕ → Read Forest
  second c = run ts (below ts) Second c

  abbrev pub test : ℕ → Read Forest
  test at = one ts (below ts) Written at >>= λ a. after ts k.Question a.1 >>= λ b. last_parted second b (length ts) >>= onto (λ f. standing a.0 (mark f))

  abbrev pub negated : ℕ → Read Forest
  negated at = after ts k.Not at >>= λ b. test b >>= onto (some negation (mark nil))

  -- `not` is the negation, or a type
  abbrev pub negatable : ℕ → Read Forest
  negatable at = choose (negated at) Some (test at >>= onto none)

  abbrev pub condition : ℕ → Read Forest
  condition at = after ts k.LeftParenthesis at >>= λ b. word_at ts variables b >>= λ t. after ts k.Is (b + 1) >>= λ c. negatable c >>= onto (λ f. mark (word t (mark f)))

-- A condition is read one level deeper than what it stands on, where that is read of each text.
abbrev pub ConditionsAreRead : Type 0
ConditionsAreRead = (ts : List DocToken) (below : List DocToken → Rule → ℕ → Read Forest) (n : ℕ) → ((us : List DocToken) → IsSound us (below us) n) → ((us : List DocToken) → ReadsProductions us (below us) n)
    → (ps : Forest) (at b : ℕ) → height ps ≤ n → b ≤ length ts → Runs ts (symbols conditional) ps at b → ReadsProduction ts conditional ps b (condition ts below at)

-- What is read so is a condition.
abbrev pub ConditionsAreSound : Type 0
ConditionsAreSound = (ts : List DocToken) (below : List DocToken → Rule → ℕ → Read Forest) (n : ℕ) → ((us : List DocToken) → IsSound us (below us) n)
    → (at : ℕ) (x : Forest × ℕ) → condition ts below at ≡ Some x → Runs ts (symbols conditional) x.0 at x.1 × (height x.0 ≤ n)
