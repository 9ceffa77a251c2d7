-- How many tokens a tree spells and its parts take, which tree is that of the tokens, and how deep it is.
use Rattle.std.specs.Prelude.{◌≡◌, ◌⊎◌, ℕ, ◌+◌, max, Bool, List, [], ◌∷◌, ◌++◌}
use Rattle.stan_model_grammar.specs.declared.token.Token.{Token}
use Rattle.stan_model_grammar.specs.Depth.{depth as tree_depth}
use Rattle.stan_model_grammar.specs.Strata.{loosest}
use Rattle.stan_model_grammar.specs.Takes.{size as tree_size, takes as tree_takes, More}
use Rattle.stan_model_statements.specs.Symbols.{Need, May, Many, Again, Symbol, Mark, Word, Checked, Expression, Part, rest}
use Rattle.stan_model_statements.specs.Rules.{symbols, weight}
use Rattle.stan_model_statements.specs.Forests.{Forest, nil, mark, word, expr, none, some}
use Rattle.stan_model_statements.specs.Grammar.{Spells}

abbrev pub size : Forest → ℕ
size nil = 0
size (mark f) = 1 + size f
size (word t f) = 1 + size f
size (expr e f) = tree_size e + size f
size (none f) = size f
size (some r ps f) = size ps + size f

-- the tokens of a repeated part, from one of its items on
abbrev pub repeated_size : Forest → ℕ
repeated_size (some r ps f) = size ps + repeated_size f
repeated_size _ = 0

-- An optional part counts by itself, and a repeated one as a whole, where its first item begins.
abbrev pub counted : Need → Forest → Forest → List ℕ → List ℕ
counted May ps f ns = size ps ∷ ns
counted Many ps f ns = (size ps + repeated_size f) ∷ ns
counted _ ps f ns = ns

-- a part that lacks
abbrev pub uncounted : Need → List ℕ → List ℕ
uncounted Again ns = ns
uncounted _ ns = 0 ∷ ns

-- how many tokens each optional or repeated part takes, from left to right, a part before those inside it
abbrev pub takes : List Symbol → Forest → List ℕ
takes (Mark k ∷ xs) (mark f) = takes xs f
takes (Word ks ∷ xs) (word t f) = takes xs f
takes (Checked c ∷ xs) (word t f) = takes xs f
takes (Expression p ∷ xs) (expr e f) = tree_takes loosest e ++ takes xs f
takes (Part n s ∷ xs) (none f) = uncounted n (takes xs f)
takes (Part n s ∷ xs) (some r ps f) = counted n ps f (takes (symbols r) ps ++ takes (rest n s xs) f)
takes _ _ = []

-- The tree of the tokens from one place to another: it spells them, and takes more than any other one that does.
abbrev pub IsForestOf : List Token → (Token → Bool) → List Symbol → Forest → ℕ → ℕ → Type 0
IsForestOf ts named xs f at to = Spells ts named xs f at to × ((g : Forest) → Spells ts named xs g at to → (f ≡ g) ⊎ More (takes xs f) (takes xs g))

-- how deep it is, by the brackets and the statements that stand in one another
abbrev pub depth : Forest → ℕ
depth nil = 0
depth (mark f) = depth f
depth (word t f) = depth f
depth (expr e f) = max (tree_depth e) (depth f)
depth (none f) = depth f
depth (some r ps f) = max (weight r + depth ps) (depth f)
