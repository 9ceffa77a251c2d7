-- Which of two trees of the same tokens counts: an earlier alternative before a later one, and optional and repeated parts that take more, from left to right.
use Rattle.std.specs.Prelude.{◌≡◌, ◌⊎◌, ℕ, ◌+◌, ◌<◌, Bool, true, false, List, [], ◌∷◌, ◌++◌}
use Rattle.stan_model_doc.specs.Symbols.{Need, One, May, Many, Symbol, Mark, Word, Any, Part, rest}
use Rattle.stan_model_doc.specs.Rules.{Rule, symbols, conditional, nullable, group, this, literal, shape, range, callable_type, member, keyed}
use Rattle.stan_model_doc.specs.Trees.{Forest, nil, mark, word, any, none, some}

-- how many tokens a tree takes
abbrev pub size : Forest → ℕ
size nil = 0
size (mark f) = 1 + size f
size (word t f) = 1 + size f
size (any n f) = n + size f
size (none f) = size f
size (some r ps f) = size ps + size f

-- how many tokens the items of a repeated part take together
abbrev pub items_size : Forest → ℕ
items_size (some r ps f) = size ps + items_size f
items_size f = 0

-- how many alternatives stand behind this one. Tags begin with different words.
abbrev pub left : Rule → ℕ
left conditional = 1
left nullable = 1
left group = 7
left this = 6
left literal = 5
left shape = 4
left range = 3
left callable_type = 2
left member = 1
left keyed = 1
left r = 0

abbrev pub is_many : Need → Bool
is_many Many = true
is_many _ = false

-- What an optional part or the items of a repeated one take is counted where they begin. Of a repeated part the items behind the first one are counted with it.
abbrev pub counted : Need → Bool → ℕ → ℕ → List ℕ → List ℕ
counted One inside one all ns = ns
counted May inside one all ns = one ∷ ns
counted Many true one all ns = ns
counted Many false one all ns = all ∷ ns

-- The choices of a tree, from left to right: at each part which alternative was taken, and at each optional or repeated part how many tokens it takes, a part before those inside it.
-- The truth value says whether an item of the first symbol stands before.
abbrev pub choices_of : Bool → List Symbol → Forest → List ℕ
choices_of inside (Mark kind ∷ xs) (mark f) = choices_of false xs f
choices_of inside (Word kinds ∷ xs) (word t f) = choices_of false xs f
choices_of inside (Any stop ∷ xs) (any n f) = choices_of false xs f
choices_of inside (Part need s ∷ xs) (none f) = counted need inside 0 0 (choices_of false xs f)
choices_of inside (Part need s ∷ xs) (some r ps f) =
    counted need inside (size ps) (size ps + items_size f) (left r ∷ (choices_of false (symbols r) ps ++ choices_of (is_many need) (rest need s xs) f))
choices_of inside xs f = []

abbrev pub choices : List Symbol → Forest → List ℕ
choices = choices_of false

-- where the lists first differ, the number of the first one is larger
abbrev pub More : List ℕ → List ℕ → Type 0
More [] ys = ⊥
More (x ∷ xs) [] = ⊥
More (x ∷ xs) (y ∷ ys) = (y < x) ⊎ ((x ≡ y) × More xs ys)

-- the same tree, or one that counts before
abbrev pub Better : List Symbol → Forest → Forest → Type 0
Better xs f g = (g ≡ f) ⊎ More (choices xs f) (choices xs g)
