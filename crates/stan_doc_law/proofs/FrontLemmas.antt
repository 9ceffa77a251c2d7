-- Trees and fronts: how many tokens they take, and that one counts before all others.
use Rattle.std.proofs.Common.{◌≡◌, ℕ, ◌+◌, List, [], ◌∷◌, sym, subst, inl, inr, arith}
use Rattle.stan_model_doc.specs.declared.token.DocToken.{DocToken}
use Rattle.stan_model_doc.specs.Symbols.{Symbol, Mark, Word, Any, Part, rest}
use Rattle.stan_model_doc.specs.Rules.{symbols}
use Rattle.stan_model_doc.specs.Trees.{Forest, nil, mark, word, any, none, some}
use Rattle.stan_model_doc.specs.Choices.{choices, More, Better}
use Rattle.stan_model_doc.specs.Fronts.{tag, IsTree}
use Rattle.stan_doc_law.specs.Laws.{TreesSpellTheirSize, OneLongestFront}

pub trees_spell_their_size : TreesSpellTheirSize
trees_spell_their_size ts [] nil from to h = omega (arith, h)
trees_spell_their_size ts (Mark kind ∷ xs) (mark f) from to h = omega (arith, trees_spell_their_size ts xs f (from + 1) to h.1)
trees_spell_their_size ts (Word kinds ∷ xs) (word t f) from to h = omega (arith, trees_spell_their_size ts xs f (from + 1) to h.2)
trees_spell_their_size ts (Any stop ∷ xs) (any n f) from to h = omega (arith, trees_spell_their_size ts xs f (from + n) to h.2)
trees_spell_their_size ts (Part need s ∷ xs) (none f) from to h = trees_spell_their_size ts xs f from to h.1
trees_spell_their_size ts (Part need s ∷ xs) (some r ps f) from to h = omega (arith, trees_spell_their_size ts (symbols r) ps from h.0 h.2, trees_spell_their_size ts (rest need s xs) f h.0 to h.3)
trees_spell_their_size ts xs f from to h = absurd h

-- Of two lists of choices one counts before the other at most.
one_before : (xs ys : List ℕ) → More xs ys → More ys xs → ⊥
one_before [] ys m n = m
one_before (x ∷ xs) [] m n = m
one_before (x ∷ xs) (y ∷ ys) (inl lt) (inl gt) = omega (arith, lt, gt)
one_before (x ∷ xs) (y ∷ ys) (inl lt) (inr n) = omega (arith, lt, n.0)
one_before (x ∷ xs) (y ∷ ys) (inr m) (inl gt) = omega (arith, m.0, gt)
one_before (x ∷ xs) (y ∷ ys) (inr m) (inr n) = one_before xs ys m.1 n.1

both_better : (xs : List Symbol) (f g : Forest) → Better xs f g → Better xs g f → f ≡ g
both_better xs f g (inl e) n = sym e
both_better xs f g (inr m) (inl e) = e
both_better xs f g (inr m) (inr n) = absurd (one_before (choices xs f) (choices xs g) m n)

pub one_tree : (ts : List DocToken) (f g : Forest) (to : ℕ) → IsTree ts f to → IsTree ts g to → f ≡ g
one_tree ts f g to h i = both_better tag f g (h.first g i.spells) (i.first f h.spells)

pub one_longest_front : OneLongestFront
one_longest_front ts f g to end h i =
    let low = h.longest g end i.front in
    let high = i.longest f to h.front in
    let same : to ≡ end = omega (arith, low, high) in
    (one_tree ts f g to h.front.tree (subst (λ place. IsTree ts g place) (sym same) i.front.tree), same)
