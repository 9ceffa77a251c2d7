-- The picked tree takes the most: it is the tree of the tokens.
use Rattle.std.proofs.Common.{◌≡◌, ℕ, false, List, arith, ◌⊎◌, inl, inr}
use Rattle.stan_model_grammar.specs.declared.token.Token.{Token}
use Rattle.stan_model_grammar.specs.Strata.{loosest}
use Rattle.stan_model_grammar.specs.Trees.{Tree}
use Rattle.stan_model_grammar.specs.Expressions.{Spells}
use Rattle.stan_model_grammar.specs.Takes.{TakesMore, IsTreeOf}
use Rattle.stan_expr_rules.proofs.Greedy.{Picks}
use Rattle.stan_expr_law.proofs.Law.{some_is_picked}
use Rattle.stan_expr_law.proofs.Spelled.{picked_spell}
use Rattle.stan_expr_greedy.proofs.Complete.{one_is_picked}
use Rattle.stan_expr_takes.specs.Laws.{TokensHaveATree, ExpressionsEndAtOnePlace}
use Rattle.stan_expr_takes.proofs.TakesStrata.{all_most}

-- the picked tree takes more than any other tree that spells tokens from its place on, to whatever end
pub picked_takes_most : (ts : List Token) (g t : Tree) (at to end : ℕ) → Picks ts g at to → Spells ts t at end → ((g ≡ t) × (to ≡ end)) ⊎ TakesMore g t
picked_takes_most ts g t at to end h i = all_most ts to false loosest (omega arith) (omega arith) g t at to end h i (omega arith)

-- so it is the tree of the tokens
pub picked_is_tree : (ts : List Token) (g : Tree) (at to : ℕ) → Picks ts g at to → IsTreeOf ts g at to
picked_is_tree ts g at to h = (picked_spell ts false loosest g at to h, λ u i. elim (picked_takes_most ts g u at to to h i) [ inl same ↦ inl same.0 | inr more ↦ inr more ])

-- the tree of tokens that some tree spells
pub has_tree : TokensHaveATree
has_tree ts t at to h e = let p = some_is_picked ts t at to h e in (p.0, picked_is_tree ts p.0 at to p.1)

pub one_end : ExpressionsEndAtOnePlace
one_end ts t u at to end h e i f =
    let p = some_is_picked ts t at to h e in
    let q = some_is_picked ts u at end i f in
    (one_is_picked ts p.0 q.0 false loosest at to end (omega arith) (omega arith) p.1 q.1).1
