-- Values without effect, one layer at a time.
use Rattle.std.proofs.Common.{◌≡◌, ◌∙◌, ℕ, Bool, List, [], None, map, sym, ap}
use Rattle.std.specs.Prelude.{ℤ}
use Rattle.stan_model_neon.specs.declared.node.Node.{Node, roll-Node, fold-roll-Node}
use Rattle.stan_model_neon.specs.declared.node.Node.TheVariants as nodes
use Rattle.stan_model_neon.specs.declared.node.Node.TheOpen.{Node-F}
use Rattle.stan_model_neon.specs.declared.node.Node.TheFolds.{map-Node}
use Rattle.stan_model_config.specs.Faults.{Fault, free_fault, free_step, items_fault, pairs_fault}

layer : (l : Node-F Node) → free_fault (roll-Node l) ≡ free_step (map-Node Node Fault free_fault l)
unfolding free_fault
layer l = fold-roll-Node Fault free_step l

pub free-List : (items : List Node) → free_fault (nodes.List items) ≡ items_fault 0 (map free_fault items)
free-List items = ap free_fault (sym (nodes.rolls-List items)) ∙ layer (Node-F.List items)

pub free-Map : (pairs : List (List ℕ × Node)) → free_fault (nodes.Map pairs) ≡ pairs_fault [] (map (λ pair. (pair.0, free_fault pair.1)) pairs)
free-Map pairs = ap free_fault (sym (nodes.rolls-Map pairs)) ∙ layer (Node-F.Map pairs)

pub free-Null : free_fault nodes.Null ≡ None
free-Null = ap free_fault (sym nodes.rolls-Null) ∙ layer Node-F.Null

pub free-Bool : (b : Bool) → free_fault (nodes.Bool b) ≡ None
free-Bool b = ap free_fault (sym (nodes.rolls-Bool b)) ∙ layer (Node-F.Bool b)

pub free-Int : (n : ℤ) → free_fault (nodes.Int n) ≡ None
free-Int n = ap free_fault (sym (nodes.rolls-Int n)) ∙ layer (Node-F.Int n)

pub free-Text : (text : List ℕ) → free_fault (nodes.Text text) ≡ None
free-Text text = ap free_fault (sym (nodes.rolls-Text text)) ∙ layer (Node-F.Text text)
