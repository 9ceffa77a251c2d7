-- Where a pattern spells the tokens up to an end, a greedy one does too.
use Rattle.std.proofs.Common.{ℕ, ◌+◌, ◌≤◌, Bool, true, false, List, refl, ap, arith}
use Rattle.stan_model_grammar.specs.declared.operators.ArrayStyle.TheVariants as styles
use Rattle.stan_model_grammar.specs.declared.token.Token.{Token}
use Rattle.stan_model_grammar.specs.declared.token.TokenKind.TheVariants as kinds
use Rattle.stan_model_grammar.specs.Strata.{kind_at, loosest, is_end}
use Rattle.stan_model_grammar.specs.Trees.{Tree, node, Array, Items, no_item, items, Item, Spread, Element, KeyedElement, Steps, no_step, step, Step, Further}
use Rattle.stan_model_grammar.specs.Expressions.{element, further, May, Reads, Lists, ItemReads, Repeats, StepReads, IsEnd}
use Rattle.stan_expr_law.proofs.TreeLemmas.{ends_join_none}
use Rattle.stan_expr_rules.proofs.Greedy.{Greedy}
use Rattle.stan_expr_law.proofs.Spelled.{Free}
use Rattle.stan_expr_law.proofs.Law.{some_is_greedy}
use Rattle.stan_expr_takes.proofs.TakesStarts.{raised}
use Rattle.stan_expr_takes.proofs.TakesKinds.{N, Closes, Follows, closes, follows_end, further_of, follow_after}

module _ (ts : List Token) where
  -- nothing goes on at an end
  end_stops : (low k to : ℕ) → k ≤ loosest → IsEnd ts to → N ts low k to
  end_stops low k to hi e le = let j = ends_join_none (kind_at ts to) (kind_at ts (to + 1)) e in omega (arith, j, hi)

  loose : (e : Tree) (at to : ℕ) → Reads ts Free false loosest e at to → IsEnd ts to → (g : Tree) × Greedy ts false loosest g at to
  loose e at to h f = some_is_greedy ts loosest e at to (omega arith) (omega arith) h f

  mutual
    tree_greedy : (t : Tree) (k at to : ℕ) → 5 ≤ k → k ≤ loosest → Reads ts Free true k t at to → IsEnd ts to → (g : Tree) × Greedy ts true k g at to
    tree_greedy (node t (Array styles.Brackets es)) k at to lo hi h e =
        let b = h.1.1 in
        let r = items_greedy es (at + 1) b.0 b.2 (ap (closes element) b.3) in
        (node t (Array styles.Brackets r.0), (h.0, (λ q. refl, (b.0, b.1, r.1, b.3, b.4), end_stops 1 k to hi e)))
    tree_greedy (node t (Array styles.Array es)) k at to lo hi h e =
        let b = h.1.2 in
        let r = items_greedy es (at + 1 + 1) b.0 b.2 (ap (closes element) b.3) in
        (node t (Array styles.Array r.0), (h.0, (λ q. refl, h.1.1, (b.0, b.1, r.1, b.3, b.4), end_stops 1 k to hi e)))
    tree_greedy (node t (Array styles.List es)) k at to lo hi h e =
        let b = h.1.2 in
        let r = items_greedy es (at + 1 + 1) b.0 b.2 (ap (closes element) b.3) in
        (node t (Array styles.List r.0), (h.0, (refl, h.1.1, (b.0, b.1, r.1, b.3, b.4), end_stops 1 k to hi e)))
    tree_greedy (node t f) k at to lo hi h e = let r = some_is_greedy ts k (node t f) at to lo hi h e in (r.0, raised ts (N ts) true k r.0 at to r.1)

    items_greedy : (es : Items) (at to : ℕ) → Lists ts Free element es at to → Closes ts element to → (ds : Items) × Lists ts (N ts) element ds at to
    items_greedy no_item at to h f = (no_item, h)
    items_greedy (items x xs c) at to h f =
        let first = item_greedy x at h.0 h.2 (follow_after ts Free element xs c h.0 h.1 to h.3 h.4 f) in
        let rest = further_greedy xs c h.0 h.1 to h.3 h.4 f in
        (items first.0 rest.0 c, (h.0, h.1, first.1, rest.1, h.4))

    further_greedy : (xs : Steps) (c : Bool) (at b to : ℕ) → Repeats ts Free (further element) xs at b → May ts c kinds.Comma b to → Closes ts element to → (ys : Steps) × Repeats ts (N ts) (further element) ys at b
    further_greedy no_step c at b to h i f = (no_step, h)
    further_greedy (step x xs) c at b to h i f =
        let first = step_greedy x at h.0 h.1 (follow_after ts Free element xs c h.0 b to h.2 i f) in
        let rest = further_greedy xs c h.0 b to h.2 i f in
        (step first.0 rest.0, (h.0, first.1, rest.1))

    step_greedy : (x : Step) (at to : ℕ) → StepReads ts Free (further element) x at to → Follows ts element to → (y : Step) × StepReads ts (N ts) (further element) y at to
    step_greedy (Further x) at to h f = let r = item_greedy x (at + 1) to h.1 f in (Further r.0, (h.0, r.1))
    step_greedy x at to h f = let v = further_of ts Free element x at to h in absurd (cc (v.1))

    item_greedy : (x : Item) (at to : ℕ) → ItemReads ts Free element x at to → Follows ts element to → (y : Item) × ItemReads ts (N ts) element y at to
    item_greedy (Spread e) at to h f = let r = loose e (at + 1) to h.1 (follows_end element (kind_at ts to) f) in (Spread r.0, (h.0, r.1))
    item_greedy (Element r e) at to h f = let g = tree_greedy e loosest h.0 to (omega arith) (omega arith) h.2 (follows_end element (kind_at ts to) f) in (Element r g.0, (h.0, h.1, g.1))
    item_greedy (KeyedElement key r e) at to h f =
        let k = loose key at h.0 h.2 (ap is_end h.3) in
        let g = tree_greedy e loosest h.1 to (omega arith) (omega arith) h.5 (follows_end element (kind_at ts to) f) in
        (KeyedElement k.0 r g.0, (h.0, h.1, k.1, h.3, h.4, g.1))
    item_greedy _ at to h f = absurd h

-- the law of greedy trees, for patterns too
pub some_greedy : (ts : List Token) (p : Bool) (k : ℕ) (t : Tree) (at to : ℕ) → 5 ≤ k → k ≤ loosest → Reads ts Free p k t at to → IsEnd ts to → (g : Tree) × Greedy ts p k g at to
some_greedy ts true k t at to lo hi h e = tree_greedy ts t k at to lo hi h e
some_greedy ts false k t at to lo hi h e = some_is_greedy ts k t at to lo hi h e
