-- What stands alone, with what is appended to it: of a greedy tree and of another one it is alike, or the greedy one's takes more.
use Rattle.std.proofs.Common.{◌≡◌, ◌≢◌, ℕ, suc, ◌+◌, ◌≤◌, Bool, true, false, List, [], ◌∷◌, ◌++◌, Option, Some, None, refl, sym, ap, ap₂, subst, ◌∙◌, arith, ◌⊎◌, inl, inr, eq-or-lt_of_le}
use Rattle.stan_model_grammar.specs.declared.operators.ArrayStyle.TheVariants as styles
use Rattle.stan_model_grammar.specs.declared.operators.Leaf.{Leaf}
use Rattle.stan_model_grammar.specs.declared.operators.Leaf.TheVariants as leaves
use Rattle.stan_model_grammar.specs.declared.token.Token.{Token}
use Rattle.stan_model_grammar.specs.declared.token.TokenKind.{TokenKind}
use Rattle.stan_model_grammar.specs.declared.token.TokenKind.TheVariants as kinds
use Rattle.stan_model_grammar.specs.Strata.{kind_at, leaf_of, leaf_low, joins, names_class, is_exit, loosest}
use Rattle.stan_model_grammar.specs.Trees.{TypeTree, Tree, node, Form, Single, Brackets, Array, IsSet, Empty, Exit, New, Match, Closure, Arrow, Text, Post, Prefix, Assignment, Chain, Binary, Conditional, Items, no_item, items, Arguments, ClassReference, NamedClass, VariableClass, ScopedClass, ComputedClass, Steps, no_step, step, Step, Body, Held, Read}
use Rattle.stan_model_grammar.specs.Expressions.{ItemSort, element, expression, parameter, captured, arm, suffix, class_suffix, part, has_items, Is, Stands, May, Between, MayReturn, MayCapture, Reads, Forms, Lists, MayBeCalled, Classes, Repeats, StepReads, Bodies}
use Rattle.stan_model_grammar.specs.Takes.{may_size, return_size, size, captures_size, steps_size, none, takes, form_takes, items_take, arguments_take, class_takes, steps_take, More}
use Rattle.stan_expr_rules.proofs.InsideLemmas.{stands_kind, reads_inside, items_go, captures_go, steps_go, may_goes, return_goes, body_inside, class_inside, arguments_go}
use Rattle.stan_expr_law.proofs.SizeLemmas.{captures_are_size, steps_are_size}
use Rattle.stan_expr_rules.proofs.Greedy.{J, Greedy, one_token}
use Rattle.stan_expr_law.proofs.Spelled.{Free}
use Rattle.stan_expr_greedy.proofs.SoundTables.{stratum_bounds, leaf_low_small}
use Rattle.stan_expr_takes.proofs.TakesLists.{more_before, more_after, more_is, Best, best_map, best_pad, best_cons, best_sized, best_then, same_then}
use Rattle.stan_expr_takes.proofs.TakesStarts.{clash, may_same, return_same, body_same}
use Rattle.stan_expr_takes.proofs.TakesKinds.{N, closes, suffix_joins, class_joins}
use Rattle.stan_expr_takes.proofs.TakesEnds.{fenced_ends, suffixes_longest, parts_end}
use Rattle.stan_expr_takes.proofs.TakesItems.{All, some_same, right_most, enclosed_most, fenced_most, arguments_most, suffixes_most, parts_most}
use Rattle.stan_expr_takes.proofs.TakesViews.{Simple, simple_post, simple_atom, posted}

-- ---- the production of what stands alone, by its first two tokens

abbrev form_mark : Form → ℕ
form_mark (Single leaf) = 1
form_mark (Brackets e) = 2
form_mark (Array styles.Brackets es) = 3
form_mark (Array styles.Array es) = 4
form_mark (Array styles.List es) = 5
form_mark (IsSet es) = 6
form_mark (Empty e) = 7
form_mark (Exit es) = 8
form_mark (Match e arms) = 9
form_mark (Closure s r ps cs type body) = 10
form_mark (Text parts) = 12
form_mark _ = 0

abbrev leads_static : TokenKind → ℕ
leads_static kinds.Function = 10
leads_static kinds.Fn = 11
leads_static _ = 1

abbrev leads : TokenKind → TokenKind → ℕ
leads kinds.LeftParenthesis next = 2
leads kinds.LeftBracket next = 3
leads kinds.Array next = 4
leads kinds.List next = 5
leads kinds.IsSet next = 6
leads kinds.Empty next = 7
leads kinds.Exit next = 8
leads kinds.Die next = 8
leads kinds.Match next = 9
leads kinds.Function next = 10
leads kinds.Fn next = 11
leads kinds.TextStart next = 12
leads kinds.Static next = leads_static next
leads _ next = 1

-- `static` alone, before what it could go on with
abbrev Cut : TokenKind → TokenKind → Leaf → Type 0
Cut k next l = (k ≡ kinds.Static) × (l ≡ leaves.Static) × (10 ≤ leads k next) × ((next ≡ kinds.Function) ⊎ (next ≡ kinds.Fn))

static_leads : (next : TokenKind) (l : Leaf) → leaf_of kinds.Static ≡ Some l → (leads kinds.Static next ≡ 1) ⊎ Cut kinds.Static next l
static_leads kinds.Function l h = inr (refl, cc, omega arith, inl refl)
static_leads kinds.Fn l h = inr (refl, cc, omega arith, inr refl)
static_leads next l h = inl refl

leaf_leads : (k next : TokenKind) (l : Leaf) → leaf_of k ≡ Some l → (leads k next ≡ 1) ⊎ Cut k next l
leaf_leads kinds.LeftParenthesis next l h = absurd cc
leaf_leads kinds.LeftBracket next l h = absurd cc
leaf_leads kinds.Array next l h = absurd cc
leaf_leads kinds.List next l h = absurd cc
leaf_leads kinds.IsSet next l h = absurd cc
leaf_leads kinds.Empty next l h = absurd cc
leaf_leads kinds.Exit next l h = absurd cc
leaf_leads kinds.Die next l h = absurd cc
leaf_leads kinds.Match next l h = absurd cc
leaf_leads kinds.Function next l h = absurd cc
leaf_leads kinds.Fn next l h = absurd cc
leaf_leads kinds.TextStart next l h = absurd cc
leaf_leads kinds.Static next l h = static_leads next l h
leaf_leads k next l h = inl refl

leads_some : (k next : TokenKind) → 1 ≤ leads k next
leads_some kinds.Static kinds.Function = omega arith
leads_some kinds.Static kinds.Fn = omega arith
leads_some kinds.Static next = omega arith
leads_some kinds.LeftParenthesis next = omega arith
leads_some k next = omega arith

leads_cut : (k next : TokenKind) → k ≡ kinds.Static → leads k next ≤ 11
leads_cut kinds.Static kinds.Function e = omega arith
leads_cut kinds.Static kinds.Fn e = omega arith
leads_cut kinds.Static next e = omega arith
leads_cut k next e = absurd cc

exit_leads : (k next : TokenKind) → is_exit k ≡ true → leads k next ≡ 8
exit_leads kinds.Exit next h = refl
exit_leads kinds.Die next h = refl
exit_leads k next h = absurd cc

-- no production that stands alone begins as an arrow function does
no_mark : (f : Form) → form_mark f ≡ 11 → ⊥
no_mark (Array styles.Brackets es) e = omega arith
no_mark (Array styles.Array es) e = omega arith
no_mark (Array styles.List es) e = omega arith
no_mark f e = omega arith

module _ (ts : List Token) where
  abbrev Leads : ℕ → ℕ
  Leads at = leads (kind_at ts at) (kind_at ts (at + 1))

  leads_at : (at : ℕ) (k : TokenKind) (n : ℕ) → Is ts at k → ((next : TokenKind) → leads k next ≡ n) → n ≡ Leads at
  leads_at at k n h e = sym (ap (λ z. leads z (kind_at ts (at + 1))) h ∙ e (kind_at ts (at + 1)))

  leads_second : (s : Bool) (at a : ℕ) (k : TokenKind) (n : ℕ) → May ts s kinds.Static at a → Is ts a k → leads kinds.Static k ≡ n → ((next : TokenKind) → leads k next ≡ n) → n ≡ Leads at
  leads_second true at a k n h i e f =
      let P : ℕ → Type 0 = λ z. Is ts z k in
      sym (ap (λ z. leads z (kind_at ts (at + 1))) h.0 ∙ ap (λ z. leads kinds.Static z) (subst P h.1 i) ∙ e)
  leads_second false at a k n h i e f = let P : ℕ → Type 0 = λ z. Is ts z k in leads_at at k n (subst P (sym h) i) f

  module _ (S : ℕ → ℕ → ℕ → Type 0) where
    -- all but `static` alone, which may stand before a closure
    form_leads : (f : Form) (at to : ℕ) → Forms ts S true 0 f at to → (form_mark f ≡ Leads at) ⊎ ((l : Leaf) × (f ≡ Single l) × Cut (kind_at ts at) (kind_at ts (at + 1)) l × (to ≡ at + 1) × S (leaf_low l) 0 to)
    form_leads (Single leaf) at to h = elim (leaf_leads (kind_at ts at) (kind_at ts (at + 1)) leaf h.0) [ inl e ↦ inl (sym e) | inr c ↦ inr (leaf, refl, c, h.1, h.2) ]
    form_leads (Brackets e) at to h = inl (leads_at at kinds.LeftParenthesis 2 h.0.1 (λ z. refl))
    form_leads (Array styles.Brackets es) at to h = inl (leads_at at kinds.LeftBracket 3 h.1.1 (λ z. refl))
    form_leads (Array styles.Array es) at to h = inl (leads_at at kinds.Array 4 h.1 (λ z. refl))
    form_leads (Array styles.List es) at to h = inl (leads_at at kinds.List 5 h.1 (λ z. refl))
    form_leads (IsSet es) at to h = inl (leads_at at kinds.IsSet 6 h.1 (λ z. refl))
    form_leads (Empty e) at to h = inl (leads_at at kinds.Empty 7 h.0 (λ z. refl))
    form_leads (Exit es) at to h = inl (sym (exit_leads (kind_at ts at) (kind_at ts (at + 1)) h.0))
    form_leads (Match e arms) at to h = inl (leads_at at kinds.Match 9 h.1 (λ z. refl))
    form_leads (Closure s r ps cs type body) at to h = inl (leads_second s at h.0 kinds.Function 10 h.5 h.6 refl (λ z. refl))
    form_leads (Arrow s r ps type e) at to h = absurd (omega (arith, h.12))
    form_leads (Text parts) at to h = inl (leads_at at kinds.TextStart 12 h.0.1 (λ z. refl))
    form_leads (New class es) at to h = absurd (omega (arith, h.1))
    form_leads (Post e ss) at to h = absurd (omega (arith, h.1))
    form_leads (Prefix o e) at to h = absurd (omega (arith, h.0))
    form_leads (Assignment target o e) at to h = absurd (omega (arith, h.2))
    form_leads (Chain j e ss) at to h = absurd (omega (arith, h.1, h.2))
    form_leads (Binary d sign o e) at to h = (let low = (stratum_bounds o).0 in absurd (omega (arith, low, h.2)))
    form_leads (Conditional c d e) at to h = absurd (omega (arith, h.2))

    static_takes : (f : Form) (at to : ℕ) → Forms ts S true 0 f at to → Is ts at kinds.Static → 10 ≤ form_mark f → form_mark f ≤ 11 → (xs : List ℕ) × (form_takes 0 f ≡ 1 ∷ xs)
    static_takes (Closure true r ps cs type body) at to h e lo hi = (may_size r ∷ (items_take ps ++ (captures_size cs ∷ (items_take cs ++ (return_size type ∷ none 0 0)))), refl)
    static_takes (Closure false r ps cs type body) at to h e lo hi = let P : ℕ → Type 0 = λ z. Is ts z kinds.Static in absurd (cc (subst P h.5 e, h.6))
    static_takes (Array styles.Brackets es) at to h e lo hi = absurd (omega (arith, lo))
    static_takes (Array styles.Array es) at to h e lo hi = absurd (omega (arith, lo))
    static_takes (Array styles.List es) at to h e lo hi = absurd (omega (arith, lo))
    static_takes f at to h e lo hi = absurd (omega (arith, lo, hi))

    -- no `new` stands alone
    leaf_new : (f : Form) (at to : ℕ) → Forms ts S true 0 f at to → Is ts at kinds.New → form_mark f ≡ 1 → ⊥
    leaf_new (Single leaf) at to h e q = let r : leaf_of kinds.New ≡ Some leaf = sym (ap leaf_of e) ∙ h.0 in cc (r)
    leaf_new (Array styles.Brackets es) at to h e q = omega (arith, q)
    leaf_new (Array styles.Array es) at to h e q = omega (arith, q)
    leaf_new (Array styles.List es) at to h e q = omega (arith, q)
    leaf_new f at to h e q = omega (arith, q)

    atom_new : (e : Tree) (at to : ℕ) → Reads ts S true 0 e at to → Is ts at kinds.New → ⊥
    atom_new (node t f) at to h e = elim (form_leads f at to h.1) [
      | inl q ↦ leaf_new f at to h.1 e (q ∙ ap (λ z. leads z (kind_at ts (at + 1))) e)
      | inr c ↦ cc (c.2.0, e)
    ]

    -- an arrow function, which begins with `static` or with `fn`
    arrow_leads : (s r : Bool) (ps : Items) (type : Option TypeTree) (e : Tree) (at to : ℕ) → Forms ts S true 4 (Arrow s r ps type e) at to → Leads at ≡ 11
    arrow_leads s r ps type e at to h = sym (leads_second s at h.0 kinds.Fn 11 h.4 h.5 refl (λ z. refl))

    static_arrow : (s r : Bool) (ps : Items) (type : Option TypeTree) (e : Tree) (at to : ℕ) → Forms ts S true 4 (Arrow s r ps type e) at to → Is ts at kinds.Static
        → (xs : List ℕ) × (form_takes 4 (Arrow s r ps type e) ≡ 1 ∷ xs)
    static_arrow true r ps type e at to h k = (may_size r ∷ (items_take ps ++ (return_size type ∷ size e ∷ (takes loosest e ++ none 4 4))), refl)
    static_arrow false r ps type e at to h k = let P : ℕ → Type 0 = λ z. Is ts z kinds.Static in absurd (cc (subst P h.4 k, h.5))

    -- where an arrow function stands, `static` alone stands alone
    arrow_alone : (e : Tree) (at to : ℕ) → Reads ts S true 0 e at to → Leads at ≡ 11
        → (l : Leaf) × (takes 0 e ≡ []) × Cut (kind_at ts at) (kind_at ts (at + 1)) l × (to ≡ at + 1) × S (leaf_low l) 0 to
    arrow_alone (node t f) at to h e = elim (form_leads f at to h.1) [
      | inl q ↦ absurd (no_mark f (q ∙ e))
      | inr c ↦ (c.0, ap (form_takes 0) c.1, c.2, c.3, c.4)
    ]

    new_leads : (c : ClassReference) (es : Arguments) (at to : ℕ) → Forms ts S true 4 (New c es) at to → Leads at ≡ 11 → ⊥
    new_leads c es at to h e = let q = leads_at at kinds.New 1 h.2 (λ z. refl) in omega arith

    abbrev IsNew : Form → ℕ → ℕ → Type 0
    IsNew f at to = (c : ClassReference) × (es : Arguments) × (f ≡ New c es) × Forms ts S true 4 (New c es) at to

    abbrev IsArrow : Form → ℕ → ℕ → Type 0
    IsArrow f at to = (s r : Bool) × (ps : Items) × (type : Option TypeTree) × (e : Tree) × (f ≡ Arrow s r ps type e) × Forms ts S true 4 (Arrow s r ps type e) at to

    module _ (weak : (low j k i : ℕ) → j ≤ k → S low k i → S low j i) (drop : (low k i : ℕ) → low ≤ 1 → S low k i → S 1 k i) where
      -- an operand without operator: a `new`, an arrow function, or what stands alone with what is appended to it
      abbrev Operand : Token → Form → ℕ → ℕ → Type 0
      Operand t f at to = IsNew f at to ⊎ (IsArrow f at to ⊎ Simple ts S weak (node t f) at to)

      simple_of : (t : Token) (f : Form) (at to : ℕ) → Reads ts S true 4 (node t f) at to → Operand t f at to
      simple_of t (New c es) at to h = inl (c, es, refl, h.1)
      simple_of t (Post e ss) at to h = inr (inr (simple_post ts S weak t e ss at to h))
      simple_of t (Single leaf) at to h = inr (inr (simple_atom ts S weak t (Single leaf) at to (omega arith) (drop (leaf_low leaf) 4 to (leaf_low_small leaf) h.1.2) h))
      simple_of t (Brackets e) at to h = inr (inr (simple_atom ts S weak t (Brackets e) at to (omega arith) h.1.1 h))
      simple_of t (Array styles.Brackets es) at to h = inr (inr (simple_atom ts S weak t (Array styles.Brackets es) at to (omega arith) h.1.2 h))
      simple_of t (Array styles.Array es) at to h = inr (inr (simple_atom ts S weak t (Array styles.Array es) at to (omega arith) h.1.3 h))
      simple_of t (Array styles.List es) at to h = inr (inr (simple_atom ts S weak t (Array styles.List es) at to (omega arith) h.1.3 h))
      simple_of t (IsSet es) at to h = inr (inr (simple_atom ts S weak t (IsSet es) at to (omega arith) h.1.3 h))
      simple_of t (Empty e) at to h = inr (inr (simple_atom ts S weak t (Empty e) at to (omega arith) h.1.2 h))
      simple_of t (Exit es) at to h = inr (inr (simple_atom ts S weak t (Exit es) at to (omega arith) h.1.2 h))
      simple_of t (Match e arms) at to h = inr (inr (simple_atom ts S weak t (Match e arms) at to (omega arith) h.1.4 h))
      simple_of t (Closure s r ps cs type body) at to h = inr (inr (simple_atom ts S weak t (Closure s r ps cs type body) at to (omega arith) h.1.12 h))
      simple_of t (Arrow s r ps type e) at to h = inr (inl (s, r, ps, type, e, refl, h.1))
      simple_of t (Text parts) at to h = inr (inr (simple_atom ts S weak t (Text parts) at to (omega arith) h.1.1 h))
      simple_of t (Prefix o e) at to h = absurd (omega (arith, h.1.0))
      simple_of t (Assignment target o e) at to h = absurd (omega (arith, h.1.2))
      simple_of t (Chain j e ss) at to h = absurd (omega (arith, h.1.1, h.1.2))
      simple_of t (Binary d sign o e) at to h = let low = (stratum_bounds o).0 in absurd (omega (arith, low, h.1.2))
      simple_of t (Conditional c d e) at to h = absurd (omega (arith, h.1.2))

  -- ---- stops

  pub near_weak : (low j k i : ℕ) → j ≤ k → N ts low k i → N ts low j i
  near_weak low j k i le near h = let far = near h in omega (arith, le, far)

  near_drop : (low k i : ℕ) → low ≤ 1 → N ts low k i → N ts 1 k i
  near_drop low k i le near h = near (omega (arith, le, h))

  pub free_weak : (low j k i : ℕ) → j ≤ k → Free low k i → Free low j i
  free_weak low j k i le h = tt

  free_drop : (low k i : ℕ) → low ≤ 1 → Free low k i → Free 1 k i
  free_drop low k i le h = tt

  suffix_stop : (to : ℕ) → N ts 1 4 to → (y : Step) (b : ℕ) → StepReads ts Free suffix y to b → ⊥
  suffix_stop to near y b h = let j = suffix_joins ts Free y to b h in let far = near j.0 in omega (arith, j.1, far)

  class_stop : (to : ℕ) → N ts 2 3 to → (y : Step) (b : ℕ) → StepReads ts Free class_suffix y to b → ⊥
  class_stop to near y b h = let j = class_joins ts Free y to b h in let far = near j.0 in omega (arith, j.1, far)

  joins_none : (at : ℕ) → (kind_at ts at ≡ kinds.Function) ⊎ (kind_at ts at ≡ kinds.Fn) → J ts at ≡ 0
  joins_none at (inl e) = ap (λ z. joins z (kind_at ts (at + 1))) e
  joins_none at (inr e) = ap (λ z. joins z (kind_at ts (at + 1))) e

  return_unused : (type : Option TypeTree) (at to : ℕ) (k : TokenKind) → MayReturn ts type at to → Is ts to k → k ≢ kinds.Use → kind_at ts at ≢ kinds.Use
  return_unused None at to k h i apart e = let P : ℕ → Type 0 = λ z. Is ts z k in apart (sym (subst P (sym h) i) ∙ e)
  return_unused (Some type) at to k h i apart e = cc (h.0, e)

  static_alone : (xs l : List ℕ) (rs : Steps) (pad : List ℕ) (at to : ℕ) → J ts at ≡ 0 → Repeats ts Free suffix rs at to → More ((1 ∷ xs) ++ l) (steps_size rs ∷ (steps_take rs ++ pad))
  static_alone xs l no_step pad at to j h = inl (omega arith)
  static_alone xs l (step y ys) pad at to j h = let k = suffix_joins ts Free y at h.0 h.1 in absurd (omega (arith, j, k.0))

  more_static : (us bs xs l : List ℕ) (rs : Steps) (pad : List ℕ) (at to : ℕ) → us ≡ 1 ∷ xs → bs ≡ [] → J ts at ≡ 0 → Repeats ts Free suffix rs at to → More (us ++ l) (bs ++ (steps_size rs ∷ (steps_take rs ++ pad)))
  more_static us bs xs l rs pad at to e f j h =
      let r = steps_size rs ∷ (steps_take rs ++ pad) in
      let P : List ℕ → Type 0 = λ z. More (z ++ l) (bs ++ r) in
      let Q : List ℕ → Type 0 = λ z. More ((1 ∷ xs) ++ l) (z ++ r) in
      subst P (sym e) (subst Q (sym f) (static_alone xs l rs pad at to j h))

  tree_of_form : (k : ℕ) (t u : Token) (f g : Form) (to end : ℕ) → t ≡ u → Best f g to end (form_takes k f) (form_takes k g) → Best (node t f) (node u g) to end (takes k (node t f)) (takes k (node u g))
  tree_of_form k t u f g to end e (inl same) = inl (ap₂ node e same.0, same.1)
  tree_of_form k t u f g to end e (inr more) = inr more

  scoped_most : (t v u w : Token) (ss rs : Steps) (to end : ℕ) → t ≡ v → u ≡ w → Best ss rs to end (steps_size ss ∷ steps_take ss) (steps_size rs ∷ steps_take rs)
      → Best (ScopedClass t u ss) (ScopedClass v w rs) to end ((steps_size ss + 2) ∷ steps_size ss ∷ steps_take ss) ((steps_size rs + 2) ∷ steps_size rs ∷ steps_take rs)
  scoped_most t v u w ss rs to end p q (inl same) = inl (cc (p, q, same.0), same.1)
  scoped_most t v u w ss rs to end p q (inr (inl lt)) = inr (inl (omega arith))
  scoped_most t v u w ss rs to end p q (inr (inr more)) = inr (inr (omega (arith, more.0), inr more))

  form_tree : (t u : Token) (f g x y : Form) (to end : ℕ) → f ≡ x → g ≡ y → t ≡ u → Best x y to end (form_takes 4 x) (form_takes 4 y) → Best (node t f) (node u g) to end (takes 4 (node t f)) (takes 4 (node u g))
  form_tree t u f g x y to end p q e h =
      let P : Form → Type 0 = λ z. Best (node t z) (node u g) to end (takes 4 (node t z)) (takes 4 (node u g)) in
      let Q : Form → Type 0 = λ z. Best (node t x) (node u z) to end (takes 4 (node t x)) (takes 4 (node u z)) in
      subst P (sym p) (subst Q (sym q) (tree_of_form 4 t u x y to end e h))

  brace_of : (S : ℕ → ℕ → ℕ → Type 0) (b : Body) (at to : ℕ) → Bodies ts S b at to → Is ts at kinds.LeftBrace
  brace_of S (Held first last) at to h = h.0
  brace_of S (Read statements) at to h = absurd h

  module _ (n : ℕ) (ih : All ts n) where
    -- ---- functions

    captures_most : (es ds : Items) (at to end : ℕ) → MayCapture ts (has_items es) (Lists ts (N ts) captured es) at to → MayCapture ts (has_items ds) (Lists ts Free captured ds) at end → kind_at ts to ≢ kinds.Use → kind_at ts end ≢ kinds.Use → to ≤ suc n + at
        → (to ≡ end) × Best es ds to end (captures_size es ∷ items_take es) (captures_size ds ∷ items_take ds)
    captures_most no_item no_item at to end h i f g le = (sym h ∙ i, inl (refl, sym h ∙ i))
    captures_most no_item (items y ys d) at to end h i f g le = let P : ℕ → Type 0 = λ z. Is ts z kinds.Use in absurd (f (subst P h i.0))
    captures_most (items x xs c) no_item at to end h i f g le = let P : ℕ → Type 0 = λ z. Is ts z kinds.Use in absurd (g (subst P i h.0))
    captures_most (items x xs c) (items y ys d) at to end h i f g le =
        let e = fenced_ends ts captured kinds.LeftParenthesis kinds.RightParenthesis refl (items x xs c) (items y ys d) (at + 1) to end h.1 i.1 in
        let p = captures_are_size ts (N ts) (items x xs c) at to h in
        let q = captures_are_size ts Free (items y ys d) at end i in (
          e,
          best_cons (items x xs c) (items y ys d) to end (captures_size (items x xs c)) (captures_size (items y ys d)) (items_take (items x xs c)) (items_take (items y ys d)) (omega (arith, e, p, q))
              (fenced_most ts n ih captured kinds.LeftParenthesis kinds.RightParenthesis refl (items x xs c) (items y ys d) (at + 1) to end h.1 i.1 (omega (arith, le))),
        )

    closure_most : (s r : Bool) (ps cs : Items) (type : Option TypeTree) (body : Body) (u v : Bool) (qs ds : Items) (kind : Option TypeTree) (other : Body) (at to end : ℕ)
        → Forms ts (N ts) true 0 (Closure s r ps cs type body) at to → Forms ts Free true 0 (Closure u v qs ds kind other) at end → to ≤ suc n + at
        → Best (Closure s r ps cs type body) (Closure u v qs ds kind other) to end (form_takes 0 (Closure s r ps cs type body)) (form_takes 0 (Closure u v qs ds kind other))
    closure_most s r ps cs type body u v qs ds kind other at to end h i le =
        let a = may_same ts s u kinds.Static at h.0 i.0 h.5 i.5 (λ k. cc (k, h.6)) (λ k. cc (k, i.6)) in
        let P : ℕ → Type 0 = λ z. May ts v kinds.Ampersand (z + 1) i.1 in
        let b = may_same ts r v kinds.Ampersand (h.0 + 1) h.1 i.1 h.7 (subst P (sym a.1) i.7) (λ k. cc (k, h.8.1)) (λ k. cc (k, i.8.1)) in
        let Q : ℕ → Type 0 = λ z. Between ts kinds.LeftParenthesis (Lists ts Free parameter qs) kinds.RightParenthesis z i.2 in
        let mine = subst Q (sym b.1) i.8 in
        let c = fenced_ends ts parameter kinds.LeftParenthesis kinds.RightParenthesis refl ps qs h.1 h.2 i.2 h.8 mine in
        let R : ℕ → Type 0 = λ z. MayCapture ts (has_items ds) (Lists ts Free captured ds) z i.3 in
        let ga = (may_goes ts s kinds.Static (λ e. cc) at h.0 h.5).0 in
        let gb = (may_goes ts r kinds.Ampersand (λ e. cc) (h.0 + 1) h.1 h.7).0 in
        let gc = (items_go ts (N ts) ps parameter (h.1 + 1) h.8.0 h.8.2).0 in
        let gd = (captures_go ts (N ts) cs h.2 h.3 h.9).0 in
        let ge = (return_goes ts type h.3 h.4 h.10).0 in
        let gf = (body_inside ts (N ts) body h.4 to h.11).0 in
        let d = captures_most cs ds h.2 h.3 i.3 h.9 (subst R (sym c) i.9) (return_unused type h.3 h.4 kinds.LeftBrace h.10 (brace_of (N ts) body h.4 to h.11) (λ e. cc)) (return_unused kind i.3 i.4 kinds.LeftBrace i.10 (brace_of Free other i.4 end i.11) (λ e. cc)) (omega (arith, ga, gb, gc, h.8.4, ge, gf, le)) in
        let T : ℕ → Type 0 = λ z. MayReturn ts kind z i.4 in
        let x = brace_of (N ts) body h.4 to h.11 in
        let y = brace_of Free other i.4 end i.11 in
        let e = return_same ts type kind h.3 h.4 i.4 h.10 (subst T (sym d.0) i.10) (λ k. cc (k, x)) (λ k. cc (k, y)) (λ k. cc (k, x)) (λ k. cc (k, y)) in
        let U : ℕ → Type 0 = λ z. Bodies ts Free other z end in
        let f = body_same ts (N ts) Free body other h.4 to end h.11 (subst U (sym e.1) i.11) in
        let us = captures_size cs ∷ (items_take cs ++ (return_size type ∷ none 0 0)) in
        let vs = captures_size ds ∷ (items_take ds ++ (return_size kind ∷ none 0 0)) in
        elim (fenced_most ts n ih parameter kinds.LeftParenthesis kinds.RightParenthesis refl ps qs h.1 h.2 i.2 h.8 mine (omega (arith, ga, gb, gd, ge, gf, le))) [
          | inl same ↦ elim d.1 [
            | inl alike ↦ inl (cc (a.0, b.0, same.0, alike.0, e.0, f.0), f.1)
            | inr more ↦ inr (inr (
              ap may_size a.0,
              inr (
                ap may_size b.0,
                more_after (items_take ps) (items_take qs) us vs (ap items_take same.0)
                    (more_before (captures_size cs ∷ items_take cs) (captures_size ds ∷ items_take ds) (return_size type ∷ none 0 0) (return_size kind ∷ none 0 0) more),
              ),
            ))
          ]
          | inr more ↦ inr (inr (ap may_size a.0, inr (ap may_size b.0, more_before (items_take ps) (items_take qs) us vs more)))
        ]

    arrow_most : (s r : Bool) (ps : Items) (type : Option TypeTree) (x : Tree) (u v : Bool) (qs : Items) (kind : Option TypeTree) (y : Tree) (at to end : ℕ)
        → Forms ts (N ts) true 4 (Arrow s r ps type x) at to → Forms ts Free true 4 (Arrow u v qs kind y) at end → to ≤ suc n + at
        → Best (Arrow s r ps type x) (Arrow u v qs kind y) to end (form_takes 4 (Arrow s r ps type x)) (form_takes 4 (Arrow u v qs kind y))
    arrow_most s r ps type x u v qs kind y at to end h i le =
        let a = may_same ts s u kinds.Static at h.0 i.0 h.4 i.4 (λ k. cc (k, h.5)) (λ k. cc (k, i.5)) in
        let P : ℕ → Type 0 = λ z. May ts v kinds.Ampersand (z + 1) i.1 in
        let b = may_same ts r v kinds.Ampersand (h.0 + 1) h.1 i.1 h.6 (subst P (sym a.1) i.6) (λ k. cc (k, h.7.1)) (λ k. cc (k, i.7.1)) in
        let Q : ℕ → Type 0 = λ z. Between ts kinds.LeftParenthesis (Lists ts Free parameter qs) kinds.RightParenthesis z i.2 in
        let mine = subst Q (sym b.1) i.7 in
        let c = fenced_ends ts parameter kinds.LeftParenthesis kinds.RightParenthesis refl ps qs h.1 h.2 i.2 h.7 mine in
        let ga = (may_goes ts s kinds.Static (λ e. cc) at h.0 h.4).0 in
        let gb = (may_goes ts r kinds.Ampersand (λ e. cc) (h.0 + 1) h.1 h.6).0 in
        let gc = (items_go ts (N ts) ps parameter (h.1 + 1) h.7.0 h.7.2).0 in
        let ge = (return_goes ts type h.2 h.3 h.8).0 in
        let gf = (reads_inside ts (N ts) x false loosest (h.3 + 1) to h.10).0 in
        let T : ℕ → Type 0 = λ z. MayReturn ts kind z i.3 in
        let e = return_same ts type kind h.2 h.3 i.3 h.8 (subst T (sym c) i.8) (λ k. cc (k, h.9)) (λ k. cc (k, i.9)) (λ k. cc (k, h.9)) (λ k. cc (k, i.9)) in
        let U : ℕ → Type 0 = λ z. Reads ts Free false loosest y (z + 1) end in
        let us = return_size type ∷ size x ∷ (takes loosest x ++ none 4 4) in
        let vs = return_size kind ∷ size y ∷ (takes loosest y ++ none 4 4) in
        elim (fenced_most ts n ih parameter kinds.LeftParenthesis kinds.RightParenthesis refl ps qs h.1 h.2 i.2 h.7 mine (omega (arith, ga, gb, ge, gf, le))) [
          | inl same ↦ elim (right_most ts n ih false loosest x y (size x) (size y) (h.3 + 1) to end (omega arith) (omega arith) (omega arith) h.10 (subst U (sym e.1) i.10) (omega (arith, ga, gb, gc, h.7.4, ge, le))) [
            | inl alike ↦ inl (cc (a.0, b.0, same.0, e.0, alike.0), alike.1)
            | inr more ↦ inr (inr (ap may_size a.0, inr (ap may_size b.0, more_after (items_take ps) (items_take qs) us vs (ap items_take same.0) (inr (ap return_size e.0, more_before (size x ∷ takes loosest x) (size y ∷ takes loosest y) (none 4 4) (none 4 4) more)))))
          ]
          | inr more ↦ inr (inr (ap may_size a.0, inr (ap may_size b.0, more_before (items_take ps) (items_take qs) us vs more)))
        ]

    -- ---- what stands alone

    fenced_by : (make : Items → Form) (sort : ItemSort) (opening closing : TokenKind) → closes sort closing ≡ true → (es ds : Items) (at to end : ℕ)
        → Between ts opening (Lists ts (N ts) sort es) closing at to → Between ts opening (Lists ts Free sort ds) closing at end → to ≤ suc n + at → Best (make es) (make ds) to end (items_take es ++ none 0 0) (items_take ds ++ none 0 0)
    fenced_by make sort opening closing shut es ds at to end h i le =
        best_pad (make es) (make ds) to end (items_take es) (items_take ds) (none 0 0) (best_map make es ds to end to end (items_take es) (items_take ds) (λ q. q) (fenced_most ts n ih sort opening closing shut es ds at to end h i le))

    enclosed_by : (make : Tree → Form) (opening closing : TokenKind) (e d : Tree) (at to end : ℕ)
        → Between ts opening (Greedy ts false loosest e) closing at to → Between ts opening (Reads ts Free false loosest d) closing at end → to ≤ suc n + at → Best (make e) (make d) to end (takes loosest e ++ none 0 0) (takes loosest d ++ none 0 0)
    enclosed_by make opening closing e d at to end h i le =
        best_pad (make e) (make d) to end (takes loosest e) (takes loosest d) (none 0 0) (best_map make e d to end to end (takes loosest e) (takes loosest d) (λ q. q) (enclosed_most ts n ih opening closing e d at to end h i le))

    text_most : (ps qs : Steps) (at to end : ℕ) → Between ts kinds.TextStart (Repeats ts (N ts) part ps) kinds.TextEnd at to → Between ts kinds.TextStart (Repeats ts Free part qs) kinds.TextEnd at end → to ≤ suc n + at
        → Best (Text ps) (Text qs) to end (steps_size ps ∷ (steps_take ps ++ none 0 0)) (steps_size qs ∷ (steps_take qs ++ none 0 0))
    text_most ps qs at to end h i le =
        let e = parts_end ts ps qs (at + 1) h.0 i.0 h.2 i.2 h.3 i.3 in
        let p = steps_are_size ts (N ts) ps part (at + 1) h.0 h.2 in
        let q = steps_are_size ts Free qs part (at + 1) i.0 i.2 in
        best_cons (Text ps) (Text qs) to end (steps_size ps) (steps_size qs) (steps_take ps ++ none 0 0) (steps_take qs ++ none 0 0) (omega (arith, e, p, q))
        (best_pad (Text ps) (Text qs) to end (steps_take ps) (steps_take qs) (none 0 0)
        (elim (parts_most ts n ih ps qs (at + 1) h.0 i.0 h.2 i.2 e (omega (arith, h.4, le))) [ inl same ↦ inl (ap Text same, omega (arith, e, h.4, i.4)) | inr more ↦ inr more ]))

    match_most : (e d : Tree) (es ds : Items) (at to end : ℕ) → Forms ts (N ts) true 0 (Match e es) at to → Forms ts Free true 0 (Match d ds) at end → to ≤ suc n + at → Best (Match e es) (Match d ds) to end (form_takes 0 (Match e es)) (form_takes 0 (Match d ds))
    match_most e d es ds at to end h i le =
        let P : ℕ → Type 0 = λ z. Between ts kinds.LeftBrace (Lists ts Free arm ds) kinds.RightBrace z end in
        let x = (reads_inside ts (N ts) e false loosest (at + 1 + 1) h.2.0 h.2.2).0 in
        let y = (items_go ts (N ts) es arm (h.0 + 1) h.3.0 h.3.2).0 in
        best_pad (Match e es) (Match d ds) to end (takes loosest e ++ items_take es) (takes loosest d ++ items_take ds) (none 0 0)
        (best_then (takes loosest) Match e d es ds h.0 i.0 to end (items_take es) (items_take ds)
        (enclosed_most ts n ih kinds.LeftParenthesis kinds.RightParenthesis e d (at + 1) h.0 i.0 h.2 i.2 (omega (arith, y, h.3.4, le)))
        (λ p q. fenced_most ts n ih arm kinds.LeftBrace kinds.RightBrace refl es ds h.0 to end h.3 (subst P (sym q) i.3) (omega (arith, x, h.2.4, le))))

    atom_by : (f g : Form) (at to end : ℕ) → Forms ts (N ts) true 0 f at to → Forms ts Free true 0 g at end → to ≤ suc n + at → 1 ≤ form_mark f → form_mark f ≡ form_mark g → Best f g to end (form_takes 0 f) (form_takes 0 g)
    atom_by (Single l) (Single m) at to end h i le some e = inl (ap Single (some_same (leaf_of (kind_at ts at)) l m h.0 i.0), h.1 ∙ sym i.1)
    atom_by (Brackets x) (Brackets y) at to end h i le some e = enclosed_by Brackets kinds.LeftParenthesis kinds.RightParenthesis x y at to end h.0 i.0 le
    atom_by (Array styles.Brackets es) (Array styles.Brackets ds) at to end h i le some e = fenced_by (Array styles.Brackets) element kinds.LeftBracket kinds.RightBracket refl es ds at to end h.1 i.1 le
    atom_by (Array styles.Array es) (Array styles.Array ds) at to end h i le some e = fenced_by (Array styles.Array) element kinds.LeftParenthesis kinds.RightParenthesis refl es ds (at + 1) to end h.2 i.2 (omega (arith, le))
    atom_by (Array styles.List es) (Array styles.List ds) at to end h i le some e = fenced_by (Array styles.List) element kinds.LeftParenthesis kinds.RightParenthesis refl es ds (at + 1) to end h.2 i.2 (omega (arith, le))
    atom_by (IsSet es) (IsSet ds) at to end h i le some e = fenced_by IsSet expression kinds.LeftParenthesis kinds.RightParenthesis refl es ds (at + 1) to end h.2 i.2 (omega (arith, le))
    atom_by (Empty x) (Empty y) at to end h i le some e = enclosed_by Empty kinds.LeftParenthesis kinds.RightParenthesis x y (at + 1) to end h.1 i.1 (omega (arith, le))
    atom_by (Exit es) (Exit ds) at to end h i le some e =
        best_pad (Exit es) (Exit ds) to end (arguments_take es) (arguments_take ds) (none 0 0) (best_map Exit es ds to end to end (arguments_take es) (arguments_take ds) (λ q. q) (arguments_most ts n ih true es ds (at + 1) to end h.1 i.1 (omega (arith, le))))
    atom_by (Match x es) (Match y ds) at to end h i le some e = match_most x y es ds at to end h i le
    atom_by (Closure s r ps cs type body) (Closure u v qs ds kind other) at to end h i le some e = closure_most s r ps cs type body u v qs ds kind other at to end h i le
    atom_by (Text ps) (Text qs) at to end h i le some e = text_most ps qs at to end h.0 i.0 le
    atom_by f (Array styles.Brackets ds) at to end h i le some e = absurd (omega (arith, some, e))
    atom_by f (Array styles.Array ds) at to end h i le some e = absurd (omega (arith, some, e))
    atom_by f (Array styles.List ds) at to end h i le some e = absurd (omega (arith, some, e))
    atom_by (Array styles.Brackets es) g at to end h i le some e = absurd (omega (arith, some, e))
    atom_by (Array styles.Array es) g at to end h i le some e = absurd (omega (arith, some, e))
    atom_by (Array styles.List es) g at to end h i le some e = absurd (omega (arith, some, e))
    atom_by f g at to end h i le some e = absurd (omega (arith, some, e))

    -- two trees that stand alone, or `static` alone before what it could go on with
    atom_most : (e d : Tree) (at to end : ℕ) → Reads ts (N ts) true 0 e at to → Reads ts Free true 0 d at end → to ≤ suc n + at
        → Best e d to end (takes 0 e) (takes 0 d) ⊎ ((xs : List ℕ) × (takes 0 e ≡ 1 ∷ xs) × (takes 0 d ≡ []) × (J ts end ≡ 0))
    atom_most (node t f) (node u g) at to end h i le = elim (form_leads (N ts) f at to h.1) [
      | inl p ↦ elim (form_leads Free g at end i.1) [
        | inl q ↦ inl (tree_of_form 0 t u f g to end (one_token ts at t u h.0 i.0) (atom_by f g at to end h.1 i.1 le (let some = leads_some (kind_at ts at) (kind_at ts (at + 1)) in omega (arith, p, some)) (p ∙ sym q)))
        | inr c ↦
            let some = leads_cut (kind_at ts at) (kind_at ts (at + 1)) c.2.0 in
            let r = static_takes (N ts) f at to h.1 c.2.0 (omega (arith, p, c.2.2)) (omega (arith, p, some)) in
            let P : ℕ → Type 0 = λ z. J ts z ≡ 0 in
            inr (r.0, r.1, ap (form_takes 0) c.1, subst P (sym c.3) (joins_none (at + 1) c.2.3))
      ]
      | inr c ↦
          let P : ℕ → Type 0 = λ z. J ts z ≡ 0 in
          let j = subst P (sym c.3) (joins_none (at + 1) c.2.3) in
          let far = c.4 (let low = ap leaf_low c.2.1 in omega (arith, low)) in
          absurd (omega (arith, j, far))
    ]

    -- ---- what is appended to it

    simple_most : (g t : Tree) (at to end : ℕ) → Simple ts (N ts) near_weak g at to → Simple ts Free free_weak t at end → to ≤ suc n + at → Best g t to end (takes 4 g) (takes 4 t)
    simple_most g t at to end v w le =
        let x = (reads_inside ts (N ts) v.0 true 0 at v.2 v.4).0 in
        let y = (steps_go ts (N ts) v.1 suffix v.2 to v.5).0 in
        let a = steps_are_size ts (N ts) v.1 suffix v.2 to v.5 in
        let b = steps_are_size ts Free w.1 suffix w.2 end w.5 in
        let l = steps_size v.1 ∷ (steps_take v.1 ++ v.3) in
        let r = steps_size w.1 ∷ (steps_take w.1 ++ w.3) in
        let L = takes 0 v.0 ++ l in
        let R = takes 0 w.0 ++ r in
        elim (atom_most v.0 w.0 at v.2 w.2 v.4 w.4 (omega (arith, y, le))) [
          | inl (inl same) ↦
              let P : ℕ → Type 0 = λ z. Repeats ts Free suffix w.1 z end in
              let moved = subst P (sym same.1) w.5 in
              let long = suffixes_longest ts suffix v.1 w.1 v.2 to end tt v.5 moved (suffix_stop to v.6) in
              elim (eq-or-lt_of_le long) [
                | inl q ↦ elim (suffixes_most ts n ih suffix tt v.1 w.1 v.2 to end v.5 moved (sym q) (omega (arith, x, le))) [
                  | inl rest ↦ inl (v.7 ∙ ap₂ posted same.0 rest ∙ sym w.7, sym q)
                  | inr m ↦ inr (more_is (takes 4 g) (takes 4 t) L R v.8 w.8 (more_after (takes 0 v.0) (takes 0 w.0) l r (ap (takes 0) same.0) (inr (omega (arith, same.1, a, b, q), more_before (steps_take v.1) (steps_take w.1) v.3 w.3 m))))
                ]
                | inr lt ↦ inr (more_is (takes 4 g) (takes 4 t) L R v.8 w.8 (more_after (takes 0 v.0) (takes 0 w.0) l r (ap (takes 0) same.0) (inl (omega (arith, same.1, a, b, lt)))))
              ]
          | inl (inr m) ↦ inr (more_is (takes 4 g) (takes 4 t) L R v.8 w.8 (more_before (takes 0 v.0) (takes 0 w.0) l r m))
          | inr c ↦ inr (more_is (takes 4 g) (takes 4 t) L R v.8 w.8 (more_static (takes 0 v.0) (takes 0 w.0) c.0 l w.1 w.3 w.2 end c.1 c.2 c.3 w.5))
        ]

    -- ---- `new`

    class_steps : (ss rs : Steps) (at to end : ℕ) → Repeats ts (N ts) class_suffix ss at to → Repeats ts Free class_suffix rs at end → N ts 2 3 to → to ≤ suc n + at → Best ss rs to end (steps_size ss ∷ steps_take ss) (steps_size rs ∷ steps_take rs)
    class_steps ss rs at to end h i near le =
        let long = suffixes_longest ts class_suffix ss rs at to end tt h i (class_stop to near) in
        let a = steps_are_size ts (N ts) ss class_suffix at to h in
        let b = steps_are_size ts Free rs class_suffix at end i in
        best_sized ss rs to end (steps_size ss) (steps_size rs) (steps_take ss) (steps_take rs) (omega (arith, a, b, long))
        (λ e.
        let q : to ≡ end = omega (arith, a, b, e) in
        elim (suffixes_most ts n ih class_suffix tt ss rs at to end h i q le) [ inl same ↦ inl (same, q) | inr more ↦ inr more ])

    -- a class is no variable and no bracket
    unclassed : (t : Token) (at : ℕ) (k : TokenKind) → Stands ts at t → names_class t.kind ≡ true → Is ts at k → names_class k ≡ false → ⊥
    unclassed t at k h i e f = clash names_class t.kind k (sym (stands_kind ts at t h) ∙ e) i f

    class_most : (x y : ClassReference) (at to end : ℕ) → Classes ts (N ts) x at to → Classes ts Free y at end → to ≤ suc n + at → Best x y to end (class_takes x) (class_takes y)
    class_most (NamedClass t) (NamedClass u) at to end h i le = inl (ap NamedClass (one_token ts at t u h.0 i.0), h.2 ∙ sym i.2)
    class_most (NamedClass t) (VariableClass u rs) at to end h i le = absurd (unclassed t at kinds.Variable h.0 h.1 i.1 refl)
    class_most (NamedClass t) (ScopedClass u v rs) at to end h i le =
        let P : ℕ → Type 0 = λ z. J ts z ≡ 2 in
        let place : at + 1 + 1 ≡ at + 2 = omega arith in
        let Q : ℕ → Type 0 = λ z. Is ts z kinds.Variable in
        let next = subst Q (sym place) i.4 in
        let j : J ts (at + 1) ≡ 2 = ap (λ z. joins z (kind_at ts (at + 1 + 1))) i.2 ∙ ap (λ z. joins kinds.DoubleColon z) next in
        let k = subst P (sym h.2) j in
        let far = h.3 (omega (arith, k)) in
        absurd (omega (arith, far, k))
    class_most (NamedClass t) (ComputedClass d) at to end h i le = absurd (unclassed t at kinds.LeftParenthesis h.0 h.1 i.1 refl)
    class_most (VariableClass t ss) (NamedClass u) at to end h i le = absurd (unclassed u at kinds.Variable i.0 i.1 h.1 refl)
    class_most (VariableClass t ss) (VariableClass u rs) at to end h i le =
        same_then (λ (z : Token). []) VariableClass t u ss rs to end (steps_size ss ∷ steps_take ss) (steps_size rs ∷ steps_take rs) (one_token ts at t u h.0 i.0) (class_steps ss rs (at + 1) to end h.2 i.2 h.3 (omega (arith, le)))
    class_most (VariableClass t ss) (ScopedClass u v rs) at to end h i le = absurd (unclassed u at kinds.Variable i.0 i.1 h.1 refl)
    class_most (VariableClass t ss) (ComputedClass d) at to end h i le = absurd (cc (h.1, i.1))
    class_most (ScopedClass t u ss) (NamedClass v) at to end h i le = inr (inl (omega arith))
    class_most (ScopedClass t u ss) (VariableClass v rs) at to end h i le = absurd (unclassed t at kinds.Variable h.0 h.1 i.1 refl)
    class_most (ScopedClass t u ss) (ScopedClass v w rs) at to end h i le = scoped_most t v u w ss rs to end (one_token ts at t v h.0 i.0) (one_token ts (at + 2) u w h.3 i.3) (class_steps ss rs (at + 3) to end h.5 i.5 h.6 (omega (arith, le)))
    class_most (ScopedClass t u ss) (ComputedClass d) at to end h i le = absurd (unclassed t at kinds.LeftParenthesis h.0 h.1 i.1 refl)
    class_most (ComputedClass e) (NamedClass u) at to end h i le = absurd (unclassed u at kinds.LeftParenthesis i.0 i.1 h.1 refl)
    class_most (ComputedClass e) (VariableClass u rs) at to end h i le = absurd (cc (h.1, i.1))
    class_most (ComputedClass e) (ScopedClass u v rs) at to end h i le = absurd (unclassed u at kinds.LeftParenthesis i.0 i.1 h.1 refl)
    class_most (ComputedClass e) (ComputedClass d) at to end h i le = best_map ComputedClass e d to end to end (takes loosest e) (takes loosest d) (λ q. q) (enclosed_most ts n ih kinds.LeftParenthesis kinds.RightParenthesis e d at to end h i le)

    new_most : (x y : ClassReference) (es ds : Arguments) (at to end : ℕ) → Forms ts (N ts) true 4 (New x es) at to → Forms ts Free true 4 (New y ds) at end → to ≤ suc n + at → Best (New x es) (New y ds) to end (form_takes 4 (New x es)) (form_takes 4 (New y ds))
    new_most x y es ds at to end h i le =
        let P : ℕ → Type 0 = λ z. MayBeCalled ts Free true ds z end in
        let a = (class_inside ts (N ts) x (at + 1) h.0 h.3).0 in
        let b = (arguments_go ts (N ts) es true h.0 to h.4).0 in
        best_pad (New x es) (New y ds) to end (class_takes x ++ arguments_take es) (class_takes y ++ arguments_take ds) (none 4 4)
        (best_then class_takes New x y es ds h.0 i.0 to end (arguments_take es) (arguments_take ds)
        (class_most x y (at + 1) h.0 i.0 h.3 i.3 (omega (arith, b, le)))
        (λ p q. arguments_most ts n ih true es ds h.0 to end h.4 (subst P (sym q) i.4) (omega (arith, a, le))))

    -- `static` alone, where the other tree is an arrow function
    static_more : (g t : Tree) (s r : Bool) (ps : Items) (type : Option TypeTree) (x : Tree) (at to end : ℕ) → takes 4 g ≡ form_takes 4 (Arrow s r ps type x) → Forms ts (N ts) true 4 (Arrow s r ps type x) at to → Simple ts Free free_weak t at end → More (takes 4 g) (takes 4 t)
    static_more g t s r ps type x at to end e h w =
        let c = arrow_alone Free w.0 at w.2 w.4 (arrow_leads (N ts) s r ps type x at to h) in
        let first = static_arrow (N ts) s r ps type x at to h c.2.0 in
        let P : ℕ → Type 0 = λ z. J ts z ≡ 0 in
        let j = subst P (sym c.3) (joins_none (at + 1) c.2.3) in
        more_is (takes 4 g) (takes 4 t) ((1 ∷ []) ++ first.0) (takes 0 w.0 ++ (steps_size w.1 ∷ (steps_take w.1 ++ w.3))) (e ∙ first.1) w.8 (more_static (1 ∷ []) (takes 0 w.0) [] first.0 w.1 w.3 w.2 end refl c.1 j w.5)

    -- a greedy tree is not `static` alone there
    static_never : (e : Tree) (at to : ℕ) → Greedy ts true 0 e at to → Leads at ≡ 11 → ⊥
    static_never e at to h q =
        let c = arrow_alone (N ts) e at to h q in
        let P : ℕ → Type 0 = λ z. J ts z ≡ 0 in
        let j = subst P (sym c.3) (joins_none (at + 1) c.2.3) in
        let far = c.4 (let low = ap leaf_low c.2.1 in omega (arith, low)) in
        omega (arith, j, far)

    operand_by : (t u : Token) (f g : Form) (at to end : ℕ) → t ≡ u → to ≤ suc n + at → Operand (N ts) near_weak near_drop t f at to → Operand Free free_weak free_drop u g at end
        → Best (node t f) (node u g) to end (takes 4 (node t f)) (takes 4 (node u g))
    operand_by t u f g at to end s le (inl v) (inl w) = form_tree t u f g (New v.0 v.1) (New w.0 w.1) to end v.2 w.2 s (new_most v.0 w.0 v.1 w.1 at to end v.3 w.3 le)
    operand_by t u f g at to end s le (inl v) (inr (inl w)) = absurd (new_leads (N ts) v.0 v.1 at to v.3 (arrow_leads Free w.0 w.1 w.2 w.3 w.4 at end w.6))
    operand_by t u f g at to end s le (inl v) (inr (inr w)) = absurd (atom_new Free w.0 at w.2 w.4 v.3.2)
    operand_by t u f g at to end s le (inr (inl v)) (inl w) = absurd (new_leads Free w.0 w.1 at end w.3 (arrow_leads (N ts) v.0 v.1 v.2 v.3 v.4 at to v.6))
    operand_by t u f g at to end s le (inr (inl v)) (inr (inl w)) =
        form_tree t u f g (Arrow v.0 v.1 v.2 v.3 v.4) (Arrow w.0 w.1 w.2 w.3 w.4) to end v.5 w.5 s (arrow_most v.0 v.1 v.2 v.3 v.4 w.0 w.1 w.2 w.3 w.4 at to end v.6 w.6 le)
    operand_by t u f g at to end s le (inr (inl v)) (inr (inr w)) = inr (static_more (node t f) (node u g) v.0 v.1 v.2 v.3 v.4 at to end (ap (form_takes 4) v.5) v.6 w)
    operand_by t u f g at to end s le (inr (inr v)) (inl w) = absurd (atom_new (N ts) v.0 at v.2 v.4 w.3.2)
    operand_by t u f g at to end s le (inr (inr v)) (inr (inl w)) = absurd (static_never v.0 at v.2 v.4 (arrow_leads Free w.0 w.1 w.2 w.3 w.4 at end w.6))
    operand_by t u f g at to end s le (inr (inr v)) (inr (inr w)) = simple_most (node t f) (node u g) at to end v w le

    -- an operand without operator takes the most
    pub operand_most : (g t : Tree) (at to end : ℕ) → Reads ts (N ts) true 4 g at to → Reads ts Free true 4 t at end → to ≤ suc n + at → Best g t to end (takes 4 g) (takes 4 t)
    operand_most (node t f) (node u g) at to end h i le =
        operand_by t u f g at to end (one_token ts at t u h.0 i.0) le (simple_of (N ts) near_weak near_drop t f at to h) (simple_of Free free_weak free_drop u g at end i)
