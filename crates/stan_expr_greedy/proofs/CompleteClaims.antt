-- What is claimed of each part of a greedy tree, and how it follows from the claims of its parts.
use Rattle.std.proofs.Common.{◌≡◌, ℕ, suc, ◌+◌, ◌-◌, ◌≤◌, ◌<◌, Bool, true, false, List, max, Some, None, refl, sym, subst, ◌∙◌, arith}
use Rattle.std.specs.Prelude.{IsTrue}
use Rattle.stan_model_grammar.specs.declared.operators.AssignmentOperator.{AssignmentOperator}
use Rattle.stan_model_grammar.specs.declared.token.Token.{Token}
use Rattle.stan_model_grammar.specs.declared.token.TokenKind.{TokenKind}
use Rattle.stan_model_grammar.specs.declared.token.TokenKind.TheVariants as kinds
use Rattle.stan_model_grammar.specs.Strata.{kind_at, loosest, prefix_of}
use Rattle.stan_model_grammar.specs.Trees.{Tree, node, Form, Items, Item, Default, Arguments, ClassReference, MemberName, Steps, Step}
use Rattle.stan_model_grammar.specs.Expressions.{ItemSort, StepSort, further, IsSomeItem, is_assignable, Is, Stands, Between, Forms, Lists, ItemReads, Defaults, MayBeCalled, Classes, Members, Repeats, StepReads}
use Rattle.stan_model_grammar.specs.Depth.{depth, form_depth, items_depth, item_depth, default_depth, arguments_depth, class_depth, member_depth, steps_depth, step_depth}
use Rattle.stan_expr_rules.proofs.InsideLemmas.{form_inside, stands_inside}
use Rattle.stan_expr_rules.specs.Parse.{enclosed, may_default, some_items, called, member, class_reference, atom_with, post, strata, below}
use Rattle.stan_expr_rules.proofs.Greedy.{J, Near, Greedy, one_token}
use Rattle.stan_expr_greedy.proofs.Computes.{apart}
use Rattle.stan_expr_greedy.proofs.Begins.{clash, closes}
use Rattle.stan_expr_greedy.proofs.CompleteItems.{Ends, StepEnds, Within, Gives, reader, Taken, AllTaken, enclosed_reads}
use Rattle.stan_expr_greedy.proofs.CompleteForms.{FormIs}
use Rattle.stan_expr_greedy.proofs.CompleteStrata.{pattern_fits, atom_reads, post_alone, operand_alone, from_operand}
use Rattle.stan_expr_greedy.proofs.CompleteStarts.{is_atom, is_post, atom_no_arrow, assignable_is_post, leads, atom_of_zero, atom_stops, atom_leads, post_leads, post_stops}

pub within_first : (sort : StepSort) (a b n : ℕ) → Within sort (max a b) n → Within sort a n
within_first (further sort) a b n h = omega arith
within_first sort a b n h = omega arith

pub within_second : (sort : StepSort) (a b n : ℕ) → Within sort (max a b) n → Within sort b n
within_second (further sort) a b n h = omega arith
within_second sort a b n h = omega arith

pub within_at_most : (sort : StepSort) (d n : ℕ) → Within sort d n → d ≤ n
within_at_most (further sort) d n h = omega arith
within_at_most sort d n h = h

module _ (ts : List Token) where
  -- ---- claims: with enough levels the parser reads the part

  abbrev pub AtomF : Form → Type 0
  AtomF f = (n : ℕ) (p : Bool) (k at to : ℕ) → Forms ts (Near ts) p k f at to → form_depth f ≤ n → FormIs ts (below ts n) f at to

  abbrev pub PostF : Form → Type 0
  PostF f = (n : ℕ) (p : Bool) (k : ℕ) (t : Token) (at to : ℕ) → 4 ≤ k → Stands ts at t → Forms ts (Near ts) p k f at to → form_depth f ≤ n → post ts (below ts n) t at ≡ Some (node t f, to)

  abbrev pub LevelF : Form → Type 0
  LevelF f = (n : ℕ) (p : Bool) (k : ℕ) (t : Token) (at to : ℕ) → 5 ≤ k → k ≤ loosest → Stands ts at t → Forms ts (Near ts) p k f at to → form_depth f ≤ n → strata ts (below ts n) p (k - 5) at ≡ Some (node t f, to)

  abbrev pub FormC : Form → Type 0
  FormC f = (is_atom f ≡ true → AtomF f) × (is_post f ≡ true → PostF f) × LevelF f

  -- a tree that stands alone, one that is assigned to, and one of a stratum
  abbrev pub AtomT : Tree → Type 0
  AtomT t = (n : ℕ) (u : Token) (at to : ℕ) → Stands ts at u → Greedy ts false 0 t at to → depth t ≤ n → atom_with ts (below ts n) u at ≡ Some (t, to)

  abbrev pub TargetT : Tree → Type 0
  TargetT t = (n : ℕ) (o : AssignmentOperator) (u : Token) (at to : ℕ) → Stands ts at u → IsTrue (is_assignable o t) → Greedy ts true 4 t at to → depth t ≤ n → (post ts (below ts n) u at ≡ Some (t, to)) × (prefix_of (kind_at ts at) ≡ None)

  abbrev pub LevelT : Tree → Type 0
  LevelT t = (n : ℕ) (p : Bool) (k at to : ℕ) → 5 ≤ k → k ≤ loosest → Greedy ts p k t at to → depth t ≤ n → strata ts (below ts n) p (k - 5) at ≡ Some (t, to)

  abbrev pub TreeC : Tree → Type 0
  TreeC t = AtomT t × TargetT t × LevelT t

  abbrev pub ItemsC : Items → Type 0
  ItemsC es = (n : ℕ) (sort : ItemSort) (closing : TokenKind) (at to : ℕ) → IsSomeItem es → closes closing ≡ true → Ends sort closing → Lists ts (Near ts) sort es at to → Is ts to closing → items_depth es < n
      → some_items ts (below ts n) (reader ts (below ts n) sort) closing at ≡ Some (es, to)

  abbrev pub ItemC : Item → Type 0
  ItemC x = (n : ℕ) (sort : ItemSort) (at to : ℕ) → ItemReads ts (Near ts) sort x at to → Ends sort (kind_at ts to) → item_depth x < n → reader ts (below ts n) sort at ≡ Some (x, to)

  abbrev pub DefaultC : Default → Type 0
  DefaultC value = (n at to : ℕ) → Defaults ts (Near ts) value at to → (kind_at ts to ≡ kinds.Assign → ⊥) → default_depth value < n → may_default ts (below ts n) at ≡ Some (value, to)

  abbrev pub ArgumentsC : Arguments → Type 0
  ArgumentsC es = (n : ℕ) (callable : Bool) (at to : ℕ) → MayBeCalled ts (Near ts) callable es at to → arguments_depth es ≤ n → called ts (below ts n) callable at ≡ Some (es, to)

  abbrev pub ClassC : ClassReference → Type 0
  ClassC class = (n at to : ℕ) → Classes ts (Near ts) class at to → class_depth class ≤ n → class_reference ts (below ts n) at ≡ Some (class, to)

  abbrev pub MemberC : MemberName → Type 0
  MemberC name = (n at to : ℕ) → Members ts (Near ts) name at to → member_depth name ≤ n → member ts (below ts n) at ≡ Some (name, to)

  abbrev pub StepsC : Steps → Type 0
  StepsC ss = (n : ℕ) (sort : StepSort) (at to : ℕ) → Repeats ts (Near ts) sort ss at to → StepEnds sort (kind_at ts to) → Within sort (steps_depth ss) n → AllTaken ts (below ts n) sort ss at to

  abbrev pub StepC : Step → Type 0
  StepC x = (n : ℕ) (sort : StepSort) (at to : ℕ) → StepReads ts (Near ts) sort x at to → StepEnds sort (kind_at ts to) → Within sort (step_depth x) n → Taken ts (below ts n) sort x at to

  -- ---- trees inside

  deep : (n : ℕ) (p : Bool) (k : ℕ) (t : Tree) (at to : ℕ) → 0 < n → strata ts (below ts (n - 1)) p (k - 5) at ≡ Some (t, to) → Gives ts (below ts n) p k t at to
  unfolding below
  deep n p k t at to some h = let e : n ≡ suc (n - 1) = omega arith in let P : ℕ → Type 0 = λ m. below ts m p k at ≡ Some (t, to) in subst P (sym e) h

  -- a tree a level deeper
  pub inner : (t : Tree) → TreeC t → (n : ℕ) (p : Bool) (k at to : ℕ) → 5 ≤ k → k ≤ loosest → Greedy ts p k t at to → depth t < n → Gives ts (below ts n) p k t at to
  inner t c n p k at to lo hi h d = deep n p k t at to (omega arith) (c.2 (n - 1) p k at to lo hi h (omega arith))

  pub inner_loosest : (t : Tree) → TreeC t → (n : ℕ) (p : Bool) (at to : ℕ) → Greedy ts p loosest t at to → depth t < n → Gives ts (below ts n) p loosest t at to
  inner_loosest t c n p at to h d = inner t c n p loosest at to (omega arith) (omega arith) h d

  pub enclosed_claim : (t : Tree) → TreeC t → (n : ℕ) (opening closing : TokenKind) (at to : ℕ) → (kinds.End ≡ opening → ⊥) → (kinds.End ≡ closing → ⊥) → Between ts opening (Greedy ts false loosest t) closing at to → depth t < n
      → enclosed ts (below ts n) opening closing at ≡ Some (t, to)
  enclosed_claim t c n opening closing at to some other h d =
      enclosed_reads ts (below ts n) (Greedy ts false loosest t) opening closing t at to some other h (inner_loosest t c n false (at + 1) h.0 h.2 d)

  pub tree_claims : (f : Form) → FormC f → (t : Token) → TreeC (node t f)
  tree_claims f c t = (
    λ n u at to s h d.
        let e : t ≡ u = one_token ts at t u h.0 s in
        rw (← e) (atom_reads ts (below ts n) t f at to h.0 (c.0 (atom_of_zero ts false f at to h.1) n false 0 at to h.1 d)),
    λ n o u at to s fits h d.
        let e : t ≡ u = one_token ts at t u h.0 s in
        let is = assignable_is_post o t f fits in
        (rw (← e) (c.1 is n true 4 t at to (omega arith) h.0 h.1 d), post_leads ts f true 4 at to is h.1),
    λ n p k at to lo hi h d. c.2 n p k t at to lo hi h.0 h.1 d,
  )

  -- ---- what stands alone, and what is appended

  level_of_post : (f : Form) → is_post f ≡ true → PostF f → LevelF f
  level_of_post f is c n p k t at to lo hi s h d =
      let stops = post_stops ts f p k at to is h in
      let other : J ts to ≡ 5 → ⊥ = λ q. let far = stops (omega arith) in omega arith in
      let here = c n p k t at to (omega arith) s h d in
      from_operand ts (below ts n) p k (node t f) at to lo (λ le. stops (omega arith)) (operand_alone ts (below ts n) p t (node t f) at to s (post_leads ts f p k at to is h) here other (pattern_fits ts p k (node t f) at to (s, h)))

  post_of_atom : (f : Form) → is_atom f ≡ true → is_post f ≡ true → AtomF f → PostF f
  post_of_atom f a is c n p k t at to lo s h d =
      let stops = atom_stops ts f p k at to a h in
      let lead = atom_leads ts f p k at to a h in
      let i = form_inside ts (Near ts) f p k at to (stands_inside ts at t s) h in
      post_alone ts (below ts n) t f at to s (apart leads (kind_at ts at) kinds.New lead refl) (c n p k at to h d) (atom_no_arrow t f a) (λ le. let far = stops le in omega arith) i.1

  pub atom_claims : (f : Form) → is_atom f ≡ true → is_post f ≡ true → AtomF f → FormC f
  atom_claims f a is c = (λ _. c, λ _. post_of_atom f a is c, level_of_post f is (post_of_atom f a is c))

  pub post_claims : (f : Form) → is_atom f ≡ false → is_post f ≡ true → PostF f → FormC f
  post_claims f a is c = (λ e. clash (AtomF f) (sym a ∙ e), λ _. c, level_of_post f is c)

  pub level_claims : (f : Form) → is_atom f ≡ false → is_post f ≡ false → LevelF f → FormC f
  level_claims f a is c = (λ e. clash (AtomF f) (sym a ∙ e), λ e. clash (PostF f) (sym is ∙ e), c)
