-- The claim of each form follows from the claims of its parts.
use Rattle.std.proofs.Common.{◌≡◌, ℕ, ◌+◌, ◌-◌, ◌≤◌, Bool, true, false, List, Option, refl, arith}
use Rattle.stan_model_grammar.specs.declared.operators.ArrayStyle.TheVariants as styles
use Rattle.stan_model_grammar.specs.declared.operators.ArrayStyle.{ArrayStyle}
use Rattle.stan_model_grammar.specs.declared.operators.AssignmentOperator.{AssignmentOperator}
use Rattle.stan_model_grammar.specs.declared.operators.BinaryOperator.{BinaryOperator}
use Rattle.stan_model_grammar.specs.declared.operators.Fixity.TheVariants as fixities
use Rattle.stan_model_grammar.specs.declared.operators.Leaf.{Leaf}
use Rattle.stan_model_grammar.specs.declared.operators.PrefixOperator.{PrefixOperator}
use Rattle.stan_model_grammar.specs.declared.token.Token.{Token}
use Rattle.stan_model_grammar.specs.declared.token.TokenKind.TheVariants as kinds
use Rattle.stan_model_grammar.specs.Strata.{kind_at, loosest, prefix_stratum, binary_stratum, fixity, tighter, right_side}
use Rattle.stan_model_grammar.specs.Trees.{TypeTree, Tree, node, Single, Brackets, Array, IsSet, Empty, Exit, New, Match, Closure, Arrow, Text, Post, Prefix, Assignment, Chain, Binary, Conditional, Items, Arguments, ClassReference, Steps, no_step, step, Push, Index, Property, Scoped, Call, Increment, Decrement, Operation, Part, Inserted, Further, Body}
use Rattle.stan_model_grammar.specs.Expressions.{element, arm, suffix, part, operation, IsSomeStep, Operates, Repeats}
use Rattle.stan_model_grammar.specs.Depth.{is_operation, left_depth, depth}
use Rattle.stan_expr_rules.proofs.InsideLemmas.{is_inside, form_inside, stands_inside}
use Rattle.stan_expr_rules.specs.Parse.{first_of, below}
use Rattle.stan_expr_rules.proofs.Greedy.{Near, first_stands, no_arrow, one_token}
use Rattle.stan_expr_greedy.proofs.Computes.{apart}
use Rattle.stan_expr_greedy.proofs.SoundTables.{stratum_bounds}
use Rattle.stan_expr_greedy.proofs.Begins.{clash, begins, tree_begins}
use Rattle.stan_expr_greedy.proofs.CompleteSteps.{called_is}
use Rattle.stan_expr_greedy.proofs.CompleteForms.{single_reads, brackets_read, short_array_reads, array_reads, list_reads, is_set_reads, empty_reads, exit_reads, match_reads, text_reads, new_reads, closure_behind, closure_reads, arrow_behind, arrow_reads}
use Rattle.stan_expr_greedy.proofs.CompleteStrata.{no_pattern, in_each, no_conditional, no_elvis, post_suffixed, post_arrow, post_new, operand_assigned, operand_prefixed, from_operand, chain_level, binary_level, conditional_level}
use Rattle.stan_expr_greedy.proofs.CompleteStarts.{single_in, right_in, tighter_in, leads, token_of, arrow_leads, tree_leads}
use Rattle.stan_expr_greedy.proofs.CompleteClaims.{AtomF, PostF, LevelF, FormC, TreeC, ItemsC, ArgumentsC, ClassC, StepsC, inner, inner_loosest, enclosed_claim}
use Rattle.stan_expr_greedy.proofs.CompleteClaims.{atom_claims, post_claims, level_claims}
use Rattle.stan_expr_greedy.proofs.CompleteProductions.{fenced_claim, fenced_some_claim, parameters_claim}
use Rattle.stan_expr_rules.proofs.Tables.{prefix_bounds}

left_deep : (operation : Bool) (d : ℕ) → d ≤ left_depth operation d
left_deep true d = omega arith
left_deep false d = omega arith

module _ (ts : List Token) where
  -- ---- what stands alone

  pub single_claim : (leaf : Leaf) → FormC ts (Single leaf)
  single_claim leaf = atom_claims ts (Single leaf) refl refl (λ n p k at to h d. single_reads ts (below ts n) leaf k at to h.0 h.1 h.2)

  brackets_atom : (t : Tree) → TreeC ts t → AtomF ts (Brackets t)
  brackets_atom t c n p k at to h d = brackets_read ts (below ts n) t at to h.0.1 (enclosed_claim ts t c n kinds.LeftParenthesis kinds.RightParenthesis at to (λ e. cc) (λ e. cc) h.0 (omega arith))

  pub brackets_claim : (t : Tree) → TreeC ts t → FormC ts (Brackets t)
  brackets_claim t c = atom_claims ts (Brackets t) refl refl (brackets_atom t c)

  short_array_atom : (es : Items) → ItemsC ts es → AtomF ts (Array styles.Brackets es)
  short_array_atom es c n p k at to h d = short_array_reads ts (below ts n) es at to h.1.1 (fenced_claim ts es c n element kinds.LeftBracket kinds.RightBracket at to (λ e. cc) refl (λ e. cc) h.1 (omega arith))

  array_atom : (es : Items) → ItemsC ts es → AtomF ts (Array styles.Array es)
  array_atom es c n p k at to h d = array_reads ts (below ts n) es at to h.1 (fenced_claim ts es c n element kinds.LeftParenthesis kinds.RightParenthesis (at + 1) to (λ e. cc) refl (λ e. cc) h.2 (omega arith))

  list_atom : (es : Items) → ItemsC ts es → AtomF ts (Array styles.List es)
  list_atom es c n p k at to h d = list_reads ts (below ts n) es at to h.1 (fenced_claim ts es c n element kinds.LeftParenthesis kinds.RightParenthesis (at + 1) to (λ e. cc) refl (λ e. cc) h.2 (omega arith))

  pub array_claim : (style : ArrayStyle) (es : Items) → ItemsC ts es → FormC ts (Array style es)
  array_claim styles.Brackets es c = atom_claims ts (Array styles.Brackets es) refl refl (short_array_atom es c)
  array_claim styles.Array es c = atom_claims ts (Array styles.Array es) refl refl (array_atom es c)
  array_claim styles.List es c = atom_claims ts (Array styles.List es) refl refl (list_atom es c)

  is_set_atom : (es : Items) → ItemsC ts es → AtomF ts (IsSet es)
  is_set_atom es c n p k at to h d = is_set_reads ts (below ts n) es at to h.1 (fenced_some_claim ts es c n (at + 1) to h.0 h.2 (omega arith))

  pub is_set_claim : (es : Items) → ItemsC ts es → FormC ts (IsSet es)
  is_set_claim es c = atom_claims ts (IsSet es) refl refl (is_set_atom es c)

  empty_atom : (t : Tree) → TreeC ts t → AtomF ts (Empty t)
  empty_atom t c n p k at to h d = empty_reads ts (below ts n) t at to h.0 (enclosed_claim ts t c n kinds.LeftParenthesis kinds.RightParenthesis (at + 1) to (λ e. cc) (λ e. cc) h.1 (omega arith))

  pub empty_claim : (t : Tree) → TreeC ts t → FormC ts (Empty t)
  empty_claim t c = atom_claims ts (Empty t) refl refl (empty_atom t c)

  exit_atom : (es : Arguments) → ArgumentsC ts es → AtomF ts (Exit es)
  exit_atom es c n p k at to h d = exit_reads ts (below ts n) es at to h.0 (called_is ts (below ts n) es (at + 1) to (c n true (at + 1) to h.1 d))

  pub exit_claim : (es : Arguments) → ArgumentsC ts es → FormC ts (Exit es)
  exit_claim es c = atom_claims ts (Exit es) refl refl (exit_atom es c)

  match_atom : (t : Tree) (arms : Items) → TreeC ts t → ItemsC ts arms → AtomF ts (Match t arms)
  match_atom t arms c cs n p k at to h d =
      let first = enclosed_claim ts t c n kinds.LeftParenthesis kinds.RightParenthesis (at + 1) h.0 (λ e. cc) (λ e. cc) h.2 (omega arith) in
      match_reads ts (below ts n) t arms at h.0 to h.1 first (fenced_claim ts arms cs n arm kinds.LeftBrace kinds.RightBrace h.0 to (λ e. cc) refl tt h.3 (omega arith))

  pub match_claim : (t : Tree) (arms : Items) → TreeC ts t → ItemsC ts arms → FormC ts (Match t arms)
  match_claim t arms c cs = atom_claims ts (Match t arms) refl refl (match_atom t arms c cs)

  closure_atom : (static reference : Bool) (ps captures : Items) (type : Option TypeTree) (held : Body) → ItemsC ts ps → AtomF ts (Closure static reference ps captures type held)
  closure_atom static reference ps captures type held c n p k at to h d =
      let parameters_are = parameters_claim ts ps c n h.1 h.2 h.8 (omega arith) in
      let behind = closure_behind ts (below ts n) static reference ps captures type held (h.0 + 1) h.1 h.2 h.3 h.4 to h.7 h.8.1 parameters_are h.9 h.10 h.11 in
      closure_reads ts (below ts n) static reference ps captures type held at h.0 to h.5 h.6 behind

  pub closure_claim : (static reference : Bool) (ps captures : Items) (type : Option TypeTree) (held : Body) → ItemsC ts ps → FormC ts (Closure static reference ps captures type held)
  closure_claim static reference ps captures type held c = atom_claims ts (Closure static reference ps captures type held) refl refl (closure_atom static reference ps captures type held c)

  arrow_post : (static reference : Bool) (ps : Items) (type : Option TypeTree) (t : Tree) → ItemsC ts ps → TreeC ts t → PostF ts (Arrow static reference ps type t)
  arrow_post static reference ps type t cs c n p k u at to lo s h d =
      let other = apart leads (kind_at ts at) kinds.New (arrow_leads ts static reference ps type t p k at to h) refl in
      let parameters_are = parameters_claim ts ps cs n h.1 h.2 h.7 (omega arith) in
      let behind = arrow_behind ts (below ts n) static reference ps type t (h.0 + 1) h.1 h.2 h.3 to h.6 h.7.1 parameters_are h.8 h.9 (inner_loosest ts t c n false (h.3 + 1) to h.10 (omega arith)) in
      post_arrow ts (below ts n) u (Arrow static reference ps type t) at to s other (arrow_reads ts (below ts n) static reference ps type t at h.0 to h.4 h.5 behind) refl

  pub arrow_claim : (static reference : Bool) (ps : Items) (type : Option TypeTree) (t : Tree) → ItemsC ts ps → TreeC ts t → FormC ts (Arrow static reference ps type t)
  arrow_claim static reference ps type t cs c = post_claims ts (Arrow static reference ps type t) refl refl (arrow_post static reference ps type t cs c)

  text_atom : (ss : Steps) → StepsC ts ss → AtomF ts (Text ss)
  text_atom ss c n p k at to h d =
      let u = token_of ts kinds.TextEnd h.0.0 (λ e. cc) h.0.3 in
      let i = is_inside ts h.0.0 kinds.TextEnd (λ e. cc) h.0.3 in
      text_reads ts (below ts n) u.0 ss at h.0.0 to h.0.1 (c n part (at + 1) h.0.0 h.0.2 tt d) u.1 h.0.3 h.0.4 (omega arith)

  pub text_claim : (ss : Steps) → StepsC ts ss → FormC ts (Text ss)
  text_claim ss c = atom_claims ts (Text ss) refl refl (text_atom ss c)

  -- ---- `new`, and what is appended

  new_post : (class : ClassReference) (es : Arguments) → ClassC ts class → ArgumentsC ts es → PostF ts (New class es)
  new_post class es c cs n p k t at to lo s h d =
      let called_with = called_is ts (below ts n) es h.0 to (cs n true h.0 to h.4 (omega arith)) in
      post_new ts (below ts n) t (New class es) at to s h.2 (new_reads ts (below ts n) class es (at + 1) h.0 to (c n (at + 1) h.0 h.3 (omega arith)) called_with)

  pub new_claim : (class : ClassReference) (es : Arguments) → ClassC ts class → ArgumentsC ts es → FormC ts (New class es)
  new_claim class es c cs = post_claims ts (New class es) refl refl (new_post class es c cs)

  post_post : (t : Tree) (ss : Steps) → TreeC ts t → StepsC ts ss → PostF ts (Post t ss)
  post_post t ss c cs n p k u at to lo s h d =
      let i = form_inside ts (Near ts) (Post t ss) p k at to (stands_inside ts at u s) h in
      let other = apart leads (kind_at ts at) kinds.New (tree_leads ts false t at h.0 h.3) refl in
      let first = one_token ts at (first_of t) u (first_stands ts false 0 t at h.0 h.3) s in
      let near : Near ts 1 4 to = λ le. let far = h.5 le in omega arith in
      post_suffixed ts (below ts n) u t ss at h.0 to s other (c.0 n u at h.0 s h.3 (omega arith)) first (no_arrow ts false t at h.0 h.3) (no_pattern ts 0 t at h.0 h.3) h.2 (cs n suffix h.0 to h.4 tt (omega arith)) near i.1

  pub post_claim : (t : Tree) (ss : Steps) → TreeC ts t → StepsC ts ss → FormC ts (Post t ss)
  post_claim t ss c cs = post_claims ts (Post t ss) refl refl (post_post t ss c cs)

  -- ---- operations

  prefix_level : (o : PrefixOperator) (t : Tree) → TreeC ts t → LevelF ts (Prefix o t)
  prefix_level o t c n p k u at to lo hi s h d =
      let stratum = prefix_bounds o in
      from_operand ts (below ts n) p k (node u (Prefix o t)) at to lo h.3 (operand_prefixed ts (below ts n) p u o t at to s h.1 (inner ts t c n false (prefix_stratum o) (at + 1) to stratum.0 stratum.1 h.2 (omega arith)))

  pub prefix_claim : (o : PrefixOperator) (t : Tree) → TreeC ts t → FormC ts (Prefix o t)
  prefix_claim o t c = level_claims ts (Prefix o t) refl refl (prefix_level o t c)

  assignment_level : (target : Tree) (o : AssignmentOperator) (t : Tree) → TreeC ts target → TreeC ts t → LevelF ts (Assignment target o t)
  assignment_level target o t ct c n p k u at to lo hi s h d =
      let first = one_token ts at (first_of target) u (first_stands ts true 4 target at h.0 h.4) s in
      let read = ct.1 n o u at h.0 s h.3 h.4 (omega arith) in
      let assigned = operand_assigned ts (below ts n) p u target o t at h.0 h.1 to s read.1 read.0 h.5 h.3 (inner ts t c n false 24 h.1 to (omega arith) (omega arith) h.6 (omega arith)) in
      from_operand ts (below ts n) p k (node u (Assignment target o t)) at to lo h.7 (rw first at assigned)

  pub assignment_claim : (target : Tree) (o : AssignmentOperator) (t : Tree) → TreeC ts target → TreeC ts t → FormC ts (Assignment target o t)
  assignment_claim target o t ct c = level_claims ts (Assignment target o t) refl refl (assignment_level target o t ct c)

  -- the first operator of a chain
  first_operation : (ss : Steps) (j at to : ℕ) → IsSomeStep ss → Repeats ts (Near ts) (operation j) ss at to
      → (sign : Token) × (o : BinaryOperator) × (m : ℕ) × Operates ts sign o at m × (binary_stratum o ≡ j) × (fixity o ≡ fixities.Left)
  first_operation no_step j at to some h = absurd some
  first_operation (step (Operation sign o e) xs) j at to some h = (sign, o, h.1.0, h.1.2, h.1.1.0, h.1.1.1)
  first_operation (step Push xs) j at to some h = absurd h.1.0
  first_operation (step (Index e) xs) j at to some h = absurd h.1.0
  first_operation (step (Property nullsafe name es) xs) j at to some h = absurd h.1.1
  first_operation (step (Scoped t es) xs) j at to some h = clash _ h.1.0
  first_operation (step (Call es) xs) j at to some h = absurd h.1.0
  first_operation (step Increment xs) j at to some h = absurd h.1.0
  first_operation (step Decrement xs) j at to some h = absurd h.1.0
  first_operation (step (Part t) xs) j at to some h = absurd h.1.0
  first_operation (step (Inserted e) xs) j at to some h = absurd h.1.0
  first_operation (step (Further x) xs) j at to some h = absurd h.1

  chain_stratum : (j : ℕ) (t : Tree) (ss : Steps) → TreeC ts t → StepsC ts ss → LevelF ts (Chain j t ss)
  chain_stratum j t ss c cs n p k u at to lo hi s h d =
      let first = one_token ts at (first_of t) u (first_stands ts false (tighter j) t at h.0 h.4) s in
      let o = first_operation ss j h.0 to h.3 h.5 in
      let i = form_inside ts (Near ts) (Chain j t ss) p k at to (stands_inside ts at u s) h in
      let operands = tighter_in j h.1 in
      let before = c.2 n p (tighter j) at h.0 operands.0 (omega (arith, operands.1, h.2)) (in_each ts p (tighter j) t at h.0 h.4) (omega (arith, left_deep (is_operation t) (depth t))) in
      let level = chain_level ts (below ts n) p k j t o.0 o.1 ss at h.0 o.2 to h.1 h.2 h.3 h.6 i.1 o.3 o.4 o.5 (no_pattern ts (tighter j) t at h.0 h.4) (no_elvis ts j t at h.0 h.4) before (cs n (operation j) h.0 to h.5 tt (omega arith)) in
      rw first at level

  pub chain_claim : (j : ℕ) (t : Tree) (ss : Steps) → TreeC ts t → StepsC ts ss → FormC ts (Chain j t ss)
  chain_claim j t ss c cs = level_claims ts (Chain j t ss) refl refl (chain_stratum j t ss c cs)

  binary_stratum_level : (l : Tree) (sign : Token) (o : BinaryOperator) (r : Tree) → TreeC ts l → TreeC ts r → LevelF ts (Binary l sign o r)
  binary_stratum_level l sign o r cl c n p k u at to lo hi s h d =
      let stratum = stratum_bounds o in
      let low = single_in o h.3 in
      let right = right_in (fixity o) (binary_stratum o) in
      let first = one_token ts at (first_of l) u (first_stands ts false (binary_stratum o - 1) l at h.0 h.4) s in
      let before = cl.2 n p (binary_stratum o - 1) at h.0 (omega arith) (omega arith) (in_each ts p (binary_stratum o - 1) l at h.0 h.4) (omega (arith, left_deep (is_operation l) (depth l))) in
      let behind = inner ts r c n false (right_side (fixity o) (binary_stratum o)) h.1 to (omega arith) (omega arith) h.6 (omega arith) in
      let level = binary_level ts (below ts n) p k l sign o r at h.0 h.1 to stratum.0 h.2 h.3 h.7 (no_pattern ts (binary_stratum o - 1) l at h.0 h.4) (no_conditional ts false (binary_stratum o - 1) l at h.0 (omega arith) h.4) before h.5 behind in
      rw first at level

  pub binary_claim : (l : Tree) (sign : Token) (o : BinaryOperator) (r : Tree) → TreeC ts l → TreeC ts r → FormC ts (Binary l sign o r)
  binary_claim l sign o r cl c = level_claims ts (Binary l sign o r) refl refl (binary_stratum_level l sign o r cl c)

  conditional_stratum : (q l r : Tree) → TreeC ts q → TreeC ts l → TreeC ts r → LevelF ts (Conditional q l r)
  conditional_stratum q l r cq cl cr n p k u at to lo hi s h d =
      let first = one_token ts at (first_of q) u (first_stands ts false 21 q at h.0 h.3) s in
      let before = cq.2 n p 21 at h.0 (omega arith) (omega arith) (in_each ts p 21 q at h.0 h.3) (omega arith) in
      let colon = apart begins (kind_at ts (h.0 + 1)) kinds.Colon (tree_begins ts (Near ts) l false loosest (h.0 + 1) h.1 h.5) refl in
      let middle = inner_loosest ts l cl n false (h.0 + 1) h.1 h.5 (omega arith) in
      let last = inner ts r cr n false 21 (h.1 + 1) to (omega arith) (omega arith) h.7 (omega arith) in
      let level = conditional_level ts (below ts n) p k q l r at h.0 h.1 to h.2 (no_pattern ts 21 q at h.0 h.3) (no_conditional ts false 21 q at h.0 (omega arith) h.3) h.8 before h.4 colon middle h.6 last in
      rw first at level

  pub conditional_claim : (q l r : Tree) → TreeC ts q → TreeC ts l → TreeC ts r → FormC ts (Conditional q l r)
  conditional_claim q l r cq cl cr = level_claims ts (Conditional q l r) refl refl (conditional_stratum q l r cq cl cr)
