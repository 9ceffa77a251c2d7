-- What stands alone is read as it stands, where its parts are.
use Rattle.std.proofs.Common.{◌≡◌, ℕ, ◌+◌, ◌≤◌, Bool, true, false, List, length, Option, Some, None, refl, sym, ◌∙◌, arith}
use Rattle.std.specs.Prelude.{IsTrue}
use Rattle.stan_model_grammar.specs.declared.operators.ArrayStyle.TheVariants as styles
use Rattle.stan_model_grammar.specs.declared.operators.Leaf.{Leaf}
use Rattle.stan_model_grammar.specs.declared.operators.Leaf.TheVariants as leaves
use Rattle.stan_model_grammar.specs.declared.token.Token.{Token}
use Rattle.stan_model_grammar.specs.declared.token.TokenKind.{TokenKind}
use Rattle.stan_model_grammar.specs.declared.token.TokenKind.TheVariants as kinds
use Rattle.stan_model_grammar.specs.Strata.{kind_at, loosest, leaf_of, leaf_low, is_exit}
use Rattle.stan_model_grammar.specs.Trees.{TypeTree, Tree, Form, Single, Brackets, Array, IsSet, Empty, Exit, New, Match, Closure, Arrow, Text, Items, no_item, items, Item, Captured, Arguments, ClassReference, Steps, no_step, step, Push, Index, Property, Scoped, Call, Increment, Decrement, Operation, Part, Inserted, Further, Body, Held, Read}
use Rattle.stan_model_grammar.specs.Expressions.{captured, part, further, has_items, Is, Stands, May, MayCapture, MayReturn, Lists, ItemReads, Repeats, Bodies}
use Rattle.stan_expr_rules.proofs.InsideLemmas.{step_inside}
use Rattle.stan_expr_rules.specs.Parse as parse
use Rattle.stan_expr_rules.specs.Parse.{enclosed, fenced, fenced_some, element_at, positional, captured_at, arm_at, may_capture, parameters, may_be_called, class_reference, new, brackets, short_array, long_array, is_set, empty, exit, match_form, closure, text, parts, leaf, static_word, form_by}
use Rattle.stan_expr_rules.proofs.Greedy.{J, Near}
use Rattle.stan_expr_greedy.proofs.Reading.{after_at, after_not, after_to}
use Rattle.stan_expr_greedy.proofs.Computes.{after_other, may_reads}
use Rattle.stan_expr_greedy.proofs.Begins.{clash, item_begins}
use Rattle.stan_expr_greedy.proofs.CompleteParts.{may_return_reads, body_reads}
use Rattle.stan_expr_greedy.proofs.CompleteItems.{Gives, AllTaken, captured_reads, some_items_read}
use Rattle.stan_expr_greedy.proofs.CompleteSteps.{steps_same, parts_read}
use Rattle.stan_expr_rules.proofs.Choices.{nothing_is}

module _ (ts : List Token) (b : Bool → ℕ → ℕ → parse.Read Tree) where
  -- what is read at a place
  abbrev pub FormIs : Form → ℕ → ℕ → Type 0
  FormIs f at to = form_by ts b (kind_at ts at) at ≡ Some (f, to)

  -- ---- single tokens

  leaf_gives : (o : Option Leaf) (l : Leaf) (at : ℕ) → o ≡ Some l → leaf ts b o at ≡ Some (Single l, at)
  leaf_gives o l at h = rw h refl

  no_function : (k at : ℕ) → Near ts 0 k at → Is ts at kinds.Function → ⊥
  no_function k at near q =
      let j : J ts at ≡ 0 = rw q refl in
      let far = near (omega arith) in
      omega arith

  no_fn : (k at : ℕ) → Near ts 0 k at → Is ts at kinds.Fn → ⊥
  no_fn k at near q =
      let j : J ts at ≡ 0 = rw q refl in
      let far = near (omega arith) in
      omega arith

  static_leaf : (l : Leaf) (k at : ℕ) → leaf_of kinds.Static ≡ Some l → Near ts (leaf_low l) k at → static_word ts b at ≡ Some (Single l, at)
  unfolding static_word
  static_leaf leaves.Static k at h near = rw (after_not ts kinds.Function at (no_function k at near), after_not ts kinds.Fn at (no_fn k at near)) refl
  static_leaf l k at h near = absurd cc

  leaf_by : (kind : TokenKind) (l : Leaf) (k at : ℕ) → leaf_of kind ≡ Some l → Near ts (leaf_low l) k (at + 1) → form_by ts b kind at ≡ Some (Single l, at + 1)
  leaf_by kinds.LeftParenthesis l k at h near = absurd (nothing_is l h)
  leaf_by kinds.LeftBracket l k at h near = absurd (nothing_is l h)
  leaf_by kinds.Array l k at h near = absurd (nothing_is l h)
  leaf_by kinds.List l k at h near = absurd (nothing_is l h)
  leaf_by kinds.IsSet l k at h near = absurd (nothing_is l h)
  leaf_by kinds.Empty l k at h near = absurd (nothing_is l h)
  leaf_by kinds.Exit l k at h near = absurd (nothing_is l h)
  leaf_by kinds.Die l k at h near = absurd (nothing_is l h)
  leaf_by kinds.Match l k at h near = absurd (nothing_is l h)
  leaf_by kinds.Function l k at h near = absurd (nothing_is l h)
  leaf_by kinds.Fn l k at h near = absurd (nothing_is l h)
  leaf_by kinds.TextStart l k at h near = absurd (nothing_is l h)
  leaf_by kinds.Static l k at h near = static_leaf l k (at + 1) h near
  leaf_by kind l k at h near = leaf_gives (leaf_of kind) l (at + 1) h

  pub single_reads : (l : Leaf) (k at to : ℕ) → leaf_of (kind_at ts at) ≡ Some l → to ≡ at + 1 → Near ts (leaf_low l) k to → FormIs (Single l) at to
  single_reads l k at to h e near = rw e (leaf_by (kind_at ts at) l k at h (rw e at near))

  -- ---- brackets and words

  pub brackets_read : (e : Tree) (at to : ℕ) → Is ts at kinds.LeftParenthesis → enclosed ts b kinds.LeftParenthesis kinds.RightParenthesis at ≡ Some (e, to) → FormIs (Brackets e) at to
  unfolding brackets
  brackets_read e at to k h = rw (k, h) refl

  pub short_array_reads : (es : Items) (at to : ℕ) → Is ts at kinds.LeftBracket → fenced ts b (element_at ts b) kinds.LeftBracket kinds.RightBracket at ≡ Some (es, to) → FormIs (Array styles.Brackets es) at to
  unfolding short_array
  short_array_reads es at to k h = rw (k, h) refl

  pub array_reads : (es : Items) (at to : ℕ) → Is ts at kinds.Array → fenced ts b (element_at ts b) kinds.LeftParenthesis kinds.RightParenthesis (at + 1) ≡ Some (es, to) → FormIs (Array styles.Array es) at to
  unfolding long_array
  array_reads es at to k h = rw (k, h) refl

  pub list_reads : (es : Items) (at to : ℕ) → Is ts at kinds.List → fenced ts b (element_at ts b) kinds.LeftParenthesis kinds.RightParenthesis (at + 1) ≡ Some (es, to) → FormIs (Array styles.List es) at to
  unfolding long_array
  list_reads es at to k h = rw (k, h) refl

  pub is_set_reads : (es : Items) (at to : ℕ) → Is ts at kinds.IsSet → fenced_some ts b (positional ts b) (at + 1) ≡ Some (es, to) → FormIs (IsSet es) at to
  unfolding is_set
  is_set_reads es at to k h = rw (k, h) refl

  pub empty_reads : (e : Tree) (at to : ℕ) → Is ts at kinds.Empty → enclosed ts b kinds.LeftParenthesis kinds.RightParenthesis (at + 1) ≡ Some (e, to) → FormIs (Empty e) at to
  unfolding empty
  empty_reads e at to k h = rw (k, h) refl

  exit_by : (kind : TokenKind) (es : Arguments) (at to : ℕ) → IsTrue (is_exit kind) → may_be_called ts b (at + 1) ≡ Some (es, to) → form_by ts b kind at ≡ Some (Exit es, to)
  unfolding exit
  exit_by kinds.Exit es at to i h = rw h refl
  exit_by kinds.Die es at to i h = rw h refl
  exit_by kind es at to i h = clash _ i

  pub exit_reads : (es : Arguments) (at to : ℕ) → IsTrue (is_exit (kind_at ts at)) → may_be_called ts b (at + 1) ≡ Some (es, to) → FormIs (Exit es) at to
  exit_reads es at to i h = exit_by (kind_at ts at) es at to i h

  pub match_reads : (e : Tree) (arms : Items) (at m to : ℕ) → Is ts at kinds.Match → enclosed ts b kinds.LeftParenthesis kinds.RightParenthesis (at + 1) ≡ Some (e, m) → fenced ts b (arm_at ts b) kinds.LeftBrace kinds.RightBrace m ≡ Some (arms, to)
      → FormIs (Match e arms) at to
  unfolding match_form
  match_reads e arms at m to k h g = rw (k, h, g) refl

  pub text_reads : (t : Token) (ss : Steps) (at m to : ℕ) → Is ts at kinds.TextStart → AllTaken ts b part ss (at + 1) m → Stands ts m t → Is ts m kinds.TextEnd → to ≡ m + 1 → m ≤ length ts → FormIs (Text ss) at to
  unfolding text
  text_reads t ss at m to k h s e q inside = rw (k, parts_read ts b t ss (at + 1) m h s e inside, after_to ts kinds.TextEnd m to (λ e. cc) e q, steps_same ss) refl

  pub new_reads : (class : ClassReference) (es : Arguments) (at m to : ℕ) → class_reference ts b at ≡ Some (class, m) → may_be_called ts b m ≡ Some (es, to) → new ts b at ≡ Some (New class es, to)
  unfolding new
  new_reads class es at m to h g = rw (h, g) refl

  -- ---- closures

  captured_item : (x : Item) (at to : ℕ) → ItemReads ts (Near ts) captured x at to → captured_at ts b at ≡ Some (x, to)
  captured_item (Captured t) at to h = captured_reads ts b t at to h.0 h.1 h.2
  captured_item x at to h = absurd h

  captured_steps : (xs : Steps) (at to : ℕ) → Repeats ts (Near ts) (further captured) xs at to → AllTaken ts b (further captured) xs at to
  captured_steps no_step at to h = h
  captured_steps (step (Further x) xs) at to h =
      (h.0, (step_inside ts (Near ts) (Further x) (further captured) at h.0 h.1).0, (h.1.0, item_begins ts (Near ts) x captured (at + 1) h.0 h.1.1, captured_item x (at + 1) h.0 h.1.1), captured_steps xs h.0 to h.2)
  captured_steps (step Push xs) at to h = absurd h.1.0
  captured_steps (step (Index e) xs) at to h = absurd h.1.0
  captured_steps (step (Property nullsafe name es) xs) at to h = absurd h.1.1
  captured_steps (step (Scoped t es) xs) at to h = clash _ h.1.0
  captured_steps (step (Call es) xs) at to h = absurd h.1.0
  captured_steps (step Increment xs) at to h = absurd h.1.0
  captured_steps (step Decrement xs) at to h = absurd h.1.0
  captured_steps (step (Operation sign o e) xs) at to h = absurd h.1.1
  captured_steps (step (Part t) xs) at to h = absurd h.1.0
  captured_steps (step (Inserted e) xs) at to h = absurd h.1.0

  pub may_capture_reads : (es : Items) (at to : ℕ) → MayCapture ts (has_items es) (Lists ts (Near ts) captured es) at to → (kind_at ts to ≡ kinds.Use → ⊥) → may_capture ts b at ≡ Some (es, to)
  unfolding may_capture fenced_some
  may_capture_reads no_item at to h other = rw (h, after_not ts kinds.Use to other) refl
  may_capture_reads (items x xs comma) at to h other =
      let g = h.1 in
      let v = g.2 in
      let s = some_items_read ts b x xs comma captured kinds.RightParenthesis (at + 1 + 1) v.0 v.1 g.0 refl (captured_item x (at + 1 + 1) v.0 v.2) (captured_steps xs v.0 v.1 v.3) v.4 g.3 in
      rw (after_at ts kinds.Use at (λ e. cc) h.0, after_at ts kinds.LeftParenthesis (at + 1) (λ e. cc) g.1, s, after_to ts kinds.RightParenthesis g.0 to (λ e. cc) g.3 g.4) refl

  body_begins : (held : Body) (at to : ℕ) → Bodies ts (Near ts) held at to → Is ts at kinds.LeftBrace
  body_begins (Held first last) at to h = h.0
  body_begins (Read ss) at to h = absurd h

  return_begins : (type : Option TypeTree) (there : TokenKind) (at to : ℕ) → MayReturn ts type at to → Is ts to there → (there ≡ kinds.Use → ⊥) → kind_at ts at ≡ kinds.Use → ⊥
  return_begins (Some type) there at to h k other q = cc (h.0, q)
  return_begins None there at to h k other q = other (sym k ∙ (rw h at q))

  pub closure_behind : (static reference : Bool) (ps captures : Items) (type : Option TypeTree) (held : Body) (at m c d e to : ℕ) → May ts reference kinds.Ampersand at m → Is ts m kinds.LeftParenthesis → parameters ts b m ≡ Some (ps, c)
      → MayCapture ts (has_items captures) (Lists ts (Near ts) captured captures) c d → MayReturn ts type d e → Bodies ts (Near ts) held e to → closure ts b static at ≡ Some (Closure static reference ps captures type held, to)
  unfolding closure
  closure_behind static reference ps captures type held at m c d e to r k p g t h =
      let brace = body_begins held e to h in
      let reference_is = may_reads ts reference kinds.Ampersand at m (λ e. cc) r (λ _ q. cc (k, q)) in
      let captures_are = may_capture_reads captures c d g (return_begins type kinds.LeftBrace d e t brace (λ e. cc)) in
      let type_is = may_return_reads ts type d e t (λ q. cc (brace, q)) (λ q. cc (brace, q)) in
      rw (reference_is, p, captures_are, type_is, body_reads ts (Near ts) held e to h) refl

  pub closure_reads : (static reference : Bool) (ps captures : Items) (type : Option TypeTree) (held : Body) (at a to : ℕ) → May ts static kinds.Static at a → Is ts a kinds.Function
      → closure ts b static (a + 1) ≡ Some (Closure static reference ps captures type held, to) → FormIs (Closure static reference ps captures type held) at to
  unfolding static_word
  closure_reads true reference ps captures type held at a to s k h =
      let f = after_at ts kinds.Function (at + 1) (λ e. cc) (rw s.1 at k) in
      rw (s.0, f) (rw s.1 at h)
  closure_reads false reference ps captures type held at a to s k h =
      rw (s, k) h

  pub arrow_behind : (static reference : Bool) (ps : Items) (type : Option TypeTree) (e : Tree) (at m c d to : ℕ) → May ts reference kinds.Ampersand at m → Is ts m kinds.LeftParenthesis → parameters ts b m ≡ Some (ps, c)
      → MayReturn ts type c d → Is ts d kinds.DoubleArrow → Gives ts b false loosest e (d + 1) to → parse.arrow ts b static at ≡ Some (Arrow static reference ps type e, to)
  unfolding parse.arrow
  arrow_behind static reference ps type e at m c d to r k p t y h =
      let reference_is = may_reads ts reference kinds.Ampersand at m (λ e. cc) r (λ _ q. cc (k, q)) in
      let type_is = may_return_reads ts type c d t (λ q. cc (y, q)) (λ q. cc (y, q)) in
      rw (reference_is, p, type_is, after_at ts kinds.DoubleArrow d (λ e. cc) y, h) refl

  pub arrow_reads : (static reference : Bool) (ps : Items) (type : Option TypeTree) (e : Tree) (at a to : ℕ) → May ts static kinds.Static at a → Is ts a kinds.Fn
      → parse.arrow ts b static (a + 1) ≡ Some (Arrow static reference ps type e, to) → FormIs (Arrow static reference ps type e) at to
  unfolding static_word
  arrow_reads true reference ps type e at a to s k h =
      let here : kind_at ts (at + 1) ≡ kinds.Fn = rw s.1 at k in
      rw (s.0, after_other ts kinds.Function kinds.Fn (at + 1) here (λ e. cc), after_at ts kinds.Fn (at + 1) (λ e. cc) here) (rw s.1 at h)
  arrow_reads false reference ps type e at a to s k h = rw (s, k) h
