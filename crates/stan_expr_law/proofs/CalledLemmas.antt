-- The sites of an expression are all names that are called in it, in order, and the held bodies.
use Rattle.std.proofs.Common.{◌≡◌, ◌≢◌, ℕ, ◌+◌, ◌-◌, ◌≤◌, Bool, true, false, IsTrue, List, [], ◌∷◌, ◌++◌, Option, Some, None, refl, sym, ap, subst, ◌∙◌, inl, inr, true≢false, arith}
use Rattle.std.proofs.lemmas.Bool.{cases_lt}
use Rattle.std.proofs.lemmas.List.{append-nil}
use Rattle.stan_model_grammar.specs.declared.operators.Leaf.TheVariants as leaves
use Rattle.stan_model_grammar.specs.declared.operators.ArrayStyle.TheVariants as styles
use Rattle.stan_model_grammar.specs.declared.operators.PrefixOperator.{PrefixOperator}
use Rattle.stan_model_grammar.specs.declared.operators.BinaryOperator.{BinaryOperator}
use Rattle.stan_model_grammar.specs.declared.operators.BinaryOperator.TheVariants as binaries
use Rattle.stan_model_grammar.specs.declared.operators.AssignmentOperator.{AssignmentOperator}
use Rattle.stan_model_grammar.specs.declared.operators.AssignmentOperator.TheVariants as assignments
use Rattle.stan_model_grammar.specs.declared.operators.Visibility.{Visibility}
use Rattle.stan_model_grammar.specs.declared.token.Token.{Token}
use Rattle.stan_model_grammar.specs.declared.token.TokenKind.{TokenKind}
use Rattle.stan_model_grammar.specs.declared.token.TokenKind.TheVariants as kinds
use Rattle.stan_model_grammar.specs.Strata.{kind_at, prefix_of, binary_at, assignment_at, visibility_of, is_part, is_exit, loosest, prefix_stratum, binary_stratum, fixity, tighter, right_side}
use Rattle.stan_model_grammar.specs.Depth.{is_operation}
use Rattle.stan_model_grammar.specs.Trees.{TypeTree, Nullable, Union, Tree, node, Form, Single, Brackets, Array, IsSet, Empty, Exit, New, Match, Closure, Arrow, Text, Post, Prefix, Assignment, Chain, Binary, Conditional, Items, no_item, items, Item, Positional, Spread, Named, Element, KeyedElement, Parameter, Captured, Arm, DefaultArm, Default, no_default, default, Arguments, no_arguments, arguments, ClassReference, NamedClass, VariableClass, ScopedClass, ComputedClass, MemberName, NamedMember, ComputedMember, Steps, no_step, step, Step, Push, Index, Property, Scoped, Call, Increment, Decrement, Operation, Part, Inserted, Further, Body, Held, Read}
use Rattle.stan_model_grammar.specs.Expressions.{ItemSort, argument, element, expression, parameter, captured, arm, StepSort, suffix, class_suffix, part, operation, further, takes_arguments, arrow, has_items, IsSomeStep, Is, May, Operates, Assigns, MayBeVisible, Alternatives, Types, MayBeTyped, MayReturn, MayCapture, Reads, Forms, Lists, ItemReads, Defaults, MayBeCalled, Classes, Members, Repeats, StepReads, Bodies, Spells}
use Rattle.stan_model_grammar.specs.Sites.{Site, CallSite, BodySite, deeper, left_level, called, sites, form_sites, items_sites, item_sites, default_sites, arguments_sites, class_sites, member_sites, steps_sites, step_sites, body_sites}
use Rattle.stan_expr_law.specs.Called.{is_name_leaf, is_name, names_no_function, IsBare, IsCalled, NoneCalled, AreSites}
use Rattle.stan_expr_rules.proofs.InsideLemmas.{body_inside, stands_kind}
use Rattle.stan_expr_law.proofs.Spelled.{Free}
use Rattle.stan_expr_law.proofs.Levels.{operator_bounds}
use Rattle.stan_expr_law.proofs.LawItems.{no_further}
use Rattle.stan_expr_law.proofs.LawSteps.{is_call, call_or_above}
use Rattle.stan_expr_rules.proofs.Greedy.{J}

-- ---- tables

prefix_plain : (kind : TokenKind) (o : PrefixOperator) → prefix_of kind ≡ Some o → (is_name kind ≡ false) × (names_no_function kind ≡ false)
prefix_plain kinds.Identifier o e = absurd cc
prefix_plain kinds.QualifiedName o e = absurd cc
prefix_plain kinds.FullyQualifiedName o e = absurd cc
prefix_plain kinds.RelativeName o e = absurd cc
prefix_plain kinds.Arrow o e = absurd cc
prefix_plain kinds.NullsafeArrow o e = absurd cc
prefix_plain kinds.DoubleColon o e = absurd cc
prefix_plain kinds.New o e = absurd cc
prefix_plain kind o e = (refl, refl)

operator_plain : (kind next : TokenKind) (o : BinaryOperator) → binary_at kind next ≡ Some o → (is_name kind ≡ false) × (names_no_function kind ≡ false) × (kind ≢ kinds.LeftParenthesis)
operator_plain kinds.Identifier next o e = absurd cc
operator_plain kinds.QualifiedName next o e = absurd cc
operator_plain kinds.FullyQualifiedName next o e = absurd cc
operator_plain kinds.RelativeName next o e = absurd cc
operator_plain kinds.Arrow next o e = absurd cc
operator_plain kinds.NullsafeArrow next o e = absurd cc
operator_plain kinds.DoubleColon next o e = absurd cc
operator_plain kinds.New next o e = absurd cc
operator_plain kinds.LeftParenthesis next o e = absurd cc
operator_plain kind next o e = (refl, refl, λ q. cc)

elvis_next : (kind next : TokenKind) → binary_at kind next ≡ Some binaries.Elvis → next ≡ kinds.Colon
elvis_next kinds.Question kinds.Colon e = refl
elvis_next kinds.Question next e = cc
elvis_next kind next e = cc

assignment_plain : (kind next : TokenKind) (o : AssignmentOperator) → assignment_at kind next ≡ Some o → (is_name kind ≡ false) × (names_no_function kind ≡ false) × (kind ≢ kinds.LeftParenthesis)
assignment_plain kinds.Identifier next o e = absurd cc
assignment_plain kinds.QualifiedName next o e = absurd cc
assignment_plain kinds.FullyQualifiedName next o e = absurd cc
assignment_plain kinds.RelativeName next o e = absurd cc
assignment_plain kinds.Arrow next o e = absurd cc
assignment_plain kinds.NullsafeArrow next o e = absurd cc
assignment_plain kinds.DoubleColon next o e = absurd cc
assignment_plain kinds.New next o e = absurd cc
assignment_plain kinds.LeftParenthesis next o e = absurd cc
assignment_plain kind next o e = (refl, refl, λ q. cc)

reference_next : (kind next : TokenKind) → assignment_at kind next ≡ Some assignments.Reference → next ≡ kinds.Ampersand
reference_next kinds.Assign kinds.Ampersand e = refl
reference_next kinds.Assign next e = cc
reference_next kind next e = cc

visibility_plain : (kind : TokenKind) (v : Visibility) → visibility_of kind ≡ Some v → is_name kind ≡ false
visibility_plain kinds.Public v e = refl
visibility_plain kinds.Protected v e = refl
visibility_plain kinds.Private v e = refl
visibility_plain kind v e = cc

exit_plain : (kind : TokenKind) → IsTrue (is_exit kind) → is_name kind ≡ false
exit_plain kinds.Exit e = refl
exit_plain kinds.Die e = refl
exit_plain kind e = absurd (true≢false (sym e))

part_plain : (kind : TokenKind) → IsTrue (is_part kind) → is_name kind ≡ false
part_plain kinds.TextPiece e = refl
part_plain kinds.InsertedVariable e = refl
part_plain kinds.InsertedElement e = refl
part_plain kinds.InsertedProperty e = refl
part_plain kind e = absurd (true≢false (sym e))

arrow_plain : (nullsafe : Bool) → (is_name (arrow nullsafe) ≡ false) × (names_no_function (arrow nullsafe) ≡ true) × (arrow nullsafe ≢ kinds.LeftParenthesis)
arrow_plain true = (refl, refl, λ q. cc)
arrow_plain false = (refl, refl, λ q. cc)

-- An atom that is no name ends with a token that is none.
abbrev is_closed : Form → Bool
is_closed (Single leaves.Name) = false
is_closed (Single leaf) = true
is_closed (Brackets e) = true
is_closed (Array style es) = true
is_closed (IsSet es) = true
is_closed (Empty e) = true
is_closed (Exit es) = true
is_closed (Match e arms) = true
is_closed (Closure static reference parameters captures type body) = true
is_closed (Text parts) = true
is_closed _ = false

-- ---- sites from one place to another

record Seen (ts : List Token) (xs : List Site) (from to : ℕ) : Type 0 where
  rises : from ≤ to
  are : AreSites ts xs from to

module _ (ts : List Token) where
  -- no `(` stands there
  abbrev Shut : ℕ → Type 0
  Shut at = kind_at ts at ≢ kinds.LeftParenthesis

  none : (at : ℕ) → NoneCalled ts at at
  none at p lo hi m = absurd (omega (arith, lo, hi))

  none_then : (a b c : ℕ) → NoneCalled ts a b → NoneCalled ts b c → NoneCalled ts a c
  none_then a b c f g at lo hi m = elim (cases_lt at b) [ inl lt ↦ f at lo lt m | inr ge ↦ g at ge hi m ]

  are_then : (xs ys : List Site) (a b c : ℕ) → a ≤ b → b ≤ c → AreSites ts xs a b → AreSites ts ys b c → AreSites ts (xs ++ ys) a c
  are_then [] [] a b c le up f g = none_then a b c f g
  are_then [] (CallSite t ∷ ys) a b c le up f g = (g.0, omega (arith, le, g.1), g.2, none_then a b g.0 f g.3, g.4, g.5, g.6)
  are_then [] (BodySite d ∷ ys) a b c le up f g = (g.0, g.1, omega (arith, le, g.2), g.3, none_then a b g.0 f g.4, g.5, g.6)
  are_then (CallSite t ∷ xs) ys a b c le up f g = (f.0, f.1, omega (arith, f.2, up), f.3, f.4, f.5, are_then xs ys (f.0 + 1) b c (omega (arith, f.2)) up f.6 g)
  are_then (BodySite d ∷ xs) ys a b c le up f g = (f.0, f.1, f.2, omega (arith, f.3, up), f.4, f.5, are_then xs ys f.1 b c f.3 up f.6 g)

  both : (xs ys : List Site) (a b c : ℕ) → Seen ts xs a b → Seen ts ys b c → Seen ts (xs ++ ys) a c
  both xs ys a b c f g = record { rises = omega (arith, f.rises, g.rises); are = are_then xs ys a b c f.rises g.rises f.are g.are }

  behind : (xs : List Site) (a b c : ℕ) → Seen ts [] a b → Seen ts xs b c → Seen ts xs a c
  behind xs a b c f g = both [] xs a b c f g

  before : (xs : List Site) (a b c : ℕ) → Seen ts xs a b → Seen ts [] b c → Seen ts xs a c
  before xs a b c f g = let P : List Site → Type 0 = λ y. Seen ts y a c in subst P (append-nil xs) (both xs [] a b c f g)

  -- ---- tokens without sites

  nothing : (at to : ℕ) → at ≡ to → Seen ts [] at to
  nothing at to e = record { rises = omega (arith, e); are = λ p lo hi m. absurd (omega (arith, e, lo, hi)) }

  one : (at to : ℕ) → to ≡ at + 1 → (IsCalled ts at → ⊥) → Seen ts [] at to
  one at to e apart =
      let P : ℕ → Type 0 = λ y. IsCalled ts y in
      record { rises = omega (arith, e); are = λ p lo hi m. let q : p ≡ at = omega (arith, e, lo, hi) in apart (subst P q m) }

  no_name : (at to : ℕ) → to ≡ at + 1 → is_name (kind_at ts at) ≡ false → Seen ts [] at to
  no_name at to e f = one at to e (λ m. true≢false (sym m.name ∙ f))

  token : (kind : TokenKind) (at to : ℕ) → to ≡ at + 1 → Is ts at kind → is_name kind ≡ false → Seen ts [] at to
  token kind at to e h f = no_name at to e (ap is_name h ∙ f)

  -- with no `(` behind it
  alone : (at to : ℕ) → to ≡ at + 1 → Shut to → Seen ts [] at to
  alone at to e shut =
      let P : ℕ → Type 0 = λ y. Is ts y kinds.LeftParenthesis in
      one at to e (λ m. shut (subst P (sym e) m.opened))

  -- a name of a member or of a class
  other : (last at to : ℕ) → at ≡ last + 1 → to ≡ at + 1 → names_no_function (kind_at ts last) ≡ true → Seen ts [] at to
  other last at to e f h = one at to f (λ m. true≢false (sym h ∙ m.bare last (sym e)))

  bare : (last at : ℕ) → at ≡ last + 1 → names_no_function (kind_at ts last) ≡ false → IsBare ts at
  bare last at e f p q =
      let P : ℕ → Type 0 = λ y. names_no_function (kind_at ts y) ≡ false in
      let s : last ≡ p = omega (arith, e, q) in
      subst P s f

  bare_by : (kind : TokenKind) (last at : ℕ) → at ≡ last + 1 → Is ts last kind → names_no_function kind ≡ false → IsBare ts at
  bare_by kind last at e h f = bare last at e (ap names_no_function h ∙ f)

  shut_by : (kind : TokenKind) (at : ℕ) → Is ts at kind → kind ≢ kinds.LeftParenthesis → Shut at
  shut_by kind at h apart = λ q. apart (sym h ∙ q)

  same_bare : (at to : ℕ) → at ≡ to → IsBare ts at → IsBare ts to
  same_bare at to e f = let P : ℕ → Type 0 = λ y. IsBare ts y in subst P e f

  same_shut : (at to : ℕ) → at ≡ to → Shut to → Shut at
  same_shut at to e s = let P : ℕ → Type 0 = λ y. Shut y in subst P (sym e) s

  -- tokens around the sites
  abbrev Around : TokenKind → TokenKind → Type 0
  Around opening closing = (is_name opening ≡ false) × (names_no_function opening ≡ false) × (is_name closing ≡ false) × (closing ≢ kinds.LeftParenthesis)

  between : (xs : List Site) (opening closing : TokenKind) (at b to : ℕ) → Around opening closing → Is ts at opening → Is ts b closing → to ≡ b + 1 → (IsBare ts (at + 1) → Shut b → Seen ts xs (at + 1) b) → Seen ts xs at to
  between xs opening closing at b to w h i e f =
      let inside = f (bare_by opening at (at + 1) refl h w.1) (shut_by closing b i w.3) in
      behind xs at (at + 1) to (token opening at (at + 1) refl h w.0) (before xs (at + 1) b to inside (token closing b to e i w.2))

  -- ---- parts without expressions

  may_seen : (kind : TokenKind) (stands : Bool) (at to : ℕ) → is_name kind ≡ false → May ts stands kind at to → Seen ts [] at to
  may_seen kind true at to f h = token kind at to h.1 h.0 f
  may_seen kind false at to f h = nothing at to h

  may_bare : (kind : TokenKind) (stands : Bool) (at to : ℕ) → names_no_function kind ≡ false → May ts stands kind at to → IsBare ts at → IsBare ts to
  may_bare kind true at to f h c = bare_by kind at to h.1 h.0 f
  may_bare kind false at to f h c = same_bare at to h c

  may_shut : (kind : TokenKind) (stands : Bool) (at to : ℕ) → kind ≢ kinds.LeftParenthesis → May ts stands kind at to → Shut to → Shut at
  may_shut kind true at to f h s = shut_by kind at h.0 f
  may_shut kind false at to f h s = same_shut at to h s

  visibility_seen : (visibility : Option Visibility) (at to : ℕ) → MayBeVisible ts visibility at to → Seen ts [] at to
  visibility_seen None at to h = nothing at to h
  visibility_seen (Some v) at to h = no_name at to h.1 (visibility_plain (kind_at ts at) v h.0)

  alternatives_seen : (more : List Token) (at to : ℕ) → Alternatives ts more at to → Shut to → Seen ts [] at to × Shut at
  alternatives_seen [] at to h s = (nothing at to h, same_shut at to h s)
  alternatives_seen (t ∷ more) at to h s =
      let r = alternatives_seen more h.0 to h.3 s in
      let name = alone (at + 1) h.0 h.2.2 r.1 in
      (behind [] at (at + 1) to (token kinds.Bar at (at + 1) refl h.1 refl) (behind [] (at + 1) h.0 to name r.0), shut_by kinds.Bar at h.1 (λ q. cc))

  type_seen : (type : TypeTree) (at to : ℕ) → Types ts type at to → Shut to → Seen ts [] at to
  type_seen (Nullable first t) at to h s = behind [] at (at + 1) to (token kinds.Question at (at + 1) refl h.1 refl) (alone (at + 1) to h.2.2 s)
  type_seen (Union t more) at to h s =
      let r = alternatives_seen more h.0 to h.2 s in
      behind [] at h.0 to (alone at h.0 h.1.2 r.1) r.0

  may_type_seen : (type : Option TypeTree) (at to : ℕ) → MayBeTyped ts type at to → Shut to → Seen ts [] at to
  may_type_seen None at to h s = nothing at to h
  may_type_seen (Some type) at to h s = type_seen type at to h s

  return_seen : (type : Option TypeTree) (at to : ℕ) → MayReturn ts type at to → Shut to → Seen ts [] at to
  return_seen None at to h s = nothing at to h
  return_seen (Some type) at to h s = behind [] at (at + 1) to (token kinds.Colon at (at + 1) refl h.0 refl) (type_seen type (at + 1) to h.1 s)

  operates_seen : (t : Token) (o : BinaryOperator) (at to : ℕ) → Operates ts t o at to → Seen ts [] at to × IsBare ts to × Shut at
  operates_seen t binaries.Elvis at to h =
      let p = operator_plain (kind_at ts at) (kind_at ts (at + 1)) binaries.Elvis h.0 in
      let q = elvis_next (kind_at ts at) (kind_at ts (at + 1)) h.0 in
      let e : to ≡ at + 1 + 1 = omega (arith, h.1) in
      (behind [] at (at + 1) to (no_name at (at + 1) refl p.0) (token kinds.Colon (at + 1) to e q refl), bare_by kinds.Colon (at + 1) to e q refl, p.2)
  operates_seen t o at to h =
      let p = operator_plain (kind_at ts at) (kind_at ts (at + 1)) o h.0 in
      (no_name at to h.1 p.0, bare at to h.1 p.1, p.2)

  assigns_seen : (o : AssignmentOperator) (at to : ℕ) → Assigns ts o at to → Seen ts [] at to × IsBare ts to × Shut at
  assigns_seen assignments.Reference at to h =
      let p = assignment_plain (kind_at ts at) (kind_at ts (at + 1)) assignments.Reference h.0 in
      let q = reference_next (kind_at ts at) (kind_at ts (at + 1)) h.0 in
      let e : to ≡ at + 1 + 1 = omega (arith, h.1) in
      (behind [] at (at + 1) to (no_name at (at + 1) refl p.0) (token kinds.Ampersand (at + 1) to e q refl), bare_by kinds.Ampersand (at + 1) to e q refl, p.2)
  assigns_seen o at to h =
      let p = assignment_plain (kind_at ts at) (kind_at ts (at + 1)) o h.0 in
      (no_name at to h.1 p.0, bare at to h.1 p.1, p.2)

  captured_item : (x : Item) (at to : ℕ) → ItemReads ts Free captured x at to → Seen ts [] at to
  captured_item (Captured t) at to h = token kinds.Variable at to h.2 h.1 refl
  captured_item x at to h = absurd h

  captured_steps : (xs : Steps) (at to : ℕ) → Repeats ts Free (further captured) xs at to → Seen ts [] at to
  captured_steps no_step at to h = nothing at to h
  captured_steps (step (Further x) xs) at to h =
      let i = behind [] at (at + 1) h.0 (token kinds.Comma at (at + 1) refl h.1.0 refl) (captured_item x (at + 1) h.0 h.1.1) in
      behind [] at h.0 to i (captured_steps xs h.0 to h.2)
  captured_steps (step x xs) at to h = absurd (no_further ts x captured at h.0 refl h.1)

  captures_seen : (es : Items) (at to : ℕ) → MayCapture ts (has_items es) (Lists ts Free captured es) at to → Seen ts [] at to
  captures_seen no_item at to h = nothing at to h
  captures_seen (items x xs comma) at to h =
      let b = h.1 in
      let v = b.2 in
      let i = captured_item x (at + 1 + 1) v.0 v.2 in
      let j = behind [] v.0 v.1 b.0 (captured_steps xs v.0 v.1 v.3) (may_seen kinds.Comma comma v.1 b.0 refl v.4) in
      let k = between [] kinds.LeftParenthesis kinds.RightParenthesis (at + 1) b.0 to (refl, refl, refl, λ q. cc) b.1 b.3 b.4 (λ c s. behind [] (at + 1 + 1) v.0 b.0 i j) in
      behind [] at (at + 1) to (token kinds.Use at (at + 1) refl h.0 refl) k

  body_shut : (body : Body) (at to : ℕ) → Bodies ts Free body at to → Shut at
  body_shut (Held first last) at to h = shut_by kinds.LeftBrace at h.0 (λ q. cc)
  body_shut (Read statements) at to h = absurd h

  body_seen : (body : Body) (n at to : ℕ) → Bodies ts Free body at to → Seen ts (body_sites n body) at to
  body_seen (Held first last) n at to h =
      let i = body_inside ts Free (Held first last) at to h in
      record { rises = omega (arith, i.0); are = (at, to, omega arith, omega arith, none at, h, none to) }
  body_seen (Read statements) n at to h = absurd h

  -- ---- repeated parts

  -- what ends with an expression ends before no `(`
  abbrev Ends : StepSort → ℕ → Type 0
  Ends (operation j) to = Shut to
  Ends (further sort) to = Shut to
  Ends _ to = Unit {0}

  operation_shut : (x : Step) (j at to : ℕ) → StepReads ts Free (operation j) x at to → Shut at
  operation_shut (Operation t o e) j at to h = let r = operates_seen t o at h.0 h.2 in r.2
  operation_shut Push j at to h = absurd h.0
  operation_shut (Index e) j at to h = absurd h.0
  operation_shut (Property nullsafe name es) j at to h = absurd h.1
  operation_shut (Scoped t es) j at to h = absurd (true≢false (sym h.0))
  operation_shut (Call es) j at to h = absurd h.0
  operation_shut Increment j at to h = absurd h.0
  operation_shut Decrement j at to h = absurd h.0
  operation_shut (Part t) j at to h = absurd h.0
  operation_shut (Inserted e) j at to h = absurd h.0
  operation_shut (Further x) j at to h = absurd h

  further_shut : (x : Step) (sort : ItemSort) (at to : ℕ) → StepReads ts Free (further sort) x at to → Shut at
  further_shut (Further x) sort at to h = shut_by kinds.Comma at h.0 (λ q. cc)
  further_shut x sort at to h = absurd (no_further ts x sort at to refl h)

  suffix_shut : (x : Step) (at to : ℕ) → is_call x ≡ false → StepReads ts Free suffix x at to → Shut at
  suffix_shut x at to e h =
      let r = call_or_above ts Free x at to e h in
      λ q. let one : J ts at ≡ 1 = rw q refl in omega (arith, r, one)

  ends_before : (xs : Steps) (sort : StepSort) (at to : ℕ) → Repeats ts Free sort xs at to → Ends sort to → Ends sort at
  ends_before xs suffix at to h e = tt
  ends_before xs class_suffix at to h e = tt
  ends_before xs part at to h e = tt
  ends_before no_step (operation j) at to h e = same_shut at to h e
  ends_before (step x xs) (operation j) at to h e = operation_shut x j at h.0 h.1
  ends_before no_step (further sort) at to h e = same_shut at to h e
  ends_before (step x xs) (further sort) at to h e = further_shut x sort at h.0 h.1

  -- ---- expressions

  mutual
    reads_seen : (t : Tree) (n : ℕ) (pattern : Bool) (k at to : ℕ) → Reads ts Free pattern k t at to → IsBare ts at → Shut to → Seen ts (sites n t) at to
    reads_seen (node t f) n pattern k at to h c s = form_seen f n pattern k at to h.1 c (λ e. s)

    form_seen : (f : Form) (n : ℕ) (pattern : Bool) (k at to : ℕ) → Forms ts Free pattern k f at to → IsBare ts at → (is_closed f ≡ false → Shut to) → Seen ts (form_sites n f) at to
    form_seen (Single leaves.Name) n pattern k at to h c s = alone at to h.1 (s refl)
    form_seen (Single leaf) n pattern k at to h c s = no_name at to h.1 (ap is_name_leaf h.0)
    form_seen (Brackets e) n pattern k at to h c s =
        let b = h.0 in
        let m = deeper n in
        between (sites m e) kinds.LeftParenthesis kinds.RightParenthesis at b.0 to (refl, refl, refl, λ q. cc) b.1 b.3 b.4 (λ c s. reads_seen e m false loosest (at + 1) b.0 b.2 c s)
    form_seen (Array styles.Brackets es) n pattern k at to h c s =
        let b = h.1 in
        let m = deeper n in
        between (items_sites m es) kinds.LeftBracket kinds.RightBracket at b.0 to (refl, refl, refl, λ q. cc) b.1 b.3 b.4 (λ c s. items_seen es m element (at + 1) b.0 b.2 c s)
    form_seen (Array styles.Array es) n pattern k at to h c s =
        let b = h.2 in
        let m = deeper n in
        behind (items_sites m es) at (at + 1) to (token kinds.Array at (at + 1) refl h.1 refl)
        (between (items_sites m es) kinds.LeftParenthesis kinds.RightParenthesis (at + 1) b.0 to (refl, refl, refl, λ q. cc) b.1 b.3 b.4 (λ c s. items_seen es m element (at + 1 + 1) b.0 b.2 c s))
    form_seen (Array styles.List es) n pattern k at to h c s =
        let b = h.2 in
        let m = deeper n in
        behind (items_sites m es) at (at + 1) to (token kinds.List at (at + 1) refl h.1 refl)
        (between (items_sites m es) kinds.LeftParenthesis kinds.RightParenthesis (at + 1) b.0 to (refl, refl, refl, λ q. cc) b.1 b.3 b.4 (λ c s. items_seen es m element (at + 1 + 1) b.0 b.2 c s))
    form_seen (IsSet es) n pattern k at to h c s =
        let b = h.2 in
        let m = deeper n in
        behind (items_sites m es) at (at + 1) to (token kinds.IsSet at (at + 1) refl h.1 refl)
        (between (items_sites m es) kinds.LeftParenthesis kinds.RightParenthesis (at + 1) b.0 to (refl, refl, refl, λ q. cc) b.1 b.3 b.4 (λ c s. items_seen es m expression (at + 1 + 1) b.0 b.2 c s))
    form_seen (Empty e) n pattern k at to h c s =
        let b = h.1 in
        let m = deeper n in
        behind (sites m e) at (at + 1) to (token kinds.Empty at (at + 1) refl h.0 refl)
        (between (sites m e) kinds.LeftParenthesis kinds.RightParenthesis (at + 1) b.0 to (refl, refl, refl, λ q. cc) b.1 b.3 b.4 (λ c s. reads_seen e m false loosest (at + 1 + 1) b.0 b.2 c s))
    form_seen (Exit es) n pattern k at to h c s =
        behind (arguments_sites n es) at (at + 1) to (no_name at (at + 1) refl (exit_plain (kind_at ts at) h.0)) (arguments_seen es n true (at + 1) to h.1)
    form_seen (New class es) n pattern k at to h c s =
        let a = class_seen class n at h.0 h.2 h.3 in
        let b = arguments_seen es n true h.0 to h.4 in
        behind (class_sites n class ++ arguments_sites n es) at (at + 1) to (token kinds.New at (at + 1) refl h.2 refl) (both (class_sites n class) (arguments_sites n es) (at + 1) h.0 to a b)
    form_seen (Match e arms) n pattern k at to h c s =
        let m = deeper n in
        let b = h.2 in
        let d = h.3 in
        let x = between (sites m e) kinds.LeftParenthesis kinds.RightParenthesis (at + 1) b.0 h.0 (refl, refl, refl, λ q. cc) b.1 b.3 b.4 (λ c s. reads_seen e m false loosest (at + 1 + 1) b.0 b.2 c s) in
        let y = between (items_sites m arms) kinds.LeftBrace kinds.RightBrace h.0 d.0 to (refl, refl, refl, λ q. cc) d.1 d.3 d.4 (λ c s. items_seen arms m arm (h.0 + 1) d.0 d.2 c s) in
        behind (sites m e ++ items_sites m arms) at (at + 1) to (token kinds.Match at (at + 1) refl h.1 refl) (both (sites m e) (items_sites m arms) (at + 1) h.0 to x y)
    form_seen (Closure static reference parameters captures type body) n pattern k at to h c s =
        let m = deeper n in
        let b = h.8 in
        let x = behind [] at h.0 (h.0 + 1) (may_seen kinds.Static static at h.0 refl h.5) (token kinds.Function h.0 (h.0 + 1) refl h.6 refl) in
        let y = behind [] at (h.0 + 1) h.1 x (may_seen kinds.Ampersand reference (h.0 + 1) h.1 refl h.7) in
        let z = between (items_sites m parameters) kinds.LeftParenthesis kinds.RightParenthesis h.1 b.0 h.2 (refl, refl, refl, λ q. cc) b.1 b.3 b.4 (λ c s. items_seen parameters m parameter (h.1 + 1) b.0 b.2 c s) in
        let v = behind [] h.2 h.3 h.4 (captures_seen captures h.2 h.3 h.9) (return_seen type h.3 h.4 h.10 (body_shut body h.4 to h.11)) in
        both (items_sites m parameters) (body_sites n body) at h.4 to (before (items_sites m parameters) at h.2 h.4 (behind (items_sites m parameters) at h.1 h.2 y z) v) (body_seen body n h.4 to h.11)
    form_seen (Arrow static reference parameters type e) n pattern k at to h c s =
        let m = deeper n in
        let l = deeper m in
        let b = h.7 in
        let x = behind [] at h.0 (h.0 + 1) (may_seen kinds.Static static at h.0 refl h.4) (token kinds.Fn h.0 (h.0 + 1) refl h.5 refl) in
        let y = behind [] at (h.0 + 1) h.1 x (may_seen kinds.Ampersand reference (h.0 + 1) h.1 refl h.6) in
        let z = between (items_sites l parameters) kinds.LeftParenthesis kinds.RightParenthesis h.1 b.0 h.2 (refl, refl, refl, λ q. cc) b.1 b.3 b.4 (λ c s. items_seen parameters l parameter (h.1 + 1) b.0 b.2 c s) in
        let v = return_seen type h.2 h.3 h.8 (shut_by kinds.DoubleArrow h.3 h.9 (λ q. cc)) in
        let w = reads_seen e m false loosest (h.3 + 1) to h.10 (bare_by kinds.DoubleArrow h.3 (h.3 + 1) refl h.9 refl) (s refl) in
        both (items_sites l parameters) (sites m e) at h.3 to (before (items_sites l parameters) at h.2 h.3 (behind (items_sites l parameters) at h.1 h.2 y z) v)
        (behind (sites m e) h.3 (h.3 + 1) to (token kinds.DoubleArrow h.3 (h.3 + 1) refl h.9 refl) w)
    form_seen (Text parts) n pattern k at to h c s =
        let b = h.0 in
        between (steps_sites n parts) kinds.TextStart kinds.TextEnd at b.0 to (refl, refl, refl, λ q. cc) b.1 b.3 b.4 (λ c s. steps_seen parts n part (at + 1) b.0 b.2 tt)
    form_seen (Post e ss) n pattern k at to h c s =
        both (called e ss ++ sites n e) (steps_sites n ss) at h.0 to (base_seen e ss n at h.0 to h.3 h.4 h.2 c) (steps_seen ss n suffix h.0 to h.4 tt)
    form_seen (Prefix o e) n pattern k at to h c s =
        let m = deeper n in
        let p = prefix_plain (kind_at ts at) o h.1 in
        behind (sites m e) at (at + 1) to (no_name at (at + 1) refl p.0) (reads_seen e m false (prefix_stratum o) (at + 1) to h.2 (bare at (at + 1) refl p.1) (s refl))
    form_seen (Assignment target o e) n pattern k at to h c s =
        let m = deeper n in
        let p = assigns_seen o h.0 h.1 h.5 in
        let x = reads_seen target m true 4 at h.0 h.4 c p.2 in
        let y = reads_seen e m false 24 h.1 to h.6 p.1 (s refl) in
        both (sites m target) (sites m e) at h.0 to x (behind (sites m e) h.0 h.1 to p.0 y)
    form_seen (Chain j e ss) n pattern k at to h c s =
        let m = left_level (is_operation e) n in
        let x = reads_seen e m false (tighter j) at h.0 h.4 c (ends_before ss (operation j) h.0 to h.5 (s refl)) in
        both (sites m e) (steps_sites n ss) at h.0 to x (steps_seen ss n (operation j) h.0 to h.5 (s refl))
    form_seen (Binary d t o e) n pattern k at to h c s =
        let m = left_level (is_operation d) n in
        let p = operates_seen t o h.0 h.1 h.5 in
        let x = reads_seen d m false (binary_stratum o - 1) at h.0 h.4 c p.2 in
        let y = reads_seen e (deeper n) false (right_side (fixity o) (binary_stratum o)) h.1 to h.6 p.1 (s refl) in
        both (sites m d) (sites (deeper n) e) at h.0 to x (behind (sites (deeper n) e) h.0 h.1 to p.0 y)
    form_seen (Conditional x y z) n pattern k at to h c s =
        let m = deeper n in
        let a = reads_seen x n false 21 at h.0 h.3 c (shut_by kinds.Question h.0 h.4 (λ q. cc)) in
        let b = reads_seen y m false loosest (h.0 + 1) h.1 h.5 (bare_by kinds.Question h.0 (h.0 + 1) refl h.4 refl) (shut_by kinds.Colon h.1 h.6 (λ q. cc)) in
        let d = reads_seen z m false 21 (h.1 + 1) to h.7 (bare_by kinds.Colon h.1 (h.1 + 1) refl h.6 refl) (s refl) in
        let u = behind (sites m y) h.0 (h.0 + 1) h.1 (token kinds.Question h.0 (h.0 + 1) refl h.4 refl) b in
        let v = behind (sites m z) h.1 (h.1 + 1) to (token kinds.Colon h.1 (h.1 + 1) refl h.6 refl) d in
        both (sites n x ++ sites m y) (sites m z) at h.1 to (both (sites n x) (sites m y) at h.0 h.1 a u) v

    -- what something is appended to
    base_seen : (t : Tree) (ss : Steps) (n at b to : ℕ) → Reads ts Free false 0 t at b → Repeats ts Free suffix ss b to → IsSomeStep ss → IsBare ts at → Seen ts (called t ss ++ sites n t) at b
    base_seen (node t (Single leaves.Name)) no_step n at b to h r some c = absurd some
    base_seen (node t (Single leaves.Name)) (step (Call es) ss) n at b to h r some c =
        let P : ℕ → Type 0 = λ y. Is ts y kinds.LeftParenthesis in
        let is : IsCalled ts at = record { name = ap is_name_leaf h.1.0; opened = subst P h.1.1 r.1.1.1; bare = c } in
        let e : b ≡ at + 1 = h.1.1 in
        record {
          rises = omega (arith, e);
          are = (at, omega arith, omega (arith, e), none at, is, h.0, λ p lo hi m. absurd (omega (arith, lo, hi, e)));
        }
    base_seen (node t (Single leaves.Name)) (step x ss) n at b to h r some c = alone at b h.1.1 (suffix_shut x b r.0 refl r.1)
    base_seen (node t (New class es)) ss n at b to h r some c = absurd (omega (arith, h.1.1))
    base_seen (node t (Arrow static reference parameters type e)) ss n at b to h r some c = absurd (omega (arith, h.1.12))
    base_seen (node t (Post e ps)) ss n at b to h r some c = absurd (omega (arith, h.1.1))
    base_seen (node t (Prefix o e)) ss n at b to h r some c = absurd (omega (arith, h.1.0))
    base_seen (node t (Assignment target o e)) ss n at b to h r some c = absurd (omega (arith, h.1.2))
    base_seen (node t (Chain j e ps)) ss n at b to h r some c = absurd (omega (arith, h.1.1, h.1.2))
    base_seen (node t (Binary d u o e)) ss n at b to h r some c = let q = operator_bounds o in absurd (omega (arith, h.1.2, q.0))
    base_seen (node t (Conditional x y z)) ss n at b to h r some c = absurd (omega (arith, h.1.2))
    base_seen (node t f) ss n at b to h r some c = form_seen f n false 0 at b h.1 c (λ e. absurd (true≢false e))

    items_seen : (es : Items) (n : ℕ) (sort : ItemSort) (at to : ℕ) → Lists ts Free sort es at to → IsBare ts at → Shut to → Seen ts (items_sites n es) at to
    items_seen no_item n sort at to h c s = nothing at to h
    items_seen (items x xs comma) n sort at to h c s =
        let t = may_shut kinds.Comma comma h.1 to (λ q. cc) h.4 s in
        let u = ends_before xs (further sort) h.0 h.1 h.3 t in
        let rest = before (steps_sites n xs) h.0 h.1 to (steps_seen xs n (further sort) h.0 h.1 h.3 t) (may_seen kinds.Comma comma h.1 to refl h.4) in
        both (item_sites n x) (steps_sites n xs) at h.0 to (item_seen x n sort at h.0 h.2 c u) rest

    item_seen : (x : Item) (n : ℕ) (sort : ItemSort) (at to : ℕ) → ItemReads ts Free sort x at to → IsBare ts at → Shut to → Seen ts (item_sites n x) at to
    item_seen (Positional e) n argument at to h c s = reads_seen e n false loosest at to h.1 c s
    item_seen (Positional e) n expression at to h c s = reads_seen e n false loosest at to h c s
    item_seen (Spread e) n argument at to h c s =
        let r = reads_seen e n false loosest (at + 1) to h.1 (bare_by kinds.Ellipsis at (at + 1) refl h.0 refl) s in
        behind (sites n e) at (at + 1) to (token kinds.Ellipsis at (at + 1) refl h.0 refl) r
    item_seen (Spread e) n element at to h c s =
        let r = reads_seen e n false loosest (at + 1) to h.1 (bare_by kinds.Ellipsis at (at + 1) refl h.0 refl) s in
        behind (sites n e) at (at + 1) to (token kinds.Ellipsis at (at + 1) refl h.0 refl) r
    item_seen (Named t e) n argument at to h c s =
        let two : at + 2 ≡ at + 1 + 1 = omega arith in
        let r = reads_seen e n false loosest (at + 2) to h.3 (bare_by kinds.Colon (at + 1) (at + 2) two h.2 refl) s in
        let name = alone at (at + 1) refl (shut_by kinds.Colon (at + 1) h.2 (λ q. cc)) in
        behind (sites n e) at (at + 1) to name (behind (sites n e) (at + 1) (at + 2) to (token kinds.Colon (at + 1) (at + 2) two h.2 refl) r)
    item_seen (Element reference e) n element at to h c s =
        let r = reads_seen e n true loosest h.0 to h.2 (may_bare kinds.Ampersand reference at h.0 refl h.1 c) s in
        behind (sites n e) at h.0 to (may_seen kinds.Ampersand reference at h.0 refl h.1) r
    item_seen (KeyedElement key reference e) n element at to h c s =
        let k = reads_seen key n false loosest at h.0 h.2 c (shut_by kinds.DoubleArrow h.0 h.3 (λ q. cc)) in
        let arrow = bare_by kinds.DoubleArrow h.0 (h.0 + 1) refl h.3 refl in
        let r = reads_seen e n true loosest h.1 to h.5 (may_bare kinds.Ampersand reference (h.0 + 1) h.1 refl h.4 arrow) s in
        let marks = behind [] h.0 (h.0 + 1) h.1 (token kinds.DoubleArrow h.0 (h.0 + 1) refl h.3 refl) (may_seen kinds.Ampersand reference (h.0 + 1) h.1 refl h.4) in
        both (sites n key) (sites n e) at h.0 to k (behind (sites n e) h.0 h.1 to marks r)
    item_seen (Parameter visibility type reference variadic t value) n parameter at to h c s =
        let d = shut_by kinds.Variable h.3 h.9 (λ q. cc) in
        let e = may_shut kinds.Ellipsis variadic h.2 h.3 (λ q. cc) h.7 d in
        let f = may_shut kinds.Ampersand reference h.1 h.2 (λ q. cc) h.6 e in
        let u = behind [] at h.0 h.1 (visibility_seen visibility at h.0 h.4) (may_type_seen type h.0 h.1 h.5 f) in
        let v = behind [] at h.1 h.2 u (may_seen kinds.Ampersand reference h.1 h.2 refl h.6) in
        let w = behind [] at h.2 h.3 v (may_seen kinds.Ellipsis variadic h.2 h.3 refl h.7) in
        let x = behind [] at h.3 (h.3 + 1) w (token kinds.Variable h.3 (h.3 + 1) refl h.9 refl) in
        behind (default_sites n value) at (h.3 + 1) to x (default_seen value n (h.3 + 1) to h.10 s)
    item_seen (Captured t) n captured at to h c s = token kinds.Variable at to h.2 h.1 refl
    item_seen (Arm conditions e) n arm at to h c s =
        let x = items_seen conditions n expression at h.0 h.2 c (shut_by kinds.DoubleArrow h.0 h.3 (λ q. cc)) in
        let y = reads_seen e n false loosest (h.0 + 1) to h.4 (bare_by kinds.DoubleArrow h.0 (h.0 + 1) refl h.3 refl) s in
        both (items_sites n conditions) (sites n e) at h.0 to x (behind (sites n e) h.0 (h.0 + 1) to (token kinds.DoubleArrow h.0 (h.0 + 1) refl h.3 refl) y)
    item_seen (DefaultArm comma e) n arm at to h c s =
        let x = behind [] at (at + 1) h.0 (token kinds.Default at (at + 1) refl h.1 refl) (may_seen kinds.Comma comma (at + 1) h.0 refl h.2) in
        let y = reads_seen e n false loosest (h.0 + 1) to h.4 (bare_by kinds.DoubleArrow h.0 (h.0 + 1) refl h.3 refl) s in
        behind (sites n e) at h.0 to x (behind (sites n e) h.0 (h.0 + 1) to (token kinds.DoubleArrow h.0 (h.0 + 1) refl h.3 refl) y)
    item_seen _ n _ at to h c s = absurd h

    default_seen : (value : Default) (n at to : ℕ) → Defaults ts Free value at to → Shut to → Seen ts (default_sites n value) at to
    default_seen no_default n at to h s = nothing at to h
    default_seen (default e) n at to h s =
        let r = reads_seen e n false loosest (at + 1) to h.1 (bare_by kinds.Assign at (at + 1) refl h.0 refl) s in
        behind (sites n e) at (at + 1) to (token kinds.Assign at (at + 1) refl h.0 refl) r

    arguments_seen : (es : Arguments) (n : ℕ) (callable : Bool) (at to : ℕ) → MayBeCalled ts Free callable es at to → Seen ts (arguments_sites n es) at to
    arguments_seen no_arguments n callable at to h = nothing at to h.0
    arguments_seen (arguments es) n callable at to h =
        let b = h.1 in
        let m = deeper n in
        between (items_sites m es) kinds.LeftParenthesis kinds.RightParenthesis at b.0 to (refl, refl, refl, λ q. cc) b.1 b.3 b.4 (λ c s. items_seen es m argument (at + 1) b.0 b.2 c s)

    -- behind `new`
    class_seen : (class : ClassReference) (n at to : ℕ) → Is ts at kinds.New → Classes ts Free class (at + 1) to → Seen ts (class_sites n class) (at + 1) to
    class_seen (NamedClass t) n at to new h = other at (at + 1) to refl h.2 (ap names_no_function new)
    class_seen (VariableClass t ss) n at to new h =
        behind (steps_sites n ss) (at + 1) (at + 1 + 1) to (token kinds.Variable (at + 1) (at + 1 + 1) refl h.1 refl) (steps_seen ss n class_suffix (at + 1 + 1) to h.2 tt)
    class_seen (ScopedClass t u ss) n at to new h =
        let two : at + 1 + 2 ≡ at + 1 + 1 + 1 = omega arith in
        let three : at + 1 + 3 ≡ at + 1 + 2 + 1 = omega arith in
        let x = other at (at + 1) (at + 1 + 1) refl refl (ap names_no_function new) in
        let y = behind [] (at + 1) (at + 1 + 1) (at + 1 + 2) x (token kinds.DoubleColon (at + 1 + 1) (at + 1 + 2) two h.2 refl) in
        let z = behind [] (at + 1) (at + 1 + 2) (at + 1 + 3) y (token kinds.Variable (at + 1 + 2) (at + 1 + 3) three h.4 refl) in
        behind (steps_sites n ss) (at + 1) (at + 1 + 3) to z (steps_seen ss n class_suffix (at + 1 + 3) to h.5 tt)
    class_seen (ComputedClass e) n at to new h =
        let m = deeper n in
        between (sites m e) kinds.LeftParenthesis kinds.RightParenthesis (at + 1) h.0 to (refl, refl, refl, λ q. cc) h.1 h.3 h.4 (λ c s. reads_seen e m false loosest (at + 1 + 1) h.0 h.2 c s)

    -- behind an arrow
    member_seen : (name : MemberName) (n at to : ℕ) → names_no_function (kind_at ts at) ≡ true → Members ts Free name (at + 1) to → Seen ts (member_sites n name) (at + 1) to
    member_seen (NamedMember t) n at to e h = other at (at + 1) to refl h.2 e
    member_seen (ComputedMember x) n at to e h =
        let m = deeper n in
        between (sites m x) kinds.LeftBrace kinds.RightBrace (at + 1) h.0 to (refl, refl, refl, λ q. cc) h.1 h.3 h.4 (λ c s. reads_seen x m false loosest (at + 1 + 1) h.0 h.2 c s)

    steps_seen : (ss : Steps) (n : ℕ) (sort : StepSort) (at to : ℕ) → Repeats ts Free sort ss at to → Ends sort to → Seen ts (steps_sites n ss) at to
    steps_seen no_step n sort at to h e = nothing at to h
    steps_seen (step x xs) n sort at to h e =
        both (step_sites n x) (steps_sites n xs) at h.0 to (step_seen x n sort at h.0 h.1 (ends_before xs sort h.0 to h.2 e)) (steps_seen xs n sort h.0 to h.2 e)

    step_seen : (x : Step) (n : ℕ) (sort : StepSort) (at to : ℕ) → StepReads ts Free sort x at to → Ends sort to → Seen ts (step_sites n x) at to
    step_seen Push n sort at to h e =
        behind [] at (at + 1) to (token kinds.LeftBracket at (at + 1) refl h.1 refl) (token kinds.RightBracket (at + 1) to (omega (arith, h.3)) h.2 refl)
    step_seen (Index x) n sort at to h e =
        let b = h.1 in
        let m = deeper n in
        between (sites m x) kinds.LeftBracket kinds.RightBracket at b.0 to (refl, refl, refl, λ q. cc) b.1 b.3 b.4 (λ c s. reads_seen x m false loosest (at + 1) b.0 b.2 c s)
    step_seen (Property nullsafe name es) n sort at to h e =
        let p = arrow_plain nullsafe in
        let x = member_seen name n at h.0 (ap names_no_function h.2 ∙ p.1) h.3 in
        let y = arguments_seen es n (takes_arguments sort) h.0 to h.4 in
        behind (member_sites n name ++ arguments_sites n es) at (at + 1) to (token (arrow nullsafe) at (at + 1) refl h.2 p.0) (both (member_sites n name) (arguments_sites n es) (at + 1) h.0 to x y)
    step_seen (Scoped t es) n sort at to h e =
        let two : at + 2 ≡ at + 1 + 1 = omega arith in
        let x = behind [] at (at + 1) (at + 2) (token kinds.DoubleColon at (at + 1) refl h.1 refl) (other at (at + 1) (at + 2) refl two (ap names_no_function h.1)) in
        behind (arguments_sites n es) at (at + 2) to x (arguments_seen es n (takes_arguments sort) (at + 2) to h.3)
    step_seen (Call es) n sort at to h e =
        let b = h.1 in
        let m = deeper n in
        between (items_sites m es) kinds.LeftParenthesis kinds.RightParenthesis at b.0 to (refl, refl, refl, λ q. cc) b.1 b.3 b.4 (λ c s. items_seen es m argument (at + 1) b.0 b.2 c s)
    step_seen Increment n sort at to h e = token kinds.Increment at to h.2 h.1 refl
    step_seen Decrement n sort at to h e = token kinds.Decrement at to h.2 h.1 refl
    step_seen (Operation t o x) n (operation j) at to h e =
        let p = operates_seen t o at h.0 h.2 in
        let m = deeper n in
        behind (sites m x) at h.0 to p.0 (reads_seen x m false (tighter (binary_stratum o)) h.0 to h.3 p.1 e)
    step_seen (Operation t o x) n sort at to h e = absurd h.1
    step_seen (Part t) n sort at to h e = no_name at to h.3 (ap is_name (stands_kind ts at t h.1) ∙ part_plain t.kind h.2)
    step_seen (Inserted x) n sort at to h e =
        let b = h.1 in
        let m = deeper n in
        between (sites m x) kinds.InsertionStart kinds.InsertionEnd at b.0 to (refl, refl, refl, λ q. cc) b.1 b.3 b.4 (λ c s. reads_seen x m false loosest (at + 1) b.0 b.2 c s)
    step_seen (Further x) n (further sort) at to h e =
        let r = item_seen x n sort (at + 1) to h.1 (bare_by kinds.Comma at (at + 1) refl h.0 refl) e in
        behind (item_sites n x) at (at + 1) to (token kinds.Comma at (at + 1) refl h.0 refl) r
    step_seen (Further x) n _ at to h e = absurd h

pub tree_seen : (ts : List Token) (t : Tree) (at to levels : ℕ) → Spells ts t at to → IsBare ts at → kind_at ts to ≢ kinds.LeftParenthesis → AreSites ts (sites levels t) at to
tree_seen ts t at to levels h c s = let r = reads_seen ts t levels false loosest at to h c s in r.are
