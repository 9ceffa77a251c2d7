-- What is appended to an expression, to the class of a `new` and to `exit`, as much as there is.
use Rattle.std.proofs.Common.{◌≡◌, ◌≢◌, ℕ, suc, ◌+◌, ◌≤◌, ◌<◌, Bool, true, false, ◌&&◌, List, [], ◌∷◌, refl, sym, ap, subst, ◌∙◌, arith, ◌⊎◌, inl, inr, true≢false}
use Rattle.stan_model_grammar.specs.declared.token.Token.{Token}
use Rattle.stan_model_grammar.specs.declared.token.TokenKind.{TokenKind}
use Rattle.stan_model_grammar.specs.declared.token.TokenKind.TheVariants as kinds
use Rattle.stan_model_grammar.specs.Strata.{kind_at, double_colon}
use Rattle.stan_model_grammar.specs.Trees.{Arguments, no_arguments, arguments, ClassReference, NamedClass, VariableClass, ScopedClass, ComputedClass, Steps, no_step, step, Step, Push, Index, Property, Scoped, Call, Increment, Decrement, Operation, Part, Inserted, Further}
use Rattle.stan_model_grammar.specs.Expressions.{argument, suffix, class_suffix, is_variable, is_scoped, is_without, Stands, MayBeCalled, Classes, Repeats, StepReads}
use Rattle.stan_expr_rules.proofs.InsideLemmas.{steps_go, step_inside, items_go, stands_kind, class_inside}
use Rattle.stan_expr_rules.proofs.Greedy.{J, Near}
use Rattle.stan_expr_law.proofs.Spelled.{Free}
use Rattle.stan_expr_law.proofs.Levels.{Levels, level, takes_covered, Going, pushed, indexed, property, scoped, called, increased, decreased, operated, asked, mark, stratum, onward, ends, places, operator_bounds, going_rises, goes_mark, goes_rises, Leads, Led, leads_more, leads_rise, Law}
use Rattle.stan_expr_law.proofs.LawItems.{ends_by, exact, items_picked, member_picked}
use Rattle.stan_expr_rules.proofs.Choices.{and_false}
use Rattle.stan_expr_rules.proofs.Tables.{arrow_joins, double_colon_bounds}

variable_or_not : (kind : TokenKind) → (kind ≡ kinds.Variable) ⊎ (double_colon kind ≡ 4)
variable_or_not kinds.Variable = inl refl
variable_or_not kind = inr refl

abbrev pub is_call : Step → Bool
is_call (Call es) = true
is_call _ = false

abbrev is_called : Going → Bool
is_called (called es) = true
is_called _ = false

called_or_above : (x : Going) → is_called x ≡ false → 1 < mark x
called_or_above (called es) e = absurd (true≢false e)
called_or_above (scoped t) e = let d = double_colon_bounds t.kind in omega (arith, d.0)
called_or_above (operated sign o x) e = let b = operator_bounds o in omega (arith, b.0)
called_or_above x e = omega arith

module _ (ts : List Token) where
  abbrev pub Past : ℕ → Type 0
  Past to = 4 < J ts to

  leads_again : (x : Going) (w : List Going) (vs : Levels) (at to : ℕ) (l : Leads ts (x ∷ w) vs at to) → Leads ts w vs l.0 to
  leads_again x w vs at to l = leads_more ts w l.1 vs l.0 to (takes_covered vs (stratum x) (onward x) l.1 (going_rises x) l.2) l.4

  -- a step that is no call does not begin as one
  pub call_or_above : (Stops : ℕ → ℕ → ℕ → Type 0) (x : Step) (at to : ℕ) → is_call x ≡ false → StepReads ts Stops suffix x at to → 1 < J ts at
  call_or_above Stops Push at to e h = let m : J ts at ≡ 3 = rw h.1 refl in omega (arith, m)
  call_or_above Stops (Index x) at to e h = let m : J ts at ≡ 3 = rw h.1.1 refl in omega (arith, m)
  call_or_above Stops (Property nullsafe name es) at to e h = let m : J ts at ≡ 3 = rw h.2 (arrow_joins nullsafe (kind_at ts (at + 1))) in omega (arith, m)
  call_or_above Stops (Scoped t es) at to e h =
      let m : J ts at ≡ double_colon (kind_at ts (at + 1)) = rw h.1 refl in
      let d = double_colon_bounds (kind_at ts (at + 1)) in
      omega (arith, m, d.0)
  call_or_above Stops (Call es) at to e h = absurd (true≢false e)
  call_or_above Stops Increment at to e h = let m : J ts at ≡ 4 = rw h.1 refl in omega (arith, m)
  call_or_above Stops Decrement at to e h = let m : J ts at ≡ 4 = rw h.1 refl in omega (arith, m)
  call_or_above Stops (Operation sign o x) at to e h = absurd h.1
  call_or_above Stops (Part t) at to e h = absurd h.0
  call_or_above Stops (Inserted x) at to e h = absurd h.0
  call_or_above Stops (Further x) at to e h = absurd h

  -- A call behind a name is its arguments.
  behind_name : (gs : Steps) (at to : ℕ) → Repeats ts (Near ts) suffix gs at to → Past to
      → (fs : Arguments) × (hs : Steps) × (c : ℕ) × MayBeCalled ts (Near ts) true fs at c × Repeats ts (Near ts) suffix hs c to × ((v : Bool) → places (v && is_without fs) hs ≡ places (v && true) gs)
  behind_name no_step at to h past = let e = ap (J ts) h in (no_arguments, no_step, at, (refl, λ q r. omega (arith, e)), h, λ v. refl)
  behind_name (step (Call es) gs) at to h past = (arguments es, gs, h.0, (refl, h.1.1), h.2, λ v. ap (λ y. places y gs) (and_false v))
  behind_name (step x gs) at to h past = let m = call_or_above (Near ts) x at h.0 refl h.1 in (no_arguments, step x gs, at, (refl, λ q r. m), h, λ v. refl)

  module _ (n : ℕ) (law : Law ts n) where
    abbrev pub Suffixed : List Going → ℕ → Levels → ℕ → ℕ → Type 0
    Suffixed w k vs at to = (gs : Steps) × (o : ℕ) × (rest : List Going) × Repeats ts (Near ts) suffix gs at o × Past o × Leads ts rest (level 1 k vs) o to × ((b : Bool) → ends b w ≡ ends (places b gs) rest)

    -- what is appended to an expression
    pub suffixes_picked : (w : List Going) (k : ℕ) (vs : Levels) (at to : ℕ) → Past to → Leads ts w (level 1 k vs) at to → to ≤ suc n + at → Suffixed w k vs at to
    suffixes_picked [] k vs at to past l le = let e = ap (J ts) l in (no_step, at, [], refl, omega (arith, e), l, λ b. refl)
    suffixes_picked (pushed ∷ w) k vs at to past l le =
        let i = goes_rises ts pushed at l.0 l.3 in
        let r = suffixes_picked w k vs l.0 to past (leads_again pushed w (level 1 k vs) at to l) (omega (arith, i)) in
        (step Push r.0, r.1, r.2, (l.0, (tt, l.3.0, l.3.1, l.3.2), r.3), r.4, r.5, λ b. r.6 true)
    suffixes_picked (indexed x ∷ w) k vs at to past l le =
        let i = goes_rises ts (indexed x) at l.0 l.3 in
        let j = leads_rise ts w l.1 l.0 to l.4 in
        let g = exact ts n law x (at + 1) l.3.0 l.3.2 (ends_by ts kinds.RightBracket l.3.0 l.3.3 refl) (omega (arith, l.3.4, j)) in
        let r = suffixes_picked w k vs l.0 to past (leads_again (indexed x) w (level 1 k vs) at to l) (omega (arith, i)) in
        (step (Index g.0) r.0, r.1, r.2, (l.0, (tt, (l.3.0, l.3.1, g.1, l.3.3, l.3.4)), r.3), r.4, r.5, λ b. r.6 true)
    suffixes_picked (property nullsafe name ∷ w) k vs at to past l le =
        let i = goes_rises ts (property nullsafe name) at l.0 l.3 in
        let j = leads_rise ts w l.1 l.0 to l.4 in
        let g = member_picked ts n law name (at + 1) l.0 l.3.1 (omega (arith, j)) in
        let r = suffixes_picked w k vs l.0 to past (leads_again (property nullsafe name) w (level 1 k vs) at to l) (omega (arith, i)) in
        let a = behind_name r.0 l.0 r.1 r.3 r.4 in
        (step (Property nullsafe g.0 a.0) a.1, r.1, r.2, (a.2, (l.0, tt, l.3.0, g.1, a.3), a.4), r.4, r.5, λ b. r.6 true ∙ ap (λ y. ends y r.2) (sym (a.5 true)))
    suffixes_picked (scoped t ∷ w) k vs at to past l le =
        let i = goes_rises ts (scoped t) at l.0 l.3 in
        let r = suffixes_picked w k vs l.0 to past (leads_again (scoped t) w (level 1 k vs) at to l) (omega (arith, i)) in
        let a = behind_name r.0 l.0 r.1 r.3 r.4 in
        let P : ℕ → Type 0 = λ y. MayBeCalled ts (Near ts) true a.0 y a.2 in (
          step (Scoped t a.0) a.1,
          r.1,
          r.2,
          (a.2, (l.3.0, l.3.1, l.3.2, subst P l.3.3 a.3), a.4),
          r.4,
          r.5,
          λ b. r.6 (is_variable t.kind && true) ∙ ap (λ y. ends y r.2) (sym (a.5 (is_variable t.kind))),
        )
    suffixes_picked (called es ∷ w) k vs at to past l le =
        let i = goes_rises ts (called es) at l.0 l.3 in
        let j = leads_rise ts w l.1 l.0 to l.4 in
        let g = items_picked ts n law es argument (at + 1) l.3.0 l.3.2 (ends_by ts kinds.RightParenthesis l.3.0 l.3.3 refl) (omega (arith, l.3.4, j)) in
        let r = suffixes_picked w k vs l.0 to past (leads_again (called es) w (level 1 k vs) at to l) (omega (arith, i)) in
        (step (Call g.0) r.0, r.1, r.2, (l.0, (tt, (l.3.0, l.3.1, g.1, l.3.3, l.3.4)), r.3), r.4, r.5, λ b. r.6 false)
    suffixes_picked (increased ∷ w) k vs at to past l le =
        let i = goes_rises ts increased at l.0 l.3 in
        let r = suffixes_picked w k vs l.0 to past (leads_again increased w (level 1 k vs) at to l) (omega (arith, i)) in
        (step Increment r.0, r.1, r.2, (l.0, (tt, l.3.0, l.3.1), r.3), r.4, r.5, λ b. r.6 false)
    suffixes_picked (decreased ∷ w) k vs at to past l le =
        let i = goes_rises ts decreased at l.0 l.3 in
        let r = suffixes_picked w k vs l.0 to past (leads_again decreased w (level 1 k vs) at to l) (omega (arith, i)) in
        (step Decrement r.0, r.1, r.2, (l.0, (tt, l.3.0, l.3.1), r.3), r.4, r.5, λ b. r.6 false)
    suffixes_picked (operated sign o x ∷ w) k vs at to past l le =
        let m = goes_mark ts (operated sign o x) at l.0 l.3 in
        let b = operator_bounds o in
        (no_step, at, operated sign o x ∷ w, refl, omega (arith, m, b.0), l, λ c. refl)
    suffixes_picked (asked d x ∷ w) k vs at to past l le = let m = goes_mark ts (asked d x) at l.0 l.3 in (no_step, at, asked d x ∷ w, refl, omega (arith, m), l, λ c. refl)

    abbrev pub Called : List Going → Levels → ℕ → ℕ → Type 0
    Called w vs at to = (fs : Arguments) × (o : ℕ) × (rest : List Going) × MayBeCalled ts (Near ts) true fs at o × Leads ts rest vs o to × (ends false rest ≡ ends false w)

    -- arguments, if some stand there
    pub arguments_picked : (w : List Going) (vs : Levels) (at to : ℕ) → Past to → Leads ts w vs at to → to ≤ suc n + at → Called w vs at to
    arguments_picked [] vs at to past l le = let e = ap (J ts) l in (no_arguments, at, [], (refl, λ q r. omega (arith, e)), l, refl)
    arguments_picked (called es ∷ w) vs at to past l le =
        let j = leads_rise ts w l.1 l.0 to l.4 in
        let g = items_picked ts n law es argument (at + 1) l.3.0 l.3.2 (ends_by ts kinds.RightParenthesis l.3.0 l.3.3 refl) (omega (arith, l.3.4, j)) in
        (arguments g.0, l.0, w, (refl, (l.3.0, l.3.1, g.1, l.3.3, l.3.4)), leads_again (called es) w vs at to l, refl)
    arguments_picked (x ∷ w) vs at to past l le =
        let m = goes_mark ts x at l.0 l.3 in
        let b = called_or_above x refl in
        (no_arguments, at, x ∷ w, (refl, λ q r. omega (arith, m, b)), l, refl)

    abbrev pub ClassSuffixed : Levels → ℕ → ℕ → Type 0
    ClassSuffixed vs at to = (gs : Steps) × (o : ℕ) × Repeats ts (Near ts) class_suffix gs at o × Near ts 2 3 o × Led ts vs o to

    class_stops : (x : Going) (w : List Going) (vs : Levels) (at to : ℕ) → Leads ts (x ∷ w) vs at to → (2 ≤ mark x → 3 < mark x) → ClassSuffixed vs at to
    class_stops x w vs at to l apart =
        let P : ℕ → Type 0 = λ y. 2 ≤ y → 3 < y in
        (no_step, at, refl, subst P (sym (goes_mark ts x at l.0 l.3)) apart, (x ∷ w, l))

    -- what is appended to the variable that holds the class of a `new`
    pub class_suffixes_picked : (w : List Going) (vs : Levels) (at to : ℕ) → Past to → Leads ts w vs at to → to ≤ suc n + at → ClassSuffixed vs at to
    class_suffixes_picked [] vs at to past l le = let e = ap (J ts) l in (no_step, at, refl, λ q. omega (arith, e), ([], l))
    class_suffixes_picked (pushed ∷ w) vs at to past l le =
        let i = goes_rises ts pushed at l.0 l.3 in
        let r = class_suffixes_picked w vs l.0 to past (leads_again pushed w vs at to l) (omega (arith, i)) in
        (step Push r.0, r.1, (l.0, (tt, l.3.0, l.3.1, l.3.2), r.2), r.3, r.4)
    class_suffixes_picked (indexed x ∷ w) vs at to past l le =
        let i = goes_rises ts (indexed x) at l.0 l.3 in
        let j = leads_rise ts w l.1 l.0 to l.4 in
        let g = exact ts n law x (at + 1) l.3.0 l.3.2 (ends_by ts kinds.RightBracket l.3.0 l.3.3 refl) (omega (arith, l.3.4, j)) in
        let r = class_suffixes_picked w vs l.0 to past (leads_again (indexed x) w vs at to l) (omega (arith, i)) in
        (step (Index g.0) r.0, r.1, (l.0, (tt, (l.3.0, l.3.1, g.1, l.3.3, l.3.4)), r.2), r.3, r.4)
    class_suffixes_picked (property nullsafe name ∷ w) vs at to past l le =
        let i = goes_rises ts (property nullsafe name) at l.0 l.3 in
        let j = leads_rise ts w l.1 l.0 to l.4 in
        let g = member_picked ts n law name (at + 1) l.0 l.3.1 (omega (arith, j)) in
        let r = class_suffixes_picked w vs l.0 to past (leads_again (property nullsafe name) w vs at to l) (omega (arith, i)) in
        (step (Property nullsafe g.0 no_arguments) r.0, r.1, (l.0, (l.0, tt, l.3.0, g.1, (refl, λ q. absurd (true≢false (sym q)))), r.2), r.3, r.4)
    class_suffixes_picked (scoped t ∷ w) vs at to past l le =
        elim (variable_or_not t.kind) [
          | inl v ↦
              let i = goes_rises ts (scoped t) at l.0 l.3 in
              let r = class_suffixes_picked w vs l.0 to past (leads_again (scoped t) w vs at to l) (omega (arith, i)) in
              (step (Scoped t no_arguments) r.0, r.1, (l.0, (ap (is_scoped class_suffix) v, l.3.1, l.3.2, (sym l.3.3, λ q. absurd (true≢false (sym q)))), r.2), r.3, r.4)
          | inr four ↦ class_stops (scoped t) w vs at to l (λ q. omega (arith, four))
        ]
    class_suffixes_picked (called es ∷ w) vs at to past l le = class_stops (called es) w vs at to l (λ q. absurd (omega (arith, q)))
    class_suffixes_picked (increased ∷ w) vs at to past l le = class_stops increased w vs at to l (λ q. omega arith)
    class_suffixes_picked (decreased ∷ w) vs at to past l le = class_stops decreased w vs at to l (λ q. omega arith)
    class_suffixes_picked (operated sign o x ∷ w) vs at to past l le = let b = operator_bounds o in class_stops (operated sign o x) w vs at to l (λ q. omega (arith, b.0))
    class_suffixes_picked (asked d x ∷ w) vs at to past l le = class_stops (asked d x) w vs at to l (λ q. omega arith)

    -- its own ones, and then those of a tail
    own_picked : (ss : Steps) (at b c : ℕ) (tail : Steps) → Repeats ts Free class_suffix ss at b → Repeats ts (Near ts) class_suffix tail b c → b ≤ suc n + at → (gs : Steps) × Repeats ts (Near ts) class_suffix gs at c
    own_picked no_step at b c tail h i le = let P : ℕ → Type 0 = λ y. Repeats ts (Near ts) class_suffix tail y c in (tail, subst P (sym h) i)
    own_picked (step Push ss) at b c tail h i le =
        let s = step_inside ts Free Push class_suffix at h.0 h.1 in
        let r = own_picked ss h.0 b c tail h.2 i (omega (arith, s.0)) in
        (step Push r.0, (h.0, h.1, r.1))
    own_picked (step (Index x) ss) at b c tail h i le =
        let s = step_inside ts Free (Index x) class_suffix at h.0 h.1 in
        let j = steps_go ts Free ss class_suffix h.0 b h.2 in
        let d = h.1.1 in
        let g = exact ts n law x (at + 1) d.0 d.2 (ends_by ts kinds.RightBracket d.0 d.3 refl) (omega (arith, d.4, j.0)) in
        let r = own_picked ss h.0 b c tail h.2 i (omega (arith, s.0)) in
        (step (Index g.0) r.0, (h.0, (tt, (d.0, d.1, g.1, d.3, d.4)), r.1))
    own_picked (step (Property nullsafe name no_arguments) ss) at b c tail h i le =
        let s = step_inside ts Free (Property nullsafe name no_arguments) class_suffix at h.0 h.1 in
        let j = steps_go ts Free ss class_suffix h.0 b h.2 in
        let g = member_picked ts n law name (at + 1) h.1.0 h.1.3 (omega (arith, h.1.4.0, j.0)) in
        let r = own_picked ss h.0 b c tail h.2 i (omega (arith, s.0)) in
        (step (Property nullsafe g.0 no_arguments) r.0, (h.0, (h.1.0, tt, h.1.2, g.1, (h.1.4.0, λ q. absurd (true≢false (sym q)))), r.1))
    own_picked (step (Property nullsafe name (arguments es)) ss) at b c tail h i le = absurd (true≢false (sym h.1.4.0))
    own_picked (step (Scoped t no_arguments) ss) at b c tail h i le =
        let s = step_inside ts Free (Scoped t no_arguments) class_suffix at h.0 h.1 in
        let r = own_picked ss h.0 b c tail h.2 i (omega (arith, s.0)) in
        (step (Scoped t no_arguments) r.0, (h.0, (h.1.0, h.1.1, h.1.2, (h.1.3.0, λ q. absurd (true≢false (sym q)))), r.1))
    own_picked (step (Scoped t (arguments es)) ss) at b c tail h i le = absurd (true≢false (sym h.1.3.0))
    own_picked (step (Call es) ss) at b c tail h i le = absurd h.1.0
    own_picked (step Increment ss) at b c tail h i le = absurd h.1.0
    own_picked (step Decrement ss) at b c tail h i le = absurd h.1.0
    own_picked (step (Operation sign o x) ss) at b c tail h i le = absurd h.1.1
    own_picked (step (Part t) ss) at b c tail h i le = absurd h.1.0
    own_picked (step (Inserted x) ss) at b c tail h i le = absurd h.1.0
    own_picked (step (Further x) ss) at b c tail h i le = absurd h.1

    -- ---- the class of a `new`, with its arguments

    -- a class behind which arguments stand
    class_closed : (class : ClassReference) (at to : ℕ) → Classes ts Free class at to → J ts to ≡ 1 → to ≤ n + at → (g : ClassReference) × Classes ts (Near ts) g at to
    class_closed (NamedClass t) at to h one le = (NamedClass t, (h.0, h.1, h.2, λ q. absurd (omega (arith, one, q))))
    class_closed (VariableClass t ss) at to h one le =
        let r = own_picked ss (at + 1) to to no_step h.2 refl (omega arith) in
        (VariableClass t r.0, (h.0, h.1, r.1, λ q. absurd (omega (arith, one, q))))
    class_closed (ScopedClass t u ss) at to h one le =
        let r = own_picked ss (at + 3) to to no_step h.5 refl (omega arith) in
        (ScopedClass t u r.0, (h.0, h.1, h.2, h.3, h.4, r.1, λ q. absurd (omega (arith, one, q))))
    class_closed (ComputedClass x) at to h one le =
        let g = exact ts n law x (at + 1) h.0 h.2 (ends_by ts kinds.RightParenthesis h.0 h.3 refl) (omega (arith, h.4)) in
        (ComputedClass g.0, (h.0, h.1, g.1, h.3, h.4))

    abbrev pub Made : Levels → ℕ → ℕ → Type 0
    Made vs at to = (g : ClassReference) × (fs : Arguments) × (c o : ℕ) × Classes ts (Near ts) g at c × MayBeCalled ts (Near ts) true fs c o × Led ts vs o to

    made_by : (g : ClassReference) (vs : Levels) (at c to : ℕ) → Past to → Classes ts (Near ts) g at c → Led ts vs c to → to ≤ suc n + c → Made vs at to
    made_by g vs at c to past h l le =
        let a = arguments_picked l.0 vs c to past l.1 le in
        (g, a.0, c, a.1, h, a.3, (a.2, a.4))

    named_stops : (t : Token) (x : Going) (w : List Going) (vs : Levels) (at b to : ℕ) → Past to → Classes ts Free (NamedClass t) at b → Leads ts (x ∷ w) vs b to → (mark x ≢ 2) → to ≤ suc n + b → Made vs at to
    named_stops t x w vs at b to past h l apart le =
        let m = goes_mark ts x b l.0 l.3 in
        made_by (NamedClass t) vs at b to past (h.0, h.1, h.2, λ q. grind (arith, apart, m, q)) (x ∷ w, l) le

    -- a static property of a named class
    scoped_class : (t u : Token) (w : List Going) (vs : Levels) (at b to : ℕ) → Past to → Classes ts Free (NamedClass t) at b → Leads ts (scoped u ∷ w) vs b to → u.kind ≡ kinds.Variable → to ≤ suc n + b → Made vs at to
    scoped_class t u w vs at b to past h l v le =
        let i = goes_rises ts (scoped u) b l.0 l.3 in
        let c = class_suffixes_picked w vs l.0 to past (leads_again (scoped u) w vs b to l) (omega (arith, i)) in
        let first : b ≡ at + 1 = h.2 in
        let second : b + 1 ≡ at + 2 = omega (arith, first) in
        let third : l.0 ≡ at + 3 = omega (arith, first, l.3.3) in
        let P : ℕ → Type 0 = λ y. kind_at ts y ≡ kinds.DoubleColon in
        let Q : ℕ → Type 0 = λ y. Stands ts y u in
        let R : ℕ → Type 0 = λ y. Repeats ts (Near ts) class_suffix c.0 y c.1 in
        let stands = subst Q second l.3.2 in
        let j = steps_go ts (Near ts) c.0 class_suffix l.0 c.1 c.2 in
        made_by (ScopedClass t u c.0) vs at c.1 to past (h.0, h.1, subst P first l.3.1, stands, stands_kind ts (at + 2) u stands ∙ v, subst R third c.2, c.3) c.4 (omega (arith, j.0, i))

    named_class : (t : Token) (w : List Going) (vs : Levels) (at b to : ℕ) → Past to → Classes ts Free (NamedClass t) at b → Leads ts w vs b to → to ≤ suc n + b → Made vs at to
    named_class t [] vs at b to past h l le = let e = ap (J ts) l in made_by (NamedClass t) vs at b to past (h.0, h.1, h.2, λ q. omega (arith, e)) ([], l) le
    named_class t (scoped u ∷ w) vs at b to past h l le =
        elim (variable_or_not u.kind) [
          | inl v ↦ scoped_class t u w vs at b to past h l v le
          | inr four ↦ named_stops t (scoped u) w vs at b to past h l (λ q. omega (arith, four, q)) le
        ]
    named_class t (operated sign o x ∷ w) vs at b to past h l le = let c = operator_bounds o in named_stops t (operated sign o x) w vs at b to past h l (λ q. omega (arith, c.0, q)) le
    named_class t (x ∷ w) vs at b to past h l le = named_stops t x w vs at b to past h l (λ q. omega (arith, q)) le

    class_open : (class : ClassReference) (vs : Levels) (at b to : ℕ) → Past to → Classes ts Free class at b → Led ts vs b to → to ≤ n + at → Made vs at to
    class_open (NamedClass t) vs at b to past h l le = named_class t l.0 vs at b to past h l.1 (omega (arith, h.2))
    class_open (VariableClass t ss) vs at b to past h l le =
        let i = class_inside ts Free (VariableClass t ss) at b h in
        let j = leads_rise ts l.0 vs b to l.1 in
        let c = class_suffixes_picked l.0 vs b to past l.1 (omega (arith, i.0)) in
        let r = own_picked ss (at + 1) b c.1 c.0 h.2 c.2 (omega (arith, j)) in
        let s = steps_go ts (Near ts) c.0 class_suffix b c.1 c.2 in
        made_by (VariableClass t r.0) vs at c.1 to past (h.0, h.1, r.1, c.3) c.4 (omega (arith, i.0, s.0))
    class_open (ScopedClass t u ss) vs at b to past h l le =
        let i = class_inside ts Free (ScopedClass t u ss) at b h in
        let j = leads_rise ts l.0 vs b to l.1 in
        let c = class_suffixes_picked l.0 vs b to past l.1 (omega (arith, i.0)) in
        let r = own_picked ss (at + 3) b c.1 c.0 h.5 c.2 (omega (arith, j)) in
        let s = steps_go ts (Near ts) c.0 class_suffix b c.1 c.2 in
        made_by (ScopedClass t u r.0) vs at c.1 to past (h.0, h.1, h.2, h.3, h.4, r.1, c.3) c.4 (omega (arith, i.0, s.0))
    class_open (ComputedClass x) vs at b to past h l le =
        let j = leads_rise ts l.0 vs b to l.1 in
        let g = exact ts n law x (at + 1) h.0 h.2 (ends_by ts kinds.RightParenthesis h.0 h.3 refl) (omega (arith, h.4, j)) in
        let i = class_inside ts Free (ComputedClass x) at b h in
        made_by (ComputedClass g.0) vs at b to past (h.0, h.1, g.1, h.3, h.4) l (omega (arith, i.0))

    pub new_picked : (class : ClassReference) (es : Arguments) (vs : Levels) (at b m to : ℕ) → Past to → Classes ts Free class at b → MayBeCalled ts Free true es b m → Led ts vs m to → to ≤ n + at → Made vs at to
    new_picked class no_arguments vs at b m to past h a l le = let P : ℕ → Type 0 = λ y. Led ts vs y to in class_open class vs at b to past h (subst P (sym a.0) l) le
    new_picked class (arguments es) vs at b m to past h a l le =
        let d = a.1 in
        let one : J ts b ≡ 1 = rw d.1 refl in
        let i = class_inside ts Free class at b h in
        let j = leads_rise ts l.0 vs m to l.1 in
        let k = items_go ts Free es argument (b + 1) d.0 d.2 in
        let g = class_closed class at b h one (omega (arith, k.0, d.4, j)) in
        let r = items_picked ts n law es argument (b + 1) d.0 d.2 (ends_by ts kinds.RightParenthesis d.0 d.3 refl) (omega (arith, d.4, j, i.0)) in
        (g.0, arguments r.0, b, m, g.1, (refl, (d.0, d.1, r.1, d.3, d.4)), l)
