-- Atoms, what is appended to them, and targets of assignments.
use Rattle.std.proofs.Common.{◌≡◌, ℕ, suc, ◌+◌, ◌≤◌, Bool, true, false, IsTrue, List, [], ◌∷◌, refl, sym, subst, ◌∙◌, arith, true≢false}
use Rattle.stan_model_grammar.specs.declared.operators.ArrayStyle.TheVariants as styles
use Rattle.stan_model_grammar.specs.declared.operators.AssignmentOperator.{AssignmentOperator}
use Rattle.stan_model_grammar.specs.declared.operators.Leaf.TheVariants as leaves
use Rattle.stan_model_grammar.specs.declared.token.Token.{Token}
use Rattle.stan_model_grammar.specs.declared.token.TokenKind.TheVariants as kinds
use Rattle.stan_model_grammar.specs.Strata.{loosest}
use Rattle.stan_model_grammar.specs.Trees.{Tree, node, Single, Brackets, Array, IsSet, Empty, Exit, New, Match, Closure, Arrow, Text, Post, Prefix, Assignment, Chain, Binary, Conditional, no_arguments, arguments, Steps, no_step, step, Step, Body, Held, Read}
use Rattle.stan_model_grammar.specs.Expressions.{argument, element, expression, parameter, arm, suffix, is_place, ends_in_place, is_assignable, MayBeCalled, Reads, Repeats, Bodies, IsEnd}
use Rattle.stan_expr_rules.proofs.InsideLemmas.{reads_inside, items_go, may_goes, captures_go, return_goes, body_inside}
use Rattle.stan_expr_rules.proofs.Greedy.{J, Near, Greedy, lift, extend}
use Rattle.stan_expr_law.proofs.Spelled.{Free}
use Rattle.stan_expr_law.proofs.Levels.{Levels, no_level, level, Going, ends, places, operator_bounds, end_joins, Leads, leads_rise, leads_past, leads_out, leads_some, leads_unassigned, by_suffixes, Picked, Law}
use Rattle.stan_expr_law.proofs.LawItems.{ends_by, some_items, exact, items_picked, parts_picked, captures_picked}
use Rattle.stan_expr_law.proofs.LawSteps.{Past, suffixes_picked, arguments_picked}

ends_are_places : (x : Step) (xs : Steps) → ends_in_place x xs ≡ places (is_place x) xs
ends_are_places x no_step = refl
ends_are_places x (step y ys) = ends_are_places y ys

post_is_assignable : (o : AssignmentOperator) (t : Token) (x : Tree) (ss : Steps) → places false ss ≡ true → IsTrue (is_assignable o (node t (Post x ss)))
post_is_assignable o t x no_step h = absurd (true≢false (sym h))
post_is_assignable o t x (step y ys) h = ends_are_places y ys ∙ h

post_ends : (o : AssignmentOperator) (t : Token) (x : Tree) (ss : Steps) → IsTrue (is_assignable o (node t (Post x ss))) → places false ss ≡ true
post_ends o t x no_step h = absurd (true≢false (sym h))
post_ends o t x (step y ys) h = sym (ends_are_places y ys) ∙ h

module _ (ts : List Token) where
  leads_over : (w : List Going) (at to : ℕ) → Leads ts w no_level at to → (at ≡ to) × ((b : Bool) → ends b w ≡ b)
  leads_over [] at to l = (l, λ b. refl)
  leads_over (x ∷ w) at to l = absurd l.2

  body_reads : (body : Body) (at to : ℕ) → Bodies ts Free body at to → Bodies ts (Near ts) body at to
  body_reads (Held first last) at to h = h
  body_reads (Read statements) at to h = absurd h

  with_suffixes : (t : Tree) (gs : Steps) (at m o : ℕ) → Greedy ts false 0 t at m → Repeats ts (Near ts) suffix gs m o → Past ts o → (g : Tree) × Greedy ts false 4 g at o
  with_suffixes t no_step at m o h a past = let P : ℕ → Type 0 = λ y. Greedy ts false 0 t at y in (t, lift ts false 0 4 t at o (omega arith) past (subst P a h))
  with_suffixes (node u f) (step x xs) at m o h a past = (node u (Post (node u f) (step x xs)), (h.0, (m, omega arith, tt, h, a, λ q. past)))

  module _ (n : ℕ) (law : Law ts n) where
    -- an atom, which may take arguments that follow it
    abbrev Alone : List Going → Levels → ℕ → ℕ → Type 0
    Alone w vs at to = (g : Tree) × (o : ℕ) × (rest : List Going) × Greedy ts false 0 g at o × Leads ts rest vs o to × (ends false rest ≡ ends false w)

    atom_picked : (t : Tree) (w : List Going) (vs : Levels) (at m to : ℕ) → Reads ts Free false 0 t at m → Past ts to → Leads ts w vs m to → to ≤ suc n + at → Alone w vs at to
    atom_picked (node t (Single leaf)) w vs at m to h past l le = let s = leads_some ts w vs m to past l in (node t (Single leaf), m, w, (h.0, (h.1.0, h.1.1, λ q. s)), l, refl)
    atom_picked (node t (Brackets x)) w vs at m to h past l le =
        let s = leads_some ts w vs m to past l in
        let j = leads_rise ts w vs m to l in
        let b = h.1.0 in
        let g = exact ts n law x (at + 1) b.0 b.2 (ends_by ts kinds.RightParenthesis b.0 b.3 refl) (omega (arith, b.4, j)) in
        (node t (Brackets g.0), m, w, (h.0, ((b.0, b.1, g.1, b.3, b.4), λ q. s)), l, refl)
    atom_picked (node t (Array styles.Brackets es)) w vs at m to h past l le =
        let s = leads_some ts w vs m to past l in
        let j = leads_rise ts w vs m to l in
        let b = h.1.1 in
        let r = items_picked ts n law es element (at + 1) b.0 b.2 (ends_by ts kinds.RightBracket b.0 b.3 refl) (omega (arith, b.4, j)) in
        (node t (Array styles.Brackets r.0), m, w, (h.0, (λ q. h.1.0 (sym r.2 ∙ q), (b.0, b.1, r.1, b.3, b.4), λ q. s)), l, refl)
    atom_picked (node t (Array styles.Array es)) w vs at m to h past l le =
        let s = leads_some ts w vs m to past l in
        let j = leads_rise ts w vs m to l in
        let b = h.1.2 in
        let r = items_picked ts n law es element (at + 1 + 1) b.0 b.2 (ends_by ts kinds.RightParenthesis b.0 b.3 refl) (omega (arith, b.4, j)) in
        (node t (Array styles.Array r.0), m, w, (h.0, (λ q. h.1.0 (sym r.2 ∙ q), h.1.1, (b.0, b.1, r.1, b.3, b.4), λ q. s)), l, refl)
    atom_picked (node t (Array styles.List es)) w vs at m to h past l le = absurd (true≢false (sym h.1.0))
    atom_picked (node t (IsSet es)) w vs at m to h past l le =
        let s = leads_some ts w vs m to past l in
        let j = leads_rise ts w vs m to l in
        let b = h.1.2 in
        let r = items_picked ts n law es expression (at + 1 + 1) b.0 b.2 (ends_by ts kinds.RightParenthesis b.0 b.3 refl) (omega (arith, b.4, j)) in
        (node t (IsSet r.0), m, w, (h.0, (some_items es r.0 r.3 h.1.0, h.1.1, (b.0, b.1, r.1, b.3, b.4), λ q. s)), l, refl)
    atom_picked (node t (Empty x)) w vs at m to h past l le =
        let s = leads_some ts w vs m to past l in
        let j = leads_rise ts w vs m to l in
        let b = h.1.1 in
        let g = exact ts n law x (at + 1 + 1) b.0 b.2 (ends_by ts kinds.RightParenthesis b.0 b.3 refl) (omega (arith, b.4, j)) in
        (node t (Empty g.0), m, w, (h.0, (h.1.0, (b.0, b.1, g.1, b.3, b.4), λ q. s)), l, refl)
    atom_picked (node t (Exit no_arguments)) w vs at m to h past l le =
        let i : at + 1 ≡ m = h.1.1.0 in
        let a = arguments_picked ts n law w vs m to past l (omega (arith, i)) in
        let P : ℕ → Type 0 = λ y. MayBeCalled ts (Near ts) true a.0 y a.1 in
        let s = leads_some ts a.2 vs a.1 to past a.4 in
        (node t (Exit a.0), a.1, a.2, (h.0, (h.1.0, subst P (sym i) a.3, λ q. s)), a.4, a.5)
    atom_picked (node t (Exit (arguments es))) w vs at m to h past l le =
        let s = leads_some ts w vs m to past l in
        let j = leads_rise ts w vs m to l in
        let b = h.1.1.1 in
        let r = items_picked ts n law es argument (at + 1 + 1) b.0 b.2 (ends_by ts kinds.RightParenthesis b.0 b.3 refl) (omega (arith, b.4, j)) in
        (node t (Exit (arguments r.0)), m, w, (h.0, (h.1.0, (refl, (b.0, b.1, r.1, b.3, b.4)), λ q. s)), l, refl)
    atom_picked (node t (Match x arms)) w vs at m to h past l le =
        let s = leads_some ts w vs m to past l in
        let j = leads_rise ts w vs m to l in
        let b = h.1.2 in
        let c = h.1.3 in
        let i = reads_inside ts Free x false loosest (at + 1 + 1) b.0 b.2 in
        let k = items_go ts Free arms arm (h.1.0 + 1) c.0 c.2 in
        let g = exact ts n law x (at + 1 + 1) b.0 b.2 (ends_by ts kinds.RightParenthesis b.0 b.3 refl) (omega (arith, b.4, k.0, c.4, j)) in
        let r = items_picked ts n law arms arm (h.1.0 + 1) c.0 c.2 (ends_by ts kinds.RightBrace c.0 c.3 refl) (omega (arith, c.4, i.0, b.4, j)) in
        (node t (Match g.0 r.0), m, w, (h.0, (h.1.0, h.1.1, (b.0, b.1, g.1, b.3, b.4), (c.0, c.1, r.1, c.3, c.4), λ q. s)), l, refl)
    atom_picked (node t (Closure static reference parameters captures type body)) w vs at m to h past l le =
        let s = leads_some ts w vs m to past l in
        let j = leads_rise ts w vs m to l in
        let f = h.1 in
        let p = f.8 in
        let a = may_goes ts static kinds.Static (λ q. cc) at f.0 f.5 in
        let b = may_goes ts reference kinds.Ampersand (λ q. cc) (f.0 + 1) f.1 f.7 in
        let c = items_go ts Free parameters parameter (f.1 + 1) p.0 p.2 in
        let d = captures_go ts Free captures f.2 f.3 f.9 in
        let e = return_goes ts type f.3 f.4 f.10 in
        let i = body_inside ts Free body f.4 m f.11 in
        let r = items_picked ts n law parameters parameter (f.1 + 1) p.0 p.2 (ends_by ts kinds.RightParenthesis p.0 p.3 refl) (omega (arith, a.0, b.0, p.4, d.0, e.0, i.0, j)) in
        let v = captures_picked ts n law captures f.2 f.3 f.9 (omega (arith, a.0, b.0, c.0, p.4, e.0, i.0, j)) in (
          node t (Closure static reference r.0 v.0 type body),
          m,
          w,
          (h.0, (f.0, f.1, f.2, f.3, f.4, f.5, f.6, f.7, (p.0, p.1, r.1, p.3, p.4), v.1, f.10, body_reads body f.4 m f.11, λ q. s)),
          l,
          refl,
        )
    atom_picked (node t (Text parts)) w vs at m to h past l le =
        let s = leads_some ts w vs m to past l in
        let j = leads_rise ts w vs m to l in
        let b = h.1.0 in
        let r = parts_picked ts n law parts (at + 1) b.0 b.2 (omega (arith, b.4, j)) in
        (node t (Text r.0), m, w, (h.0, ((b.0, b.1, r.1, b.3, b.4), λ q. s)), l, refl)
    atom_picked (node t (New class es)) w vs at m to h past l le = absurd (omega (arith, h.1.1))
    atom_picked (node t (Arrow static reference parameters type x)) w vs at m to h past l le = absurd (omega (arith, h.1.12))
    atom_picked (node t (Post x ss)) w vs at m to h past l le = absurd (omega (arith, h.1.1))
    atom_picked (node t (Prefix o x)) w vs at m to h past l le = absurd (omega (arith, h.1.0))
    atom_picked (node t (Assignment target o x)) w vs at m to h past l le = absurd (omega (arith, h.1.2))
    atom_picked (node t (Chain i x ss)) w vs at m to h past l le = absurd (omega (arith, h.1.1, h.1.2))
    atom_picked (node t (Binary d sign o x)) w vs at m to h past l le = let b = operator_bounds o in absurd (omega (arith, h.1.2, b.0))
    atom_picked (node t (Conditional c d x)) w vs at m to h past l le = absurd (omega (arith, h.1.2))

    -- an atom with what is appended to it, in a level of stratum k
    pub simple_picked : (t : Tree) (k : ℕ) (w : List Going) (vs : Levels) (at m to : ℕ) → Reads ts Free false 0 t at m → Leads ts w (level 1 k vs) m to → IsEnd ts to → to ≤ suc n + at → Picked ts 5 (level 6 k vs) at to
    simple_picked t k w vs at m to h l e le =
        let j = end_joins ts to e in
        let a = atom_picked t w (level 1 k vs) at m to h (omega (arith, j)) l le in
        let i = reads_inside ts (Near ts) a.0 false 0 at a.1 a.3 in
        let s = suffixes_picked ts n law a.2 k vs a.1 to (omega (arith, j)) a.4 (omega (arith, i.0)) in
        let g = with_suffixes a.0 s.0 at a.1 s.1 a.3 s.3 s.4 in
        let past = leads_past ts s.2 k vs s.1 to s.4 s.5 in
        let other = leads_unassigned ts s.2 (level 6 k vs) s.1 to (omega (arith, j)) past in
        (g.0, s.1, extend ts false 5 g.0 at s.1 other g.1, (s.2, past))

    -- the target of an assignment
    abbrev Assigned : AssignmentOperator → ℕ → ℕ → Type 0
    Assigned o at to = (g : Tree) × Greedy ts true 4 g at to × IsTrue (is_assignable o g)

    post_target : (o : AssignmentOperator) (u : Token) (x : Tree) (ss : Steps) (at b to : ℕ) → IsTrue (is_assignable o (node u (Post x ss))) → Reads ts Free false 0 x at b → Repeats ts Free suffix ss b to
        → J ts to ≡ 5 → to ≤ suc n + at → Assigned o at to
    post_target o u x ss at b to some h r five le =
        let v = by_suffixes ts ss 4 no_level b to to [] (omega arith) r refl in
        let c = atom_picked x v.0 (level 1 4 no_level) at b to h (omega (arith, five)) v.1 le in
        let i = reads_inside ts (Near ts) c.0 false 0 at c.1 c.3 in
        let s = suffixes_picked ts n law c.2 4 no_level c.1 to (omega (arith, five)) c.4 (omega (arith, i.0)) in
        let over = leads_over s.2 s.1 to (leads_out ts s.2 6 4 no_level s.1 to (omega arith) (leads_past ts s.2 4 no_level s.1 to s.4 s.5)) in
        let last : places false s.0 ≡ true = sym (over.1 (places false s.0)) ∙ sym (s.6 false) ∙ c.5 ∙ v.2 false ∙ post_ends o u x ss some in
        post_made o c.0 s.0 at c.1 s.1 to c.3 s.3 over.0 five last
      where
        post_made : (o : AssignmentOperator) (g : Tree) (gs : Steps) (at c d to : ℕ) → Greedy ts false 0 g at c → Repeats ts (Near ts) suffix gs c d → d ≡ to → J ts to ≡ 5 → places false gs ≡ true → Assigned o at to
        post_made o g no_step at c d to h r e five last = absurd (true≢false (sym last))
        post_made o (node t f) (step y ys) at c d to h r e five last =
            let P : ℕ → Type 0 = λ z. Repeats ts (Near ts) suffix (step y ys) c z in
            (node t (Post (node t f) (step y ys)), (h.0, (c, omega arith, tt, h, subst P e r, λ q. omega (arith, five))), post_is_assignable o t (node t f) (step y ys) last)

    pub target_picked : (t : Tree) (o : AssignmentOperator) (at to : ℕ) → IsTrue (is_assignable o t) → Reads ts Free true 4 t at to → J ts to ≡ 5 → to ≤ suc n + at → Assigned o at to
    target_picked (node t (Single leaves.Variable)) o at to some h five le = (node t (Single leaves.Variable), (h.0, (h.1.0, h.1.1, λ q. omega (arith, five))), refl)
    target_picked (node t (Array styles.Brackets es)) o at to some h five le =
        let b = h.1.1 in
        let r = items_picked ts n law es element (at + 1) b.0 b.2 (ends_by ts kinds.RightBracket b.0 b.3 refl) (omega (arith, b.4)) in
        (node t (Array styles.Brackets r.0), (h.0, (λ q. refl, (b.0, b.1, r.1, b.3, b.4), λ q. omega (arith, five))), some)
    target_picked (node t (Array styles.Array es)) o at to some h five le =
        let b = h.1.2 in
        let r = items_picked ts n law es element (at + 1 + 1) b.0 b.2 (ends_by ts kinds.RightParenthesis b.0 b.3 refl) (omega (arith, b.4)) in
        (node t (Array styles.Array r.0), (h.0, (λ q. refl, h.1.1, (b.0, b.1, r.1, b.3, b.4), λ q. omega (arith, five))), some)
    target_picked (node t (Array styles.List es)) o at to some h five le =
        let b = h.1.2 in
        let r = items_picked ts n law es element (at + 1 + 1) b.0 b.2 (ends_by ts kinds.RightParenthesis b.0 b.3 refl) (omega (arith, b.4)) in
        (node t (Array styles.List r.0), (h.0, (refl, h.1.1, (b.0, b.1, r.1, b.3, b.4), λ q. omega (arith, five))), some)
    target_picked (node t (Post x (step y ys))) o at to some h five le =
        post_target o t x (step y ys) at h.1.0 to some h.1.3 h.1.4 five le
    target_picked t o at to some h five le = absurd (true≢false (sym some))
