-- What the parser of parts reads is greedy, holds first tokens and bodies as the tokens have them, and is not too deep.
use Rattle.std.proofs.Common.{◌≡◌, ℕ, zero, suc, ◌+◌, ◌≤◌, ◌<◌, Bool, true, false, List, [], ◌∷◌, ◌++◌, length, Option, Some, None, refl, sym, ap, subst, ◌∙◌, ◌⊎◌, inl, inr, arith, append-nil, append_assoc}
use Rattle.std.specs.Prelude.{max, nat_le}
use Rattle.std.proofs.lemmas.Bool.{leb-true}
use Rattle.stan_model_grammar.specs.declared.token.Token.{Token}
use Rattle.stan_model_grammar.specs.declared.token.TokenKind.{TokenKind}
use Rattle.stan_model_grammar.specs.Depth.{depth as tree_depth}
use Rattle.stan_model_grammar.specs.Sites.{sites, bodies_among}
use Rattle.stan_model_grammar.specs.Strata.{kind_at}
use Rattle.stan_model_grammar.specs.Trees.{Tree}
use Rattle.stan_model_statements.specs.Forests.{Forest}
use Rattle.stan_model_statements.specs.Grammar.{Runs}
use Rattle.stan_model_statements.specs.Rules.{Rule, symbols, sort_of, weight}
use Rattle.stan_model_statements.specs.Symbols.{Sort, One, May, Many, Again, Symbol, Mark, Word, Checked, Expression, Part}
use Rattle.stan_model_statements.specs.Takes.{size}
use Rattle.stan_model_files.specs.Shapes.{Shape, nil, mark, word, expr, Bodies, forest, has_first, depth, bodies_depth, IsFirst, Holds, HoldBodies}
use Rattle.stan_expr_rules.specs.Parse.{Read}
use Rattle.stan_stmt_rules.specs.Ahead.{pick_at, Next}
use Rattle.stan_stmt_rules.specs.Parse.{after, word_at, checked_at, most}
use Rattle.stan_stmt_parts.specs.Parse.{Piece, Putting, onto, standing, optional, items, first_at, pieced, one, may, many, all, run, read}
use Rattle.stan_stmt_law.proofs.Law.{y_sized, y_begun}
use Rattle.stan_stmt_law.proofs.Reading.{bind_ok, after_is, word_is, checked_is, waits, steady, rules_steady, steady_part, picked_at, asked, lacking_is, from_again, read_guard}
use Rattle.stan_stmt_law.proofs.Runs.{AreExpressions, taken, rule_begins}
use Rattle.stan_stmt_law.proofs.Tables.{picked_sort}
use Rattle.stan_stmt_law.proofs.Words.{some_is, see}
use Rattle.stan_read_law.proofs.Firsts.{first_stands}

-- a part more behind those that were found before
behind_found : (found more : List Piece) (p : Piece) (all : List Piece) → all ≡ (found ++ p ∷ []) ++ more → all ≡ found ++ p ∷ more
behind_found found more p all e = e ∙ append_assoc found (p ∷ []) more

module _ (ts : List Token) (named : Token → Bool) (X Y : Bool → Tree → ℕ → ℕ → Type 0) (behind : ℕ → TokenKind) (exs : AreExpressions ts X Y behind)
    (expression : ℕ → Bool → ℕ → Read Tree) (seen : ℕ → ℕ → TokenKind)
    (sound : (levels : ℕ) (p : Bool) (at : ℕ) (x : Tree × ℕ) → levels ≤ most → expression levels p at ≡ Some x → Y p x.0 at x.1 × (tree_depth x.0 + levels ≤ most))
    (value : ℕ → ℕ → Bool → ℕ → Read Putting) where
  abbrev G : List Symbol → Forest → ℕ → ℕ → Type 0
  G = Runs ts named Y (Next ts behind)

  -- an expression that was read, with the bodies of its closures
  pub record Valued (levels : ℕ) (p : Bool) (at : ℕ) (v : Putting × ℕ) : Type 0 where
    pub tree : Tree
    pub bodies : Bodies
    pub put_is : v.0 ≡ expr tree bodies
    pub picked : Y p tree at v.1
    pub held_bodies : HoldBodies ts named bodies (bodies_among (sites 0 tree))
    pub shallow : max (tree_depth tree) (bodies_depth bodies) + levels ≤ most

  -- with so much room
  abbrev pub Values : ℕ → Type 0
  Values room = (levels : ℕ) (p : Bool) (at : ℕ) (v : Putting × ℕ) → levels ≤ most → value room levels p at ≡ Some v → Valued levels p at v

  pub record Found (levels : ℕ) (xs : List Symbol) (at : ℕ) (y : Shape × ℕ) : Type 0 where
    pub reads : G xs (forest y.0) at y.1
    pub held : Holds ts named y.0 at
    pub flat : depth y.0 + levels ≤ most

  sized : (xs : List Symbol) (f : Forest) (at b : ℕ) → G xs f at b → b ≡ at + size f
  sized = taken ts named Y (Next ts behind) (y_sized ts named X Y behind exs) (y_begun ts named X Y behind exs)

  -- so much was read
  grown : (levels : ℕ) (xs : List Symbol) (at : ℕ) (z y : Shape × ℕ) → (let o : Shape × ℕ → Option (Shape × ℕ) = Some in o z ≡ o y) → Found levels xs at z → Found levels xs at y
  grown levels xs at z y e f = subst (Found levels xs at) (some_is z y e) f

  module _ (room : ℕ) (values : Values room) (below : Rule → ℕ → Read Shape) (levels : ℕ)
      (deeper : (r : Rule) (at : ℕ) (x : Shape × ℕ) → below r at ≡ Some x → G (symbols r) (forest x.0) at x.1 × Holds ts named x.0 at × (weight r + depth x.0 + levels ≤ most)) where
    pub record Pieced (s : Sort) (at : ℕ) (p : Piece × ℕ) : Type 0 where
      pub sort : sort_of p.0.0 ≡ s
      pub next : Next ts behind s at (Some p.0.0)
      pub first : IsFirst ts named (has_first (sort_of p.0.0)) p.0.1 at
      pub spelled : G (symbols p.0.0) (forest p.0.2) at p.1
      pub inner : Holds ts named p.0.2 at
      pub low : weight p.0.0 + depth p.0.2 + levels ≤ most

    picked_piece : (s : Sort) (at : ℕ) (r : Rule) (p : Piece × ℕ) → pick_at ts (seen levels) s at ≡ Some r → pieced ts named value seen below levels r at ≡ Some p → Pieced s at p
    picked_piece s at r p e h =
        let a = bind_ok (below r at) _ p h in
        let same = some_is ((r, first_at ts r at, a.0.0), a.0.1) p a.2 in
        let is = deeper r at a.0 a.1 in
        let sort = picked_sort s (kind_at ts at) (kind_at ts (at + 1)) (kind_at ts (at + 2)) (seen levels at) r (picked_at ts (seen levels) s at (Some r) e) in
        let begun = rule_begins ts named Y (Next ts behind) (y_sized ts named X Y behind exs) (y_begun ts named X Y behind exs) r (forest a.0.0) at a.0.1 is.0 in
        subst (λ (z : Piece × ℕ). Pieced s at z) same
        (record {
          sort = sort;
          next = subst (λ z. Next ts behind z at (Some r)) sort (asked ts named X Y behind exs expression seen sound r (forest a.0.0) at a.0.1 is.0);
          first = first_stands ts named r at begun;
          spelled = is.0;
          inner = is.1;
          low = is.2;
        })

    pub one_sound : (s : Sort) (at : ℕ) (p : Piece × ℕ) → one ts named value seen below levels s at ≡ Some p → Pieced s at p
    unfolding one
    one_sound s at p h = let a = bind_ok (pick_at ts (seen levels) s at) _ p h in picked_piece s at a.0 p a.1 a.2

    Maybe : Sort → ℕ → Option Piece × ℕ → Type 0
    Maybe s at p = (Next ts behind s at None × (p ≡ (None, at))) ⊎ ((q : Piece × ℕ) × (p ≡ (Some q.0, q.1)) × Pieced s at q)

    may_sound : (s : Sort) (at : ℕ) (p : Option Piece × ℕ) → waits s ≡ false → may ts named value seen below levels s at ≡ Some p → Maybe s at p
    unfolding may Maybe
    may_sound s at p w h = elim (see (pick_at ts (seen levels) s at)) [
      | inl absent ↦ inl (lacking_is ts named X Y behind exs expression seen sound levels s at w absent, sym (some_is (None, at) p (rw absent at h)))
      | inr v ↦
          let a = bind_ok (pieced ts named value seen below levels v.0 at) _ p (rw v.1 at h) in
          inr (a.0, sym (some_is (Some a.0.0, a.0.1) p a.2), picked_piece s at v.0 a.0 v.1 a.1)
    ]

    -- a part that stands, before what was read behind it
    put_piece : (s : Sort) (at : ℕ) (p : Piece × ℕ) (xs : List Symbol) (f : Shape) (to : ℕ) → Pieced s at p → Found levels (Part Again s ∷ xs) p.1 (f, to) → Found levels (Part Again s ∷ xs) at (standing p.0 f, to)
    put_piece s at p xs f to is more = record {
      reads = (p.1, is.sort, is.next, is.spelled, more.reads);
      held = (is.first, is.inner, subst (λ z. Holds ts named f z) (sized (symbols p.0.0) (forest p.0.2) at p.1 is.spelled) more.held);
      flat = omega (arith, is.low, more.flat);
    }

    put_one : (s : Sort) (at : ℕ) (p : Piece × ℕ) (xs : List Symbol) (f : Shape) (to : ℕ) → Pieced s at p → Found levels xs p.1 (f, to) → Found levels (Part One s ∷ xs) at (standing p.0 f, to)
    put_one s at p xs f to is more = record {
      reads = (p.1, is.sort, is.next, is.spelled, more.reads);
      held = (is.first, is.inner, subst (λ z. Holds ts named f z) (sized (symbols p.0.0) (forest p.0.2) at p.1 is.spelled) more.held);
      flat = omega (arith, is.low, more.flat);
    }

    put_may : (s : Sort) (at : ℕ) (p : Option Piece × ℕ) (xs : List Symbol) (f : Shape) (to : ℕ) → Maybe s at p → Found levels xs p.1 (f, to) → Found levels (Part May s ∷ xs) at (optional p.0 f, to)
    unfolding Maybe
    put_may s at p xs f to (inl w) more = subst (λ (z : Option Piece × ℕ). Found levels (Part May s ∷ xs) at (optional z.0 f, to)) (sym w.1)
        (let here : Found levels xs at (f, to) = subst (λ (z : Option Piece × ℕ). Found levels xs z.1 (f, to)) w.1 more in record { reads = (refl, w.0, here.reads); held = here.held; flat = here.flat })
    put_may s at p xs f to (inr w) more = subst (λ (z : Option Piece × ℕ). Found levels (Part May s ∷ xs) at (optional z.0 f, to)) (sym w.1)
        (let here : Found levels xs w.0.1 (f, to) = subst (λ (z : Option Piece × ℕ). Found levels xs z.1 (f, to)) w.1 more in
        let p = w.0 in
        let is = w.2 in record {
          reads = (p.1, is.sort, is.next, is.spelled, here.reads);
          held = (is.first, is.inner, subst (λ z. Holds ts named f z) (sized (symbols p.0.0) (forest p.0.2) at p.1 is.spelled) here.held);
          flat = omega (arith, is.low, here.flat);
        })

    -- what was read is put before what is read behind it
    abbrev Leads : Sort → ℕ → ℕ → List Piece → Type 0
    Leads s at b ps = (xs : List Symbol) (f : Shape) (to : ℕ) → Found levels xs b (f, to) → Found levels (Part Again s ∷ xs) at (items ps f, to)

    many_sound : (n : ℕ) (s : Sort) (found : List Piece) (at : ℕ) (y : List Piece × ℕ) → waits s ≡ false → many ts named value seen below levels n s found at ≡ Some y → (ps : List Piece) × (y.0 ≡ found ++ ps) × Leads s at y.1 ps
    many_sound zero s found at y u h = absurd cc
    many_sound (suc n) s found at y u h = elim (see (pick_at ts (seen levels) s at)) [
      | inl absent ↦
          let same = some_is (found, at) y (rw absent at h) in (
            [],
            sym (ap (λ (p : List Piece × ℕ). p.0) same) ∙ sym (append-nil found),
            subst (λ (z : List Piece × ℕ). Leads s at z.1 []) same (λ xs f to w. record { reads = (refl, lacking_is ts named X Y behind exs expression seen sound levels s at u absent, w.reads); held = w.held; flat = w.flat }),
          )
      | inr w ↦
          let a = bind_ok (pieced ts named value seen below levels w.0 at) _ y (rw w.1 at h) in
          let is = picked_piece s at w.0 a.0 w.1 a.1 in
          let more = many_sound n s (found ++ a.0.0 ∷ []) a.0.1 y u a.2 in (
            a.0.0 ∷ more.0,
            behind_found found more.0 a.0.0 y.0 more.1,
            λ xs f to v. put_piece s at a.0 xs (items more.0 f) to is (more.2 xs f to v),
          )
    ]

    all_sound : (s : Sort) (at : ℕ) (y : List Piece × ℕ) → waits s ≡ false → all ts named value seen below levels s at ≡ Some y → Leads s at y.1 y.0
    unfolding all
    all_sound s at y u h = let m = many_sound (length ts + 1) s [] at y u h in subst (Leads s at y.1) (sym m.1) m.2

    again_many : (s : Sort) (xs : List Symbol) (at : ℕ) (y : Shape × ℕ) → Found levels (Part Again s ∷ xs) at y → Found levels (Part Many s ∷ xs) at y
    again_many s xs at y h = record { reads = from_again ts named X Y behind exs expression seen sound s xs (forest y.0) at y.1 h.reads; held = h.held; flat = h.flat }

    put_value : (p : Bool) (at : ℕ) (v : Putting × ℕ) (xs : List Symbol) (f : Shape) (to : ℕ) → Valued levels p at v → Found levels xs v.1 (f, to) → Found levels (Expression p ∷ xs) at (v.0 f, to)
    put_value p at v xs f to is more = subst (λ (z : Putting). Found levels (Expression p ∷ xs) at (z f, to)) (sym is.put_is)
        (record {
          reads = (v.1, is.picked, more.reads);
          held = (is.held_bodies, subst (λ z. Holds ts named f z) (y_sized ts named X Y behind exs p is.tree at v.1 is.picked) more.held);
          flat = omega (arith, is.shallow, more.flat);
        })

    pub run_sound : (xs : List Symbol) (at : ℕ) (y : Shape × ℕ) → levels ≤ most → steady xs ≡ true → run ts named value seen below levels room xs at ≡ Some y → Found levels xs at y
    run_sound [] at y le u h = grown levels [] at (nil, at) y h (record { reads = refl; held = tt; flat = omega (arith, le) })
    run_sound (Mark kind ∷ xs) at y le u h =
        let a = bind_ok (after ts kind at) _ y h in
        let o = bind_ok (run ts named value seen below levels room xs a.0) (onto mark) y a.2 in
        let is = after_is ts kind at a.0 a.1 in
        let r : Found levels xs (at + 1) o.0 = subst (λ z. Found levels xs z o.0) is.1 (run_sound xs a.0 o.0 le u o.1) in
        grown levels (Mark kind ∷ xs) at (mark o.0.0, o.0.1) y o.2 (record { reads = (is.0, r.reads); held = r.held; flat = r.flat })
    run_sound (Word ks ∷ xs) at y le u h =
        let a = bind_ok (word_at ts ks at) _ y h in
        let o = bind_ok (run ts named value seen below levels room xs (at + 1)) (onto (word a.0)) y a.2 in
        let is = word_is ts ks at a.0 a.1 in
        let r = run_sound xs (at + 1) o.0 le u o.1 in
        grown levels (Word ks ∷ xs) at (word a.0 o.0.0, o.0.1) y o.2 (record { reads = (is.0, is.1, r.reads); held = r.held; flat = r.flat })
    run_sound (Checked c ∷ xs) at y le u h =
        let a = bind_ok (checked_at ts named c at) _ y h in
        let o = bind_ok (run ts named value seen below levels room xs (at + 1)) (onto (word a.0)) y a.2 in
        let is = checked_is ts named c at a.0 a.1 in
        let r = run_sound xs (at + 1) o.0 le u o.1 in
        grown levels (Checked c ∷ xs) at (word a.0 o.0.0, o.0.1) y o.2 (record { reads = (is.0, is.1, is.2, r.reads); held = r.held; flat = r.flat })
    run_sound (Expression p ∷ xs) at y le u h =
        let a = bind_ok (value room levels p at) _ y h in
        let o = bind_ok (run ts named value seen below levels room xs a.0.1) (onto a.0.0) y a.2 in
        grown levels (Expression p ∷ xs) at (a.0.0 o.0.0, o.0.1) y o.2 (put_value p at a.0 xs o.0.0 o.0.1 (values levels p at a.0 le a.1) (run_sound xs a.0.1 o.0 le u o.1))
    run_sound (Part One s ∷ xs) at y le u h =
        let a = bind_ok (one ts named value seen below levels s at) _ y h in
        let o = bind_ok (run ts named value seen below levels room xs a.0.1) (onto (standing a.0.0)) y a.2 in
        grown levels (Part One s ∷ xs) at (standing a.0.0 o.0.0, o.0.1) y o.2 (put_one s at a.0 xs o.0.0 o.0.1 (one_sound s at a.0 a.1) (run_sound xs a.0.1 o.0 le u o.1))
    run_sound (Part May s ∷ xs) at y le u h =
        let v = steady_part May s xs refl u in
        let a = bind_ok (may ts named value seen below levels s at) _ y h in
        let o = bind_ok (run ts named value seen below levels room xs a.0.1) (onto (optional a.0.0)) y a.2 in
        grown levels (Part May s ∷ xs) at (optional a.0.0 o.0.0, o.0.1) y o.2 (put_may s at a.0 xs o.0.0 o.0.1 (may_sound s at a.0 v.0 a.1) (run_sound xs a.0.1 o.0 le v.1 o.1))
    run_sound (Part Many s ∷ xs) at y le u h =
        let v = steady_part Many s xs refl u in
        let a = bind_ok (all ts named value seen below levels s at) _ y h in
        let o = bind_ok (run ts named value seen below levels room xs a.0.1) (onto (items a.0.0)) y a.2 in
        grown levels (Part Many s ∷ xs) at (items a.0.0 o.0.0, o.0.1) y o.2
        (again_many s xs at (items a.0.0 o.0.0, o.0.1) (all_sound s at a.0 v.0 a.1 xs o.0.0 o.0.1 (run_sound xs a.0.1 o.0 le v.1 o.1)))
    run_sound (Part Again s ∷ xs) at y le u h =
        let v = steady_part Again s xs refl u in
        let a = bind_ok (all ts named value seen below levels s at) _ y h in
        let o = bind_ok (run ts named value seen below levels room xs a.0.1) (onto (items a.0.0)) y a.2 in
        grown levels (Part Again s ∷ xs) at (items a.0.0 o.0.0, o.0.1) y o.2 (all_sound s at a.0 v.0 a.1 xs o.0.0 o.0.1 (run_sound xs a.0.1 o.0 le v.1 o.1))

  -- a production, where what is read of expressions in it is right
  pub read_sound : (n : ℕ) → ((m : ℕ) → m < n → Values m) → (levels : ℕ) (r : Rule) (at : ℕ) (y : Shape × ℕ) → read ts named value seen n levels r at ≡ Some y
      → G (symbols r) (forest y.0) at y.1 × Holds ts named y.0 at × (weight r + depth y.0 + levels ≤ most)
  read_sound zero values levels r at y h = absurd cc
  read_sound (suc n) values levels r at y h =
      let g = read_guard ts named X Y behind exs expression seen sound (nat_le (levels + weight r) most) (run ts named value seen (read ts named value seen n (levels + weight r)) (levels + weight r) n (symbols r) at) y h in
      let fits : levels + weight r ≤ most = leb-true (levels + weight r) most g.0 in
      let w = run_sound n (values n (omega arith)) (read ts named value seen n (levels + weight r)) (levels + weight r)
      (λ q b x i. read_sound n (λ m lt. values m (omega (arith, lt))) (levels + weight r) q b x i) (symbols r) at y fits (rules_steady r) g.1 in
      (w.reads, w.held, omega (arith, w.flat))
