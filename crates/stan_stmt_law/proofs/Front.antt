-- The longest front is what the greedy reading gives, or all but the last of it.
use Rattle.std.proofs.Common.{◌≡◌, ℕ, zero, suc, ◌+◌, ◌≤◌, ◌<◌, Bool, true, List, [], ◌∷◌, ◌++◌, length, Some, None, refl, sym, ap, ap₂, subst, ◌∙◌, ◌⊎◌, inl, inr, ⊎_elim, arith, length-append}
use Rattle.std.specs.Prelude.{IsTrue, IsFalse}
use Rattle.std.proofs.lemmas.Bool.{cases_lt}
use Rattle.stan_model_grammar.specs.declared.token.Token.{Token}
use Rattle.stan_model_grammar.specs.declared.token.TokenKind.{TokenKind}
use Rattle.stan_model_grammar.specs.declared.token.TokenKind.TheVariants as k
use Rattle.stan_model_grammar.specs.Files.{goes_on}
use Rattle.stan_model_grammar.specs.Strata.{kind_at}
use Rattle.stan_model_grammar.specs.Takes.{More}
use Rattle.stan_model_statements.specs.Forests.{Forest, nil}
use Rattle.stan_model_statements.specs.Grammar.{Ends, Spells, Runs, Any}
use Rattle.stan_model_statements.specs.Kinds.{same_kind}
use Rattle.stan_model_statements.specs.Symbols.{Top}
use Rattle.stan_model_statements.specs.Takes.{takes, IsForestOf, depth}
use Rattle.stan_model_statements.specs.Tops.{top, ReadsTops, IsFront, IsLongestFront}
use Rattle.stan_stmt_rules.specs.Ahead.{begins, Next, owner}
use Rattle.stan_stmt_rules.specs.Parse.{Piece, standing, one, read}
use Rattle.stan_expr_rules.specs.Parse.{Read}
use Rattle.stan_stmt_rules.specs.Parse as parse
use Rattle.stan_stmt_law.proofs.Checks.{leads}
use Rattle.stan_stmt_law.proofs.Expressions.{behind, Picked, are_expressions, sound, whole, seeing, picked_within}
use Rattle.stan_stmt_law.proofs.Heights.{nests}
use Rattle.stan_stmt_law.proofs.Inside.{nothing_past, inside}
use Rattle.stan_stmt_law.proofs.Law.{begun, y_sized, y_begun, one_run, loose, some_greedy, greedy_takes_most, no_front}
use Rattle.stan_stmt_law.proofs.Reading.{part_sound, part_complete}
use Rattle.stan_stmt_law.proofs.Runs.{first_kind, takes_some}
use Rattle.stan_stmt_law.proofs.Tables.{quiet_owner}
use Rattle.stan_stmt_law.proofs.Words.{see, truth}

pub never : (xs ys : List ℕ) → More xs ys → More ys xs → ⊥
never [] ys m n = m
never (x ∷ xs) [] m n = m
never (x ∷ xs) (y ∷ ys) (inl a) (inl b) = omega (arith, a, b)
never (x ∷ xs) (y ∷ ys) (inl a) (inr b) = omega (arith, a, b.0)
never (x ∷ xs) (y ∷ ys) (inr a) (inl b) = omega (arith, a.0, b)
never (x ∷ xs) (y ∷ ys) (inr a) (inr b) = never xs ys a.1 b.1

-- what goes on with a declaration or a statement
pub unowned_is : (kind : TokenKind) → IsFalse (goes_on kind) → owner kind ≡ None
unowned_is k.Else h = absurd cc
unowned_is k.ElseIf h = absurd cc
unowned_is k.Catch h = absurd cc
unowned_is k.Finally h = absurd cc
unowned_is kind h = refl

pub is_unowned : (kind : TokenKind) → owner kind ≡ None → IsFalse (goes_on kind)
is_unowned k.Else h = absurd cc
is_unowned k.ElseIf h = absurd cc
is_unowned k.Catch h = absurd cc
is_unowned k.Finally h = absurd cc
is_unowned kind h = refl

begins_itself : leads (begins Top) top ≡ true
unfolding same_kind
begins_itself = refl

-- all but the last, and the last
record Last (fs : List Forest) : Type 0 where
  before : List Forest
  last : Forest
  are : fs ≡ before ++ last ∷ []

last_of : (f : Forest) (fs : List Forest) → Last (f ∷ fs)
last_of f [] = record { before = []; last = f; are = refl }
last_of f (g ∷ fs) = let l = last_of g fs in record { before = f ∷ l.before; last = l.last; are = ap (λ xs. f ∷ xs) l.are }

module _ (ts : List Token) (named : Token → Bool) where
  abbrev pub Greedy : Forest → ℕ → ℕ → Type 0
  Greedy = Runs ts named (Picked ts) (Next ts (behind ts)) top

  abbrev Ended : ℕ → Type 0
  Ended to = owner (kind_at ts to) ≡ None

  -- tops as the parser reads them
  abbrev pub GreedyTops : List Forest → ℕ → ℕ → Type 0
  GreedyTops [] from to = from ≡ to
  GreedyTops (f ∷ fs) from to = (b : ℕ) × Greedy f from b × (depth f ≤ 200) × GreedyTops fs b to

  abbrev Tops : List Forest → ℕ → ℕ → Type 0
  Tops = ReadsTops ts named

  pub one_greedy : (f g : Forest) (at to end : ℕ) → Greedy f at to → Greedy g at end → (f ≡ g) × (to ≡ end)
  one_greedy = one_run ts named (Ends ts) (Picked ts) (behind ts) (are_expressions ts) top

  pub spelled : (f : Forest) (at to : ℕ) → Greedy f at to → Spells ts named top f at to
  spelled = loose ts named (Ends ts) (Picked ts) (behind ts) (are_expressions ts) top

  pub greedy_is_tree : (f : Forest) (at to : ℕ) → Ended to → Greedy f at to → IsForestOf ts named top f at to
  greedy_is_tree f at to e h = (spelled f at to h, greedy_takes_most ts named (Ends ts) (Picked ts) (behind ts) (are_expressions ts) top f at to refl refl (λ o. e) h)

  pub some_tree : (f : Forest) (at to : ℕ) → Ended to → Spells ts named top f at to → (g : Forest) × IsForestOf ts named top g at to
  some_tree f at to e h = let w = some_greedy ts named (Ends ts) (Picked ts) (behind ts) (are_expressions ts) top f at to refl (λ o. e) h in (w.0, greedy_is_tree w.0 at to e w.1)

  pub one_tree : (f g : Forest) (at to : ℕ) → IsForestOf ts named top f at to → IsForestOf ts named top g at to → f ≡ g
  one_tree f g at to h i = elim (h.1 g i.0) [ inl same ↦ same | inr m ↦ elim (i.1 f h.0) [ inl same ↦ sym same | inr n ↦ absurd (never (takes top f) (takes top g) m n) ] ]

  pub not_a_front : (f g : Forest) (at to end : ℕ) → Spells ts named top f at to → Spells ts named top g at end → to < end → Ended to → ⊥
  not_a_front f g at to end h i lt e = no_front ts named (Ends ts) (Picked ts) (behind ts) (are_expressions ts) top f g at to end refl h i lt (λ o. e)

  pub tree_there : (f : Forest) (at to : ℕ) → Spells ts named top f at to → IsFalse (goes_on (kind_at ts to)) → (g : Forest) × IsForestOf ts named top g at to
  tree_there f at to h e = some_tree f at to (unowned_is (kind_at ts to) e) h

  pub front_goes_on : (f g : Forest) (at to end : ℕ) → Spells ts named top f at to → Spells ts named top g at end → to < end → IsTrue (goes_on (kind_at ts to))
  front_goes_on f g at to end h i lt = elim (truth (goes_on (kind_at ts to))) [ inl on ↦ on | inr off ↦ absurd (not_a_front f g at to end h i lt (unowned_is (kind_at ts to) off)) ]

  pub begins_quiet : (f : Forest) (at to : ℕ) → Spells ts named top f at to → Ended at
  begins_quiet f at to h = quiet_owner (begins Top) (kind_at ts at) refl (first_kind ts named (Ends ts) Any (are_expressions ts).sized (begun ts named (Ends ts) (Picked ts) (behind ts) (are_expressions ts)) (begins Top) top f at to begins_itself h)

  pub greedy_rises : (f : Forest) (at to : ℕ) → Greedy f at to → at < to
  greedy_rises f at to h = takes_some ts named (Picked ts) (Next ts (behind ts)) (y_sized ts named (Ends ts) (Picked ts) (behind ts) (are_expressions ts)) (y_begun ts named (Ends ts) (Picked ts) (behind ts) (are_expressions ts)) (begins Top) top f at to begins_itself h

  -- the tree of the tokens is the greedy one
  pub top_greedy : (f : Forest) (at to : ℕ) → Ended to → IsForestOf ts named top f at to → Greedy f at to
  top_greedy f at to e h =
      let w = some_greedy ts named (Ends ts) (Picked ts) (behind ts) (are_expressions ts) top f at to refl (λ o. e) h.0 in
      subst (λ z. Greedy z at to) (one_tree w.0 f at to (greedy_is_tree w.0 at to e w.1) h) w.1

  -- a front that no token goes on with is read as it stands
  front_greedy : (fs : List Forest) (from to : ℕ) → Tops fs from to → (fs ≡ []) ⊎ Ended to → GreedyTops fs from to
  front_greedy [] from to h e = h
  front_greedy (f ∷ []) from to h e =
      let ended : Ended to = elim e [ inl nothing ↦ absurd cc | inr o ↦ o ] in
      (h.0, top_greedy f from h.0 (subst Ended (sym h.3) ended) h.1, h.2, h.3)
  front_greedy (f ∷ g ∷ fs) from to h e =
      let more : (g ∷ fs ≡ []) ⊎ Ended to = elim e [ inl nothing ↦ absurd cc | inr o ↦ inr o ] in
      (h.0, top_greedy f from h.0 (begins_quiet g h.0 h.3.0 h.3.1.0) h.1, h.2, front_greedy (g ∷ fs) h.0 to h.3 more)

  greedy_tops : (fs : List Forest) (from to : ℕ) → GreedyTops fs from to → (fs ≡ []) ⊎ Ended to → Tops fs from to
  greedy_tops [] from to h e = h
  greedy_tops (f ∷ []) from to h e =
      let ended : Ended to = elim e [ inl nothing ↦ absurd cc | inr o ↦ o ] in
      (h.0, greedy_is_tree f from h.0 (subst Ended (sym h.3) ended) h.1, h.2, h.3)
  greedy_tops (f ∷ g ∷ fs) from to h e =
      let more : (g ∷ fs ≡ []) ⊎ Ended to = elim e [ inl nothing ↦ absurd cc | inr o ↦ inr o ] in
      (h.0, greedy_is_tree f from h.0 (begins_quiet g h.0 h.3.0 (spelled g h.0 h.3.0 h.3.1)) h.1, h.2, greedy_tops (g ∷ fs) h.0 to h.3 more)

  -- two of as many tops
  one_tops : (fs gs : List Forest) (from to end : ℕ) → GreedyTops fs from to → GreedyTops gs from end → length gs ≡ length fs → (fs ≡ gs) × (to ≡ end)
  one_tops [] [] from to end h i n = (refl, sym h ∙ i)
  one_tops [] (g ∷ gs) from to end h i n = absurd (omega (arith, n))
  one_tops (f ∷ fs) [] from to end h i n = absurd (omega (arith, n))
  one_tops (f ∷ fs) (g ∷ gs) from to end h i n =
      let first = one_greedy f g from h.0 i.0 h.1 i.1 in
      let more = one_tops fs gs h.0 to end h.3 (subst (λ b. GreedyTops gs b end) (sym first.1) i.3) (omega (arith, n)) in
      (ap₂ (λ x xs. x ∷ xs) first.0 more.0, more.1)

  tops_rise : (fs : List Forest) (from to : ℕ) → GreedyTops fs from to → from ≤ to
  tops_rise [] from to h = omega (arith, h)
  tops_rise (f ∷ fs) from to h = omega (arith, greedy_rises f from h.0 h.1, tops_rise fs h.0 to h.3)

  -- two of the same tokens
  same_tops : (fs gs : List Forest) (from to : ℕ) → GreedyTops fs from to → GreedyTops gs from to → fs ≡ gs
  same_tops [] [] from to h i = refl
  same_tops [] (g ∷ gs) from to h i = absurd (omega (arith, h, greedy_rises g from i.0 i.1, tops_rise gs i.0 to i.3))
  same_tops (f ∷ fs) [] from to h i = absurd (omega (arith, i, greedy_rises f from h.0 h.1, tops_rise fs h.0 to h.3))
  same_tops (f ∷ fs) (g ∷ gs) from to h i =
      let first = one_greedy f g from h.0 i.0 h.1 i.1 in
      ap₂ (λ x xs. x ∷ xs) first.0 (same_tops fs gs h.0 to h.3 (subst (λ b. GreedyTops gs b to) (sym first.1) i.3))

  -- the whole of the tokens is read in one way
  pub end_quiet : Ended (length ts)
  end_quiet = ap owner (nothing_past ts (length ts) (omega arith))

  pub one_file : (fs gs : List Forest) → Tops fs 0 (length ts) → Tops gs 0 (length ts) → fs ≡ gs
  one_file fs gs h i = same_tops fs gs 0 (length ts) (front_greedy fs 0 (length ts) h (inr end_quiet)) (front_greedy gs 0 (length ts) i (inr end_quiet))

  quiet_front : (fs : List Forest) (to : ℕ) → IsFront ts named fs to → GreedyTops fs 0 to
  quiet_front fs to h = front_greedy fs 0 to h.0 (elim h.1 [ inl nothing ↦ inl nothing | inr off ↦ inr (unowned_is (kind_at ts to) off) ])

  pub one_longest : (fs gs : List Forest) (to end : ℕ) → IsLongestFront ts named fs to → IsLongestFront ts named gs end → (fs ≡ gs) × (to ≡ end)
  one_longest fs gs to end h i = one_tops fs gs 0 to end (quiet_front fs to h.front) (quiet_front gs end i.front) (omega (arith, h.longest gs end i.front, i.longest fs to h.front))

  -- what no top can follow has the most
  Stops : ℕ → Type 0
  Stops to = (f : Forest) (b : ℕ) → Greedy f to b → depth f ≤ 200 → ⊥

  most_tops : (fs gs : List Forest) (from to end : ℕ) → GreedyTops fs from to → Stops to → GreedyTops gs from end → length gs ≤ length fs
  unfolding Stops
  most_tops fs [] from to end h n i = omega arith
  most_tops [] (g ∷ gs) from to end h n i = absurd (n g i.0 (subst (λ z. Greedy g z i.0) h i.1) i.2)
  most_tops (f ∷ fs) (g ∷ gs) from to end h n i =
      let first = one_greedy f g from h.0 i.0 h.1 i.1 in
      omega (arith, most_tops fs gs h.0 to end h.3 n (subst (λ b. GreedyTops gs b end) (sym first.1) i.3))

  module _ (fs : List Forest) (to : ℕ) (reads : GreedyTops fs 0 to) (stops : Stops to) where
    most_of_front : (gs : List Forest) (end : ℕ) → IsFront ts named gs end → length gs ≤ length fs
    most_of_front gs end front = most_tops fs gs 0 to end reads stops (quiet_front gs end front)

    -- Where what follows does not go on with the last top, they are the longest front.
    longest_front : (fs ≡ []) ⊎ Ended to → IsLongestFront ts named fs to
    longest_front e = record { front = (greedy_tops fs 0 to reads e, elim e [ inl nothing ↦ inl nothing | inr off ↦ inr (is_unowned (kind_at ts to) off) ]); longest = most_of_front }

    -- Where it does, they are it but for the last.
    longest_front_before : (before : List Forest) (last : Forest) (from : ℕ) → fs ≡ before ++ last ∷ [] → GreedyTops before 0 from → Greedy last from to → (Ended to → ⊥) → IsLongestFront ts named before from
    longest_front_before before last from is reads_before reads_last on =
        let quiet : Ended from = begins_quiet last from to (spelled last from to reads_last) in
        record { front = (greedy_tops before 0 from reads_before (inr quiet), inr (is_unowned (kind_at ts from) quiet)); longest = shorter }
      where
        shorter : (gs : List Forest) (end : ℕ) → IsFront ts named gs end → length gs ≤ length before
        shorter gs end front =
            let most : length gs ≤ length fs = most_of_front gs end front in
            let count : length fs ≡ length before + 1 = rw is (simp length-append refl) in
            ⊎_elim (λ (above : length before < length gs).
            let same = one_tops fs gs 0 to end reads (quiet_front gs end front) (omega arith) in
            absurd (⊎_elim (λ (none : gs ≡ []). absurd (let n : length gs ≡ 0 = ap length none in omega arith))
            (λ (off : IsFalse (goes_on (kind_at ts end))). on (subst Ended (sym same.1) (unowned_is (kind_at ts end) off))) front.1))
            (λ below. below) (cases_lt (length before) (length gs))

  -- ---- there is a longest front

  -- tops from a place on, as many as there are
  record Extent (from : ℕ) : Type 0 where
    tops : List Forest
    place : ℕ
    read_there : GreedyTops tops from place
    stopped : Stops place

  abbrev reader : ℕ → Read Piece
  reader at = one ts named (parse.expression ts) (parse.behind ts) (read ts named (parse.expression ts) (parse.behind ts) 1407 0) 0 Top at

  read_is : (at : ℕ) (p : Piece × ℕ) → reader at ≡ Some p → Greedy (standing p.0 nil) at p.1 × (depth (standing p.0 nil) ≤ 200)
  read_is at p h =
      let w = part_sound ts named (Ends ts) (Picked ts) (behind ts) (are_expressions ts) (parse.expression ts) (parse.behind ts) (sound ts) 1407 0 Top at p (omega arith) h in
      (w.0, omega (arith, w.1))

  none_stops : (at : ℕ) → at ≤ length ts → reader at ≡ None → Stops at
  unfolding Stops
  none_stops at le h f b g d =
      let high = nests ts named (Picked ts) (Next ts (behind ts)) 5 top f at b refl g in
      let there = part_complete ts named (Ends ts) (Picked ts) (behind ts) (are_expressions ts) (parse.expression ts) (parse.behind ts) (sound ts) (whole ts) (seeing ts) (picked_within ts) 1406 0 Top f at b g (omega (arith, high, d)) (omega (arith, d)) le in
      absurd (let nothing = h in let something = there.2 in cc)

  extent : (n from : ℕ) → from ≤ length ts → length ts < n + from → Extent from
  extent zero from le lt = absurd (omega (arith, le, lt))
  extent (suc n) from le lt = elim (see (reader from)) [
    | inl none ↦ record { tops = []; place = from; read_there = refl; stopped = none_stops from le none }
    | inr w ↦
        let is = read_is from w.0 w.1 in
        let rises = greedy_rises (standing w.0.0 nil) from w.0.1 is.0 in
        let within = inside ts named (Picked ts) (Next ts (behind ts)) (picked_within ts) top (standing w.0.0 nil) from w.0.1 refl le is.0 in
        let more = extent n w.0.1 within (omega (arith, lt, rises)) in
        record { tops = standing w.0.0 nil ∷ more.tops; place = more.place; read_there = (w.0.1, is.0, is.1, more.read_there); stopped = more.stopped }
  ]

  -- where the last of some tops begins
  record LastRead (before : List Forest) (last : Forest) (from to : ℕ) : Type 0 where
    begins_at : ℕ
    reads_before : GreedyTops before from begins_at
    reads_last : Greedy last begins_at to

  last_read : (before : List Forest) (last : Forest) (from to : ℕ) → GreedyTops (before ++ last ∷ []) from to → LastRead before last from to
  last_read [] last from to h = record { begins_at = from; reads_before = refl; reads_last = subst (λ z. Greedy last from z) h.3 h.1 }
  last_read (f ∷ before) last from to h =
      let more = last_read before last h.0 to h.3 in
      record { begins_at = more.begins_at; reads_before = (h.0, h.1, h.2, more.reads_before); reads_last = more.reads_last }

  ended_or_not : (to : ℕ) → Ended to ⊎ (Ended to → ⊥)
  ended_or_not to = elim (see (owner (kind_at ts to))) [ inl none ↦ inl none | inr w ↦ inr (λ none. let some_one = w.1 in cc) ]

  pub some_longest : (fs : List Forest) × (to : ℕ) × IsLongestFront ts named fs to
  some_longest = by_tops (extent (length ts + 1) 0 (omega arith) (omega arith))
    where
      by_last : (to : ℕ) (f : Forest) (fs : List Forest) → GreedyTops (f ∷ fs) 0 to → Stops to → (Ended to → ⊥) → (gs : List Forest) × (end : ℕ) × IsLongestFront ts named gs end
      by_last to f fs reads stops on =
          let l = last_of f fs in
          let r = last_read l.before l.last 0 to (subst (λ xs. GreedyTops xs 0 to) l.are reads) in
          (l.before, r.begins_at, longest_front_before (f ∷ fs) to reads stops l.before l.last r.begins_at l.are r.reads_before r.reads_last on)

      by_end : (to : ℕ) (fs : List Forest) → GreedyTops fs 0 to → Stops to → (gs : List Forest) × (end : ℕ) × IsLongestFront ts named gs end
      by_end to [] reads stops = ([], to, longest_front [] to reads stops (inl refl))
      by_end to (f ∷ fs) reads stops = elim (ended_or_not to) [
        | inl off ↦ (f ∷ fs, to, longest_front (f ∷ fs) to reads stops (inr off))
        | inr on ↦ by_last to f fs reads stops on
      ]

      by_tops : Extent 0 → (gs : List Forest) × (end : ℕ) × IsLongestFront ts named gs end
      by_tops x = by_end x.place x.tops x.read_there x.stopped
