-- A shape whose productions are greedy, that holds first tokens and bodies as the tokens have them and is not too deep, is what the parser
-- of parts reads.
use Rattle.std.proofs.Common.{◌≡◌, ℕ, zero, suc, ◌+◌, ◌≤◌, ◌<◌, Bool, true, List, [], ◌∷◌, ◌++◌, length, Option, Some, None, refl, sym, ap, subst, ◌∙◌, arith, append-nil, append_assoc, true≢false}
use Rattle.std.specs.Prelude.{not, max}
use Rattle.std.proofs.lemmas.Bool.{le-leb}
use Rattle.stan_model_grammar.specs.declared.token.Token.{Token}
use Rattle.stan_model_grammar.specs.declared.token.TokenKind.{TokenKind}
use Rattle.stan_model_grammar.specs.Depth.{depth as tree_depth}
use Rattle.stan_model_grammar.specs.Sites.{sites, bodies_among}
use Rattle.stan_model_grammar.specs.Strata.{kind_at}
use Rattle.stan_model_grammar.specs.Trees.{Tree}
use Rattle.stan_model_statements.specs.Forests.{Forest}
use Rattle.stan_model_statements.specs.Grammar.{Runs}
use Rattle.stan_model_statements.specs.Rules.{Rule, symbols, sort_of, weight}
use Rattle.stan_model_statements.specs.Symbols.{Sort, One, May, Many, Again, Symbol, Mark, Word, Checked, Expression, Part}
use Rattle.stan_model_statements.specs.Takes.{size}
use Rattle.stan_model_files.specs.Shapes.{Shape, nil, mark, word, expr, none, some, Bodies, forest, has_first, depth, bodies_depth, IsFirst, Holds, HoldBodies}
use Rattle.stan_expr_rules.specs.Parse.{Read}
use Rattle.stan_stmt_rules.specs.Ahead.{pick_at, Next}
use Rattle.stan_stmt_rules.specs.Parse.{most}
use Rattle.stan_stmt_parts.specs.Parse.{Piece, Putting, items, first_at, one, may, many, all, run, read}
use Rattle.stan_stmt_law.proofs.Inside.{is_end, stand, rules_stand, kind_within, token_within, inside, after_at}
use Rattle.stan_stmt_law.proofs.Law.{y_sized, y_begun}
use Rattle.stan_stmt_law.proofs.Reading.{word_there, checked_there, steady, rules_steady, steady_part, steady_others, is_lacking, found_there, grows}
use Rattle.stan_stmt_law.proofs.Runs.{AreExpressions, taken}
use Rattle.stan_stmt_law.proofs.Words.{and_split}
use Rattle.stan_read_law.proofs.Firsts.{stands_there}
use Rattle.stan_read_law.proofs.Heights.{height, bodies_height, forest_depth}

module _ (ts : List Token) (named : Token → Bool) (X Y : Bool → Tree → ℕ → ℕ → Type 0) (behind : ℕ → TokenKind) (exs : AreExpressions ts X Y behind)
    (expression : ℕ → Bool → ℕ → Read Tree) (seen : ℕ → ℕ → TokenKind)
    (sound : (levels : ℕ) (p : Bool) (at : ℕ) (x : Tree × ℕ) → levels ≤ most → expression levels p at ≡ Some x → Y p x.0 at x.1 × (tree_depth x.0 + levels ≤ most))
    (whole : (levels : ℕ) (p : Bool) (at b : ℕ) (e : Tree) → Y p e at b → tree_depth e + levels ≤ most → expression levels p at ≡ Some (e, b))
    (seeing : (levels : ℕ) (p : Bool) (at b : ℕ) (e : Tree) → Y p e at b → tree_depth e + levels ≤ most → seen levels at ≡ kind_at ts b)
    (within : (p : Bool) (e : Tree) (at b : ℕ) → Y p e at b → b ≤ length ts)
    (value : ℕ → ℕ → Bool → ℕ → Read Putting) where
  abbrev G : List Symbol → Forest → ℕ → ℕ → Type 0
  G = Runs ts named Y (Next ts behind)

  -- With so much room each expression is read that does not need more.
  abbrev pub Reads : ℕ → Type 0
  Reads room = (levels : ℕ) (p : Bool) (at b : ℕ) (e : Tree) (bs : Bodies) → Y p e at b → HoldBodies ts named bs (bodies_among (sites 0 e)) → bodies_height bs ≤ room → max (tree_depth e) (bodies_depth bs) + levels ≤ most
      → value room levels p at ≡ Some (expr e bs, b)

  abbrev pub Complete : ℕ → ℕ → List Symbol → Shape → ℕ → ℕ → Type 0
  Complete n levels xs f at to = run ts named value seen (read ts named value seen n levels) levels n xs at ≡ Some (f, to)

  sized : (xs : List Symbol) (f : Forest) (at b : ℕ) → G xs f at b → b ≡ at + size f
  sized = taken ts named Y (Next ts behind) (y_sized ts named X Y behind exs) (y_begun ts named X Y behind exs)

  -- ---- a part

  -- a part that stands is found, and read
  pub record PartRead (n levels : ℕ) (s : Sort) (r : Rule) (t : Option Token) (ps : Shape) (at b : ℕ) : Type 0 where
    pub picked : pick_at ts (seen levels) s at ≡ Some r
    pub read_there : read ts named value seen n levels r at ≡ Some (ps, b)
    pub first : first_at ts r at ≡ t
    pub rises : at < b
    pub ends_within : b ≤ length ts
    pub ends : b ≡ at + size (forest ps)

  read_one : (n levels : ℕ) (r : Rule) (ps : Shape) (at b : ℕ) → levels + weight r ≤ most → Complete n (levels + weight r) (symbols r) ps at b → read ts named value seen (suc n) levels r at ≡ Some (ps, b)
  read_one n levels r ps at b le h = rw (le-leb (levels + weight r) most le) h

  pub part_read : (n levels : ℕ) (s : Sort) (r : Rule) (t : Option Token) (ps : Shape) (at b : ℕ) → sort_of r ≡ s → G (symbols r) (forest ps) at b → IsFirst ts named (has_first (sort_of r)) t at
      → weight r + depth ps + levels ≤ most → at ≤ length ts → Complete n (levels + weight r) (symbols r) ps at b → PartRead (suc n) levels s r t ps at b
  part_read n levels s r t ps at b is h first d le c = record {
    picked = found_there ts named X Y behind exs expression seen sound whole seeing within levels s r (forest ps) at b is h (omega (arith, d, forest_depth ps));
    read_there = read_one n levels r ps at b (omega (arith, d)) c;
    first = stands_there ts named r t at first;
    rises = grows ts named X Y behind exs expression seen sound whole seeing within r (forest ps) at b h;
    ends_within = inside ts named Y (Next ts behind) within (symbols r) (forest ps) at b (rules_stand r) le h;
    ends = sized (symbols r) (forest ps) at b h;
  }

  module _ (n levels : ℕ) (s : Sort) where
    pub one_read : (r : Rule) (t : Option Token) (ps : Shape) (at b : ℕ) → PartRead n levels s r t ps at b → one ts named value seen (read ts named value seen n levels) levels s at ≡ Some ((r, t, ps), b)
    unfolding one
    one_read r t ps at b p = rw p.picked (rw p.read_there (rw p.first refl))

    may_read : (r : Rule) (t : Option Token) (ps : Shape) (at b : ℕ) → PartRead n levels s r t ps at b → may ts named value seen (read ts named value seen n levels) levels s at ≡ Some (Some (r, t, ps), b)
    unfolding may
    may_read r t ps at b p = rw p.picked (rw p.read_there (rw p.first refl))

    may_lack : (at : ℕ) → pick_at ts (seen levels) s at ≡ None → may ts named value seen (read ts named value seen n levels) levels s at ≡ Some (None, at)
    unfolding may
    may_lack at e = rw e refl

    all_read : (at : ℕ) (ps : List Piece) (b : ℕ) → many ts named value seen (read ts named value seen n levels) levels (length ts + 1) s [] at ≡ Some (ps, b) → all ts named value seen (read ts named value seen n levels) levels s at ≡ Some (ps, b)
    unfolding all
    all_read at ps b h = h

    module _ (xs : List Symbol) where
      -- what is read of a repeated part, for every list that was found before
      record AllRead (turns : ℕ) (f : Shape) (at to : ℕ) : Type 0 where
        pieces : List Piece
        others : Shape
        place : ℕ
        whole_is : f ≡ items pieces others
        reads_on : run ts named value seen (read ts named value seen n levels) levels n xs place ≡ Some (others, to)
        turns_read_too : (found : List Piece) → many ts named value seen (read ts named value seen n levels) levels turns s found at ≡ Some (found ++ pieces, place)

      run_many : (f : Shape) (at to : ℕ) → AllRead (length ts + 1) f at to → Complete n levels (Part Many s ∷ xs) f at to
      run_many f at to w = rw (all_read at w.pieces w.place (w.turns_read_too [])) (rw w.reads_on (ap (λ z. let o : Shape × ℕ → Option (Shape × ℕ) = Some in o (z, to)) (sym w.whole_is)))

      run_again : (f : Shape) (at to : ℕ) → AllRead (length ts + 1) f at to → Complete n levels (Part Again s ∷ xs) f at to
      run_again f at to w = run_many f at to w

      many_none : (turns : ℕ) (f : Shape) (at to : ℕ) → 0 < turns → pick_at ts (seen levels) s at ≡ None → Complete n levels xs f at to → AllRead turns (none f) at to
      many_none zero f at to t e h = absurd (omega (arith, t))
      many_none (suc turns) f at to t e h =
          record { pieces = []; others = f; place = at; whole_is = refl; reads_on = h; turns_read_too = λ found. rw e (ap (λ z. let o : List Piece × ℕ → Option (List Piece × ℕ) = Some in o (z, at)) (sym (append-nil found))) }

      many_some : (turns : ℕ) (r : Rule) (t : Option Token) (ps f : Shape) (at b to : ℕ) → PartRead n levels s r t ps at b → AllRead turns f b to → AllRead (suc turns) (some r t ps f) at to
      many_some turns r t ps f at b to p w =
          record {
            pieces = (r, t, ps) ∷ w.pieces;
            others = w.others;
            place = w.place;
            whole_is = ap (some r t ps) w.whole_is;
            reads_on = w.reads_on;
            turns_read_too = λ found. rw p.picked (rw p.read_there (rw p.first (w.turns_read_too (found ++ (r, t, ps) ∷ []) ∙ ap (λ z. let o : List Piece × ℕ → Option (List Piece × ℕ) = Some in o (z, w.place)) (append_assoc found ((r, t, ps) ∷ []) w.pieces))));
          }

      first_turn : (r : Rule) (t : Option Token) (ps f : Shape) (at b to : ℕ) → PartRead n levels s r t ps at b → AllRead (length ts) f b to → AllRead (length ts + 1) (some r t ps f) at to
      first_turn r t ps f at b to p w = let turns : length ts + 1 ≡ suc (length ts) = omega arith in subst (λ z. AllRead z (some r t ps f) at to) (sym turns) (many_some (length ts) r t ps f at b to p w)

  -- ---- symbols

  mutual
    pub complete : (f : Shape) (n levels : ℕ) (xs : List Symbol) (at to : ℕ) → G xs (forest f) at to → Holds ts named f at → height f ≤ n → depth f + levels ≤ most → stand xs ≡ true → steady xs ≡ true → at ≤ length ts
        → ((m : ℕ) → m ≤ n → Reads m) → Complete n levels xs f at to
    complete nil n levels [] at to h held hi d st u le vs = rw h refl
    complete nil n levels (Mark kind ∷ xs) at to h held hi d st u le vs = absurd h
    complete (mark f) n levels (Mark kind ∷ xs) at to h held hi d st u le vs =
        let split = and_split (not (is_end kind)) (stand xs) st in
        rw (after_at ts kind at split.0 h.0) (rw (complete f n levels xs (at + 1) to h.1 held hi d split.1 u (omega (arith, kind_within ts at kind split.0 h.0)) vs) refl)
    complete (word t f) n levels (Word ks ∷ xs) at to h held hi d st u le vs =
        rw (word_there ts ks at t h.0 h.1) (rw (complete f n levels xs (at + 1) to h.2 held hi d st u (omega (arith, token_within ts at t h.0)) vs) refl)
    complete (word t f) n levels (Checked c ∷ xs) at to h held hi d st u le vs =
        rw (checked_there ts named c at t h.0 h.1 h.2) (rw (complete f n levels xs (at + 1) to h.3 held hi d st u (omega (arith, token_within ts at t h.0)) vs) refl)
    complete (expr e bs f) n levels (Expression p ∷ xs) at to h held hi d st u le vs =
        let behind_it = subst (λ z. Holds ts named f z) (sym (y_sized ts named X Y behind exs p e at h.0 h.1)) held.1 in
        rw (vs n (omega arith) levels p at h.0 e bs h.1 held.0 (omega (arith, hi)) (omega (arith, d))) (rw (complete f n levels xs h.0 to h.2 behind_it (omega (arith, hi)) (omega (arith, d)) st u (within p e at h.0 h.1) vs) refl)
    complete (none f) n levels (Part One s ∷ xs) at to h held hi d st u le vs = absurd (true≢false (sym h.0))
    complete (none f) n levels (Part May s ∷ xs) at to h held hi d st u le vs =
        let v = steady_part May s xs refl u in
        rw (may_lack n levels s at (is_lacking ts named X Y behind exs expression seen sound levels s at v.0 h.1)) (rw (complete f n levels xs at to h.2 held hi d st v.1 le vs) refl)
    complete (none f) n levels (Part Many s ∷ xs) at to h held hi d st u le vs =
        let v = steady_part Many s xs refl u in
        run_many n levels s xs (none f) at to (many_none n levels s xs (length ts + 1) f at to (omega arith) (is_lacking ts named X Y behind exs expression seen sound levels s at v.0 h.1) (complete f n levels xs at to h.2 held hi d st v.1 le vs))
    complete (none f) n levels (Part Again s ∷ xs) at to h held hi d st u le vs =
        let v = steady_part Again s xs refl u in
        run_again n levels s xs (none f) at to (many_none n levels s xs (length ts + 1) f at to (omega arith) (is_lacking ts named X Y behind exs expression seen sound levels s at v.0 h.1) (complete f n levels xs at to h.2 held hi d st v.1 le vs))
    complete (some r t ps f) zero levels (Part k s ∷ xs) at to h held hi d st u le vs = absurd (omega (arith, hi))
    complete (some r t ps f) (suc n) levels (Part One s ∷ xs) at to h held hi d st u le vs =
        let p = part_read n levels s r t ps at h.0 h.1 h.3 held.0 (omega (arith, d)) le (complete ps n (levels + weight r) (symbols r) at h.0 h.3 held.1 (omega (arith, hi)) (omega (arith, d)) (rules_stand r) (rules_steady r) le (λ m k. vs m (omega (arith, k)))) in
        rw (one_read (suc n) levels s r t ps at h.0 p) (rw (complete f (suc n) levels xs h.0 to h.4 (subst (λ z. Holds ts named f z) (sym p.ends) held.2) (omega (arith, hi)) (omega (arith, d)) st u p.ends_within vs) refl)
    complete (some r t ps f) (suc n) levels (Part May s ∷ xs) at to h held hi d st u le vs =
        let p = part_read n levels s r t ps at h.0 h.1 h.3 held.0 (omega (arith, d)) le (complete ps n (levels + weight r) (symbols r) at h.0 h.3 held.1 (omega (arith, hi)) (omega (arith, d)) (rules_stand r) (rules_steady r) le (λ m k. vs m (omega (arith, k)))) in
        rw (may_read (suc n) levels s r t ps at h.0 p) (rw (complete f (suc n) levels xs h.0 to h.4 (subst (λ z. Holds ts named f z) (sym p.ends) held.2) (omega (arith, hi)) (omega (arith, d)) st (steady_others May s xs u) p.ends_within vs) refl)
    complete (some r t ps f) (suc n) levels (Part Many s ∷ xs) at to h held hi d st u le vs =
        let p = part_read n levels s r t ps at h.0 h.1 h.3 held.0 (omega (arith, d)) le (complete ps n (levels + weight r) (symbols r) at h.0 h.3 held.1 (omega (arith, hi)) (omega (arith, d)) (rules_stand r) (rules_steady r) le (λ m k. vs m (omega (arith, k)))) in
        run_many (suc n) levels s xs (some r t ps f) at to
        (first_turn (suc n) levels s xs r t ps f at h.0 to p
        (turns_read f (suc n) levels (length ts) s xs h.0 to h.4 (subst (λ z. Holds ts named f z) (sym p.ends) held.2) (omega (arith, hi)) (omega (arith, d)) st u p.ends_within (omega (arith, p.rises)) vs))
    complete (some r t ps f) (suc n) levels (Part Again s ∷ xs) at to h held hi d st u le vs =
        let p = part_read n levels s r t ps at h.0 h.1 h.3 held.0 (omega (arith, d)) le (complete ps n (levels + weight r) (symbols r) at h.0 h.3 held.1 (omega (arith, hi)) (omega (arith, d)) (rules_stand r) (rules_steady r) le (λ m k. vs m (omega (arith, k)))) in
        run_again (suc n) levels s xs (some r t ps f) at to
        (first_turn (suc n) levels s xs r t ps f at h.0 to p
        (turns_read f (suc n) levels (length ts) s xs h.0 to h.4 (subst (λ z. Holds ts named f z) (sym p.ends) held.2) (omega (arith, hi)) (omega (arith, d)) st u p.ends_within (omega (arith, p.rises)) vs))
    complete f n levels xs at to h held hi d st u le vs = absurd h

    turns_read : (f : Shape) (n levels turns : ℕ) (s : Sort) (xs : List Symbol) (at to : ℕ) → G (Part Again s ∷ xs) (forest f) at to → Holds ts named f at → height f ≤ n → depth f + levels ≤ most → stand xs ≡ true → steady (Part Again s ∷ xs) ≡ true
        → at ≤ length ts → length ts < turns + at → ((m : ℕ) → m ≤ n → Reads m) → AllRead n levels s xs turns f at to
    turns_read (none f) n levels turns s xs at to h held hi d st u le t vs =
        let v = steady_part Again s xs refl u in
        many_none n levels s xs turns f at to (omega (arith, t, le)) (is_lacking ts named X Y behind exs expression seen sound levels s at v.0 h.1) (complete f n levels xs at to h.2 held hi d st v.1 le vs)
    turns_read (some r x ps f) zero levels turns s xs at to h held hi d st u le t vs = absurd (omega (arith, hi))
    turns_read (some r x ps f) (suc n) levels zero s xs at to h held hi d st u le t vs = absurd (omega (arith, t, le))
    turns_read (some r x ps f) (suc n) levels (suc turns) s xs at to h held hi d st u le t vs =
        let p = part_read n levels s r x ps at h.0 h.1 h.3 held.0 (omega (arith, d)) le (complete ps n (levels + weight r) (symbols r) at h.0 h.3 held.1 (omega (arith, hi)) (omega (arith, d)) (rules_stand r) (rules_steady r) le (λ m k. vs m (omega (arith, k)))) in
        many_some (suc n) levels s xs turns r x ps f at h.0 to p
        (turns_read f (suc n) levels turns s xs h.0 to h.4 (subst (λ z. Holds ts named f z) (sym p.ends) held.2) (omega (arith, hi)) (omega (arith, d)) st u p.ends_within (omega (arith, t, p.rises)) vs)
    turns_read f n levels turns s xs at to h held hi d st u le t vs = absurd h

  -- a part that stands
  pub part_there : (r : Rule) (t : Option Token) (ps : Shape) (n levels : ℕ) (s : Sort) (at b : ℕ) → sort_of r ≡ s → G (symbols r) (forest ps) at b → IsFirst ts named (has_first (sort_of r)) t at → Holds ts named ps at → height ps ≤ n
      → weight r + depth ps + levels ≤ most → at ≤ length ts → ((m : ℕ) → m ≤ n → Reads m) → PartRead (suc n) levels s r t ps at b
  part_there r t ps n levels s at b is h first held hi d le vs =
      part_read n levels s r t ps at b is h first d le (complete ps n (levels + weight r) (symbols r) at b h held hi (omega (arith, d)) (rules_stand r) (rules_steady r) le vs)
