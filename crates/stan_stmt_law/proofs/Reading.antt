-- The parser reads the greedy tree, if it is not too deep, and no other.
use Rattle.std.proofs.Common.{◌≡◌, ℕ, zero, suc, ◌+◌, ◌≤◌, ◌<◌, Bool, true, false, cond, List, [], ◌∷◌, ◌++◌, length, Option, Some, None, refl, sym, ap, subst, ◌∙◌, ◌⊎◌, inl, inr, arith, append-nil, append_assoc, true≢false, ◌&&◌}
use Rattle.std.specs.Prelude.{not, max, if◌then◌else◌, nat_le, slice_get}
use Rattle.std.proofs.lemmas.Bool.{le-leb, leb-true}
use Rattle.stan_model_grammar.specs.declared.token.TokenKind.{TokenKind}
use Rattle.stan_model_grammar.specs.declared.token.Token.{Token}
use Rattle.stan_model_statements.specs.Kinds.{same_kind, has}
use Rattle.stan_model_grammar.specs.Strata.{kind_at, kind_of}
use Rattle.stan_model_grammar.specs.Expressions.{Stands}
use Rattle.stan_stmt_rules.specs.Parse.{after, after_of, word_at, word_of, holds, checked_of, checked_at}
use Rattle.stan_model_statements.specs.Symbols.{Sort, ForEachTarget, Need, One, May, Many, Again, Check, strict_types, modifier, Symbol, Mark, Word, Checked, Expression, Part, lacks, rest}
use Rattle.stan_model_statements.specs.Rules.{Rule, namespace_statement, symbols, sort_of, weight}
use Rattle.stan_stmt_rules.specs.Ahead.{pick, pick_at, Next}
use Rattle.stan_model_grammar.specs.Trees.{Tree}
use Rattle.stan_model_statements.specs.Forests.{Forest, nil, mark, word, expr, none, some}
use Rattle.stan_model_statements.specs.Grammar.{checked_kinds, Holds, Runs, Any}
use Rattle.stan_model_grammar.specs.Depth.{depth as tree_depth}
use Rattle.stan_model_statements.specs.Takes.{depth}
use Rattle.stan_expr_rules.specs.Parse.{Read, ◌>>=◌}
use Rattle.stan_stmt_rules.specs.Parse.{onto, most, Piece, standing, optional, items, pieced, one, may, many, all, run, read}
use Rattle.stan_stmt_law.proofs.Words.{not_false, and_split, some_is, see, same_is}
use Rattle.stan_stmt_law.proofs.Tables.{picked_sort}
use Rattle.stan_model_grammar.specs.declared.token.TokenKind.TheVariants as k
use Rattle.stan_stmt_law.proofs.Checks.{true_not}
use Rattle.stan_stmt_law.proofs.Decided.{decided}
use Rattle.stan_stmt_law.proofs.Law.{begun, y_sized, y_begun, loose}
use Rattle.stan_stmt_law.proofs.Runs.{AreExpressions, rule_takes}
use Rattle.stan_stmt_law.proofs.Inside.{is_end, stand, rules_stand, kind_within, token_within, inside, after_at}

pub bind_ok : {A B : Type 0} (r : Option A) (f : A → Option B) (y : B) → (r >>= f) ≡ Some y → (x : A) × (r ≡ Some x) × (f x ≡ Some y)
bind_ok (Some x) f y e = (x, refl, e)
bind_ok None f y e = absurd cc

onto_is : (r : Read Forest) (f : Forest → Forest) (y : Forest × ℕ) → (r >>= onto f) ≡ Some y → (x : Forest × ℕ) × (r ≡ Some x) × (y.0 ≡ f x.0) × (y.1 ≡ x.1)
onto_is (Some x) f y e = let same = some_is (f x.0, x.1) y e in (x, refl, sym (ap (λ (p : Forest × ℕ). p.0) same), sym (ap (λ (p : Forest × ℕ). p.1) same))
onto_is None f y e = absurd cc

-- ---- how deep productions nest

abbrev pub height : Forest → ℕ
height nil = 0
height (mark f) = height f
height (word t f) = height f
height (expr e f) = height f
height (none f) = height f
height (some r ps f) = max (1 + height ps) (height f)

-- ---- tokens

guard : {A : Type 0} (c : Bool) (x y : A) → cond c (Some x) None ≡ Some y → (c ≡ true) × (x ≡ y)
guard true x y h = (refl, some_is x y h)
guard false x y h = absurd cc

after_of_is : (o : Option Token) (kind : TokenKind) (at to : ℕ) → after_of o kind at ≡ Some to → (kind_of o ≡ kind) × (to ≡ at + 1)
after_of_is None kind at to h = absurd cc
after_of_is (Some x) kind at to h = let g = guard (same_kind x.kind kind) (at + 1) to h in (same_is x.kind kind g.0, sym g.1)

pub after_is : (ts : List Token) (kind : TokenKind) (at to : ℕ) → after ts kind at ≡ Some to → (kind_at ts at ≡ kind) × (to ≡ at + 1)
unfolding after kind_at
after_is ts kind at to h = after_of_is (slice_get ts at) kind at to h

word_of_is : (o : Option Token) (ks : List TokenKind) (t : Token) → word_of o ks ≡ Some t → (o ≡ Some t) × (has ks t.kind ≡ true)
word_of_is None ks t h = absurd cc
word_of_is (Some x) ks t h = let g = guard (has ks x.kind) x t h in (ap Some g.1, subst (λ y. has ks y.kind ≡ true) g.1 g.0)

pub word_is : (ts : List Token) (ks : List TokenKind) (at : ℕ) (t : Token) → word_at ts ks at ≡ Some t → Stands ts at t × (has ks t.kind ≡ true)
unfolding word_at
word_is ts ks at t h = word_of_is (slice_get ts at) ks t h

pub word_there : (ts : List Token) (ks : List TokenKind) (at : ℕ) (t : Token) → Stands ts at t → has ks t.kind ≡ true → word_at ts ks at ≡ Some t
unfolding word_at
word_there ts ks at t h i = rw h (rw i refl)

checked_of_is : (named : Token → Bool) (o : Option Token) (c : Check) (next : TokenKind) (t : Token) → checked_of named o c next ≡ Some t → (o ≡ Some t) × (has (checked_kinds c) t.kind ≡ true) × (holds named c t next ≡ true)
checked_of_is named None c next t h = absurd cc
checked_of_is named (Some x) c next t h =
    let g = guard (has (checked_kinds c) x.kind && holds named c x next) x t h in
    let both = and_split (has (checked_kinds c) x.kind) (holds named c x next) g.0 in
    (ap Some g.1, subst (λ y. has (checked_kinds c) y.kind ≡ true) g.1 both.0, subst (λ y. holds named c y next ≡ true) g.1 both.1)

holds_is : (named : Token → Bool) (c : Check) (t : Token) (next : TokenKind) → holds named c t next ≡ true → Holds named c t next
holds_is named strict_types t next h = h
holds_is named modifier t next h = not_false (same_kind next k.Bar) h

is_holding : (named : Token → Bool) (c : Check) (t : Token) (next : TokenKind) → Holds named c t next → holds named c t next ≡ true
is_holding named strict_types t next h = h
is_holding named modifier t next h = true_not (same_kind next k.Bar) h

pub checked_is : (ts : List Token) (named : Token → Bool) (c : Check) (at : ℕ) (t : Token) → checked_at ts named c at ≡ Some t → Stands ts at t × (has (checked_kinds c) t.kind ≡ true) × Holds named c t (kind_at ts (at + 1))
unfolding checked_at
checked_is ts named c at t h = let w = checked_of_is named (slice_get ts at) c (kind_at ts (at + 1)) t h in (w.0, w.1, holds_is named c t (kind_at ts (at + 1)) w.2)

pub checked_there : (ts : List Token) (named : Token → Bool) (c : Check) (at : ℕ) (t : Token) → Stands ts at t → has (checked_kinds c) t.kind ≡ true → Holds named c t (kind_at ts (at + 1)) → checked_at ts named c at ≡ Some t
unfolding checked_at
checked_there ts named c at t h i j = rw h (rw (i, is_holding named c t (kind_at ts (at + 1)) j) refl)

-- ---- the look-ahead, which may ask for the token behind an expression

abbrev pub waits : Sort → Bool
waits ForEachTarget = true
waits _ = false

-- no part waits for that token that may lack
abbrev pub steady : List Symbol → Bool
steady [] = true
steady (Part One s ∷ xs) = steady xs
steady (Part n s ∷ xs) = not (waits s) && steady xs
steady (x ∷ xs) = steady xs

pub rules_steady : (r : Rule) → steady (symbols r) ≡ true
rules_steady namespace_statement = refl
rules_steady r = refl

pub steady_part : (n : Need) (s : Sort) (xs : List Symbol) → lacks n ≡ true → steady (Part n s ∷ xs) ≡ true → (waits s ≡ false) × (steady xs ≡ true)
steady_part One s xs l h = absurd (true≢false (sym l))
steady_part May s xs l h = let both = and_split (not (waits s)) (steady xs) h in (not_false (waits s) both.0, both.1)
steady_part Many s xs l h = let both = and_split (not (waits s)) (steady xs) h in (not_false (waits s) both.0, both.1)
steady_part Again s xs l h = let both = and_split (not (waits s)) (steady xs) h in (not_false (waits s) both.0, both.1)

pub steady_others : (n : Need) (s : Sort) (xs : List Symbol) → steady (Part n s ∷ xs) ≡ true → steady xs ≡ true
steady_others One s xs h = h
steady_others May s xs h = (steady_part May s xs refl h).1
steady_others Many s xs h = (steady_part Many s xs refl h).1
steady_others Again s xs h = (steady_part Again s xs refl h).1

-- what does not wait asks for three tokens alone
pub unasked : (s : Sort) (a b c d e : TokenKind) → waits s ≡ false → pick s a b c d ≡ pick s a b c e
unasked ForEachTarget a b c d e h = absurd (true≢false h)
unasked s a b c d e h = refl

pub picked_at : (ts : List Token) (seen : ℕ → TokenKind) (s : Sort) (at : ℕ) (r : Option Rule) → pick_at ts seen s at ≡ r → pick s (kind_at ts at) (kind_at ts (at + 1)) (kind_at ts (at + 2)) (seen at) ≡ r
unfolding pick_at
picked_at ts seen s at r h = h

pub at_picked : (ts : List Token) (seen : ℕ → TokenKind) (s : Sort) (at : ℕ) (r : Option Rule) → pick s (kind_at ts at) (kind_at ts (at + 1)) (kind_at ts (at + 2)) (seen at) ≡ r → pick_at ts seen s at ≡ r
unfolding pick_at
at_picked ts seen s at r h = h

module _ (ts : List Token) (named : Token → Bool) (X Y : Bool → Tree → ℕ → ℕ → Type 0) (behind : ℕ → TokenKind) (exs : AreExpressions ts X Y behind)
    (expression : ℕ → Bool → ℕ → Read Tree) (seen : ℕ → ℕ → TokenKind)
    (sound : (levels : ℕ) (p : Bool) (at : ℕ) (x : Tree × ℕ) → levels ≤ most → expression levels p at ≡ Some x → Y p x.0 at x.1 × (tree_depth x.0 + levels ≤ most)) where
  abbrev G : List Symbol → Forest → ℕ → ℕ → Type 0
  G = Runs ts named Y (Next ts behind)

  abbrev Found : ℕ → List Symbol → ℕ → Forest × ℕ → Type 0
  Found levels xs at x = G xs x.0 at x.1 × (depth x.0 + levels ≤ most)

  -- the production that was read is the one that the tokens ask for
  pub asked : (r : Rule) (ps : Forest) (at b : ℕ) → G (symbols r) ps at b → Next ts behind (sort_of r) at (Some r)
  asked r ps at b h = decided ts named X behind exs.starting exs.ending exs.sized (begun ts named X Y behind exs) r ps at b (loose ts named X Y behind exs (symbols r) ps at b h)

  pub lacking_is : (levels : ℕ) (s : Sort) (at : ℕ) → waits s ≡ false → pick_at ts (seen levels) s at ≡ None → Next ts behind s at None
  lacking_is levels s at w h = unasked s (kind_at ts at) (kind_at ts (at + 1)) (kind_at ts (at + 2)) (behind at) (seen levels at) w ∙ picked_at ts (seen levels) s at None h

  pub is_lacking : (levels : ℕ) (s : Sort) (at : ℕ) → waits s ≡ false → Next ts behind s at None → pick_at ts (seen levels) s at ≡ None
  is_lacking levels s at w h = at_picked ts (seen levels) s at None (unasked s (kind_at ts at) (kind_at ts (at + 1)) (kind_at ts (at + 2)) (seen levels at) (behind at) w ∙ h)

  -- with what stands before it
  grown : (levels : ℕ) (xs : List Symbol) (f : Forest) (at to : ℕ) (y : Forest × ℕ) → y.0 ≡ f → y.1 ≡ to → G xs f at to → depth f + levels ≤ most → Found levels xs at y
  grown levels xs f at to y e p g d = (subst (λ z. G xs z at y.1) (sym e) (subst (λ z. G xs f at z) (sym p) g), subst (λ z. depth z + levels ≤ most) (sym e) d)

  pub from_again : (s : Sort) (xs : List Symbol) (f : Forest) (at to : ℕ) → G (Part Again s ∷ xs) f at to → G (Part Many s ∷ xs) f at to
  from_again s xs (none f) at to h = h
  from_again s xs (some r ps f) at to h = h
  from_again s xs f at to h = absurd h

  module _ (below : Rule → ℕ → Read Forest) (levels : ℕ)
      (deeper : (r : Rule) (at : ℕ) (x : Forest × ℕ) → below r at ≡ Some x → G (symbols r) x.0 at x.1 × (weight r + depth x.0 + levels ≤ most)) where
    abbrev Pieced : Sort → ℕ → Piece × ℕ → Type 0
    Pieced s at p = (sort_of p.0.0 ≡ s) × Next ts behind s at (Some p.0.0) × G (symbols p.0.0) p.0.1 at p.1 × (weight p.0.0 + depth p.0.1 + levels ≤ most)

    picked_piece : (s : Sort) (at : ℕ) (r : Rule) (p : Piece × ℕ) → pick_at ts (seen levels) s at ≡ Some r → pieced ts named expression seen below levels r at ≡ Some p → Pieced s at p
    picked_piece s at r p e h =
        let a = bind_ok (below r at) _ p h in
        let same = some_is ((r, a.0.0), a.0.1) p a.2 in
        let is = deeper r at a.0 a.1 in
        let sort = picked_sort s (kind_at ts at) (kind_at ts (at + 1)) (kind_at ts (at + 2)) (seen levels at) r (picked_at ts (seen levels) s at (Some r) e) in
        subst (λ (z : Piece × ℕ). Pieced s at z) same (sort, subst (λ z. Next ts behind z at (Some r)) sort (asked r a.0.0 at a.0.1 is.0), is.0, is.1)

    one_sound : (s : Sort) (at : ℕ) (p : Piece × ℕ) → one ts named expression seen below levels s at ≡ Some p → Pieced s at p
    unfolding one
    one_sound s at p h = let a = bind_ok (pick_at ts (seen levels) s at) _ p h in picked_piece s at a.0 p a.1 a.2

    Maybe : Sort → ℕ → Option Piece × ℕ → Type 0
    Maybe s at p = (Next ts behind s at None × (p ≡ (None, at))) ⊎ ((q : Piece × ℕ) × (p ≡ (Some q.0, q.1)) × Pieced s at q)

    may_sound : (s : Sort) (at : ℕ) (p : Option Piece × ℕ) → waits s ≡ false → may ts named expression seen below levels s at ≡ Some p → Maybe s at p
    unfolding may Maybe
    may_sound s at p w h = elim (see (pick_at ts (seen levels) s at)) [
      | inl absent ↦ inl (lacking_is levels s at w absent, sym (some_is (None, at) p (rw absent at h)))
      | inr v ↦
          let a = bind_ok (pieced ts named expression seen below levels v.0 at) _ p (rw v.1 at h) in
          inr (a.0, sym (some_is (Some a.0.0, a.0.1) p a.2), picked_piece s at v.0 a.0 v.1 a.1)
    ]

    -- what was read is put before what is read behind it
    abbrev Leads : Sort → ℕ → ℕ → List Piece → Type 0
    Leads s at b ps = (xs : List Symbol) (f : Forest) (to : ℕ) → Found levels xs b (f, to) → Found levels (Part Again s ∷ xs) at (items ps f, to)

    many_sound : (n : ℕ) (s : Sort) (found : List Piece) (at : ℕ) (y : List Piece × ℕ) → waits s ≡ false → many ts named expression seen below levels n s found at ≡ Some y → (ps : List Piece) × (y.0 ≡ found ++ ps) × Leads s at y.1 ps
    many_sound zero s found at y u h = absurd cc
    many_sound (suc n) s found at y u h = elim (see (pick_at ts (seen levels) s at)) [
      | inl absent ↦
          let same = some_is (found, at) y (rw absent at h) in
          ([], sym (ap (λ (p : List Piece × ℕ). p.0) same) ∙ sym (append-nil found), subst (λ (z : List Piece × ℕ). Leads s at z.1 []) same (λ xs f to w. ((refl, lacking_is levels s at u absent, w.0), w.1)))
      | inr w ↦
          let a = bind_ok (pieced ts named expression seen below levels w.0 at) _ y (rw w.1 at h) in
          let is = picked_piece s at w.0 a.0 w.1 a.1 in
          let more = many_sound n s (found ++ a.0.0 ∷ []) a.0.1 y u a.2 in (
            a.0.0 ∷ more.0,
            more.1 ∙ append_assoc found (a.0.0 ∷ []) more.0,
            λ xs f to v. let rest = more.2 xs f to v in ((a.0.1, is.0, is.1, is.2, rest.0), omega (arith, is.3, rest.1)),
          )
    ]

    all_sound : (s : Sort) (at : ℕ) (y : List Piece × ℕ) → waits s ≡ false → all ts named expression seen below levels s at ≡ Some y → Leads s at y.1 y.0
    unfolding all
    all_sound s at y u h = let m = many_sound (length ts + 1) s [] at y u h in subst (Leads s at y.1) (sym m.1) m.2

    run_sound : (xs : List Symbol) (at : ℕ) (y : Forest × ℕ) → levels ≤ most → steady xs ≡ true → run ts named expression seen below levels xs at ≡ Some y → Found levels xs at y
    unfolding Maybe
    run_sound [] at y le u h = let e = some_is (nil, at) y h in grown levels [] nil at at y (sym (ap (λ (p : Forest × ℕ). p.0) e)) (sym (ap (λ (p : Forest × ℕ). p.1) e)) refl (omega (arith, le))
    run_sound (Mark kind ∷ xs) at y le u h =
        let a = bind_ok (after ts kind at) _ y h in
        let o = onto_is (run ts named expression seen below levels xs a.0) mark y a.2 in
        let is = after_is ts kind at a.0 a.1 in
        let r = run_sound xs a.0 o.0 le u o.1 in
        grown levels (Mark kind ∷ xs) (mark o.0.0) at o.0.1 y o.2 o.3 (is.0, subst (λ z. G xs o.0.0 z o.0.1) is.1 r.0) r.1
    run_sound (Word ks ∷ xs) at y le u h =
        let a = bind_ok (word_at ts ks at) _ y h in
        let o = onto_is (run ts named expression seen below levels xs (at + 1)) (word a.0) y a.2 in
        let is = word_is ts ks at a.0 a.1 in
        let r = run_sound xs (at + 1) o.0 le u o.1 in
        grown levels (Word ks ∷ xs) (word a.0 o.0.0) at o.0.1 y o.2 o.3 (is.0, is.1, r.0) r.1
    run_sound (Checked c ∷ xs) at y le u h =
        let a = bind_ok (checked_at ts named c at) _ y h in
        let o = onto_is (run ts named expression seen below levels xs (at + 1)) (word a.0) y a.2 in
        let is = checked_is ts named c at a.0 a.1 in
        let r = run_sound xs (at + 1) o.0 le u o.1 in
        grown levels (Checked c ∷ xs) (word a.0 o.0.0) at o.0.1 y o.2 o.3 (is.0, is.1, is.2, r.0) r.1
    run_sound (Expression p ∷ xs) at y le u h =
        let a = bind_ok (expression levels p at) _ y h in
        let o = onto_is (run ts named expression seen below levels xs a.0.1) (expr a.0.0) y a.2 in
        let is = sound levels p at a.0 le a.1 in
        let r = run_sound xs a.0.1 o.0 le u o.1 in
        grown levels (Expression p ∷ xs) (expr a.0.0 o.0.0) at o.0.1 y o.2 o.3 (a.0.1, is.0, r.0) (omega (arith, is.1, r.1))
    run_sound (Part One s ∷ xs) at y le u h =
        let a = bind_ok (one ts named expression seen below levels s at) _ y h in
        let o = onto_is (run ts named expression seen below levels xs a.0.1) (standing a.0.0) y a.2 in
        let is = one_sound s at a.0 a.1 in
        let r = run_sound xs a.0.1 o.0 le u o.1 in
        grown levels (Part One s ∷ xs) (standing a.0.0 o.0.0) at o.0.1 y o.2 o.3 (a.0.1, is.0, is.1, is.2, r.0) (omega (arith, is.3, r.1))
    run_sound (Part May s ∷ xs) at y le u h =
        let v = steady_part May s xs refl u in
        let a = bind_ok (may ts named expression seen below levels s at) _ y h in
        let o = onto_is (run ts named expression seen below levels xs a.0.1) (optional a.0.0) y a.2 in
        let r = run_sound xs a.0.1 o.0 le v.1 o.1 in
        elim (may_sound s at a.0 v.0 a.1) [
          | inl w ↦
              grown levels (Part May s ∷ xs) (none o.0.0) at o.0.1 y (o.2 ∙ ap (λ (p : Option Piece × ℕ). optional p.0 o.0.0) w.1) o.3
              (refl, w.0, subst (λ z. G xs o.0.0 z o.0.1) (ap (λ (p : Option Piece × ℕ). p.1) w.1) r.0) r.1
          | inr w ↦
              grown levels (Part May s ∷ xs) (standing w.0.0 o.0.0) at o.0.1 y (o.2 ∙ ap (λ (p : Option Piece × ℕ). optional p.0 o.0.0) w.1) o.3
              (w.0.1, w.2.0, w.2.1, w.2.2, subst (λ z. G xs o.0.0 z o.0.1) (ap (λ (p : Option Piece × ℕ). p.1) w.1) r.0) (omega (arith, w.2.3, r.1))
        ]
    run_sound (Part Many s ∷ xs) at y le u h =
        let v = steady_part Many s xs refl u in
        let a = bind_ok (all ts named expression seen below levels s at) _ y h in
        let o = onto_is (run ts named expression seen below levels xs a.0.1) (items a.0.0) y a.2 in
        let r = run_sound xs a.0.1 o.0 le v.1 o.1 in
        let w = all_sound s at a.0 v.0 a.1 xs o.0.0 o.0.1 r in
        grown levels (Part Many s ∷ xs) (items a.0.0 o.0.0) at o.0.1 y o.2 o.3 (from_again s xs (items a.0.0 o.0.0) at o.0.1 w.0) w.1
    run_sound (Part Again s ∷ xs) at y le u h =
        let v = steady_part Again s xs refl u in
        let a = bind_ok (all ts named expression seen below levels s at) _ y h in
        let o = onto_is (run ts named expression seen below levels xs a.0.1) (items a.0.0) y a.2 in
        let r = run_sound xs a.0.1 o.0 le v.1 o.1 in
        let w = all_sound s at a.0 v.0 a.1 xs o.0.0 o.0.1 r in
        grown levels (Part Again s ∷ xs) (items a.0.0 o.0.0) at o.0.1 y o.2 o.3 w.0 w.1

  pub read_guard : {A : Type 0} (c : Bool) (x : Option A) (y : A) → (if c then x else None) ≡ Some y → (c ≡ true) × (x ≡ Some y)
  read_guard true x y h = (refl, h)
  read_guard false x y h = absurd cc

  pub read_sound : (n levels : ℕ) (r : Rule) (at : ℕ) (y : Forest × ℕ) → read ts named expression seen n levels r at ≡ Some y → G (symbols r) y.0 at y.1 × (weight r + depth y.0 + levels ≤ most)
  read_sound zero levels r at y h = absurd cc
  read_sound (suc n) levels r at y h =
      let g = read_guard (nat_le (levels + weight r) most) (run ts named expression seen (read ts named expression seen n (levels + weight r)) (levels + weight r) (symbols r) at) y h in
      let fits : levels + weight r ≤ most = leb-true (levels + weight r) most g.0 in
      let w = run_sound (read ts named expression seen n (levels + weight r)) (levels + weight r) (λ q b x i. read_sound n (levels + weight r) q b x i) (symbols r) at y fits (rules_steady r) g.1 in
      (w.0, omega (arith, w.1))

  -- a part that is read, by the depth around it
  pub part_sound : (n levels : ℕ) (s : Sort) (at : ℕ) (p : Piece × ℕ) → levels ≤ most → one ts named expression seen (read ts named expression seen n levels) levels s at ≡ Some p
      → G (Part One s ∷ []) (standing p.0 nil) at p.1 × (depth (standing p.0 nil) + levels ≤ most)
  part_sound n levels s at p le h =
      let w = one_sound (read ts named expression seen n levels) levels (λ q b x i. read_sound n levels q b x i) s at p h in
      ((p.1, w.0, w.1, w.2, refl), omega (arith, w.3))

  -- ---- what is greedy is read

  module _ (whole : (levels : ℕ) (p : Bool) (at b : ℕ) (e : Tree) → Y p e at b → tree_depth e + levels ≤ most → expression levels p at ≡ Some (e, b))
      (seeing : (levels : ℕ) (p : Bool) (at b : ℕ) (e : Tree) → Y p e at b → tree_depth e + levels ≤ most → seen levels at ≡ kind_at ts b)
      (within : (p : Bool) (e : Tree) (at b : ℕ) → Y p e at b → b ≤ length ts) where
    -- expressions that are not too deep
    abbrev Shallow : ℕ → Bool → Tree → ℕ → ℕ → Type 0
    Shallow levels p e at b = Y p e at b × (tree_depth e + levels ≤ most)

    shallow_runs : (levels : ℕ) (xs : List Symbol) (f : Forest) (at to : ℕ) → G xs f at to → depth f + levels ≤ most → Runs ts named (Shallow levels) Any xs f at to
    shallow_runs levels [] nil at to h d = h
    shallow_runs levels (Mark kind ∷ xs) (mark f) at to h d = (h.0, shallow_runs levels xs f (at + 1) to h.1 d)
    shallow_runs levels (Word ks ∷ xs) (word t f) at to h d = (h.0, h.1, shallow_runs levels xs f (at + 1) to h.2 d)
    shallow_runs levels (Checked c ∷ xs) (word t f) at to h d = (h.0, h.1, h.2, shallow_runs levels xs f (at + 1) to h.3 d)
    shallow_runs levels (Expression p ∷ xs) (expr e f) at to h d = (h.0, (h.1, omega (arith, d)), shallow_runs levels xs f h.0 to h.2 (omega (arith, d)))
    shallow_runs levels (Part n s ∷ xs) (none f) at to h d = (h.0, tt, shallow_runs levels xs f at to h.2 d)
    shallow_runs levels (Part n s ∷ xs) (some r ps f) at to h d =
        (h.0, h.1, tt, shallow_runs levels (symbols r) ps at h.0 h.3 (omega (arith, d)), shallow_runs levels (rest n s xs) f h.0 to h.4 (omega (arith, d)))
    shallow_runs levels xs f at to h d = absurd h

    -- the production is found by the look-ahead of the parser too
    pub found_there : (levels : ℕ) (s : Sort) (r : Rule) (ps : Forest) (at b : ℕ) → sort_of r ≡ s → G (symbols r) ps at b → depth ps + levels ≤ most → pick_at ts (seen levels) s at ≡ Some r
    found_there levels s r ps at b e h d =
        let x : Next ts (seen levels) (sort_of r) at (Some r) = decided ts named (Shallow levels) (seen levels) (λ p t a c y. exs.starting p t a c (exs.plain p t a c y.0)) (λ p t a c y. seeing levels p a c t y.0 y.1)
        (λ p t a c y. y_sized ts named X Y behind exs p t a c y.0) (λ p t a c y. y_begun ts named X Y behind exs p t a c y.0) r ps at b (shallow_runs levels (symbols r) ps at b h d) in
        subst (λ z. pick_at ts (seen levels) z at ≡ Some r) e (at_picked ts (seen levels) (sort_of r) at (Some r) x)

    one_read : (n levels : ℕ) (s : Sort) (r : Rule) (ps : Forest) (at b : ℕ) → pick_at ts (seen levels) s at ≡ Some r → read ts named expression seen n levels r at ≡ Some (ps, b) → one ts named expression seen (read ts named expression seen n levels) levels s at ≡ Some ((r, ps), b)
    unfolding one
    one_read n levels s r ps at b e h = rw e (rw h refl)

    may_read : (n levels : ℕ) (s : Sort) (r : Rule) (ps : Forest) (at b : ℕ) → pick_at ts (seen levels) s at ≡ Some r → read ts named expression seen n levels r at ≡ Some (ps, b) → may ts named expression seen (read ts named expression seen n levels) levels s at ≡ Some (Some (r, ps), b)
    unfolding may
    may_read n levels s r ps at b e h = rw e (rw h refl)

    may_lack : (n levels : ℕ) (s : Sort) (at : ℕ) → pick_at ts (seen levels) s at ≡ None → may ts named expression seen (read ts named expression seen n levels) levels s at ≡ Some (None, at)
    unfolding may
    may_lack n levels s at e = rw e refl

    all_read : (n levels : ℕ) (s : Sort) (at : ℕ) (ps : List Piece) (b : ℕ) → many ts named expression seen (read ts named expression seen n levels) levels (length ts + 1) s [] at ≡ Some (ps, b) → all ts named expression seen (read ts named expression seen n levels) levels s at ≡ Some (ps, b)
    unfolding all
    all_read n levels s at ps b h = h

    -- what is read of a repeated part, for every list that was found before
    record AllRead (n levels turns : ℕ) (s : Sort) (xs : List Symbol) (f : Forest) (at to : ℕ) : Type 0 where
      pieces : List Piece
      others : Forest
      place : ℕ
      whole_is : f ≡ items pieces others
      reads_on : run ts named expression seen (read ts named expression seen n levels) levels xs place ≡ Some (others, to)
      turns_read_too : (found : List Piece) → many ts named expression seen (read ts named expression seen n levels) levels turns s found at ≡ Some (found ++ pieces, place)

    abbrev Complete : ℕ → ℕ → List Symbol → Forest → ℕ → ℕ → Type 0
    Complete n levels xs f at to = run ts named expression seen (read ts named expression seen n levels) levels xs at ≡ Some (f, to)

    run_many : (n levels : ℕ) (s : Sort) (xs : List Symbol) (f : Forest) (at to : ℕ) → AllRead n levels (length ts + 1) s xs f at to → Complete n levels (Part Many s ∷ xs) f at to
    run_many n levels s xs f at to w = rw (all_read n levels s at w.pieces w.place (w.turns_read_too [])) (rw w.reads_on (ap (λ z. let o : Forest × ℕ → Option (Forest × ℕ) = Some in o (z, to)) (sym w.whole_is)))

    run_again : (n levels : ℕ) (s : Sort) (xs : List Symbol) (f : Forest) (at to : ℕ) → AllRead n levels (length ts + 1) s xs f at to → Complete n levels (Part Again s ∷ xs) f at to
    run_again n levels s xs f at to w = run_many n levels s xs f at to w

    many_none : (n levels turns : ℕ) (s : Sort) (xs : List Symbol) (f : Forest) (at to : ℕ) → 0 < turns → pick_at ts (seen levels) s at ≡ None → Complete n levels xs f at to → AllRead n levels turns s xs (none f) at to
    many_none n levels zero s xs f at to t e h = absurd (omega (arith, t))
    many_none n levels (suc turns) s xs f at to t e h =
        record { pieces = []; others = f; place = at; whole_is = refl; reads_on = h; turns_read_too = λ found. rw e (ap (λ z. let o : List Piece × ℕ → Option (List Piece × ℕ) = Some in o (z, at)) (sym (append-nil found))) }

    many_some : (n levels turns : ℕ) (s : Sort) (xs : List Symbol) (r : Rule) (ps f : Forest) (at b to : ℕ) → pick_at ts (seen levels) s at ≡ Some r → read ts named expression seen n levels r at ≡ Some (ps, b) → AllRead n levels turns s xs f b to
        → AllRead n levels (suc turns) s xs (some r ps f) at to
    many_some n levels turns s xs r ps f at b to e h w =
        record {
          pieces = (r, ps) ∷ w.pieces;
          others = w.others;
          place = w.place;
          whole_is = ap (some r ps) w.whole_is;
          reads_on = w.reads_on;
          turns_read_too = λ found. rw e (rw h (w.turns_read_too (found ++ (r, ps) ∷ []) ∙ ap (λ z. let o : List Piece × ℕ → Option (List Piece × ℕ) = Some in o (z, w.place)) (append_assoc found ((r, ps) ∷ []) w.pieces)));
        }

    read_one : (n levels : ℕ) (r : Rule) (ps : Forest) (at b : ℕ) → levels + weight r ≤ most → Complete n (levels + weight r) (symbols r) ps at b → read ts named expression seen (suc n) levels r at ≡ Some (ps, b)
    read_one n levels r ps at b le h = rw (le-leb (levels + weight r) most le) h

    pub grows : (r : Rule) (ps : Forest) (at b : ℕ) → G (symbols r) ps at b → at < b
    grows = rule_takes ts named Y (Next ts behind) (y_sized ts named X Y behind exs) (y_begun ts named X Y behind exs)

    first_turn : (n levels : ℕ) (s : Sort) (xs : List Symbol) (r : Rule) (ps f : Forest) (at b to : ℕ) → pick_at ts (seen levels) s at ≡ Some r → read ts named expression seen n levels r at ≡ Some (ps, b) → AllRead n levels (length ts) s xs f b to
        → AllRead n levels (length ts + 1) s xs (some r ps f) at to
    first_turn n levels s xs r ps f at b to e h w = let turns : length ts + 1 ≡ suc (length ts) = omega arith in subst (λ z. AllRead n levels z s xs (some r ps f) at to) (sym turns) (many_some n levels (length ts) s xs r ps f at b to e h w)

    mutual
      pub complete : (f : Forest) (n levels : ℕ) (xs : List Symbol) (at to : ℕ) → G xs f at to → height f ≤ n → depth f + levels ≤ most → stand xs ≡ true → steady xs ≡ true → at ≤ length ts → Complete n levels xs f at to
      complete nil n levels [] at to h hi d st u le = rw h refl
      complete nil n levels (Mark kind ∷ xs) at to h hi d st u le = absurd h
      complete (mark f) n levels (Mark kind ∷ xs) at to h hi d st u le =
          let split = and_split (not (is_end kind)) (stand xs) st in
          rw (after_at ts kind at split.0 h.0) (rw (complete f n levels xs (at + 1) to h.1 hi d split.1 u (omega (arith, kind_within ts at kind split.0 h.0))) refl)
      complete (word t f) n levels (Word ks ∷ xs) at to h hi d st u le =
          rw (word_there ts ks at t h.0 h.1) (rw (complete f n levels xs (at + 1) to h.2 hi d st u (omega (arith, token_within ts at t h.0))) refl)
      complete (word t f) n levels (Checked c ∷ xs) at to h hi d st u le =
          rw (checked_there ts named c at t h.0 h.1 h.2) (rw (complete f n levels xs (at + 1) to h.3 hi d st u (omega (arith, token_within ts at t h.0))) refl)
      complete (expr e f) n levels (Expression p ∷ xs) at to h hi d st u le =
          rw (whole levels p at h.0 e h.1 (omega (arith, d))) (rw (complete f n levels xs h.0 to h.2 hi (omega (arith, d)) st u (within p e at h.0 h.1)) refl)
      complete (none f) n levels (Part One s ∷ xs) at to h hi d st u le = absurd (true≢false (sym h.0))
      complete (none f) n levels (Part May s ∷ xs) at to h hi d st u le =
          let v = steady_part May s xs refl u in
          rw (may_lack n levels s at (is_lacking levels s at v.0 h.1)) (rw (complete f n levels xs at to h.2 hi d st v.1 le) refl)
      complete (none f) n levels (Part Many s ∷ xs) at to h hi d st u le =
          let v = steady_part Many s xs refl u in
          run_many n levels s xs (none f) at to (many_none n levels (length ts + 1) s xs f at to (omega arith) (is_lacking levels s at v.0 h.1) (complete f n levels xs at to h.2 hi d st v.1 le))
      complete (none f) n levels (Part Again s ∷ xs) at to h hi d st u le =
          let v = steady_part Again s xs refl u in
          run_again n levels s xs (none f) at to (many_none n levels (length ts + 1) s xs f at to (omega arith) (is_lacking levels s at v.0 h.1) (complete f n levels xs at to h.2 hi d st v.1 le))
      complete (some r ps f) zero levels (Part k s ∷ xs) at to h hi d st u le = absurd (omega (arith, hi))
      complete (some r ps f) (suc n) levels (Part One s ∷ xs) at to h hi d st u le =
          let inner = read_one n levels r ps at h.0 (omega (arith, d)) (complete ps n (levels + weight r) (symbols r) at h.0 h.3 (omega (arith, hi)) (omega (arith, d)) (rules_stand r) (rules_steady r) le) in
          let end = inside ts named Y (Next ts behind) within (symbols r) ps at h.0 (rules_stand r) le h.3 in
          rw (one_read (suc n) levels s r ps at h.0 (found_there levels s r ps at h.0 h.1 h.3 (omega (arith, d))) inner) (rw (complete f (suc n) levels xs h.0 to h.4 (omega (arith, hi)) (omega (arith, d)) st u end) refl)
      complete (some r ps f) (suc n) levels (Part May s ∷ xs) at to h hi d st u le =
          let inner = read_one n levels r ps at h.0 (omega (arith, d)) (complete ps n (levels + weight r) (symbols r) at h.0 h.3 (omega (arith, hi)) (omega (arith, d)) (rules_stand r) (rules_steady r) le) in
          let end = inside ts named Y (Next ts behind) within (symbols r) ps at h.0 (rules_stand r) le h.3 in
          rw (may_read (suc n) levels s r ps at h.0 (found_there levels s r ps at h.0 h.1 h.3 (omega (arith, d))) inner) (rw (complete f (suc n) levels xs h.0 to h.4 (omega (arith, hi)) (omega (arith, d)) st (steady_others May s xs u) end) refl)
      complete (some r ps f) (suc n) levels (Part Many s ∷ xs) at to h hi d st u le =
          let inner = read_one n levels r ps at h.0 (omega (arith, d)) (complete ps n (levels + weight r) (symbols r) at h.0 h.3 (omega (arith, hi)) (omega (arith, d)) (rules_stand r) (rules_steady r) le) in
          let end = inside ts named Y (Next ts behind) within (symbols r) ps at h.0 (rules_stand r) le h.3 in
          let rises = grows r ps at h.0 h.3 in
          run_many (suc n) levels s xs (some r ps f) at to
          (first_turn (suc n) levels s xs r ps f at h.0 to (found_there levels s r ps at h.0 h.1 h.3 (omega (arith, d))) inner (turns_read f (suc n) levels (length ts) s xs h.0 to h.4 (omega (arith, hi)) (omega (arith, d)) st u end (omega (arith, rises))))
      complete (some r ps f) (suc n) levels (Part Again s ∷ xs) at to h hi d st u le =
          let inner = read_one n levels r ps at h.0 (omega (arith, d)) (complete ps n (levels + weight r) (symbols r) at h.0 h.3 (omega (arith, hi)) (omega (arith, d)) (rules_stand r) (rules_steady r) le) in
          let end = inside ts named Y (Next ts behind) within (symbols r) ps at h.0 (rules_stand r) le h.3 in
          let rises = grows r ps at h.0 h.3 in
          run_again (suc n) levels s xs (some r ps f) at to
          (first_turn (suc n) levels s xs r ps f at h.0 to (found_there levels s r ps at h.0 h.1 h.3 (omega (arith, d))) inner (turns_read f (suc n) levels (length ts) s xs h.0 to h.4 (omega (arith, hi)) (omega (arith, d)) st u end (omega (arith, rises))))
      complete f n levels xs at to h hi d st u le = absurd h

      turns_read : (f : Forest) (n levels turns : ℕ) (s : Sort) (xs : List Symbol) (at to : ℕ) → G (Part Again s ∷ xs) f at to → height f ≤ n → depth f + levels ≤ most → stand xs ≡ true → steady (Part Again s ∷ xs) ≡ true → at ≤ length ts → length ts < turns + at
          → AllRead n levels turns s xs f at to
      turns_read (none f) n levels turns s xs at to h hi d st u le t =
          let v = steady_part Again s xs refl u in
          many_none n levels turns s xs f at to (omega (arith, t, le)) (is_lacking levels s at v.0 h.1) (complete f n levels xs at to h.2 hi d st v.1 le)
      turns_read (some r ps f) zero levels turns s xs at to h hi d st u le t = absurd (omega (arith, hi))
      turns_read (some r ps f) (suc n) levels zero s xs at to h hi d st u le t = absurd (omega (arith, t, le))
      turns_read (some r ps f) (suc n) levels (suc turns) s xs at to h hi d st u le t =
          let inner = read_one n levels r ps at h.0 (omega (arith, d)) (complete ps n (levels + weight r) (symbols r) at h.0 h.3 (omega (arith, hi)) (omega (arith, d)) (rules_stand r) (rules_steady r) le) in
          let end = inside ts named Y (Next ts behind) within (symbols r) ps at h.0 (rules_stand r) le h.3 in
          let rises = grows r ps at h.0 h.3 in
          many_some (suc n) levels turns s xs r ps f at h.0 to (found_there levels s r ps at h.0 h.1 h.3 (omega (arith, d))) inner (turns_read f (suc n) levels turns s xs h.0 to h.4 (omega (arith, hi)) (omega (arith, d)) st u end (omega (arith, t, rises)))
      turns_read f n levels turns s xs at to h hi d st u le t = absurd h

    pub part_complete : (n levels : ℕ) (s : Sort) (f : Forest) (at to : ℕ) → G (Part One s ∷ []) f at to → height f ≤ suc n → depth f + levels ≤ most → at ≤ length ts
        → (p : Piece) × (f ≡ standing p nil) × (one ts named expression seen (read ts named expression seen (suc n) levels) levels s at ≡ Some (p, to))
    part_complete n levels s (some r ps nil) at to h hi d le =
        let inner = read_one n levels r ps at h.0 (omega (arith, d)) (complete ps n (levels + weight r) (symbols r) at h.0 h.3 (omega (arith, hi)) (omega (arith, d)) (rules_stand r) (rules_steady r) le) in
        ((r, ps), refl, one_read (suc n) levels s r ps at to (found_there levels s r ps at h.0 h.1 h.3 (omega (arith, d))) (subst (λ z. read ts named expression seen (suc n) levels r at ≡ Some (ps, z)) h.4 inner))
    part_complete n levels s (none f) at to h hi d le = absurd (true≢false (sym h.0))
    part_complete n levels s f at to h hi d le = absurd assumption
