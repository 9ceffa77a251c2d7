-- Trees of files are read, where there is room enough.
use Rattle.std.proofs.Common.{◌≡◌, ℕ, zero, suc, ◌+◌, ◌≤◌, ◌<◌, Bool, List, [], ◌∷◌, length, Option, Some, refl, sym, ap, subst, ◌∙◌, arith}
use Rattle.std.proofs.lemmas.Bool.{le-leb, eq-eqb}
use Rattle.stan_model_grammar.specs.declared.token.Token.{Token}
use Rattle.stan_model_grammar.specs.declared.token.TokenKind.TheVariants as k
use Rattle.stan_model_grammar.specs.Sites.{HeldBody, sites, bodies_among}
use Rattle.stan_model_statements.specs.Grammar.{Ends}
use Rattle.stan_model_statements.specs.Forests.{Forest}
use Rattle.stan_model_statements.specs.Symbols.{Top, Statement, Many, Mark, Part}
use Rattle.stan_model_statements.specs.Takes.{IsForestOf}
use Rattle.stan_model_statements.specs.Tops as tops
use Rattle.stan_model_statements.specs.Trees as trees
use Rattle.stan_model_files.specs.Files.{ReadsTop}
use Rattle.stan_model_files.specs.Put.{put_top, first_of}
use Rattle.stan_model_files.specs.Shapes.{Shape, nil, forest, inside, Bodies, no_body, body, depth, bodies_depth, Holds, HoldBodies}
use Rattle.stan_expr_rules.specs.Parse.{Read}
use Rattle.stan_stmt_rules.specs.Ahead.{Next}
use Rattle.stan_stmt_rules.specs.Parse as parse
use Rattle.stan_stmt_rules.specs.Parse.{most}
use Rattle.stan_stmt_parts.specs.Parse.{Piece, piece_of, standing}
use Rattle.stan_stmt_bodies.specs.Values.{block_at, ended, body_at, bodies_at, value_at}
use Rattle.stan_stmt_bodies.proofs.Unrolled.{value_is}
use Rattle.stan_file_law.proofs.Depths as depths
use Rattle.stan_stmt_law.proofs.Expressions.{behind, are_expressions, sound, whole, seeing, picked_within, Picked}
use Rattle.stan_stmt_law.proofs.Inside.{kind_within, token_within}
use Rattle.stan_stmt_law.proofs.Law.{y_sized, y_begun}
use Rattle.stan_stmt_law.proofs.Runs.{split, rises, inv_mark}
use Rattle.stan_read_law.specs.Reads.{enough, top_read}
use Rattle.stan_model_readings.specs.Fronts.{Ended}
use Rattle.stan_read_law.proofs.Complete.{Reads, complete, part_there, one_read}
use Rattle.stan_read_law.proofs.Heights.{height, bodies_height, nests}
use Rattle.stan_read_law.proofs.Insides.{Greedy, inside_greedy}
use Rattle.stan_read_law.proofs.Rows.{greedy_of}
use Rattle.stan_read_law.proofs.Trees.{one_part}

module _ (ts : List Token) (named : Token → Bool) where
  abbrev pub ReadsValues : ℕ → Type 0
  ReadsValues = Reads ts named (Ends ts) (Picked ts) (behind ts) (are_expressions ts) (parse.expression ts) (parse.behind ts) (sound ts) (whole ts) (seeing ts) (picked_within ts) (value_at ts named)

  -- a body begins within the tokens
  inside_begins : (f : Forest) (at to : ℕ) → Greedy ts named inside f at to → at ≤ length ts
  inside_begins f at to h =
      let s = split ts named (Picked ts) (Next ts (behind ts)) (Part Many Statement ∷ []) (Mark k.RightBrace ∷ []) f at to h in
      let m = inv_mark ts named (Picked ts) (Next ts (behind ts)) k.RightBrace [] s.1 s.2 to s.5 in
      omega (
        arith,
        kind_within ts s.2 k.RightBrace refl m.2,
        rises ts named (Picked ts) (Next ts (behind ts)) (y_sized ts named (Ends ts) (Picked ts) (behind ts) (are_expressions ts)) (y_begun ts named (Ends ts) (Picked ts) (behind ts) (are_expressions ts)) (Part Many Statement ∷ []) s.0 at s.2 s.4,
      )

  block_whole : (room levels : ℕ) (f : Shape) (at to : ℕ) → ((m : ℕ) → m ≤ room → ReadsValues m) → IsForestOf ts named inside (forest f) at to → Holds ts named f at → height f ≤ room → depth f + levels ≤ most
      → block_at ts named (value_at ts named) room levels at ≡ Some (f, to)
  block_whole room levels f at to values h held hi d =
      let greedy = inside_greedy ts named (forest f) at to h in
      complete ts named (Ends ts) (Picked ts) (behind ts) (are_expressions ts) (parse.expression ts) (parse.behind ts) (sound ts) (whole ts) (seeing ts) (picked_within ts) (value_at ts named)
      f room levels inside at to greedy held hi d refl refl (inside_begins (forest f) at to greedy) values

  ended_there : (held : HeldBody) (r : Read Shape) (f : Shape) → r ≡ Some (f, held.last + 1) → ended ts named (value_at ts named) held r ≡ Some f
  ended_there held r f h = rw h (rw (eq-eqb (held.last + 1) (held.last + 1) refl) refl)

  body_whole : (room levels : ℕ) (held : HeldBody) (f : Shape) → ((m : ℕ) → m < room → ReadsValues m) → IsForestOf ts named inside (forest f) held.first (held.last + 1) → Holds ts named f held.first
      → 1 + height f ≤ room → held.levels + (1 + depth f) + levels ≤ most → body_at ts named (value_at ts named) room levels held ≡ Some f
  body_whole zero levels held f values h i hi d = absurd (omega (arith, hi))
  body_whole (suc n) levels held f values h i hi d =
      rw (le-leb (levels + held.levels + 1) most (omega (arith, d)))
      (ended_there held (block_at ts named (value_at ts named) n (levels + held.levels + 1) held.first) f
      (block_whole n (levels + held.levels + 1) f held.first (held.last + 1) (λ m le. values m (omega (arith, le))) h i (omega (arith, hi)) (omega (arith, d))))

  bodies_whole : (bs : Bodies) (room levels : ℕ) (hs : List HeldBody) → ((m : ℕ) → m < room → ReadsValues m) → HoldBodies ts named bs hs → bodies_height bs ≤ room → bodies_depth bs + levels ≤ most
      → bodies_at ts named (value_at ts named) room levels hs ≡ Some bs
  bodies_whole no_body room levels [] values h hi d = refl
  bodies_whole no_body room levels (x ∷ hs) values h hi d = absurd h
  bodies_whole (body held f bs) room levels [] values h hi d = absurd h
  bodies_whole (body held f bs) room levels (x ∷ hs) values h hi d =
      let flat : x.levels + (1 + depth f) + levels ≤ most = subst (λ (z : HeldBody). z.levels + (1 + depth f) + levels ≤ most) h.0 (omega (arith, d)) in
      rw (body_whole room levels x f values h.1 h.2 (omega (arith, hi)) flat)
      (rw (bodies_whole bs room levels hs values h.3 (omega (arith, hi)) (omega (arith, d))) (ap (λ z. let o : Bodies → Option Bodies = Some in o (body z f bs)) (sym h.0)))

  value_whole : (room : ℕ) → ((m : ℕ) → m < room → ReadsValues m) → ReadsValues room
  value_whole room values levels p at b e bs h held hi d =
      value_is ts named room levels p at
      ∙ rw (whole ts levels p at b e h (omega (arith, d))) (rw (bodies_whole bs room levels (bodies_among (sites 0 e)) values held hi (omega (arith, d))) refl)

  -- with whatever room
  pub values_whole : (n m : ℕ) → m < n → ReadsValues m
  values_whole zero m lt = absurd (omega (arith, lt))
  values_whole (suc n) m lt = value_whole m (λ k less. values_whole n k (omega (arith, lt, less)))

  -- ---- at the top

  part_top : (p : Piece) (n at to : ℕ) → Greedy ts named tops.top (forest (standing p nil)) at to → Holds ts named (standing p nil) at → height (standing p nil) ≤ suc n → depth (standing p nil) ≤ 200 → at ≤ length ts
      → top_read ts named (suc n) at ≡ Some (p, to)
  part_top p n at to h held hi d le =
      let there = part_there ts named (Ends ts) (Picked ts) (behind ts) (are_expressions ts) (parse.expression ts) (parse.behind ts) (sound ts) (whole ts) (seeing ts) (picked_within ts) (value_at ts named)
      p.0 p.1 p.2 n 0 Top at h.0 h.1 h.3 held.0 held.1 (omega (arith, hi)) (omega (arith, d)) le (λ m k. values_whole (suc n) m (omega (arith, k))) in
      let one = one_read ts named (Ends ts) (Picked ts) (behind ts) (are_expressions ts) (parse.expression ts) (parse.behind ts) (sound ts) (whole ts) (seeing ts) (picked_within ts) (value_at ts named)
      (suc n) 0 Top p.0 p.1 p.2 at h.0 there in
      subst (λ z. top_read ts named (suc n) at ≡ Some (p, z)) h.4 one

  -- a declaration or a statement begins within the tokens
  begins_within : (x : trees.Top) (from to : ℕ) → ReadsTop ts named x from to → from ≤ length ts
  begins_within (trees.Namespace t name end) from to h = omega (arith, token_within ts from t h.held.0)
  begins_within (trees.NamespaceBlock t name xs) from to h = omega (arith, token_within ts from t h.held.0)
  begins_within (trees.Use t kind xs end) from to h = omega (arith, token_within ts from t h.held.0)
  begins_within (trees.UseGroup t kind name xs comma end) from to h = omega (arith, token_within ts from t h.held.0)
  begins_within (trees.Plain s) from to h = omega (arith, token_within ts from (first_of s) h.held.0)

  -- with so much room
  roomy : (x : trees.Top) (from to : ℕ) → ReadsTop ts named x from to → height (put_top x nil) ≤ enough
  roomy x from to h = omega (arith, nests ts named (put_top x nil) 5 tops.top from to from refl h.spelled.0 h.held, depths.top_depth x nil, h.flat)

  pub tree_is_read : (x : trees.Top) (from to : ℕ) → ReadsTop ts named x from to → Ended ts named to → (room : ℕ) → enough ≤ room → top_read ts named room from ≡ Some (piece_of (put_top x nil), to)
  tree_is_read x from to h e zero le = absurd (omega (arith, le))
  tree_is_read x from to h e (suc n) le =
      let p = piece_of (put_top x nil) in
      let same = one_part x in
      let greedy = subst (λ z. Greedy ts named tops.top (forest z) from to) (sym same) (greedy_of ts named x from to h e) in
      let high : height (standing p nil) ≤ suc n = subst (λ z. height z ≤ suc n) (sym same) (omega (arith, roomy x from to h, le)) in
      let flat : depth (standing p nil) ≤ 200 = subst (λ z. depth z ≤ 200) (sym same) (omega (arith, depths.top_depth x nil, h.flat)) in
      part_top p n from to greedy (subst (λ z. Holds ts named z from) (sym same) h.held) high flat (begins_within x from to h)
