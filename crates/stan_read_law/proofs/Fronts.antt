-- Fronts in trees of files are read in a row, and what is read in a row up to where nothing more is read is the longest.
use Rattle.std.proofs.Common.{◌≡◌, ℕ, ◌≤◌, Bool, List, length, Some, refl, sym, ap, subst, ◌∙◌, ◌⊎◌, inl, inr, arith}
use Rattle.stan_model_grammar.specs.declared.token.Token.{Token}
use Rattle.stan_model_statements.specs.Tops as tops
use Rattle.stan_model_statements.specs.Trees.{Tops, no_top, top}
use Rattle.stan_model_files.specs.Files.{SpellsFile}
use Rattle.stan_model_files.specs.Put.{put_top}
use Rattle.stan_model_files.specs.Shapes.{nil, forest}
use Rattle.stan_stmt_rules.specs.Ahead.{Next}
use Rattle.stan_stmt_parts.specs.Parse.{Piece, piece_of}
use Rattle.stan_stmt_law.proofs.Expressions.{behind, Picked, picked_within}
use Rattle.stan_stmt_law.proofs.Inside.{inside}
use Rattle.stan_stmt_law.proofs.Words.{some_is}
use Rattle.stan_read_law.specs.Reads.{enough, top_read, AreRead}
use Rattle.stan_model_readings.specs.Fronts.{count, Ended, IsFront, IsLongestFront}
use Rattle.stan_read_law.proofs.Readings.{tree_is_read}
use Rattle.stan_read_law.proofs.Rows.{EndedTops, greedy_of, end_ended, ended_tops, tops_rise, read_are_ended, ended_are_tops}

module _ (ts : List Token) (named : Token → Bool) where
  -- ---- trees in a row are read

  ended_are_read : (xs : Tops) (from to : ℕ) → EndedTops ts named xs from to → (room : ℕ) → enough ≤ room → AreRead ts named room xs from to
  ended_are_read no_top from to h room le = h
  ended_are_read (top x xs) from to h room le = (h.0, tree_is_read ts named x from h.0 h.1 h.2 room le, h.2, ended_are_read xs h.0 to h.3 room le)

  -- where there is room enough
  pub front_is_read : (xs : Tops) (to : ℕ) → IsFront ts named xs to → (room : ℕ) → enough ≤ room → AreRead ts named room xs 0 to
  front_is_read xs to h room le = ended_are_read xs 0 to (ended_tops ts named xs 0 to h.0 h.1) room le

  pub file_is_read : (xs : Tops) → SpellsFile ts named xs → (room : ℕ) → enough ≤ room → AreRead ts named room xs 0 (length ts)
  file_is_read xs h room le = front_is_read xs (length ts) (h, inr (end_ended ts named)) room le

  -- ---- what is read in a row

  last_ended : (room : ℕ) (xs : Tops) (from to : ℕ) → AreRead ts named room xs from to → (xs ≡ no_top) ⊎ Ended ts named to
  last_ended room no_top from to h = inl refl
  last_ended room (top x no_top) from to h = inr (subst (Ended ts named) h.3 h.2)
  last_ended room (top x (top y ys)) from to h = elim (last_ended room (top y ys) h.0 to h.3) [ inl nothing ↦ absurd cc | inr o ↦ inr o ]

  read_is_front : (room : ℕ) (xs : Tops) (to : ℕ) → AreRead ts named room xs 0 to → IsFront ts named xs to
  read_is_front room xs to h = (ended_are_tops ts named xs 0 to (read_are_ended ts named room xs 0 to h), last_ended room xs 0 to h)

  -- Nothing more is read there that no token goes on with.
  abbrev pub Stops : ℕ → ℕ → Type 0
  Stops room to = (p : Piece) (b : ℕ) → top_read ts named room to ≡ Some (p, b) → Ended ts named b → ⊥

  -- two from the same place
  same_place : (room from b c : ℕ) (p q : Piece) → top_read ts named room from ≡ Some (p, b) → top_read ts named room from ≡ Some (q, c) → b ≡ c
  same_place room from b c p q h i = ap (λ (z : Piece × ℕ). z.1) (some_is (p, b) (q, c) (sym h ∙ i))

  most_read : (room : ℕ) (xs ys : Tops) (from to end : ℕ) → AreRead ts named room xs from to → Stops room to → AreRead ts named room ys from end → (count ys ≤ count xs) × (end ≤ to)
  most_read room xs no_top from to end h stops i = (omega arith, omega (arith, i, tops_rise ts named xs from to (read_are_ended ts named room xs from to h)))
  most_read room no_top (top y ys) from to end h stops i =
      absurd (stops (piece_of (put_top y nil)) i.0 (subst (λ z. top_read ts named room z ≡ Some (piece_of (put_top y nil), i.0)) h i.1) i.2)
  most_read room (top x xs) (top y ys) from to end h stops i =
      let same = same_place room from h.0 i.0 (piece_of (put_top x nil)) (piece_of (put_top y nil)) h.1 i.1 in
      let more = most_read room xs ys h.0 to end h.3 stops (subst (λ b. AreRead ts named room ys b end) (sym same) i.3) in
      (omega (arith, more.0), more.1)

  ends_within : (xs : Tops) (from to : ℕ) → from ≤ length ts → EndedTops ts named xs from to → to ≤ length ts
  ends_within no_top from to le h = omega (arith, le, h)
  ends_within (top x xs) from to le h =
      ends_within xs h.0 to (inside ts named (Picked ts) (Next ts (behind ts)) (picked_within ts) tops.top (forest (put_top x nil)) from h.0 refl le (greedy_of ts named x from h.0 h.1 h.2)) h.3

  pub read_is_longest_front : (room : ℕ) → enough ≤ room → (xs : Tops) (to : ℕ) → AreRead ts named room xs 0 to → Stops room to → IsLongestFront ts named xs to
  read_is_longest_front room le xs to h stops = record {
    front = read_is_front room xs to h;
    longest = λ ys end front. most_read room xs ys 0 to end h stops (front_is_read ys end front room le);
    whole = λ ys all.
        omega (arith, ends_within xs 0 to (omega arith) (read_are_ended ts named room xs 0 to h), (most_read room xs ys 0 to (length ts) h stops (file_is_read ys all room le)).1);
  }
