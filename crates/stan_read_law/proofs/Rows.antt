-- Declarations and statements in a row: what is read of them are trees of files, and all the tokens have one tree.
use Rattle.std.proofs.Common.{◌≡◌, ℕ, ◌≤◌, ◌<◌, Bool, List, length, refl, sym, ap₂, subst, ◌⊎◌, inl, inr, arith}
use Rattle.stan_model_grammar.specs.declared.token.Token.{Token}
use Rattle.stan_model_grammar.specs.Strata.{kind_at}
use Rattle.stan_model_statements.specs.Tops as tops
use Rattle.stan_model_statements.specs.Trees.{Top, Tops, no_top, top}
use Rattle.stan_model_files.specs.Files.{ReadsTop, ReadsTops, SpellsFile}
use Rattle.stan_model_files.specs.Put.{put_top}
use Rattle.stan_model_files.specs.Shapes.{nil, forest}
use Rattle.stan_file_law.proofs.Same.{same_top}
use Rattle.stan_file_law.proofs.Shapes.{same_shape}
use Rattle.stan_stmt_law.proofs.Front.{unowned_is, is_unowned, begins_quiet, end_quiet, one_greedy, greedy_rises, top_greedy}
use Rattle.stan_read_law.specs.Reads.{AreRead}
use Rattle.stan_model_readings.specs.Fronts.{Ended}
use Rattle.stan_read_law.proofs.Insides.{Greedy}
use Rattle.stan_read_law.proofs.Trees.{read_is_tree}

module _ (ts : List Token) (named : Token → Bool) where
  -- each with no token behind it that goes on with it
  abbrev pub EndedTops : Tops → ℕ → ℕ → Type 0
  EndedTops no_top from to = from ≡ to
  EndedTops (top x xs) from to = (b : ℕ) × ReadsTop ts named x from b × Ended ts named b × EndedTops xs b to

  pub greedy_of : (x : Top) (from to : ℕ) → ReadsTop ts named x from to → Ended ts named to → Greedy ts named tops.top (forest (put_top x nil)) from to
  greedy_of x from to h e = top_greedy ts named (forest (put_top x nil)) from to (unowned_is (kind_at ts to) e) h.spelled

  pub top_rises : (x : Top) (from to : ℕ) → ReadsTop ts named x from to → Ended ts named to → from < to
  top_rises x from to h e = greedy_rises ts named (forest (put_top x nil)) from to (greedy_of x from to h e)

  -- a token that goes on begins none
  begins_ended : (x : Top) (from to : ℕ) → ReadsTop ts named x from to → Ended ts named from
  begins_ended x from to h = is_unowned (kind_at ts from) (begins_quiet ts named (forest (put_top x nil)) from to h.spelled.0)

  pub end_ended : Ended ts named (length ts)
  end_ended = is_unowned (kind_at ts (length ts)) (end_quiet ts named)

  pub ended_tops : (xs : Tops) (from to : ℕ) → ReadsTops ts named xs from to → (xs ≡ no_top) ⊎ Ended ts named to → EndedTops xs from to
  ended_tops no_top from to h e = h
  ended_tops (top x no_top) from to h e =
      let ended : Ended ts named to = elim e [ inl nothing ↦ absurd cc | inr o ↦ o ] in
      (h.0, h.1, subst (Ended ts named) (sym h.2) ended, h.2)
  ended_tops (top x (top y ys)) from to h e =
      let more : (top y ys ≡ no_top) ⊎ Ended ts named to = elim e [ inl nothing ↦ absurd cc | inr o ↦ inr o ] in
      (h.0, h.1, begins_ended y h.0 h.2.0 h.2.1, ended_tops (top y ys) h.0 to h.2 more)

  pub tops_rise : (xs : Tops) (from to : ℕ) → EndedTops xs from to → from ≤ to
  tops_rise no_top from to h = omega (arith, h)
  tops_rise (top x xs) from to h = omega (arith, top_rises x from h.0 h.1 h.2, tops_rise xs h.0 to h.3)

  -- two from the same place
  one_top : (x y : Top) (from to end : ℕ) → ReadsTop ts named x from to → Ended ts named to → ReadsTop ts named y from end → Ended ts named end → (x ≡ y) × (to ≡ end)
  one_top x y from to end h d i e =
      let same = one_greedy ts named (forest (put_top x nil)) (forest (put_top y nil)) from to end (greedy_of x from to h d) (greedy_of y from end i e) in
      ((same_top x y nil nil (same_shape ts named (put_top x nil) (put_top y nil) from same.0 h.held i.held)).0, same.1)

  same_tops : (xs ys : Tops) (from to : ℕ) → EndedTops xs from to → EndedTops ys from to → xs ≡ ys
  same_tops no_top no_top from to h i = refl
  same_tops no_top (top y ys) from to h i = absurd (omega (arith, h, top_rises y from i.0 i.1 i.2, tops_rise ys i.0 to i.3))
  same_tops (top x xs) no_top from to h i = absurd (omega (arith, i, top_rises x from h.0 h.1 h.2, tops_rise xs h.0 to h.3))
  same_tops (top x xs) (top y ys) from to h i =
      let first = one_top x y from h.0 i.0 h.1 h.2 i.1 i.2 in
      ap₂ top first.0 (same_tops xs ys h.0 to h.3 (subst (λ b. EndedTops ys b to) (sym first.1) i.3))

  -- All the tokens have one tree at most.
  pub one_tree_of_tokens : (xs ys : Tops) → SpellsFile ts named xs → SpellsFile ts named ys → xs ≡ ys
  one_tree_of_tokens xs ys h i = same_tops xs ys 0 (length ts) (ended_tops xs 0 (length ts) h (inr end_ended)) (ended_tops ys 0 (length ts) i (inr end_ended))

  -- What is read, in a row, is a tree of the tokens.
  pub read_are_ended : (room : ℕ) (xs : Tops) (from to : ℕ) → AreRead ts named room xs from to → EndedTops xs from to
  read_are_ended room no_top from to h = h
  read_are_ended room (top x xs) from to h = (h.0, read_is_tree ts named room x from h.0 h.1 h.2, h.2, read_are_ended room xs h.0 to h.3)

  pub ended_are_tops : (xs : Tops) (from to : ℕ) → EndedTops xs from to → ReadsTops ts named xs from to
  ended_are_tops no_top from to h = h
  ended_are_tops (top x xs) from to h = (h.0, h.1, ended_are_tops xs h.0 to h.3)

  pub read_is_file : (room : ℕ) (xs : Tops) → AreRead ts named room xs 0 (length ts) → SpellsFile ts named xs
  read_is_file room xs h = ended_are_tops xs 0 (length ts) (read_are_ended room xs 0 (length ts) h)
