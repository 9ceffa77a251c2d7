-- Trees stand in a row from each place on, up to where none stands that no token goes on with. Those from the first token on are the longest
-- front, where no trees spell all the tokens.
use Rattle.std.proofs.Common.{◌≡◌, ℕ, zero, suc, ◌+◌, ◌≤◌, ◌<◌, Bool, List, length, refl, sym, subst, ◌⊎◌, inl, inr, arith}
use Rattle.stan_model_grammar.specs.declared.token.Token.{Token}
use Rattle.stan_model_statements.specs.Tops as tops
use Rattle.stan_model_statements.specs.Trees.{Top, Tops, no_top, top}
use Rattle.stan_model_files.specs.Files.{ReadsTop, SpellsFile}
use Rattle.stan_model_files.specs.Put.{put_top}
use Rattle.stan_model_files.specs.Shapes.{nil, forest}
use Rattle.stan_stmt_rules.specs.Ahead.{Next}
use Rattle.stan_stmt_law.proofs.Expressions.{behind, Picked, picked_within}
use Rattle.stan_stmt_law.proofs.Front.{one_greedy}
use Rattle.stan_stmt_law.proofs.Inside.{inside}
use Rattle.stan_model_readings.specs.Fronts.{count, Ended, IsLongestFront}
use Rattle.stan_read_law.proofs.Rows.{EndedTops, greedy_of, top_rises, tops_rise, ended_tops, ended_are_tops}

module _ (ts : List Token) (named : Token → Bool) where
  -- No declaration or statement stands there that no token goes on with.
  abbrev pub Stops : ℕ → Type 0
  Stops to = (x : Top) (b : ℕ) → ReadsTop ts named x to b → Ended ts named b → ⊥

  -- trees in a row, up to such a place
  abbrev pub StopsBehind : Tops → ℕ → ℕ → Type 0
  StopsBehind xs from to = EndedTops ts named xs from to × Stops to

  top_within : (x : Top) (from to : ℕ) → ReadsTop ts named x from to → Ended ts named to → from ≤ length ts → to ≤ length ts
  top_within x from to h e le = inside ts named (Picked ts) (Next ts (behind ts)) (picked_within ts) tops.top (forest (put_top x nil)) from to refl le (greedy_of ts named x from to h e)

  pub tops_within : (xs : Tops) (from to : ℕ) → EndedTops ts named xs from to → from ≤ length ts → to ≤ length ts
  tops_within no_top from to h le = omega (arith, h, le)
  tops_within (top x xs) from to h le = tops_within xs h.0 to h.3 (top_within x from h.0 h.1 h.2 le)

  -- Each ends later than the one before, so there are no more of them than tokens.
  pub some_stops : (n from : ℕ) → length ts < from + n → from ≤ length ts → ((xs : Tops) (to : ℕ) → StopsBehind xs from to → ⊥) → ⊥
  some_stops zero from few le none = omega (arith, few, le)
  some_stops (suc n) from few le none =
      none no_top from (
        refl,
        λ x b h e.
            some_stops n b (omega (arith, few, top_rises ts named x from b h e)) (top_within x from b h e le)
            (λ xs to row. none (top x xs) to ((b, h, e, row.0), row.1)),
      )

  -- ---- the longest front

  same_end : (x y : Top) (from to end : ℕ) → ReadsTop ts named x from to → Ended ts named to → ReadsTop ts named y from end → Ended ts named end → to ≡ end
  same_end x y from to end h d i e = (one_greedy ts named (forest (put_top x nil)) (forest (put_top y nil)) from to end (greedy_of ts named x from to h d) (greedy_of ts named y from end i e)).1

  most : (xs ys : Tops) (from to end : ℕ) → StopsBehind xs from to → EndedTops ts named ys from end → (count ys ≤ count xs) × (end ≤ to)
  most xs no_top from to end h i = (omega arith, omega (arith, i, tops_rise ts named xs from to h.0))
  most no_top (top y ys) from to end h i = absurd (h.1 y i.0 (subst (λ z. ReadsTop ts named y z i.0) h.0 i.1) i.2)
  most (top x xs) (top y ys) from to end h i =
      let same = same_end x y from h.0.0 i.0 h.0.1 h.0.2 i.1 i.2 in
      let more = most xs ys h.0.0 to end (h.0.3, h.1) (subst (λ b. EndedTops ts named ys b end) (sym same) i.3) in
      (omega (arith, more.0), more.1)

  last_ended : (xs : Tops) (from to : ℕ) → EndedTops ts named xs from to → (xs ≡ no_top) ⊎ Ended ts named to
  last_ended no_top from to h = inl refl
  last_ended (top x no_top) from to h = inr (subst (Ended ts named) h.3 h.2)
  last_ended (top x (top y ys)) from to h = elim (last_ended (top y ys) h.0 to h.3) [ inl nothing ↦ absurd cc | inr o ↦ inr o ]

  -- where no trees spell all the tokens
  pub stops_is_longest : (xs : Tops) (to : ℕ) → StopsBehind xs 0 to → ((ys : Tops) → SpellsFile ts named ys → ⊥) → IsLongestFront ts named xs to
  stops_is_longest xs to h none = record {
    front = (ended_are_tops ts named xs 0 to h.0, last_ended xs 0 to h.0);
    longest = λ ys end front. most xs ys 0 to end h (ended_tops ts named ys 0 end front.0 front.1);
    whole = λ ys all. absurd (none ys all);
  }

  -- Longest fronts end at one place.
  pub one_end : (xs ys : Tops) (to end : ℕ) → IsLongestFront ts named xs to → IsLongestFront ts named ys end → to ≡ end
  one_end xs ys to end h i = omega (arith, (h.longest ys end i.front).1, (i.longest xs to h.front).1)
