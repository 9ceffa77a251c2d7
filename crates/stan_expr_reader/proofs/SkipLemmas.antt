-- Strata in which no operator goes on with what was read.
use Rattle.std.proofs.Common.{◌≡◌, ℕ, zero, suc, ◌+◌, ◌-◌, ◌≤◌, ◌<◌, ◌⊎◌, inl, inr, Bool, List, Some, subst, add-zero, arith}
use Rattle.stan_model_grammar.specs.declared.token.Token.{Token}
use Rattle.stan_model_grammar.specs.Trees.{Tree}
use Rattle.stan_expr_rules.specs.Places.{joins_at}
use Rattle.stan_expr_rules.specs.Parse.{Read, strata, stratum}

module _ (ts : List Token) (b : Bool → ℕ → ℕ → Read Tree) where
  other_stratum : (j : ℕ) (e : Tree) (at : ℕ) → (joins_at ts at ≡ j → ⊥) → stratum ts b j e at ≡ Some (e, at)
  unfolding stratum
  other_stratum j e at h = grind (arith, h)

  module _ (p : Bool) (from to : ℕ) (e : Tree) where
    skip : (d n : ℕ) → strata ts b p n from ≡ Some (e, to) → (joins_at ts to < n + 6) ⊎ (n + d + 6 ≤ joins_at ts to) → strata ts b p (n + d) from ≡ Some (e, to)
    unfolding strata
    skip zero n so_far h = rw add-zero so_far
    skip (suc d) n so_far h = rw last (rw (skip d n so_far (shorter h)) (other_stratum (n + d + 6) e to (other h)))
      where
        last : n + suc d ≡ suc (n + d)
        last = omega arith

        other : (joins_at ts to < n + 6) ⊎ (n + suc d + 6 ≤ joins_at ts to) → joins_at ts to ≡ n + d + 6 → ⊥
        other (inl l) same = omega (arith, same, l)
        other (inr l) same = omega (arith, same, l)

        shorter : (joins_at ts to < n + 6) ⊎ (n + suc d + 6 ≤ joins_at ts to) → (joins_at ts to < n + 6) ⊎ (n + d + 6 ≤ joins_at ts to)
        shorter (inl l) = inl l
        shorter (inr l) = inr (omega (arith, l))

    -- where the token behind goes on in none of the strata up to `k`, they leave what was read up to `j`
    pub strata_skip : (j k : ℕ) → 5 ≤ j → j ≤ k → strata ts b p (j - 5) from ≡ Some (e, to) → (joins_at ts to ≤ j) ⊎ (k < joins_at ts to) → strata ts b p (k - 5) from ≡ Some (e, to)
    strata_skip j k least le so_far h =
        let all : j - 5 + (k - j) ≡ k - 5 = omega (arith, least, le) in
        subst (λ n. strata ts b p n from ≡ Some (e, to)) all (skip (k - j) (j - 5) so_far (by h))
      where
        by : (joins_at ts to ≤ j) ⊎ (k < joins_at ts to) → (joins_at ts to < j - 5 + 6) ⊎ (j - 5 + (k - j) + 6 ≤ joins_at ts to)
        by (inl l) = inl (omega (arith, least, l))
        by (inr l) = inr (omega (arith, least, le, l))

    -- the stratum behind
    pub strata_next : (j : ℕ) (f : Tree) (end : ℕ) → 6 ≤ j → strata ts b p (j - 6) from ≡ Some (e, to) → stratum ts b j e to ≡ Some (f, end) → strata ts b p (j - 5) from ≡ Some (f, end)
    unfolding strata
    strata_next j f end least so_far h =
        let this : j - 5 ≡ suc (j - 6) = omega (arith, least) in
        let same : j - 6 + 6 ≡ j = omega (arith, least) in
        rw this (rw (so_far, same) h)
