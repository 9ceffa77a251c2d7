-- A loop that reads parts one by one, as `many` does, and a part by the production that the next tokens ask for.
use Rattle.std.proofs.Common.{◌≡◌, ℕ, zero, suc, ◌+◌, ◌-◌, ◌≤◌, ◌<◌, Bool, true, false, List, [], ◌∷◌, ◌++◌, length, Option, Some, None, refl, sym, ap, ◌∙◌, ◌⊎◌, inl, inr, arith}
use Rattle.std.specs.Option.{is_some}
use Rattle.stan_model_grammar.specs.declared.token.Token.{Token}
use Rattle.stan_model_grammar.specs.declared.token.TokenKind.{TokenKind}
use Rattle.stan_expr_rules.specs.Parse.{Read, ◌>>=◌}
use Rattle.stan_model_statements.specs.Symbols.{Sort}
use Rattle.stan_model_statements.specs.Rules.{Rule}
use Rattle.stan_places.specs.declared.stop.Stop.{Stop}
use Rattle.stan_places.specs.declared.stop.Stop.TheVariants.{Memory, Absent}
use Rattle.stan_places.specs.Gives.{Fails}
use Rattle.stan_stmt_rules.specs.Ahead.{pick_at}
use Rattle.stan_stmt_rules.specs.Parse.{choose, behind}
use Rattle.stan_stmt_parts.specs.declared.depth.Depth.{Depth}
use Rattle.stan_stmt_parts.specs.Parse.{Piece, pieced, one, many, all}
use Rattle.stan_stmt_parts.specs.Gives.{Leaves, below, part, every, entered}
use Rattle.stan_stmt_parts.proofs.KindLemmas.{see}
use Rattle.stan_stmt_parts.proofs.Singles.{read_enters}

picks : (o : Option Rule) → is_some o ≡ true → (r : Rule) × (o ≡ Some r)
picks None h = absurd cc
picks (Some r) h = (r, refl)

module _ (ts : List Token) (l : Leaves) (d : Depth) (s : Sort) where
  abbrev pub Next : ℕ → Option Rule
  Next at = pick_at ts (behind ts d.levels) s at

  abbrev pub Turns : ℕ → List Piece → ℕ → Read (List Piece)
  Turns n found at = many ts l.named (l.value ts) (behind ts) (below ts l d) d.levels n s found at

  pub part_by : (r : Rule) (at : ℕ) → Next at ≡ Some r → part ts l d s at ≡ entered ts l d r at
  unfolding part one
  part_by r at h = rw h (read_enters ts l d.room d.levels r at)

  -- a part of several productions is the one that is picked
  pub part_picked : (at : ℕ) → part ts l d s at ≡ (Next at >>= λ r. entered ts l d r at)
  unfolding part one
  part_picked at = by (see (Next at))
    where
      by : (Next at ≡ None) ⊎ ((r : Rule) × (Next at ≡ Some r))
          → (Next at >>= λ r. pieced ts l.named (l.value ts) (behind ts) (below ts l d) d.levels r at) ≡ (Next at >>= λ r. entered ts l d r at)
      by (inl h) = rw h refl
      by (inr h) = rw h.1 (read_enters ts l d.room d.levels h.0 at)

  pub no_part : (at : ℕ) → Next at ≡ None → part ts l d s at ≡ None
  unfolding part one
  no_part at h = rw h refl

  unrolled : (n i : ℕ) (found : List Piece) (at : ℕ) → i < n
      → Turns (n - i) found at ≡ choose (Next at) (λ r. pieced ts l.named (l.value ts) (behind ts) (below ts l d) d.levels r at >>= λ p. Turns (n - (i + 1)) (found ++ p.0 ∷ []) p.1) (Some (found, at))
  unrolled n i found at lt = let k : n - i ≡ suc (n - (i + 1)) = omega arith in rw k refl

  pub first_turn : (n at : ℕ) → n ≡ length ts + 1 → Turns n [] at ≡ every ts l d s at
  unfolding every all
  first_turn n at e = rw e refl

  pub turn_takes : (n i : ℕ) (found : List Piece) (at : ℕ) (total : Read (List Piece)) (p : Piece) (to : ℕ) → i < n → Turns (n - i) found at ≡ total → is_some (Next at) ≡ true
      → part ts l d s at ≡ Some (p, to) → Turns (n - (i + 1)) (found ++ p ∷ []) to ≡ total
  unfolding part one
  turn_takes n i found at total p to lt so_far some h =
      let r = picks (Next at) some in
      let read = rw r.1 at h in
      sym (unrolled n i found at lt ∙ rw r.1 (rw read refl)) ∙ so_far

  pub turn_fails : (n i : ℕ) (found : List Piece) (at : ℕ) (total : Read (List Piece)) (e : Stop) → i < n → Turns (n - i) found at ≡ total → is_some (Next at) ≡ true → Fails e (part ts l d s at) → Fails e total
  unfolding part one
  turn_fails n i found at total Memory lt so_far some h = tt
  turn_fails n i found at total Absent lt so_far some h =
      let r = picks (Next at) some in
      let read = rw r.1 at h in
      sym so_far ∙ unrolled n i found at lt ∙ rw r.1 (rw read refl)
