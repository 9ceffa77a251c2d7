-- Where a condition may be parted, and a type by its two productions.
use Rattle.std.proofs.Common.{◌≡◌, ℕ, zero, suc, ◌+◌, ◌-◌, ◌≤◌, ◌<◌, Bool, true, false, List, [], ◌∷◌, length, take, Option, Some, None, refl, sym, ap, ◌∙◌, ◌⊎◌, inl, inr, arith, ◌&&◌}
use Rattle.std.specs.Prelude.{nat_le, if◌then◌else◌, slice_get}
use Rattle.std.proofs.lemmas.Bool.{le-leb}
use Rattle.stan_model_doc.specs.declared.token.DocKind.{DocKind}
use Rattle.stan_model_doc.specs.declared.token.DocKind.TheVariants as k
use Rattle.stan_model_doc.specs.declared.token.DocToken.{DocToken}
use Rattle.stan_model_doc.specs.Tokens.{same_kind, kind_at, kind_of}
use Rattle.stan_model_doc.specs.Symbols as sorts
use Rattle.stan_model_doc.specs.Rules.{Rule, conditional, plain_type}
use Rattle.stan_model_doc.specs.Trees.{Forest}
use Rattle.stan_doc_descent.specs.Parse.{Read, Piece, ◌>>=◌, onto, standing, choose, after, after_of, one}
use Rattle.stan_doc_conditions.specs.Conditions.{Second, parted_at, last_parted, second, condition}
use Rattle.stan_doc_levels.specs.Levels.{level}
use Rattle.stan_doc_parts.specs.Gives.{part, inside, whole, enter}
use Rattle.stan_doc_parts.proofs.Productions.{pieced, itself, run_is, level_is}
use Rattle.stan_doc_types.specs.Conditions as spec
use Rattle.stan_doc_types.specs.Conditions.{parted, branches}

module _ (ts : List DocToken) (n : ℕ) where
  pub nothing_behind : (o : Option (Piece × ℕ)) (c : ℕ) (behind : Read Forest) → behind ≡ None → (o >>= λ a. if nat_le a.1 c && nat_le c a.1 then behind >>= onto (standing a.0) else None) ≡ None
  nothing_behind None c behind h = refl
  nothing_behind (Some a) c behind h = by (nat_le a.1 c && nat_le c a.1)
    where
      by : (b : Bool) → (if b then behind >>= onto (standing a.0) else None) ≡ None
      by true = rw h refl
      by false = refl

  other_kind : (o : Option DocToken) (c : ℕ) → same_kind (kind_of o) k.Colon ≡ false → after_of o k.Colon c ≡ None
  other_kind None c h = refl
  other_kind (Some t) c h = rw h refl

  -- at another token the branches are not parted
  pub no_colon : (from c : ℕ) → same_kind (kind_at ts c) k.Colon ≡ false → parted ts n from c ≡ None
  unfolding kind_at after
  no_colon from c h = nothing_behind (one (take c ts) (level n (take c ts)) sorts.Written from) c (second ts (level n) c) (rw (other_kind (slice_get ts c) c h) refl)

  abbrev pub Turns : ℕ → ℕ → Read Forest
  Turns from c = last_parted ts (level n) (second ts (level n)) from c

  unrolled : (from k i : ℕ) → i < k → Turns from (k - i) ≡ choose (parted ts n from (k - 1 - i)) Some (Turns from (k - 1 - i))
  unrolled from k i lt = let e : k - i ≡ suc (k - 1 - i) = omega arith in rw e refl

  pub turn_found : (from k i : ℕ) (total : Read Forest) (x : Forest × ℕ) → i < k → Turns from (k - i) ≡ total → parted ts n from (k - 1 - i) ≡ Some x → total ≡ Some x
  turn_found from k i total x lt so_far e = sym so_far ∙ unrolled from k i lt ∙ rw e refl

  pub turn_lost : (from k i : ℕ) (total : Read Forest) → i < k → Turns from (k - i) ≡ total → parted ts n from (k - 1 - i) ≡ None → Turns from (k - (i + 1)) ≡ total
  turn_lost from k i total lt so_far e =
      let same : k - (i + 1) ≡ k - 1 - i = omega arith in
      ap (Turns from) same ∙ sym (unrolled from k i lt ∙ rw e refl) ∙ so_far

  pub no_turn : (from k i : ℕ) (total : Read Forest) → k ≤ i → Turns from (k - i) ≡ total → total ≡ None
  no_turn from k i total le so_far = let e : k - i ≡ 0 = omega arith in sym so_far ∙ rw e refl

  pub second_is : (at : ℕ) → spec.second ts n at ≡ inside ts n Second at
  unfolding spec.second
  second_is at = run_is ts n Second at

  pub starts : (from k : ℕ) → k ≡ length ts → Turns from (k - 0) ≡ branches ts n from
  unfolding branches
  starts from k e = let same : k - 0 ≡ length ts = omega (arith, e) in ap (Turns from) same

condition_is : (ts : List DocToken) (n at : ℕ) (other : Read Piece) → choose (level n ts conditional at) (λ p. Some ((conditional, p.0), p.1)) other ≡ choose (spec.conditional ts n at) Some other
unfolding spec.conditional
condition_is ts zero at other = refl
condition_is ts (suc n) at other =
    let some : nat_le 1 (suc n) ≡ true = le-leb 1 (suc n) (omega arith) in
    let less : suc n - 1 ≡ n = omega arith in
    rw (some, less) (pieced conditional (condition ts (level n) at) other)

-- A type is a condition, or else no condition.
pub part_written : (ts : List DocToken) (n at : ℕ) → part ts n sorts.Written at ≡ choose (spec.conditional ts n at) Some (whole ts n plain_type at)
unfolding part
part_written ts n at =
    ap (choose (level n ts conditional at) (λ p. Some ((conditional, p.0), p.1))) (level_is ts n plain_type at None refl ∙ itself (whole ts n plain_type at))
    ∙ condition_is ts n at (whole ts n plain_type at)

-- Without levels nothing is read.
pub no_written : (ts : List DocToken) (n at : ℕ) → n ≡ 0 → part ts n sorts.Written at ≡ None
unfolding part
no_written ts n at e = rw e refl

pub no_unary : (ts : List DocToken) (n at : ℕ) → n ≡ 0 → part ts n sorts.Unary at ≡ None
unfolding part
no_unary ts n at e = rw e refl
