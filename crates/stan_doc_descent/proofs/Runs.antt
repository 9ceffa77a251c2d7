-- Runs of symbols: with what they begin, and where they end.
use Rattle.std.proofs.Common.{◌≡◌, ℕ, ◌+◌, ◌≤◌, ◌<◌, true, List, [], ◌∷◌, Option, Some, None, refl, sym, subst, ◌⊎◌, inl, inr, arith}
use Rattle.std.specs.Prelude.{not, slice_get, if◌then◌else◌}
use Rattle.stan_model_doc.specs.declared.token.DocKind.{DocKind}
use Rattle.stan_model_doc.specs.declared.token.DocKind.TheVariants as k
use Rattle.stan_model_doc.specs.declared.token.DocToken.{DocToken}
use Rattle.stan_model_doc.specs.Tokens.{kind_at, kind_of, has}
use Rattle.stan_model_doc.specs.Symbols.{Sort, Need, Symbol, Mark, Word, Any, Part, lacks, rest}
use Rattle.stan_model_doc.specs.Rules.{Rule, symbols, sort_of}
use Rattle.stan_model_doc.specs.Trees.{Forest, nil, mark, word, any, none, some}
use Rattle.stan_model_doc.specs.Grammar.{Runs}
use Rattle.stan_model_doc.specs.Choices.{size}
use Rattle.stan_doc_descent.specs.Parse.{after, after_of}
use Rattle.stan_doc_descent.specs.Tables.{begins, firsts, empty, leads, is_end}
use Rattle.stan_doc_descent.proofs.Words.{same_at, stands_kind, subset_has, clash, implied}
use Rattle.stan_doc_descent.proofs.Checks.{rule_takes, rule_begins, rule_leads, has_left, has_right}

after_of_at : (o : Option DocToken) (kind : DocKind) (at : ℕ) → (k.End ≡ kind → ⊥) → kind_of o ≡ kind → after_of o kind at ≡ Some (at + 1)
after_of_at None kind at apart is = absurd (apart is)
after_of_at (Some t) kind at apart is = rw (same_at t.kind kind is) refl

pub after_at : (ts : List DocToken) (kind : DocKind) (at : ℕ) → not (is_end kind) ≡ true → kind_at ts at ≡ kind → after ts kind at ≡ Some (at + 1)
unfolding after kind_at
after_at ts kind at apart is = after_of_at (slice_get ts at) kind at (λ e. let w = subst (λ z. not (is_end z) ≡ true) (sym e) apart in absurd cc) is

has_self : (kind : DocKind) → has (kind ∷ []) kind ≡ true
has_self kind = rw (same_at kind kind refl) refl

module _ (ts : List DocToken) where
  pub taken : (xs : List Symbol) (f : Forest) (at to : ℕ) → Runs ts xs f at to → to ≡ at + size f
  taken [] nil at to h = omega (arith, h)
  taken (Mark kind ∷ xs) (mark f) at to h = omega (arith, taken xs f (at + 1) to h.1)
  taken (Word ks ∷ xs) (word t f) at to h = omega (arith, taken xs f (at + 1) to h.2)
  taken (Any stop ∷ xs) (any n f) at to h = omega (arith, taken xs f (at + n) to h.2)
  taken (Part n s ∷ xs) (none f) at to h = taken xs f at to h.1
  taken (Part n s ∷ xs) (some r ps f) at to h = omega (arith, taken (symbols r) ps at h.0 h.2, taken (rest n s xs) f h.0 to h.3)
  taken xs f at to h = absurd h

  pub rises : (xs : List Symbol) (f : Forest) (at to : ℕ) → Runs ts xs f at to → at ≤ to
  rises xs f at to h = omega (arith, taken xs f at to h)

  -- a run takes nothing, which the symbols allow, or it begins with one of their tokens
  abbrev pub Begins : List Symbol → ℕ → ℕ → Type 0
  Begins xs at to = ((at ≡ to) × (empty xs ≡ true)) ⊎ ((at < to) × (has (firsts xs) (kind_at ts at) ≡ true))

  abbrev Started : Rule → ℕ → ℕ → Type 0
  Started r at b = (at < b) × (has (begins (sort_of r)) (kind_at ts at) ≡ true)

  of_rule : (r : Rule) (at b : ℕ) → Begins (symbols r) at b → Started r at b
  of_rule r at b (inl h) = clash (empty (symbols r)) h.1 (rule_takes r)
  of_rule r at b (inr h) = (h.0, subset_has (firsts (symbols r)) (begins (sort_of r)) (kind_at ts at) (rule_begins r) h.1)

  behind : (n : Need) (s : Sort) (xs : List Symbol) (at to : ℕ) → lacks n ≡ true → Begins xs at to → Begins (Part n s ∷ xs) at to
  behind n s xs at to l (inl h) = inl (h.0, rw (l, h.1) refl)
  behind n s xs at to l (inr h) = inr (h.0, has_right (begins s) (if lacks n then firsts xs else []) (kind_at ts at) (rw l h.1))

  pub starts : (xs : List Symbol) (f : Forest) (at to : ℕ) → leads xs ≡ true → Runs ts xs f at to → Begins xs at to
  starts [] nil at to l h = inl (h, refl)
  starts (Mark kind ∷ xs) (mark f) at to l h = inr (omega (arith, rises xs f (at + 1) to h.1), rw h.0 (has_self kind))
  starts (Word ks ∷ xs) (word t f) at to l h = inr (omega (arith, rises xs f (at + 1) to h.2), rw (stands_kind ts at t h.0) h.1)
  starts (Part n s ∷ xs) (none f) at to l h = behind n s xs at to h.0 (starts xs f at to (implied (lacks n) (leads xs) l h.0) h.1)
  starts (Part n s ∷ xs) (some r ps f) at to l h =
      let a = of_rule r at h.0 (starts (symbols r) ps at h.0 (rule_leads r) h.2) in
      inr (
        omega (arith, a.0, rises (rest n s xs) f h.0 to h.3),
        has_left (begins s) (if lacks n then firsts xs else []) (kind_at ts at) (subst (λ z. has (begins z) (kind_at ts at) ≡ true) h.1 a.1),
      )
  starts (Any stop ∷ xs) f at to l h = absurd cc
  starts xs f at to l h = absurd h

  pub rule_starts : (r : Rule) (ps : Forest) (at b : ℕ) → Runs ts (symbols r) ps at b → (at < b) × (has (begins (sort_of r)) (kind_at ts at) ≡ true)
  rule_starts r ps at b h = of_rule r at b (starts (symbols r) ps at b (rule_leads r) h)
