-- An atom and its `[]` are read whole.
use Rattle.std.proofs.Common.{◌≡◌, ◌∙◌, ℕ, ◌≤◌, ◌<◌, true, List, length, Some, refl, sym, subst, ◌⊎◌, inl, inr, arith}
use Rattle.stan_model_doc.specs.declared.token.DocKind.TheVariants as k
use Rattle.stan_model_doc.specs.declared.token.DocToken.{DocToken}
use Rattle.stan_model_doc.specs.Tokens.{same_kind, kind_at, has}
use Rattle.stan_model_doc.specs.Symbols.{Atom, Brackets}
use Rattle.stan_model_doc.specs.Rules.{Rule, suffixed, group, this, literal, shape, range, callable_type, member, name, symbols, sort_of}
use Rattle.stan_model_doc.specs.Trees.{Forest, none, some}
use Rattle.stan_model_doc.specs.Grammar.{Runs}
use Rattle.stan_doc_descent.specs.Parse.{Read, Piece, standing, one, run, height}
use Rattle.stan_doc_descent.specs.Tables.{goes, rule_goes, ends, begins}
use Rattle.stan_doc_descent.specs.Descent.{IsSound, Reaches, ReadsParts}
use Rattle.stan_doc_descent.specs.Alternatives.{ReadsProduction}
use Rattle.stan_doc_descent.proofs.Words.{some_is, subset_has, only_kind}
use Rattle.stan_doc_descent.proofs.Checks.{rule_part}
use Rattle.stan_doc_descent.proofs.Runs.{starts, rises}
use Rattle.stan_doc_descent.proofs.Preferred.{one_better, one_longer}
use Rattle.stan_doc_descent.proofs.Reading.{one_sound, run_sound, passes, larger, kept, descent_reads_the_longest}
use Rattle.stan_doc_descent.proofs.Alternatives.{parts_are_read}
use Rattle.stan_doc_suffixes.proofs.Callables.{Suffixes, callable_glued, longer_atom}
use Rattle.stan_doc_suffixes.specs.Suffixes.{SuffixesAreRead}

-- of atoms a callable alone goes on with `[`
only_callable : (r : Rule) → sort_of r ≡ Atom → has (rule_goes r) k.LeftBracket ≡ true → r ≡ callable_type
unfolding same_kind
only_callable callable_type s h = refl
only_callable group s h = absurd cc
only_callable this s h = absurd cc
only_callable literal s h = absurd cc
only_callable shape s h = absurd cc
only_callable range s h = absurd cc
only_callable member s h = absurd cc
only_callable name s h = absurd cc
only_callable r s h = absurd (let w = s in cc)

module _ (ts : List DocToken) (below : Rule → ℕ → Read Forest) (n : ℕ) (sound : IsSound ts below n) (parts : ReadsParts ts below n) where
  abbrev Goes : ℕ → ℕ → Type 0
  Goes b end = Reaches ts (rule_goes suffixed) b end

  -- what is read behind an atom is longer than no brackets
  behind : (x : Forest) (b from end : ℕ) → (from ≡ b) ⊎ ((b < from) × (has (rule_goes suffixed) (kind_at ts b) ≡ true)) → Runs ts Suffixes x from end → Goes b end
  unfolding same_kind
  behind x b from end (inl e) h = elim (starts ts Suffixes x from end refl h) [
    | inl y ↦ inl (sym y.0 ∙ e)
    | inr y ↦ inr (omega (arith, y.0, e), subst (λ z. has (rule_goes suffixed) (kind_at ts z) ≡ true) e (subset_has (begins Brackets) (rule_goes suffixed) (kind_at ts from) refl y.1))
  ]
  behind x b from end (inr w) h = inr (omega (arith, w.0, rises ts Suffixes x from end h), w.1)

  -- the atom that is read goes on where brackets stand: it reaches to their end
  brackets_reach : (r : Rule) (qs f : Forest) (at m b : ℕ) (q : Piece × ℕ) → sort_of r ≡ Atom → height qs < n → b ≤ length ts → Runs ts (symbols r) qs at m → Runs ts Suffixes f m b → one ts below Atom at ≡ Some q
      → m < q.1 → has (rule_goes r) k.LeftBracket ≡ true → kind_at ts m ≡ k.LeftBracket → Reaches ts (rule_goes suffixed) b q.1
  brackets_reach r qs f at m b q s d le h i is lt go bracket =
      let c = only_callable r s go in
      elim (callable_glued ts qs f at m b (subst (λ z. Runs ts (symbols z) qs at m) c h) i) [
        | inl bare ↦
            let piece = one_sound ts below n sound Atom at q is in
            absurd (let w = sym bracket ∙ longer_atom ts q.0.0 q.0.1 at m q.1 piece.0 bare piece.1 lt in cc)
        | inr glued ↦
            let p = parts Atom callable_type glued.0 at b refl refl (omega (arith, glued.2, d)) le glued.1 in
            subst (λ (z : Piece × ℕ). Reaches ts (rule_goes suffixed) b z.1) (some_is p.0 q (sym p.1 ∙ is)) p.3
      ]

  reach : (r : Rule) (qs f : Forest) (at m b : ℕ) (q : Piece × ℕ) → sort_of r ≡ Atom → height qs < n → b ≤ length ts → Runs ts (symbols r) qs at m → Runs ts Suffixes f m b → one ts below Atom at ≡ Some q
      → m < q.1 → has (rule_goes r) (kind_at ts m) ≡ true → Reaches ts (rule_goes suffixed) b q.1
  unfolding same_kind
  reach r qs f at m b q s d le h i is lt go = elim (starts ts Suffixes f m b refl i) [
    | inl e ↦
        let part = subset_has (rule_goes r) (goes (sort_of r)) (kind_at ts m) (rule_part r) go in
        inr (omega (arith, e.0, lt), subst (λ z. has (rule_goes suffixed) (kind_at ts z) ≡ true) e.0 (subst (λ z. has (goes z) (kind_at ts m) ≡ true) s part))
    | inr e ↦
        let bracket = only_kind k.LeftBracket (kind_at ts m) e.1 in
        brackets_reach r qs f at m b q s d le h i is lt (subst (λ z. has (rule_goes r) z ≡ true) bracket go) bracket
  ]

  suffixes : (ps : Forest) (at b : ℕ) → height ps ≤ n → b ≤ length ts → Runs ts (symbols suffixed) ps at b → ReadsProduction ts suffixed ps b (run ts below (symbols suffixed) at)
  unfolding same_kind
  suffixes (some r qs f) at b d le h =
      let up = rises ts Suffixes f h.0 b h.3 in
      let q = parts Atom r qs at h.0 refl h.1 (omega (arith, d)) (omega (arith, up, le)) h.2 in
      elim q.3 [
        | inl e ↦
            let x = descent_reads_the_longest ts below n sound parts Suffixes f h.0 b refl (omega (arith, d)) le h.3 in (
              (standing q.0.0 x.0.0, x.0.1),
              rw q.1 (rw e (rw x.1 refl)),
              inl (one_better Atom Suffixes q.0.0 r qs f x.0.0 (kept ts below n sound parts Atom r qs at h.0 q.0 q.1 h.2 e q.2) x.2),
              more x.0.1 x.3,
            )
        | inr w ↦
            let x = passes ts below n sound parts Suffixes refl q.0.1 in (
              (standing q.0.0 x.0.0, x.0.1),
              rw q.1 (rw x.1 refl),
              inl (one_longer Atom Suffixes q.0.0 r qs f x.0.0 refl h.1 q.2 (larger ts below n sound parts Atom r qs at h.0 q.0 q.1 h.2 w.0)),
              behind x.0.0 b q.0.1 x.0.1 (reach r qs f at h.0 b q.0 h.1 (omega (arith, d)) le h.2 h.3 q.1 w.0 w.1) (run_sound ts below n sound Suffixes q.0.1 x.0 x.1).0,
            )
      ]
    where
      more : (end : ℕ) → Reaches ts (ends Suffixes) b end → Reaches ts (rule_goes suffixed) b end
      more end (inl e) = inl e
      more end (inr v) = inr (v.0, subset_has (ends Suffixes) (rule_goes suffixed) (kind_at ts b) refl v.1)
  suffixes (none f) at b d le h = absurd (let w = h.0 in cc)
  suffixes f at b d le h = absurd h

pub suffixes_are_read : SuffixesAreRead
suffixes_are_read ts below n sound longest ps at b d le h = suffixes ts below n sound (parts_are_read ts below n sound longest) ps at b d le h
