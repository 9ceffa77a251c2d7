-- Why quotes without their end are not looked at again: behind a quote that begins no text the next one is escaped where the first one's text is read,
-- so what is escaped behind it is the same for both, and both texts stop at one place.
use Rattle.std.proofs.Common.{◌≡◌, ℕ, ◌+◌, ◌-◌, ◌<◌, ◌≤◌, List, Bool, true, false, cond, zero, suc, length, refl, sym, ap, ◌∙◌, arith}
use Rattle.std.specs.Prelude.{◌==◌, ◌||◌, slice_index}
use Rattle.std.proofs.lemmas.Bool.{le-ltb}
use Rattle.stan_model_grammar.specs.Runs.{run_end}
use Rattle.stan_model_grammar.specs.Texts.{is_escaped, begins_insertion, single_quoted, double_quoted}
use Rattle.stan_model_grammar.specs.declared.token.TokenKind.{TokenKind}
use Rattle.stan_model_grammar.specs.declared.token.TokenKind.TheVariants as kinds
use Rattle.stan_model_doc.specs.declared.token.DocKind.{DocKind}
use Rattle.stan_model_doc.specs.declared.token.DocKind.TheVariants as docs
use Rattle.stan_model_doc.specs.Tokens.{doc_quoted, text_kind}
use Rattle.stan_runs.specs.declared.fixed.Quote.{Quote}
use Rattle.stan_runs.specs.declared.fixed.Quote.TheVariants as quotes
use Rattle.stan_doc_tokens.specs.declared.quotes.Seen.{Seen}
use Rattle.stan_runs.specs.FixedBytes.{fixed, fixed_from}
use Rattle.stan_doc_tokens.specs.Quotes.{BeginsNone, AreSeen}
use Rattle.stan_runs.proofs.RunLemmas.{run_end_passes, run_end_skips, run_end_same, run_end_below}

module _ (text : List ℕ) where
  pub later : (byte a b stop : ℕ) → BeginsNone text byte a stop → a ≤ b → BeginsNone text byte b stop
  later byte a b stop h le = λ p low high e. h p (omega arith) high e

  pub seen_later : (a b : ℕ) (seen : Seen) → AreSeen text a seen → a ≤ b → AreSeen text b seen
  seen_later a b seen h le = record { single = later 39 a b seen.single h.single le; double = later 34 a b seen.double h.double le }

  module _ (f p : ℕ) (le : f ≤ p) (escaped : is_escaped text f (p - f) ≡ true) where
    -- what is escaped behind an escaped byte
    same_escapes : (j : ℕ) → is_escaped text (p + 1) j ≡ is_escaped text f (((p + 1) - f) + j)
    unfolding is_escaped
    same_escapes zero =
        let e : ((p + 1) - f) + 0 ≡ suc (p - f) = omega arith in
        rw (e, escaped) refl
    same_escapes (suc j) =
        let e : ((p + 1) - f) + suc j ≡ suc (((p + 1) - f) + j) = omega arith in
        let g : f + (((p + 1) - f) + j) ≡ (p + 1) + j = omega arith in
        rw (e, g, same_escapes j) refl

    same_fixed : (quote : Quote) (k : ℕ) → p + 1 ≤ k → fixed_from quote text (p + 1) k ≡ fixed_from quote text f k
    same_fixed quote k more =
        let e : ((p + 1) - f) + (k - (p + 1)) ≡ k - f = omega arith in
        ap (λ b. fixed quote b text k) (same_escapes (k - (p + 1)) ∙ ap (is_escaped text f) e)

    same_stop : (quote : Quote) → f ≤ length text → p < run_end text (fixed_from quote text f) f → run_end text (fixed_from quote text (p + 1)) (p + 1) ≡ run_end text (fixed_from quote text f) f
    same_stop quote within lt =
        let below = run_end_below text (fixed_from quote text f) f within in
        let e : f + ((p + 1) - f) ≡ p + 1 = omega arith in
        run_end_same text (fixed_from quote text (p + 1)) (fixed_from quote text f) (p + 1) (same_fixed quote)
        ∙ ap (run_end text (fixed_from quote text f)) (sym e)
        ∙ run_end_skips text (fixed_from quote text f) ((p + 1) - f) f (omega (arith, below))
        (λ k low high. run_end_passes text (fixed_from quote text f) (length text - f) f (omega arith) k low (omega arith))

  or_true : (b : Bool) → (b || false) ≡ true → b ≡ true
  or_true true h = refl
  or_true false h = h

  single_escaped : (f p : ℕ) → slice_index text p ≡ 39 → fixed_from quotes.Single text f p ≡ true → is_escaped text f (p - f) ≡ true
  single_escaped f p e h = or_true (is_escaped text f (p - f)) (rw e at h)

  double_escaped : (f p : ℕ) → slice_index text p ≡ 34 → fixed_from quotes.Double text f p ≡ true → is_escaped text f (p - f) ≡ true
  double_escaped f p e h = or_true (is_escaped text f (p - f)) (rw e at h)

  module _ (at : ℕ) (lt : at < length text) where
    pub single_none : length text ≤ run_end text (fixed_from quotes.Single text (at + 1)) (at + 1) → BeginsNone text 39 (at + 1) (length text)
    unfolding doc_quoted single_quoted
    single_none past = λ p low high e.
        let passes = run_end_passes text (fixed_from quotes.Single text (at + 1)) (length text - (at + 1)) (at + 1) (omega arith) p low (omega arith) in
        let same = same_stop (at + 1) p low (single_escaped (at + 1) p e passes) quotes.Single (omega arith) (omega arith) in
        rw (e, same, le-ltb _ (length text) past) refl

    pub double_none : (slice_index text (run_end text (fixed_from quotes.Double text (at + 1)) (at + 1)) == 34) ≡ false
        → BeginsNone text 34 (at + 1) (run_end text (fixed_from quotes.Double text (at + 1)) (at + 1))
    unfolding doc_quoted double_quoted
    double_none other = λ p low high e.
        let below = run_end_below text (fixed_from quotes.Double text (at + 1)) (at + 1) (omega arith) in
        let passes = run_end_passes text (fixed_from quotes.Double text (at + 1)) (length text - (at + 1)) (at + 1) (omega arith) p low high in
        let same = same_stop (at + 1) p low (double_escaped (at + 1) p e passes) quotes.Double (omega arith) high in
        rw (e, same, other) (by p (begins_insertion text (run_end text (fixed_from quotes.Double text (at + 1)) (at + 1))))
      where
        by : (p : ℕ) (b : Bool) → (let read : TokenKind × ℕ = cond b (kinds.TextStart, p + 1) (kinds.Bad, p + 1) in let out : DocKind × ℕ = (text_kind read.0, read.1) in out) ≡ (docs.Other, p + 1)
        by p true = refl
        by p false = refl

pub ruleset seen_steps = (later, seen_later, single_none, double_none)
