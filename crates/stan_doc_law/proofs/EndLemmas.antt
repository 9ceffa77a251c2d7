-- Where tokens end: each one that is read at a place of a text has a byte, and lies within the text.
use Rattle.std.proofs.Common.{◌≡◌, ℕ, ◌+◌, ◌<◌, ◌≤◌, List, [], ◌∷◌, length, drop, Bool, true, false, cond, refl, sym, ◌∙◌, arith, inl, inr}
use Rattle.std.specs.Prelude.{◌==◌, ◌&&◌, ◌||◌, nat_lt, nat_eq, slice_index}
use Rattle.std.specs.List.{starts_with, list_all}
use Rattle.std.proofs.lemmas.Bool.{and_parts, eqb-true, ltb-true, false≢true, or_cases}
use Rattle.stan_model_grammar.specs.declared.token.TokenKind.{TokenKind}
use Rattle.stan_model_grammar.specs.Runs.{run_end, is_digit}
use Rattle.stan_model_grammar.specs.Words.{begins_variable, begins_name}
use Rattle.stan_model_grammar.specs.Numbers.{begins_number, number}
use Rattle.stan_model_doc.specs.declared.token.DocKind.{DocKind}
use Rattle.stan_model_doc.specs.Tokens.{doc_name, doc_variable, number_kind, begins_doc_number, doc_number, doc_quoted, mark_among, doc_marks, doc_mark, doc_token}
use Rattle.stan_runs.proofs.RunLemmas.{run_end_rises, run_end_below}
use Rattle.stan_lexer.proofs.EndLemmas.{stands, byte_stands, number_ends}
use Rattle.stan_lexer.proofs.TextEndLemmas.{stand_within, single_quoted_ends, double_quoted_ends}

-- What is read at a place ends behind it, and within the text.
pub record Ends (text : List ℕ) (at : ℕ) (read : DocKind × ℕ) : Type 0 where
  pub rises : at < read.1
  pub within : read.1 ≤ length text

abbrev is_some_mark : List ℕ × DocKind → Bool
is_some_mark row = nat_lt 0 (length row.0)

module _ (text : List ℕ) where
  either : (b : Bool) (at : ℕ) (p q : DocKind × ℕ) → (b ≡ true → Ends text at p) → (b ≡ false → Ends text at q) → Ends text at (cond b p q)
  either true at p q then_is else_is = then_is refl
  either false at p q then_is else_is = else_is refl

  run_ends : (at : ℕ) (kind : DocKind) (test : ℕ → Bool) → at < length text → Ends text at (kind, run_end text test (at + 1))
  run_ends at kind test lt = record { rises = omega (arith, run_end_rises text test (at + 1)); within = run_end_below text test (at + 1) (omega arith) }

  variable_ends : (at : ℕ) → at < length text → Ends text at (doc_variable text at)
  unfolding doc_variable
  variable_ends at lt = run_ends at _ _ lt

  name_ends : (at : ℕ) → at < length text → Ends text at (doc_name text at)
  unfolding doc_name
  name_ends at lt = run_ends at _ _ lt

  -- a number stands within the text
  number_stands : (k : ℕ) → begins_number text k ≡ true → k < length text
  number_stands k is = elim (or_cases (is_digit (slice_index text k)) ((slice_index text k == 46) && is_digit (slice_index text (k + 1))) is) [
    | inl d ↦ stands text is_digit refl k d
    | inr p ↦ byte_stands text 46 refl k (and_parts (slice_index text k == 46) (is_digit (slice_index text (k + 1))) p).0
  ]

  no_number_sign : (k : ℕ) → slice_index text k ≡ 45 → begins_number text k ≡ true → ⊥
  no_number_sign k e is = false≢true (rw e at is)

  number_of : (at from : ℕ) (kind : TokenKind → DocKind) → at ≤ from → begins_number text from ≡ true → Ends text at (kind (number text from).0, (number text from).1)
  number_of at from kind le is = let e = number_ends text from (number_stands from is) is in record { rises = omega (arith, e.rises, le); within = e.within }

  doc_number_ends : (at : ℕ) → begins_doc_number text at ≡ true → Ends text at (doc_number text at)
  unfolding doc_number
  doc_number_ends at is = by (slice_index text at == 45) refl
    where
      by : (b : Bool) → (slice_index text at == 45) ≡ b → Ends text at (doc_number text at)
      by true e = rw e (elim (or_cases (begins_number text at) ((slice_index text at == 45) && begins_number text (at + 1)) is) [
        | inl d ↦ absurd (no_number_sign at (eqb-true (slice_index text at) 45 e) d)
        | inr p ↦ number_of at (at + 1) number_kind (omega arith) (and_parts (slice_index text at == 45) (begins_number text (at + 1)) p).1
      ])
      by false e = rw e (elim (or_cases (begins_number text at) ((slice_index text at == 45) && begins_number text (at + 1)) is) [
        | inl d ↦ number_of at at number_kind (omega arith) d
        | inr p ↦ absurd (false≢true (sym e ∙ (and_parts (slice_index text at == 45) (begins_number text (at + 1)) p).0))
      ])

  quoted_ends : (at : ℕ) → at < length text → Ends text at (doc_quoted text at)
  unfolding doc_quoted
  quoted_ends at lt = by (slice_index text at == 39) refl
    where
      by : (b : Bool) → (slice_index text at == 39) ≡ b → Ends text at (doc_quoted text at)
      by true e = rw e (let q = single_quoted_ends text at lt in record { rises = q.rises; within = q.within })
      by false e = rw e (let q = double_quoted_ends text at lt in record { rises = q.rises; within = q.within })

  among_ends : (rows : List (List ℕ × DocKind)) (at : ℕ) → at < length text → list_all is_some_mark rows ≡ true → Ends text at (mark_among rows text at)
  among_ends [] at lt h = record { rises = omega arith; within = omega arith }
  among_ends (row ∷ rows) at lt h =
      let parts = and_parts (is_some_mark row) (list_all is_some_mark rows) h in
      either (starts_with nat_eq (drop at text) row.0) at (row.1, at + length row.0) (mark_among rows text at)
      (λ is. record { rises = omega (arith, ltb-true 0 (length row.0) parts.0); within = stand_within text row.0 at (omega arith) is })
      (λ other. among_ends rows at lt parts.1)

  mark_ends : (at : ℕ) → at < length text → Ends text at (doc_mark text at)
  unfolding doc_mark doc_marks
  mark_ends at lt = among_ends doc_marks at lt refl

  pub doc_token_ends : (at : ℕ) → at < length text → Ends text at (doc_token text at)
  unfolding doc_token
  doc_token_ends at lt =
      either (begins_variable text at) at _ _ (λ is. variable_ends at lt)
      (λ a. either (begins_name text at) at _ _ (λ is. name_ends at lt)
      (λ b. either (begins_doc_number text at) at _ _ (λ is. doc_number_ends at is)
      (λ d. either ((slice_index text at == 39) || (slice_index text at == 34)) at _ _ (λ is. quoted_ends at lt) (λ e. mark_ends at lt))))
