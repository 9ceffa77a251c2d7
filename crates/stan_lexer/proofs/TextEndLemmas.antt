-- Where the tokens of texts end.
use Rattle.std.proofs.Common.{◌≡◌, ℕ, ◌+◌, ◌-◌, ◌<◌, ◌≤◌, List, length, take, drop, Bool, true, false, cond, refl, sym, ap, ◌∙◌, arith, length-drop}
use Rattle.std.specs.Prelude.{◌==◌, ◌&&◌, ◌||◌, not, nat_eq, nat_lt, slice_index}
use Rattle.std.specs.List.{starts_with}
use Rattle.std.specs.Cmp.Lexicographic.{bytes_decides}
use Rattle.std.proofs.Math.ListN.{length-take}
use Rattle.std.proofs.lemmas.Bool.{and_parts, ltb-true, false≢true, not-false}
use Rattle.stan_base.specs.Bytes.{begins_identifier, continues_identifier}
use Rattle.stan_model_grammar.specs.Runs.{run_end, space_at, word_at}
use Rattle.stan_model_grammar.specs.Words.{begins_variable}
use Rattle.stan_model_grammar.specs.Texts.{begins_insertion, index_end, has_index, has_property, inserted, single_quoted_at, single_quoted, double_quoted_at, double_quoted, piece, text_token}
use Rattle.stan_model_grammar.specs.Heredocs.{is_quote, head_blanks_end, label_quote, label_start, label_end, label, head_end, has_line_end, begins_heredoc, body_start, line_closes, closes, body_end, is_fixed, heredoc}
use Rattle.stan_runs.proofs.RunLemmas.{run_end_rises, run_end_below, run_end_fails}
use Rattle.stan_lexer.proofs.EndLemmas.{Ends, last_of_three, stands, byte_stands, either_ends, run_reaches, ends_by, byte_ends}

middle_of_three : (a b c : Bool) → (a && b && c) ≡ true → b ≡ true
middle_of_three true true c is = refl
middle_of_three true false c is = absurd (false≢true is)
middle_of_three false b c is = absurd (false≢true is)

fourth_of_six : (a b c d e f : Bool) → (a && b && c && d && e && f) ≡ true → d ≡ true
fourth_of_six a b c true e f is = refl
fourth_of_six a b c false e f is = absurd (false≢true (sym (none (a && b && c)) ∙ is))
  where
    none : (x : Bool) → (x && false && e && f) ≡ false
    none true = refl
    none false = refl

-- Bytes that stand at a place of a list lie within it.
pub stand_within : (source bytes : List ℕ) (at : ℕ) → at ≤ length source → starts_with nat_eq (drop at source) bytes ≡ true → at + length bytes ≤ length source
stand_within source bytes at h is =
    let same : bytes ≡ take (length bytes) (drop at source) = (bytes_decides bytes (take (length bytes) (drop at source))).0 is in
    omega (arith, ap length same, length-take (length bytes) (drop at source), length-drop at source)

module _ (source : List ℕ) where
  -- ---- texts in quotes

  pub single_quoted_ends : (at : ℕ) → at < length source → Ends source at (single_quoted source at)
  unfolding single_quoted
  single_quoted_ends at lt =
      let to = run_end source (single_quoted_at source (at + 1)) (at + 1) in
      either_ends source (nat_lt to (length source)) at _ _
      (λ is. ends_by source at _ (to + 1) (omega (arith, run_end_rises source (single_quoted_at source (at + 1)) (at + 1))) (omega (arith, ltb-true to (length source) is)))
      (λ other. byte_ends source at _ lt)

  pub double_quoted_ends : (at : ℕ) → at < length source → Ends source at (double_quoted source at)
  unfolding double_quoted
  double_quoted_ends at lt =
      let to = run_end source (double_quoted_at source (at + 1)) (at + 1) in
      either_ends source (slice_index source to == 34) at _ _
      (λ is. ends_by source at _ (to + 1) (omega (arith, run_end_rises source (double_quoted_at source (at + 1)) (at + 1))) (omega (arith, byte_stands source 34 refl to is)))
      (λ other. either_ends source (begins_insertion source to) at _ _ (λ is. byte_ends source at _ lt) (λ more. byte_ends source at _ lt))

  piece_ends : (at : ℕ) → at < length source → Ends source at (piece source at)
  unfolding piece
  piece_ends at lt =
      let to = run_end source (double_quoted_at source at) at in
      either_ends source (nat_lt at to && ((slice_index source to == 34) || begins_insertion source to)) at _ _
      (λ is. ends_by source at _ to (ltb-true at to (and_parts (nat_lt at to) ((slice_index source to == 34) || begins_insertion source to) is).0)
      (run_end_below source (double_quoted_at source at) at (omega arith)))
      (λ other. byte_ends source at _ lt)

  property_stands : (at : ℕ) → has_property source at ≡ true → at + 2 < length source
  property_stands at is = stands source begins_identifier refl (at + 2) (last_of_three (slice_index source at == 45) (slice_index source (at + 1) == 62) (begins_identifier (slice_index source (at + 2))) is)

  inserted_ends : (at : ℕ) → at < length source → Ends source at (inserted source at)
  unfolding inserted
  inserted_ends at lt =
      let to = run_end source (word_at source) (at + 1) in
      let r = run_reaches source (word_at source) (at + 1) (omega arith) in
      either_ends source (has_index source to) at _ _
      (λ is.
      let behind : (slice_index source (index_end source (to + 1)) == 93) ≡ true = last_of_three (slice_index source to == 91) (nat_lt (to + 1) (index_end source (to + 1))) (slice_index source (index_end source (to + 1)) == 93) is in
      let some : nat_lt (to + 1) (index_end source (to + 1)) ≡ true = middle_of_three (slice_index source to == 91) (nat_lt (to + 1) (index_end source (to + 1))) (slice_index source (index_end source (to + 1)) == 93) is in
      ends_by source at _ (index_end source (to + 1) + 1) (omega (arith, r.rises, ltb-true (to + 1) (index_end source (to + 1)) some)) (omega (arith, byte_stands source 93 refl (index_end source (to + 1)) behind)))
      (λ other. either_ends source (has_property source to) at _ _
      (λ is. let w = run_reaches source (word_at source) (to + 2) (omega (arith, property_stands to is)) in ends_by source at _ _ (omega (arith, r.rises, w.rises)) w.within)
      (λ plain. either_ends source ((slice_index source to == 63) && has_property source (to + 1)) at _ _
      (λ is.
      let property : has_property source (to + 1) ≡ true = (and_parts (slice_index source to == 63) (has_property source (to + 1)) is).1 in
      let w = run_reaches source (word_at source) (to + 3) (omega (arith, property_stands (to + 1) property)) in ends_by source at _ _ (omega (arith, r.rises, w.rises)) w.within)
      (λ more. ends_by source at _ to (omega (arith, r.rises)) r.within)))

  pub text_token_ends : (at : ℕ) → at < length source → Ends source at (text_token source at)
  unfolding text_token
  text_token_ends at lt =
      either_ends source (slice_index source at == 34) at _ _ (λ is. byte_ends source at _ lt)
      (λ other. either_ends source ((slice_index source at == 123) && (slice_index source (at + 1) == 36)) at _ _ (λ is. byte_ends source at _ lt)
      (λ plain. either_ends source (begins_variable source at) at _ _ (λ is. inserted_ends at lt) (λ more. piece_ends at lt)))

  -- ---- heredocs

  cond_above : (b : Bool) (x y z : ℕ) → x ≤ y → x ≤ z → x ≤ cond b y z
  cond_above true x y z v w = v
  cond_above false x y z v w = w

  blanks_above : (at : ℕ) → at + 3 ≤ head_blanks_end source at
  unfolding head_blanks_end
  blanks_above at = run_end_rises source (space_at source) (at + 3)

  label_above : (at : ℕ) → at + 3 ≤ label_start source at
  unfolding label_start
  label_above at = cond_above (is_quote (label_quote source at)) (at + 3) (head_blanks_end source at + 1) (head_blanks_end source at) (omega (arith, blanks_above at)) (blanks_above at)

  label_rises : (at : ℕ) → label_start source at ≤ label_end source at
  unfolding label_end
  label_rises at = run_end_rises source (word_at source) (label_start source at)

  label_below : (at : ℕ) → label_start source at ≤ length source → label_end source at ≤ length source
  unfolding label_end
  label_below at h = run_end_below source (word_at source) (label_start source at) h

  head_above : (at : ℕ) → at + 3 ≤ head_end source at
  unfolding head_end
  head_above at = cond_above (is_quote (label_quote source at)) (at + 3) (label_end source at + 1) (label_end source at) (omega (arith, label_above at, label_rises at)) (omega (arith, label_above at, label_rises at))

  body_above : (at : ℕ) → at + 3 ≤ body_start source at
  unfolding body_start
  body_above at = cond_above (slice_index source (head_end source at) == 10) (at + 3) (head_end source at + 1) (head_end source at + 2) (omega (arith, head_above at)) (omega (arith, head_above at))

  label_stands : (at : ℕ) → begins_heredoc source at ≡ true → label_start source at < length source
  label_stands at is = stands source begins_identifier refl (label_start source at)
      (fourth_of_six (slice_index source at == 60) (slice_index source (at + 1) == 60) (slice_index source (at + 2) == 60) (begins_identifier (slice_index source (label_start source at)))
      (not (is_quote (label_quote source at)) || (slice_index source (label_end source at) == label_quote source at)) (has_line_end source (head_end source at)) is)

  body_rises : (name : List ℕ) (body : ℕ) → body ≤ body_end source name body
  unfolding body_end
  body_rises name body = run_end_rises source (λ k. not (closes source name body k)) body

  line_within : (name : List ℕ) (k : ℕ) → k ≤ length source → line_closes source name k ≡ true → run_end source (space_at source) k + length name ≤ length source
  unfolding line_closes
  line_within name k h is =
      let from = run_end source (space_at source) k in
      stand_within source name from (run_end_below source (space_at source) k h)
      (and_parts (starts_with nat_eq (drop from source) name) (not (continues_identifier (slice_index source (from + length name)))) is).0

  -- The last line of a body lies within the source.
  last_line_within : (name : List ℕ) (body : ℕ) → body_end source name body < length source → run_end source (space_at source) (body_end source name body) + length name ≤ length source
  unfolding body_end
  last_line_within name body lt =
      let to = run_end source (λ k. not (closes source name body k)) body in
      let closed : closes source name body to ≡ true = not-false _ (run_end_fails source (λ k. not (closes source name body k)) body (omega (arith, lt, run_end_rises source (λ k. not (closes source name body k)) body)) lt) in
      line_within name to (omega (arith, lt)) (and_parts ((to == body) || (slice_index source (to - 1) == 10)) (line_closes source name to) closed).1

  label_length : (at : ℕ) → label_start source at ≤ length source → length (label source at) ≡ label_end source at - label_start source at
  label_length at h = omega (arith, label_rises at, label_below at h, length-take (label_end source at - label_start source at) (drop (label_start source at) source), length-drop (label_start source at) source)

  pub heredoc_ends : (at : ℕ) → at < length source → Ends source at (heredoc source at)
  unfolding heredoc
  heredoc_ends at lt =
      let body = body_start source at in
      let to = body_end source (label source at) body in
      let end = run_end source (space_at source) to + (label_end source at - label_start source at) in
      either_ends source (not (begins_heredoc source at)) at _ _ (λ other. byte_ends source at _ lt)
      (λ begins.
      let first : label_start source at < length source = label_stands at (not-false (begins_heredoc source at) begins) in
      either_ends source (not (nat_lt to (length source))) at _ _ (λ other. byte_ends source at _ lt)
      (λ closed.
      let inside : to < length source = ltb-true to (length source) (not-false (nat_lt to (length source)) closed) in
      let rises : at < end = omega (arith, body_above at, body_rises (label source at) body, run_end_rises source (space_at source) to) in
      let within : end ≤ length source = omega (arith, last_line_within (label source at) body inside, label_length at (omega (arith, first))) in
      either_ends source (label_quote source at == 39) at _ _ (λ is. ends_by source at _ end rises within)
      (λ other. either_ends source (is_fixed source body to) at _ _ (λ is. ends_by source at _ end rises within) (λ more. byte_ends source at _ lt))))
