-- Where comments, casts and marks end, and so each lexeme.
use Rattle.std.proofs.Common.{◌≡◌, ℕ, ◌+◌, ◌<◌, ◌≤◌, List, [], ◌∷◌, length, drop, Option, Bool, true, false, cond, refl, sym, ap, ◌∙◌, arith, ⊎_elim}
use Rattle.std.specs.Prelude.{◌==◌, ◌&&◌, ◌||◌, not, nat_eq, nat_lt, slice_index, slice_range}
use Rattle.std.specs.List.{starts_with}
use Rattle.std.proofs.lemmas.Bool.{and_parts, eqb-true, false≢true, not-false, or_cases}
use Rattle.stan_base.specs.Bytes.{is_blank}
use Rattle.stan_model_grammar.specs.declared.token.Opening.{Opening}
use Rattle.stan_model_grammar.specs.declared.token.TokenKind.{TokenKind}
use Rattle.stan_model_grammar.specs.declared.token.TokenKind.TheVariants as kinds
use Rattle.stan_model_grammar.specs.Runs.{run_end, blank_at, comment_at, space_at, word_at}
use Rattle.stan_model_grammar.specs.Words.{kind_among, begins_variable, begins_name}
use Rattle.stan_model_grammar.specs.Numbers.{begins_number}
use Rattle.stan_model_grammar.specs.Marks.{begins_remark, remark, begins_comment, comment, casts, is_identifier, parenthesis, begins_closing, closing, mark_among, marks, mark}
use Rattle.stan_model_grammar.specs.Tokens.{is_in_text, is_in_insertion, is_in_bracket, begins_literal, literal, begins_attribute, begins_bound, bound, code_token, next_start, lexeme}
use Rattle.stan_runs.proofs.RunLemmas.{run_end_rises}
use Rattle.stan_lexer.proofs.TableLemmas.{mark_rises}
use Rattle.stan_lexer.proofs.EndLemmas.{Reaches, Ends, byte_stands, either_reaches, either_ends, run_reaches, ends_by, byte_ends, run_ends, variable_ends, name_ends, number_ends}
use Rattle.stan_lexer.proofs.TextEndLemmas.{stand_within, single_quoted_ends, double_quoted_ends, text_token_ends, heredoc_ends}

module _ (source : List ℕ) where
  -- ---- comments, casts, the last `?>` and marks

  remark_ends : (at : ℕ) → at < length source → Ends source at (remark source at)
  unfolding remark
  remark_ends at lt = run_ends source at _ _ lt

  comment_ends : (at : ℕ) → at < length source → Ends source at (comment source at)
  unfolding comment
  comment_ends at lt =
      let to = run_end source (comment_at source) (at + 2) in
      let low : at + 2 ≤ to = run_end_rises source (comment_at source) (at + 2) in
      either_ends source (not ((slice_index source to == 42) && (slice_index source (to + 1) == 47))) at _ _ (λ other. byte_ends source at _ lt)
      (λ closed.
      let high : to + 1 < length source = byte_stands source 47 refl (to + 1) (and_parts (slice_index source to == 42) (slice_index source (to + 1) == 47) (not-false ((slice_index source to == 42) && (slice_index source (to + 1) == 47)) closed)).1 in
      either_ends source ((slice_index source (at + 2) == 42) && nat_lt (at + 2) to && is_blank (slice_index source (to + 2))) at _ _
      (λ is. ends_by source at _ (to + 2) (omega arith) (omega arith)) (λ other. ends_by source at _ (to + 2) (omega arith) (omega arith)))

  parenthesis_ends : (at : ℕ) → at < length source → Ends source at (parenthesis source at)
  unfolding parenthesis
  parenthesis_ends at lt =
      let from = run_end source (space_at source) (at + 1) in
      let to = run_end source (word_at source) from in
      let close = run_end source (space_at source) to in
      let kind = kind_among casts (slice_range source from to) in
      either_ends source (not (is_identifier kind) && (slice_index source close == 41)) at _ _
      (λ is. ends_by source at _ (close + 1) (omega (arith, run_end_rises source (space_at source) (at + 1), run_end_rises source (word_at source) from, run_end_rises source (space_at source) to))
      (omega (arith, byte_stands source 41 refl close (and_parts (not (is_identifier kind)) (slice_index source close == 41) is).1)))
      (λ other. byte_ends source at _ lt)

  closing_ends : (at : ℕ) → at < length source → begins_closing source at ≡ true → Ends source at (closing source at)
  unfolding closing
  closing_ends at lt begins =
      let high : at + 1 < length source = byte_stands source 62 refl (at + 1) (and_parts (slice_index source at == 63) (slice_index source (at + 1) == 62) begins).1 in
      either_ends source
      ((at + 2 == length source) || ((slice_index source (at + 2) == 10) && (at + 3 == length source)) || ((slice_index source (at + 2) == 13) && (slice_index source (at + 3) == 10) && (at + 4 == length source)))
      at (kinds.ClosingTag, at + 2) (kinds.Bad, at + 1) (λ is. ends_by source at kinds.ClosingTag (at + 2) (omega arith) (omega arith)) (λ other. byte_ends source at kinds.Bad lt)

  row_below : (b : Bool) (p q : TokenKind × ℕ) → (b ≡ true → p.1 ≤ length source) → q.1 ≤ length source → (cond b p q).1 ≤ length source
  row_below true p q h r = h refl
  row_below false p q h r = r

  mark_below : (rows : List (List ℕ × TokenKind)) (at : ℕ) → at < length source → (mark_among rows source at).1 ≤ length source
  mark_below [] at lt = omega arith
  mark_below (row ∷ rows) at lt =
      row_below (starts_with nat_eq (drop at source) row.0) (row.1, at + length row.0) (mark_among rows source at) (λ is. stand_within source row.0 at (omega arith) is) (mark_below rows at lt)

  mark_ends : (at : ℕ) → at < length source → Ends source at (mark source at)
  unfolding mark
  mark_ends at lt = record { rises = mark_rises source at; within = mark_below marks at lt }

  -- ---- words, numbers and texts

  literal_ends : (at : ℕ) → at < length source → Ends source at (literal source at)
  unfolding literal
  literal_ends at lt =
      either_ends source (begins_variable source at) at _ _ (λ is. variable_ends source at lt)
      (λ a. either_ends source (begins_name source at) at _ _ (λ is. name_ends source at lt)
      (λ b. either_ends source (begins_number source at) at _ _ (λ is. number_ends source at lt is)
      (λ d. either_ends source (slice_index source at == 39) at _ _ (λ is. single_quoted_ends source at lt)
      (λ e. either_ends source (slice_index source at == 34) at _ _ (λ is. double_quoted_ends source at lt) (λ f. heredoc_ends source at lt)))))

  -- ---- brackets of what is open

  byte_apart : (k b : ℕ) (other : Bool) → (slice_index source k == 35) ≡ true → (35 == b) ≡ false → ((slice_index source k == b) && other) ≡ true → ⊥
  byte_apart k b other is apart both =
      false≢true (sym apart ∙ ap (λ x. x == b) (sym (eqb-true (slice_index source k) 35 is)) ∙ (and_parts (slice_index source k == b) other both).0)

  attribute_stands : (top : Option Opening) (at : ℕ) → begins_bound source top at ≡ true → (slice_index source at == 35) ≡ true → at + 1 < length source
  unfolding begins_bound
  attribute_stands top at begins is =
      let first = begins_attribute source at in
      let second = (slice_index source at == 125) && is_in_insertion top in
      let third = (slice_index source at == 91) && is_in_bracket top in
      let fourth = (slice_index source at == 93) && is_in_bracket top in
      ⊎_elim (λ three. ⊎_elim (λ two. ⊎_elim
      (λ one. byte_stands source 91 refl (at + 1) (and_parts (slice_index source at == 35) (slice_index source (at + 1) == 91) one).1)
      (λ one. absurd (byte_apart at 125 (is_in_insertion top) is refl one)) (or_cases first second two))
      (λ two. absurd (byte_apart at 91 (is_in_bracket top) is refl two)) (or_cases (first || second) third three))
      (λ three. absurd (byte_apart at 93 (is_in_bracket top) is refl three)) (or_cases (first || second || third) fourth begins)

  bound_ends : (top : Option Opening) (at : ℕ) → at < length source → begins_bound source top at ≡ true → Ends source at (bound source at)
  unfolding bound
  bound_ends top at lt begins =
      either_ends source (slice_index source at == 35) at _ _ (λ is. ends_by source at _ (at + 2) (omega arith) (omega (arith, attribute_stands top at begins is)))
      (λ a. either_ends source (slice_index source at == 125) at _ _ (λ is. byte_ends source at _ lt)
      (λ b. either_ends source (slice_index source at == 91) at _ _ (λ is. byte_ends source at _ lt) (λ d. byte_ends source at _ lt)))

  -- ---- lexemes

  code_token_ends : (top : Option Opening) (at : ℕ) → at < length source → Ends source at (code_token source top at)
  unfolding code_token
  code_token_ends top at lt =
      either_ends source (begins_literal source at) at _ _ (λ is. literal_ends at lt)
      (λ a. either_ends source (begins_bound source top at) at _ _ (λ is. bound_ends top at lt is)
      (λ b. either_ends source (begins_remark source at) at _ _ (λ is. remark_ends at lt)
      (λ d. either_ends source (begins_comment source at) at _ _ (λ is. comment_ends at lt)
      (λ e. either_ends source (slice_index source at == 40) at _ _ (λ is. parenthesis_ends at lt)
      (λ f. either_ends source (begins_closing source at) at _ _ (λ is. closing_ends at lt is) (λ g. mark_ends at lt))))))

  pub lexeme_ends : (top : Option Opening) (at : ℕ) → at < length source → Ends source at (lexeme source top at)
  unfolding lexeme
  lexeme_ends top at lt = either_ends source (is_in_text top) at _ _ (λ is. text_token_ends source at lt) (λ other. code_token_ends top at lt)

  pub next_start_reaches : (top : Option Opening) (at : ℕ) → at ≤ length source → Reaches source at (next_start source top at)
  unfolding next_start
  next_start_reaches top at h = either_reaches source (is_in_text top) at _ _ (λ is. record { rises = omega arith; within = h }) (λ other. run_reaches source (blank_at source) at h)
