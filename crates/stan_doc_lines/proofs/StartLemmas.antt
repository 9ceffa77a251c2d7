-- The steps over the bytes of a text.
use Rattle.std.proofs.Common.{◌≡◌, ℕ, ◌+◌, ◌<◌, ◌≤◌, List, [], ◌∷◌, ◌++◌, map, length, take, Bool, true, false, cond, refl, ap, add-one, zero-add, length-take, arith}
use Rattle.std.specs.Prelude.{slice_index, ◌==◌, ◌&&◌}
use Rattle.std.specs.List.{filter}
use Rattle.std.proofs.lemmas.List.{map-append}
use Rattle.std.proofs.lemmas.List.Elements.{filter-append}
use Rattle.std.proofs.lemmas.List.Sums.{count_by_more_no, count_by_more_yes, count_by-le-length}
use Rattle.stan_base.specs.Bytes.{line_of}
use Rattle.stan_model_doc.specs.Comment.{places, is_line_front, begins_tag}
use Rattle.stan_model_doc.specs.declared.token.TagSpan.{TagSpan}
use Rattle.stan_doc_lines.specs.Fronts.{front_behind, line_behind}
use Rattle.stan_doc_lines.specs.Spans.{open_tag, with_tag}
use Rattle.stan_doc_lines.proofs.TextLemmas.{places_next}

-- the tags that begin before a place
abbrev pub tags_before : List ℕ → ℕ → List TagSpan
tags_before text n = map (open_tag text) (filter (begins_tag text) (places n))

module _ (text : List ℕ) (at : ℕ) where
  both : (b : Bool) → map (open_tag text) (cond b (at ∷ []) []) ≡ with_tag b (open_tag text at)
  both true = refl
  both false = refl

  pub tags_next : tags_before text (at + 1) ≡ tags_before text at ++ with_tag ((slice_index text at == 64) && is_line_front text 0 at) (open_tag text at)
  unfolding begins_tag
  tags_next = rw (places_next at, filter-append, map-append) (ap (λ xs. tags_before text at ++ xs) (both (begins_tag text at)))

  pub front_more : is_line_front text 0 (at + 1) ≡ front_behind (is_line_front text 0 at) (slice_index text at)
  unfolding is_line_front
  front_more = rw (add-one, zero-add) refl

  pub line_more : at < length text → line_of text (at + 1) ≡ line_behind (line_of text at) (slice_index text at)
  unfolding line_of
  line_more lt = by (slice_index text at == 10) refl
    where
      by : (b : Bool) → (slice_index text at == 10) ≡ b → line_of text (at + 1) ≡ cond b (line_of text at + 1) (line_of text at)
      by true e = omega (arith, count_by_more_yes (λ b. b == 10) text at 0 lt e)
      by false e = omega (arith, count_by_more_no (λ b. b == 10) text at 0 lt e)

  pub line_below : at ≤ length text → line_of text at ≤ at + 1
  unfolding line_of
  line_below le = omega (arith, count_by-le-length (λ b. b == 10) (take at text), length-take at text)

pub front_none : (text : List ℕ) → is_line_front text 0 0 ≡ true
unfolding is_line_front
front_none text = refl

pub line_none : (text : List ℕ) → line_of text 0 ≡ 1
unfolding line_of
line_none text = refl

pub ruleset start_steps = (tags_next, front_more, line_more, line_below, front_none, line_none)
