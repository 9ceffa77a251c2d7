-- The steps over the tags of a text.
use Rattle.std.proofs.Common.{◌≡◌, ℕ, ◌+◌, ◌<◌, ◌≤◌, List, [], ◌∷◌, ◌++◌, map, length, drop, get_or, refl, ap, add-one, drop-cons, append_assoc, append-nil}
use Rattle.std.proofs.lemmas.List.{drop_all}
use Rattle.stan_model_doc.specs.declared.token.TagSpan.{TagSpan}
use Rattle.stan_model_doc.specs.Comment.{spans_of, tag_span}
use Rattle.stan_doc_lines.specs.Spans.{open_tag, first_start, up_to, closed_tags}

-- the tags of these places
pub closed_places : (text places : List ℕ) → closed_tags (length text) (map (open_tag text) places) ≡ spans_of text places
unfolding tag_span
closed_places text [] = refl
closed_places text (place ∷ []) = refl
closed_places text (place ∷ next ∷ rest) = ap (λ spans. tag_span text place next ∷ spans) (closed_places text (next ∷ rest))

module _ (tags : List TagSpan) (i : ℕ) (d : TagSpan) (lt : i < length tags) where
  pub start_here : (end : ℕ) → first_start (drop i tags) end ≡ (get_or tags i d).start
  start_here end = rw (drop-cons tags i d) refl

  pub closed_next : (end : ℕ) → closed_tags end (drop i tags) ≡ up_to (first_start (drop (i + 1) tags) end) (get_or tags i d) ∷ closed_tags end (drop (i + 1) tags)
  closed_next end = rw (drop-cons tags i d, add-one i) refl

module _ (tags : List TagSpan) (i : ℕ) (past : length tags ≤ i) (end : ℕ) where
  pub start_past : first_start (drop i tags) end ≡ end
  start_past = rw (drop_all i tags past) refl

  pub closed_past : closed_tags end (drop i tags) ≡ []
  closed_past = rw (drop_all i tags past) refl

pub ruleset start_steps = (start_here, start_past)

pub ruleset span_steps = (closed_next, closed_past, closed_places, append_assoc, append-nil)
