-- Tags stand in order, each with its word in front of the next one.
use Rattle.std.proofs.Common.{◌≡◌, ℕ, ◌+◌, ◌<◌, ◌≤◌, List, [], ◌∷◌, ◌++◌, zero, suc, length, Bool, true, false, cond, refl, sym, subst, ◌∙◌, arith, length-append}
use Rattle.std.specs.Prelude.{◌==◌, ◌&&◌, slice_index, IsTrue}
use Rattle.std.specs.List.{All, filter}
use Rattle.std.proofs.lemmas.Bool.{eqb-true}
use Rattle.std.proofs.lemmas.List.{append-nil, length-map}
use Rattle.std.proofs.lemmas.List.Elements.{filter-append, All-nil, All-cons}
use Rattle.stan_model_doc.specs.declared.token.TagSpan.{TagSpan}
use Rattle.stan_model_doc.specs.Comment.{places, begins_tag, tag_places, tag_word_at, tag_span, spans_of, tag_spans, text_byte, text_end}
use Rattle.stan_doc_lines.specs.Laws.{IsPlaced, PlacesStay}
use Rattle.stan_runs.proofs.RunLemmas.{run_end_rises, run_end_below, run_end_before}

-- ---- places

module _ (text : List ℕ) where
  -- tags begin at these places, which rise from one place on and stay below another
  abbrev Rise : ℕ → ℕ → List ℕ → Type 0
  Rise low high [] = low ≤ high
  Rise low high (p ∷ ps) = (low ≤ p) × (p < high) × IsTrue (begins_tag text p) × Rise (p + 1) high ps

  weaken : (low n : ℕ) (ps : List ℕ) → Rise low n ps → Rise low (n + 1) ps
  weaken low n [] h = omega (arith, h)
  weaken low n (p ∷ ps) h = (h.0, omega (arith, h.1), h.2, weaken (p + 1) n ps h.3)

  append : (low n : ℕ) (ps : List ℕ) → IsTrue (begins_tag text n) → Rise low n ps → Rise low (n + 1) (ps ++ n ∷ [])
  append low n [] b h = (h, omega arith, b, omega arith)
  append low n (p ∷ ps) b h = (h.0, omega (arith, h.1), h.2, append (p + 1) n ps b h.3)

  next : (n : ℕ) (b : Bool) (ps : List ℕ) → begins_tag text n ≡ b → Rise 0 n ps → Rise 0 (n + 1) (ps ++ cond b (n ∷ []) [])
  next n true ps e h = append 0 n ps e h
  next n false ps e h = rw append-nil (weaken 0 n ps h)

  rise : (n : ℕ) → Rise 0 n (filter (begins_tag text) (places n))
  rise zero = omega arith
  rise (suc n) =
      let e : suc n ≡ n + 1 = omega arith in
      rw (filter-append, e) (next n (begins_tag text n) (filter (begins_tag text) (places n)) refl (rise n))

  first_true : (a b : Bool) → (a && b) ≡ true → a ≡ true
  first_true true b e = refl
  first_true false b e = e

  sign : (p : ℕ) → IsTrue (begins_tag text p) → slice_index text p ≡ 64
  unfolding begins_tag
  sign p h = eqb-true (slice_index text p) 64 (first_true (slice_index text p == 64) _ h)

  no_word : (p : ℕ) → IsTrue (begins_tag text p) → tag_word_at text p ≡ false
  no_word p h = rw (sign p h) refl

  placed : (low : ℕ) (ps : List ℕ) → Rise low (length text) ps → All (IsPlaced text) (spans_of text ps)
  unfolding tag_span
  placed low [] h = All-nil (IsPlaced text)
  placed low (p ∷ []) h = All-cons (IsPlaced text) (tag_span text p (length text)) []
      (record {
        sign = h.2;
        word = omega (arith, run_end_rises text (tag_word_at text) (p + 1));
        text_behind = run_end_below text (tag_word_at text) (p + 1) (omega (arith, h.1));
        within = omega arith;
      }) (All-nil (IsPlaced text))
  placed low (p ∷ q ∷ ps) h = All-cons (IsPlaced text) (tag_span text p q) (spans_of text (q ∷ ps))
      (record {
        sign = h.2;
        word = omega (arith, run_end_rises text (tag_word_at text) (p + 1));
        text_behind = run_end_before text (tag_word_at text) (p + 1) q h.3.0 h.3.1 (no_word q h.3.2);
        within = omega (arith, h.3.1);
      }) (placed (p + 1) (q ∷ ps) h.3)

spans_placed : (text : List ℕ) → All (IsPlaced text) (tag_spans text)
unfolding tag_places
spans_placed text = placed text 0 (tag_places text) (rise text (length text))

pub placed_spans : (text : List ℕ) (spans : List TagSpan) → spans ≡ tag_spans text → All (IsPlaced text) spans
placed_spans text spans e = subst (λ (xs : List TagSpan). All (IsPlaced text) xs) (sym e) (spans_placed text)

-- ---- the text

length_places : (n : ℕ) → length (places n) ≡ n
length_places zero = refl
length_places (suc n) = omega (arith, length_places n, length-append (places n) (n ∷ []))

pub places_stay : PlacesStay
places_stay comment = length-map (places (text_end comment)) (text_byte comment) ∙ length_places (text_end comment)
