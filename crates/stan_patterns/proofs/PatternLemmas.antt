-- What a pattern matches, piece by piece between its stars.
use Rattle.std.proofs.Common.{◌≡◌, ◌≢◌, ℕ, suc, ◌+◌, ◌<◌, ◌≤◌, List, [], ◌∷◌, ◌++◌, length, get_or, take, drop, Some, None, refl, sym, ap, subst, ◌∙◌, inl, inr, ⊎_elim, append_assoc, arith, length-append}
use Rattle.std.specs.Prelude.{◌↔◌, IsTrue, nat_eq}
use Rattle.std.specs.List.{Contains, ends_with}
use Rattle.std.proofs.lemmas.Bool.{cases_lt, eqb-true, eq-eqb}
use Rattle.std.proofs.lemmas.Bool.Decides.{Decides-eqb}
use Rattle.std.proofs.lemmas.List.{append-nil, take-append-drop, drop-append-le, get_or-take, get_or_default, length-take}
use Rattle.std.proofs.lemmas.List.Prefix.{front_rest, at_from_reads, at_reads}
use Rattle.std.proofs.lemmas.Slice.Eq.{ends_is}
use Rattle.std.proofs.Math.Seq.{drop-cons}
use Rattle.memchr.specs.Find.{OccursAt, FindsNeedle, IsFirstByte, is_byte}
use Rattle.stan_patterns.specs.Patterns.{BehindAny, Matches}

-- ---- pieces without `*`

abbrev pub IsFree : List ℕ → Type 0
IsFree piece = Contains piece 42 → ⊥

pub free_head : (byte : ℕ) (piece : List ℕ) → IsFree (byte ∷ piece) → byte ≢ 42
free_head byte piece free e = free (0, omega arith, e)

pub free_tail : (byte : ℕ) (piece : List ℕ) → IsFree (byte ∷ piece) → IsFree piece
free_tail byte piece free h = let lt : h.0 < length piece = h.1 in free (suc h.0, omega arith, h.2)

pub piece_in_front : (piece pattern text : List ℕ) → IsFree piece → Matches (piece ++ pattern) text → (rest : List ℕ) × (text ≡ piece ++ rest) × Matches pattern rest
unfolding Matches
piece_in_front [] pattern text free h = (text, refl, h)
piece_in_front (byte ∷ piece) pattern text free h =
    ⊎_elim
    (λ star. absurd (free_head byte piece free star.0))
    (λ same. let later = piece_in_front piece pattern same.1.rest (free_tail byte piece free) same.1.holds in
    (later.0, same.1.splits ∙ ap (λ bytes. byte ∷ bytes) later.1, later.2))
    h

pub piece_and_rest : (piece pattern rest : List ℕ) → IsFree piece → Matches pattern rest → Matches (piece ++ pattern) (piece ++ rest)
unfolding Matches
piece_and_rest [] pattern rest free h = h
piece_and_rest (byte ∷ piece) pattern rest free h =
    inr (free_head byte piece free, record { rest = piece ++ rest; splits = refl; holds = piece_and_rest piece pattern rest (free_tail byte piece free) h })

matches_nothing : (text : List ℕ) → Matches [] text → text ≡ []
unfolding Matches
matches_nothing text h = h

pub nothing_matches : Matches [] []
unfolding Matches
nothing_matches = refl

-- a piece matches itself alone
pub Matches-piece : (piece text : List ℕ) → IsFree piece → Matches piece text ↔ (text ≡ piece)
Matches-piece piece text free = (
  λ h.
      let front = piece_in_front piece [] text free (subst (λ pattern. Matches pattern text) (sym (append-nil piece)) h) in
      front.1 ∙ ap (λ rest. piece ++ rest) (matches_nothing front.0 front.2) ∙ append-nil piece,
  λ e.
      let whole : Matches (piece ++ []) (piece ++ []) = piece_and_rest piece [] [] free nothing_matches in
      subst (Matches piece) (append-nil piece ∙ sym e) (subst (λ pattern. Matches pattern (piece ++ [])) (append-nil piece) whole),
)

-- ---- stars

pub Matches-star : (pattern text : List ℕ) → Matches (42 ∷ pattern) text ↔ BehindAny (Matches pattern) text
unfolding Matches
Matches-star pattern text = (λ h. ⊎_elim (λ star. star.1) (λ same. absurd (same.0 refl)) h, λ h. inl (refl, h))

-- what stands before a rest that matches may be longer
pub BehindAny-longer : (Rest : List ℕ → Type 0) (more text : List ℕ) → BehindAny Rest text → BehindAny Rest (more ++ text)
BehindAny-longer Rest more text h = record {
  any = more ++ h.any;
  rest = h.rest;
  splits = ap (λ bytes. more ++ bytes) h.splits ∙ sym (append_assoc more h.any h.rest);
  holds = h.holds;
}

-- ---- the first place of a piece

module _ (piece pattern text : List ℕ) (free : IsFree piece) where
  occurs : (any rest : List ℕ) → text ≡ any ++ (piece ++ rest) → OccursAt text piece (length any)
  occurs any rest e = record {
    fits = omega (arith, length-append {A = ℕ}, ap length e);
    reads = λ j lt. at_reads 0 text piece (length any) rest (front_rest text any (piece ++ rest) e) j lt;
  }

  -- text after the piece and the star, from a match of both
  behind_both : BehindAny (Matches (piece ++ (42 ∷ pattern))) text → (any : List ℕ) × ((rest : List ℕ) × ((text ≡ any ++ (piece ++ rest)) × BehindAny (Matches pattern) rest))
  behind_both h =
      let front = piece_in_front piece (42 ∷ pattern) h.rest free h.holds in
      (h.any, (front.0, (h.splits ∙ ap (λ rest. h.any ++ rest) front.1, (Matches-star pattern front.0).0 front.2)))

  pub found_nowhere : FindsNeedle text piece 0 None → BehindAny (Matches (piece ++ (42 ∷ pattern))) text → ⊥
  found_nowhere f h =
      let both = behind_both h in
      let there = occurs both.0 both.1.0 both.1.1.0 in
      f (length both.0) (omega arith) (omega (arith, there.fits)) there

  pub behind_first : (place : ℕ) → FindsNeedle text piece 0 (Some place) → BehindAny (Matches (piece ++ (42 ∷ pattern))) text → BehindAny (Matches pattern) (drop (place + length piece) text)
  behind_first place f h =
      let both = behind_both h in
      let any : List ℕ = both.0 in
      let rest : List ℕ = both.1.0 in
      let low : place ≤ length any = ⊎_elim (λ before. absurd (f.0.before (length any) (omega arith) before (occurs any rest both.1.1.0))) (λ le. le) (cases_lt (length any) place) in
      let whole : text ≡ (any ++ piece) ++ rest = both.1.1.0 ∙ sym (append_assoc any piece rest) in
      let fits : place + length piece ≤ length (any ++ piece) = omega (arith, length-append any piece) in
      let after : drop (place + length piece) text ≡ drop (place + length piece) (any ++ piece) ++ rest = ap (drop (place + length piece)) whole ∙ drop-append-le (place + length piece) (any ++ piece) rest fits in
      subst (BehindAny (Matches pattern)) (sym after) (BehindAny-longer (Matches pattern) (drop (place + length piece) (any ++ piece)) rest both.1.1.1)

  pub first_and_behind : (place : ℕ) → FindsNeedle text piece 0 (Some place) → BehindAny (Matches pattern) (drop (place + length piece) text) → BehindAny (Matches (piece ++ (42 ∷ pattern))) text
  first_and_behind place f h =
      let rest : List ℕ = drop (place + length piece) text in
      let at : drop place text ≡ piece ++ rest = at_from_reads 0 text piece place f.1.fits f.1.reads in
      record {
        any = take place text;
        rest = drop place text;
        splits = sym (take-append-drop place text);
        holds = subst (Matches (piece ++ (42 ∷ pattern))) (sym at) (piece_and_rest piece (42 ∷ pattern) rest free ((Matches-star pattern rest).1 h));
      }

-- ---- the first star

module _ (pattern : List ℕ) where
  free_whole : IsFirstByte (is_byte 42) pattern None → IsFree pattern
  free_whole f h = f h.0 (omega arith) h.1 (eq-eqb _ 42 (get_or_default pattern h.0 0 42 h.1 ∙ h.2))

  module _ (at : ℕ) (first : IsFirstByte (is_byte 42) pattern (Some at)) where
    free_front : IsFree (take at pattern)
    free_front h =
        let lt : h.0 < at = omega (arith, h.1, length-take at pattern) in
        let inside : h.0 < length pattern = omega (arith, h.1, length-take at pattern) in
        first.0.before h.0 (omega arith) lt (eq-eqb _ 42 (get_or_default pattern h.0 0 42 inside ∙ sym (get_or-take at pattern h.0 42 lt) ∙ h.2))

    pub length-front : length (take at pattern) ≡ at
    length-front = omega (arith, length-take at pattern, first.0.high)

    pub pattern_splits : pattern ≡ take at pattern ++ (42 ∷ drop (at + 1) pattern)
    pattern_splits =
        let star : get_or pattern at 0 ≡ 42 = eqb-true _ 42 first.1 in
        let from : drop at pattern ≡ 42 ∷ drop (at + 1) pattern = drop-cons pattern at 0 first.0.high ∙ ap (λ byte. byte ∷ drop (suc at) pattern) star ∙ ap (λ n. 42 ∷ drop n pattern) (let e : suc at ≡ at + 1 = omega arith in e) in
        sym (take-append-drop at pattern) ∙ ap (λ bytes. take at pattern ++ bytes) from

    -- a piece up to a star, taken where it stands first
    pub step : (text : List ℕ) (place : ℕ) → FindsNeedle text (take at pattern) 0 (Some place) → BehindAny (Matches pattern) text ↔ BehindAny (Matches (drop (at + 1) pattern)) (drop (place + at) text)
    step text place f =
        let later : List ℕ = drop (at + 1) pattern in
        let n : place + length (take at pattern) ≡ place + at = ap (λ n. place + n) length-front in (
          λ h. subst (λ n. BehindAny (Matches later) (drop n text)) n (behind_first (take at pattern) later text free_front place f (subst (λ p. BehindAny (Matches p) text) pattern_splits h)),
          λ h. subst (λ p. BehindAny (Matches p) text) (sym pattern_splits) (first_and_behind (take at pattern) later text free_front place f (subst (λ n. BehindAny (Matches later) (drop n text)) (sym n) h)),
        )

    pub no_step : (text : List ℕ) → FindsNeedle text (take at pattern) 0 None → BehindAny (Matches pattern) text → ⊥
    no_step text f h = found_nowhere (take at pattern) (drop (at + 1) pattern) text free_front f (subst (λ p. BehindAny (Matches p) text) pattern_splits h)

    -- the front of a text, by the first piece, and what is behind it
    pub Matches-front : (text : List ℕ) → Matches pattern text ↔ ((text ≡ take at pattern ++ drop at text) × BehindAny (Matches (drop (at + 1) pattern)) (drop at text))
    Matches-front text = (
      λ h.
          let front = piece_in_front (take at pattern) (42 ∷ drop (at + 1) pattern) text free_front (subst (λ p. Matches p text) pattern_splits h) in
          let rest : drop at text ≡ front.0 = subst (λ n. drop n text ≡ front.0) length-front (front_rest text (take at pattern) front.0 front.1) in
          (subst (λ r. text ≡ take at pattern ++ r) (sym rest) front.1, subst (BehindAny (Matches (drop (at + 1) pattern))) (sym rest) ((Matches-star _ _).0 front.2)),
      λ h.
          subst (λ p. Matches p text) (sym pattern_splits) (subst (Matches (take at pattern ++ (42 ∷ drop (at + 1) pattern))) (sym h.0) (piece_and_rest (take at pattern) (42 ∷ drop (at + 1) pattern) (drop at text) free_front ((Matches-star _ _).1 h.1))),
    )

  -- a pattern without stars
  pub Matches-plain : IsFirstByte (is_byte 42) pattern None → (text : List ℕ) → Matches pattern text ↔ (text ≡ pattern)
  Matches-plain f text = Matches-piece pattern text (free_whole f)

  pub behind_last : IsFirstByte (is_byte 42) pattern None → (text : List ℕ) → IsTrue (ends_with nat_eq text pattern) ↔ BehindAny (Matches pattern) text
  behind_last f text =
      let ends = ends_is Decides-eqb text pattern (ends_with nat_eq text pattern) refl in (
        λ yes. record { any = take _ text; rest = pattern; splits = ends.0 yes; holds = (Matches-plain f pattern).1 refl },
        λ h. ends.1 h.any (h.splits ∙ ap (λ rest. h.any ++ rest) ((Matches-plain f h.rest).0 h.holds)),
      )
