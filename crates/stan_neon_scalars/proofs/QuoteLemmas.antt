-- The steps of reading a quoted text.
use Rattle.std.proofs.Common.{◌≡◌, ℕ, ◌+◌, ◌<◌, zero, suc, List, [], ◌∷◌, ◌++◌, Bool, true, false, length, drop, refl, sym, ap, ◌∙◌, add-one, drop-cons, append_assoc, append-nil, eq-eqb, arith}
use Rattle.std.specs.Prelude.{◌==◌, ◌&&◌, Option, Some, None, slice_index}
use Rattle.std.proofs.lemmas.List.{drop-drop}
use Rattle.std.proofs.lemmas.Bool.{ne_eqb}
use Rattle.stan_model_neon.specs.Characters.{escape, is_quote}
use Rattle.stan_neon_scalars.specs.Quotes.{quoted, quoted_behind, onto, single, resolved}

-- a text before the one that is read
abbrev pub behind : List ℕ → Option (List ℕ × List ℕ) → Option (List ℕ × List ℕ)
behind bytes None = None
behind bytes (Some (text, rest)) = Some (bytes ++ text, rest)

pub behind-onto : (bytes : List ℕ) (b : ℕ) (o : Option (List ℕ × List ℕ)) → behind bytes (onto b o) ≡ behind (bytes ++ b ∷ []) o
behind-onto bytes b None = refl
behind-onto bytes b (Some (text, rest)) = rw append_assoc refl

-- the first byte behind a place
pub first_after : (bytes : List ℕ) (at : ℕ) → slice_index (drop at bytes) 0 ≡ slice_index bytes at
first_after [] zero = refl
first_after [] (suc at) = refl
first_after (b ∷ bs) zero = refl
first_after (b ∷ bs) (suc at) = first_after bs at

-- what stands from a place on
pub from_place : (bytes : List ℕ) (at : ℕ) → at < length bytes → drop at bytes ≡ slice_index bytes at ∷ drop (at + 1) bytes
from_place bytes at lt = rw (add-one at) (drop-cons bytes at 0 lt)

module _ (quote : ℕ) where
  skip : (n : ℕ) (bs : List ℕ) → quoted_behind quote n bs ≡ quoted_behind quote zero (drop n bs)
  skip zero [] = refl
  skip zero (b ∷ bs) = refl
  skip (suc n) [] = refl
  skip (suc n) (b ∷ bs) = skip n bs

  unroll : (b : ℕ) (bs : List ℕ) → quoted_behind quote zero (b ∷ bs) ≡ resolved (escape quote b (slice_index bs 0)) (quoted_behind quote zero (drop 1 bs)) (single quote b bs (quoted_behind quote zero bs))
  unroll b bs = ap (λ o. resolved (escape quote b (slice_index bs 0)) o (single quote b bs (quoted_behind quote zero bs))) (skip 1 bs)

  module _ (bytes : List ℕ) (at : ℕ) (lt : at < length bytes) where
    abbrev tail : List ℕ
    tail = drop (at + 1) bytes

    abbrev byte : ℕ
    byte = slice_index bytes at

    step : quoted_behind quote zero (drop at bytes)
        ≡ resolved (escape quote byte (slice_index bytes (at + 1))) (quoted_behind quote zero (drop (at + 2) bytes)) (single quote byte tail (quoted_behind quote zero tail))
    step =
        let two : (at + 1) + 1 ≡ at + 2 = omega arith in
        let rest : drop 1 tail ≡ drop (at + 2) bytes = drop-drop 1 (at + 1) bytes ∙ ap (λ k. drop k bytes) two in
        ap (λ l. quoted_behind quote zero l) (from_place bytes at lt)
        ∙ unroll byte tail
        ∙ ap (λ n. resolved (escape quote byte n) (quoted_behind quote zero (drop 1 tail)) (single quote byte tail (quoted_behind quote zero tail))) (first_after bytes (at + 1))
        ∙ ap (λ l. resolved (escape quote byte (slice_index bytes (at + 1))) (quoted_behind quote zero l) (single quote byte tail (quoted_behind quote zero tail))) rest

    pub step-pair : (meant : ℕ) → escape quote byte (slice_index bytes (at + 1)) ≡ Some meant → quoted_behind quote zero (drop at bytes) ≡ onto meant (quoted_behind quote zero (drop (at + 2) bytes))
    step-pair meant e = step ∙ ap (λ o. resolved o (quoted_behind quote zero (drop (at + 2) bytes)) (single quote byte tail (quoted_behind quote zero tail))) e

    step-other : escape quote byte (slice_index bytes (at + 1)) ≡ None → quoted_behind quote zero (drop at bytes) ≡ single quote byte tail (quoted_behind quote zero tail)
    step-other e = step ∙ ap (λ o. resolved o (quoted_behind quote zero (drop (at + 2) bytes)) (single quote byte tail (quoted_behind quote zero tail))) e

    pub step-close : escape quote byte (slice_index bytes (at + 1)) ≡ None → (byte == quote) ≡ true → quoted_behind quote zero (drop at bytes) ≡ Some ([], tail)
    step-close e t = step-other e ∙ rw t refl

    pub step-single : escape quote byte (slice_index bytes (at + 1)) ≡ None → (byte == quote) ≡ false → ((quote == 34) && (byte == 92)) ≡ false → quoted_behind quote zero (drop at bytes) ≡ onto byte (quoted_behind quote zero tail)
    step-single e f g = step-other e ∙ rw (f, g) refl

    module _ (text : List ℕ) (next : ℕ) (whole : Option (List ℕ × List ℕ)) (so_far : whole ≡ behind text (quoted_behind quote zero (drop at bytes))) (next_is : next ≡ slice_index bytes (at + 1)) where
      pub pair_kept : (meant : ℕ) → Some meant ≡ escape quote byte next → whole ≡ behind (text ++ meant ∷ []) (quoted_behind quote zero (drop (at + 2) bytes))
      pair_kept meant e = so_far ∙ ap (behind text) (step-pair meant (ap (escape quote byte) (sym next_is) ∙ sym e)) ∙ behind-onto text meant _

      module _ (e : None ≡ escape quote byte next) where
        none : escape quote byte (slice_index bytes (at + 1)) ≡ None
        none = ap (escape quote byte) (sym next_is) ∙ sym e

        pub closed : byte ≡ quote → Some (text, tail) ≡ whole
        closed b = sym (so_far ∙ ap (behind text) (step-close none (eq-eqb _ _ b)) ∙ ap (λ t. Some (t, tail)) (append-nil text))

        pub single_kept : (byte ≡ quote → ⊥) → (lost : Bool) → lost ≡ ((quote == 34) && (byte == 92)) → lost ≡ false → whole ≡ behind (text ++ byte ∷ []) (quoted_behind quote zero tail)
        single_kept n lost l f = so_far ∙ ap (behind text) (step-single none (ne_eqb _ _ n) (sym l ∙ f)) ∙ behind-onto text byte _

pub quoted-is : (bytes : List ℕ) (quote : ℕ) (tested : Bool) → quote ≡ slice_index bytes 0 → tested ≡ is_quote quote → tested ≡ true → quoted_behind quote 0 (drop 1 bytes) ≡ quoted bytes
unfolding quoted
quoted-is bytes quote tested q t e = rw (sym q, sym t, e) refl
