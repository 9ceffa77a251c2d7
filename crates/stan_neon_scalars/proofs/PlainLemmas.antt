-- The steps of reading a plain text.
use Rattle.std.proofs.Common.{◌≡◌, ℕ, ◌+◌, ◌<◌, List, [], ◌∷◌, ◌++◌, Bool, true, false, length, take, drop, refl, sym, ap, ◌∙◌, add-one, take-suc, append_assoc}
use Rattle.std.specs.Prelude.{◌==◌, ◌&&◌, ◌||◌, if◌then◌else◌, slice_index}
use Rattle.stan_model_neon.specs.Characters.{is_blank}
use Rattle.stan_neon_scalars.specs.Numbers.{closes, front, kept, stripped, has_mark}
use Rattle.stan_neon_scalars.proofs.QuoteLemmas.{from_place}

kept-blank : (b : ℕ) (bs : List ℕ) (blank : Bool) → stripped (bs ++ b ∷ []) ≡ (if blank then stripped bs else (bs ++ b ∷ [])) → (c : ℕ) → kept c (stripped (bs ++ b ∷ [])) ≡ (if blank then kept c (stripped bs) else (c ∷ (bs ++ b ∷ [])))
kept-blank b bs true e c = ap (kept c) e
kept-blank b [] false e c = ap (kept c) e
kept-blank b (d ∷ ds) false e c = ap (kept c) e

-- One byte more: where it is a blank, the text stays as it was, else it is whole.
pub stripped-more : (bs : List ℕ) (b : ℕ) → stripped (bs ++ b ∷ []) ≡ (if is_blank b then stripped bs else (bs ++ b ∷ []))
stripped-more [] b = refl
stripped-more (c ∷ cs) b = kept-blank b cs (is_blank b) (stripped-more cs b) c

module _ (bytes : List ℕ) (at : ℕ) (lt : at < length bytes) where
  abbrev byte : ℕ
  byte = slice_index bytes at

  pub more : take (at + 1) bytes ≡ take at bytes ++ byte ∷ []
  more = rw (add-one at) (take-suc bytes at 0 lt)

  pub stripped-blank : (end : ℕ) → stripped (take at bytes) ≡ take end bytes → is_blank byte ≡ true → stripped (take (at + 1) bytes) ≡ take end bytes
  stripped-blank end e b = ap stripped more ∙ stripped-more (take at bytes) byte ∙ rw b e

  pub stripped-whole : is_blank byte ≡ false → stripped (take (at + 1) bytes) ≡ take (at + 1) bytes
  stripped-whole b = ap stripped more ∙ stripped-more (take at bytes) byte ∙ rw b (sym more)

  module _ (listed : Bool) (before : ℕ) where
    pub front-more : closes listed before byte ≡ false → front listed before (drop at bytes) ≡ byte ∷ front listed byte (drop (at + 1) bytes)
    front-more e = rw (from_place bytes at lt, e) refl

    pub front-goes-on : (whole : List ℕ) → whole ≡ take at bytes ++ front listed before (drop at bytes) → closes listed before byte ≡ false → whole ≡ take (at + 1) bytes ++ front listed byte (drop (at + 1) bytes)
    front-goes-on whole so_far e =
        so_far ∙ ap (λ t. take at bytes ++ t) (front-more e) ∙ sym (append_assoc (take at bytes) (byte ∷ []) (front listed byte (drop (at + 1) bytes))) ∙ ap (λ t. t ++ front listed byte (drop (at + 1) bytes)) (sym more)
