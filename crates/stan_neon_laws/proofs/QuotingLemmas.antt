-- Texts between quotes are read back.
use Rattle.std.proofs.Common.{◌≡◌, ℕ, List, [], ◌∷◌, ◌++◌, Bool, true, false, refl, sym, ap, ◌∙◌, append_assoc}
use Rattle.std.specs.Prelude.{◌==◌, if◌then◌else◌, Some}
use Rattle.std.specs.Option.{option_and_then}
use Rattle.std.specs.Str.{IsUtf8}
use Rattle.std.proofs.lemmas.Bool.{eqb-true}
use Rattle.std.proofs.lemmas.Str.{is_utf8-from_IsUtf8}
use Rattle.stan_model_neon.specs.Nodes.{Text}
use Rattle.stan_neon_scalars.specs.Quotes.{quoted_behind, quoted, onto, ends}
use Rattle.stan_neon_scalars.specs.Scalars.{scalar, value, text_read, if_ends}
use Rattle.stan_neon_laws.specs.Quoting.{escaped, all_escaped, in_double_quotes, all_doubled, in_single_quotes}

module _ (rest : List ℕ) where
  -- one character between `"`
  double-one : (b : ℕ) (text more : List ℕ) → quoted_behind 34 0 more ≡ Some (text, rest) → quoted_behind 34 0 (escaped b ++ more) ≡ Some (b ∷ text, rest)
  double-one b text more h = by (b == 92) (b == 34) (b == 10) refl refl refl
    where
      by : (x y z : Bool) → (b == 92) ≡ x → (b == 34) ≡ y → (b == 10) ≡ z → quoted_behind 34 0 (escaped b ++ more) ≡ Some (b ∷ text, rest)
      by true y z e f g = rw e (ap (onto 92) (skipped 92 more) ∙ ap (onto 92) h ∙ ap (λ c. Some (c ∷ text, rest)) (sym (eqb-true b 92 e)))
        where
          skipped : (c : ℕ) (m : List ℕ) → quoted_behind 34 1 (c ∷ m) ≡ quoted_behind 34 0 m
          skipped c m = refl
      by false true z e f g = rw (e, f) (ap (onto 34) h ∙ ap (λ c. Some (c ∷ text, rest)) (sym (eqb-true b 34 f)))
      by false false true e f g = rw (e, f, g) (ap (onto 10) h ∙ ap (λ c. Some (c ∷ text, rest)) (sym (eqb-true b 10 g)))
      by false false false e f g = rw (e, f, g) (rw (e, f) (ap (onto b) h))

  double-all : (text : List ℕ) → quoted_behind 34 0 (all_escaped text ++ 34 ∷ rest) ≡ Some (text, rest)
  double-all [] = refl
  double-all (b ∷ text) =
      ap (quoted_behind 34 0) (append_assoc (escaped b) (all_escaped text) (34 ∷ rest)) ∙ double-one b text (all_escaped text ++ 34 ∷ rest) (double-all text)

  -- one character between `'`
  single-one : (b : ℕ) (text more : List ℕ) → quoted_behind 39 0 more ≡ Some (text, rest) → quoted_behind 39 0 ((if b == 39 then 39 ∷ 39 ∷ [] else (b ∷ [])) ++ more) ≡ Some (b ∷ text, rest)
  single-one b text more h = by (b == 39) refl
    where
      by : (x : Bool) → (b == 39) ≡ x → quoted_behind 39 0 ((if b == 39 then 39 ∷ 39 ∷ [] else (b ∷ [])) ++ more) ≡ Some (b ∷ text, rest)
      by true e = rw e (ap (onto 39) h ∙ ap (λ c. Some (c ∷ text, rest)) (sym (eqb-true b 39 e)))
      by false e = rw e (rw e (ap (onto b) h))

single-all : (text : List ℕ) → quoted_behind 39 0 (all_doubled text ++ 39 ∷ []) ≡ Some (text, [])
single-all [] = refl
single-all (b ∷ text) =
    ap (quoted_behind 39 0) (append_assoc (if b == 39 then 39 ∷ 39 ∷ [] else (b ∷ [])) (all_doubled text) (39 ∷ [])) ∙ single-one [] b text (all_doubled text ++ 39 ∷ []) (single-all text)

pub double-kept : (text : List ℕ) → IsUtf8 text → value (in_double_quotes text) ≡ Some (Text text)
unfolding value scalar quoted ends
double-kept text u =
    ap (λ r. option_and_then if_ends (option_and_then text_read r)) (double-all [] text) ∙ rw (is_utf8-from_IsUtf8 text u) refl

pub single-kept : (text : List ℕ) → IsUtf8 text → value (in_single_quotes text) ≡ Some (Text text)
unfolding value scalar quoted ends
single-kept text u =
    ap (λ r. option_and_then if_ends (option_and_then text_read r)) (single-all text) ∙ rw (is_utf8-from_IsUtf8 text u) refl
