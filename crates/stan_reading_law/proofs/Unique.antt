-- A file has one reading.
use Rattle.std.proofs.Common.{◌≡◌, ℕ, ◌<◌, List, [], ◌∷◌, length, Option, Some, refl, sym, ap, ap₂, subst, ◌∙◌, arith}
use Rattle.stan_base.specs.Bytes.{line_of}
use Rattle.stan_model_grammar.specs.declared.token.Token.{Token}
use Rattle.stan_model_grammar.specs.Expressions.{Stands}
use Rattle.stan_model_grammar.specs.Tokens.{AreTokens, code_tokens}
use Rattle.stan_model_statements.specs.Trees.{Tops, File}
use Rattle.stan_model_readings.specs.Fronts.{is_strict_types}
use Rattle.stan_model_readings.specs.Reading.{Reading, Readable, TooLarge, NotUtf8, Broken, largest_source, IsText, IsTree, IsBrokenAt, IsReading, AreReadings}
use Rattle.stan_lexer.proofs.TokenLemmas.{one_php_token_list}
use Rattle.stan_read_law.proofs.Rows.{one_tree_of_tokens}
use Rattle.stan_reading_law.proofs.Fronts.{one_end}

one_some : {A : Type 0} (x y : A) → (let some : A → Option A = Some in some x ≡ some y) → x ≡ y
one_some x y e = cc

-- the token of a place
one_token : (ts : List Token) (at to : ℕ) (t u : Token) → at ≡ to → Stands ts at t → Stands ts to u → t ≡ u
one_token ts at to t u same h i = one_some t u (sym h ∙ subst (λ b. Stands ts b u) (sym same) i)

module _ (source : List ℕ) where
  not_too_large : IsText source → largest_source < length source → ⊥
  not_too_large text large = omega (arith, text.0, large)

  one_file : (ts : List Token) (file other : File) → IsTree source ts file → IsTree source ts other → file ≡ other
  one_file ts file other h i =
      let tops : file.tops ≡ other.tops = one_tree_of_tokens (code_tokens ts) (is_strict_types source) file.tops other.tops h.spelled i.spelled in
      let kept : file.comments ≡ other.comments = h.comments_kept ∙ sym i.comments_kept in
      ap₂ (λ (xs : Tops) (cs : List Token). let f : File = record { tops = xs; comments = cs } in f) tops kept

  -- the line of the token behind the longest front
  one_line : (ts : List Token) (line other : ℕ) → IsBrokenAt source ts line → IsBrokenAt source ts other → line ≡ other
  one_line ts line other h i =
      let place = one_end (code_tokens ts) (is_strict_types source) h.tops i.tops h.to i.to h.front i.front in
      let token = one_token (code_tokens ts) h.to i.to h.token i.token place h.stands i.stands in
      h.of_token ∙ ap (λ (t : Token). line_of source t.start) token ∙ sym i.of_token

  -- what is said of its one list of tokens
  abbrev OfTokens : (List Token → Type 0) → Type 0
  OfTokens P = (ts : List Token) × AreTokens source ts × P ts

  together : (P Q : List Token → Type 0) → OfTokens P → OfTokens Q → (ts : List Token) × P ts × Q ts
  together P Q h i = (h.0, h.2, subst Q (sym (one_php_token_list source h.0 i.0 h.1 i.1)) i.2)

pub one_reading : (source : List ℕ) (r s : Reading) → IsReading source r → IsReading source s → r ≡ s
one_reading source (Readable file) (Readable other) h k =
    let both = together source (λ ts. IsTree source ts file) (λ ts. IsTree source ts other) (h.1, h.2, h.3) (k.1, k.2, k.3) in
    ap Readable (one_file source both.0 file other both.1 both.2)
one_reading source (Readable file) TooLarge h k = absurd (not_too_large source h.0 k)
one_reading source (Readable file) NotUtf8 h k = absurd (k.1 h.0.1)
one_reading source (Readable file) (Broken line) h k =
    let both = together source (λ ts. IsTree source ts file) (λ ts. IsBrokenAt source ts line) (h.1, h.2, h.3) (k.1, k.2, k.3) in
    absurd (both.2.none_spells file.tops both.1.spelled)
one_reading source TooLarge (Readable file) h k = absurd (not_too_large source k.0 h)
one_reading source TooLarge TooLarge h k = refl
one_reading source TooLarge NotUtf8 h k = absurd (omega (arith, h, k.0))
one_reading source TooLarge (Broken line) h k = absurd (not_too_large source k.0 h)
one_reading source NotUtf8 (Readable file) h k = absurd (h.1 k.0.1)
one_reading source NotUtf8 TooLarge h k = absurd (omega (arith, h.0, k))
one_reading source NotUtf8 NotUtf8 h k = refl
one_reading source NotUtf8 (Broken line) h k = absurd (h.1 k.0.1)
one_reading source (Broken line) (Readable file) h k =
    let both = together source (λ ts. IsBrokenAt source ts line) (λ ts. IsTree source ts file) (h.1, h.2, h.3) (k.1, k.2, k.3) in
    absurd (both.1.none_spells file.tops both.2.spelled)
one_reading source (Broken line) TooLarge h k = absurd (not_too_large source h.0 k)
one_reading source (Broken line) NotUtf8 h k = absurd (k.1 h.0.1)
one_reading source (Broken line) (Broken other) h k =
    let both = together source (λ ts. IsBrokenAt source ts line) (λ ts. IsBrokenAt source ts other) (h.1, h.2, h.3) (k.1, k.2, k.3) in
    ap Broken (one_line source both.0 line other both.1 both.2)

-- each source with its reading
pub one_readings : (sources : List (List ℕ)) (rs ss : List Reading) → AreReadings sources rs → AreReadings sources ss → rs ≡ ss
one_readings [] [] [] h k = refl
one_readings [] [] (s ∷ ss) h k = absurd k
one_readings [] (r ∷ rs) ss h k = absurd h
one_readings (source ∷ sources) [] ss h k = absurd h
one_readings (source ∷ sources) (r ∷ rs) [] h k = absurd k
one_readings (source ∷ sources) (r ∷ rs) (s ∷ ss) h k = ap₂ ◌∷◌ (one_reading source r s h.0 k.0) (one_readings sources rs ss h.1 k.1)
