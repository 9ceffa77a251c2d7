-- Every source has tokens.
use Rattle.std.proofs.Common.{◌≡◌, ℕ, zero, suc, ◌+◌, ◌<◌, ◌≤◌, ◌⊎◌, inl, inr, List, [], ◌∷◌, ◌++◌, length, take, get_or, Some, None, Bool, true, false, refl, sym, subst, arith, ⊎_elim}
use Rattle.std.specs.Prelude.{◌==◌, ◌&&◌, ◌||◌, MatchBool, slice_get, slice_index}
use Rattle.std.proofs.lemmas.Bool.{and_parts, cases_lt, cases_eq, eqb-false}
use Rattle.std.proofs.lemmas.List.{take_all}
use Rattle.std.proofs.lemmas.Option.{slice_get-get_or}
use Rattle.stan_base.specs.Bytes.{is_blank}
use Rattle.stan_model_grammar.specs.declared.token.Opening.{Opening}
use Rattle.stan_model_grammar.specs.declared.token.Token.{Token}
use Rattle.stan_model_grammar.specs.declared.token.TokenKind.TheVariants as kinds
use Rattle.stan_model_grammar.specs.Tokens.{top, open_behind, next_start, lexeme, is_bad, AreLexemes, joined, as_kind, open_texts, IsOpenText, IsCut, has_opening, opening_start, AreTokens}
use Rattle.stan_lexer.proofs.CutLemmas.{open_texts_none}
use Rattle.stan_lexer.proofs.EndLemmas.{byte_stands}
use Rattle.stan_lexer.proofs.LexemeEndLemmas.{lexeme_ends, next_start_reaches}

-- ---- lexemes

module _ (source : List ℕ) where
  abbrev Lexemes : List Opening → ℕ → Type 0
  Lexemes stack at = (ts : List Token) × AreLexemes source stack at ts

  -- a lexeme and those behind it, if it isn't `Bad`
  lexemes_by : (bad : Bool) (stack : List Opening) (at : ℕ) → (bad ≡ false → Lexemes stack at) → (ts : List Token) × MatchBool bad (ts ≡ []) (AreLexemes source stack at ts)
  lexemes_by true stack at rest = ([], refl)
  lexemes_by false stack at rest = rest refl

  some_lexemes : (left : ℕ) (stack : List Opening) (at : ℕ) → at ≤ length source → length source ≤ at + left → Lexemes stack at
  some_lexemes zero stack at h all = let r = next_start_reaches source (top stack) at h in ([], omega (arith, r.rises))
  some_lexemes (suc left) stack at h all =
      let start = next_start source (top stack) at in
      let r = next_start_reaches source (top stack) at h in
      ⊎_elim
      (λ (lt : start < length source).
      let kind = (lexeme source (top stack) start).0 in
      let end = (lexeme source (top stack) start).1 in
      let e = lexeme_ends source (top stack) start lt in
      let rest = lexemes_by (is_bad kind) (open_behind kind stack) end (λ good. some_lexemes left (open_behind kind stack) end e.within (omega (arith, r.rises, e.rises))) in
      (record { kind = kind; start = start; end = end } ∷ rest.0, (refl, e.rises, e.within, refl, rest.1)))
      (λ (ge : length source ≤ start). ([], ge))
      (cases_lt start (length source))

-- ---- the first text that doesn't end

module _ (ts : List Token) where
  -- the last place up to one at which no text is open, where one is open there
  abbrev LastOutside : ℕ → Type 0
  LastOutside n = (k : ℕ) × (k < n) × (open_texts (take k ts) ≡ 0) × ((j : ℕ) → k < j → j ≤ n → 0 < open_texts (take j ts))

  last_outside : (n : ℕ) → (open_texts (take n ts) ≡ 0) ⊎ LastOutside n
  last_outside zero = inl (sym open_texts_none)
  last_outside (suc n) = ⊎_elim (λ none. inl none)
      (λ some. ⊎_elim
      (λ outside. inr (n, omega arith, outside, λ j low high. let same : j ≡ suc n = omega arith in subst (λ i. 0 < open_texts (take i ts)) (sym same) (above some)))
      (λ last. inr (
        last.0,
        omega (arith, last.1),
        last.2,
        λ j low high. ⊎_elim
            (λ (below : j < suc n). last.3 j low (omega arith))
            (λ (here : suc n ≤ j). let same : j ≡ suc n = omega arith in subst (λ i. 0 < open_texts (take i ts)) (sym same) (above some)) (cases_lt j (suc n)),
      ))
      (last_outside n))
      (cases_eq (open_texts (take (suc n) ts)) 0)
    where
      above : {x : ℕ} → (x ≡ 0 → ⊥) → 0 < x
      above {x = x} some = omega (arith, some)

  some_cut_by : (b : Bool) → (open_texts ts == 0) ≡ b
      → (us : List Token) × MatchBool b (us ≡ ts) ((k : ℕ) × (t : Token) × IsOpenText ts k × (slice_get ts k ≡ Some t) × (us ≡ take k ts ++ as_kind kinds.Bad t ∷ []))
  some_cut_by true e = (ts, refl)
  some_cut_by false e = ⊎_elim
      (λ none. absurd (eqb-false (open_texts ts) 0 e (subst (λ us. open_texts us ≡ 0) (take_all (length ts) ts (omega arith)) none)))
      (λ last.
      let k = last.0 in
      let bad : Token = record { kind = kinds.Bad; start = 0; end = 0 } in
      let t = get_or ts k bad in
      (take k ts ++ as_kind kinds.Bad t ∷ [], (k, t, record { within = last.1; outside = last.2; inside = last.3 }, slice_get-get_or ts k bad last.1, refl)))
      (last_outside (length ts))

  some_cut : (us : List Token) × IsCut ts us
  some_cut = some_cut_by (open_texts ts == 0) refl

-- ---- the whole source

opening_within : (source : List ℕ) → has_opening source ≡ true → opening_start source + 5 ≤ length source
unfolding has_opening
opening_within source is =
    let at = opening_start source in
    let tag = (slice_index source at == 60) && (slice_index source (at + 1) == 63) && (slice_index source (at + 2) == 112) && (slice_index source (at + 3) == 104) in
    let last : (slice_index source (at + 4) == 112) ≡ true = (and_parts tag (slice_index source (at + 4) == 112) (and_parts (tag && (slice_index source (at + 4) == 112)) ((at + 5 == length source) || is_blank (slice_index source (at + 5))) is).0).1 in
    omega (arith, byte_stands source 112 refl (at + 4) last)

some_tokens_by : (b : Bool) (source : List ℕ) (none : List Token) → has_opening source ≡ b
    → (ts : List Token) × MatchBool b ((lexemes : List Token) × AreLexemes source [] (opening_start source + 5) lexemes × IsCut (joined kinds.End None lexemes) ts) (ts ≡ none)
some_tokens_by true source none is =
    let lexemes = some_lexemes source (length source) [] (opening_start source + 5) (opening_within source is) (omega arith) in
    let cut = some_cut (joined kinds.End None lexemes.0) in
    (cut.0, (lexemes.0, lexemes.1, cut.1))
some_tokens_by false source none is = (none, refl)

pub some_tokens : (source : List ℕ) → (ts : List Token) × AreTokens source ts
some_tokens source = some_tokens_by (has_opening source) source (record { kind = kinds.Bad; start = 0; end = 0 } ∷ []) refl
