-- The tokens of a source are determined.
use Rattle.std.proofs.Common.{◌≡◌, ℕ, ◌+◌, ◌<◌, List, [], ◌∷◌, ◌++◌, take, Some, None, Bool, true, false, refl, sym, ap, ap₂, ◌∙◌, subst, arith}
use Rattle.std.specs.Prelude.{MatchBool, ◌==◌, slice_get}
use Rattle.stan_model_grammar.specs.declared.token.Opening.{Opening}
use Rattle.stan_model_grammar.specs.declared.token.Token.{Token}
use Rattle.stan_model_grammar.specs.declared.token.TokenKind.{TokenKind}
use Rattle.stan_model_grammar.specs.declared.token.TokenKind.TheVariants as kinds
use Rattle.stan_model_grammar.specs.Tokens.{top, open_behind, lexeme, is_bad, AreLexemes, joined, as_kind, open_texts, IsOpenText, IsCut, has_opening, opening_start, AreTokens}

same_token : (t u : Token) → t.start ≡ u.start → t.end ≡ u.end → t.kind ≡ u.kind → t ≡ u
same_token t u s e k = λ i. record { kind = k i; start = s i; end = e i }

module _ (source : List ℕ) where
  -- A lexeme that begins at a place is determined.
  one_lexeme : (stack : List Opening) (t u : Token) → t.start ≡ u.start → lexeme source (top stack) t.start ≡ (t.kind, t.end) → lexeme source (top stack) u.start ≡ (u.kind, u.end) → t ≡ u
  one_lexeme stack t u s v w =
      let e : (t.kind, t.end) ≡ (u.kind, u.end) = sym v ∙ ap (lexeme source (top stack)) s ∙ w in
      same_token t u s (ap (λ (p : TokenKind × ℕ). p.1) e) (ap (λ (p : TokenKind × ℕ). p.0) e)

  one_rest : (b : Bool) (stack : List Opening) (at : ℕ) (ts us : List Token) → (AreLexemes source stack at ts → AreLexemes source stack at us → ts ≡ us)
      → MatchBool b (ts ≡ []) (AreLexemes source stack at ts) → MatchBool b (us ≡ []) (AreLexemes source stack at us) → ts ≡ us
  one_rest true stack at ts us step v w = v ∙ sym w
  one_rest false stack at ts us step v w = step v w

  one_lexeme_list : (stack : List Opening) (at : ℕ) (ts us : List Token) → AreLexemes source stack at ts → AreLexemes source stack at us → ts ≡ us
  one_lexeme_list stack at [] [] v w = refl
  one_lexeme_list stack at [] (u ∷ us) v w = absurd (omega (arith, v, w.0, w.1, w.2))
  one_lexeme_list stack at (t ∷ ts) [] v w = absurd (omega (arith, w, v.0, v.1, v.2))
  one_lexeme_list stack at (t ∷ ts) (u ∷ us) v w =
      let same = one_lexeme stack t u (v.0 ∙ sym w.0) v.3 w.3 in
      ap₂ ◌∷◌ same (one_rest (is_bad t.kind) (open_behind t.kind stack) t.end ts us (one_lexeme_list (open_behind t.kind stack) t.end ts us) v.4 (rw (← same) at w.4))

-- The first text that doesn't end is determined.
one_open_text : (ts : List Token) (k l : ℕ) → IsOpenText ts k → IsOpenText ts l → k ≡ l
one_open_text ts k l v w =
    let p : k < l → ⊥ = λ h. let more : 0 < open_texts (take l ts) = v.inside l h (omega (arith, w.within)) in omega (arith, w.outside, more) in
    let q : l < k → ⊥ = λ h. let more : 0 < open_texts (take k ts) = w.inside k h (omega (arith, v.within)) in omega (arith, v.outside, more) in
    omega (arith, p, q)

one_cut_by : (b : Bool) (ts us vs : List Token)
    → MatchBool b (us ≡ ts) ((k : ℕ) × (t : Token) × IsOpenText ts k × (slice_get ts k ≡ Some t) × (us ≡ take k ts ++ as_kind kinds.Bad t ∷ []))
    → MatchBool b (vs ≡ ts) ((k : ℕ) × (t : Token) × IsOpenText ts k × (slice_get ts k ≡ Some t) × (vs ≡ take k ts ++ as_kind kinds.Bad t ∷ []))
    → us ≡ vs
one_cut_by true ts us vs v w = v ∙ sym w
one_cut_by false ts us vs v w =
    let k : v.0 ≡ w.0 = one_open_text ts v.0 w.0 v.2 w.2 in
    let s : Some v.1 ≡ Some w.1 = sym v.3 ∙ ap (slice_get ts) k ∙ w.3 in
    let t : v.1 ≡ w.1 = cc in
    v.4 ∙ ap₂ (λ n x. take n ts ++ as_kind kinds.Bad x ∷ []) k t ∙ sym w.4

one_by : (b : Bool) (source : List ℕ) (none ts us : List Token)
    → MatchBool b ((lexemes : List Token) × AreLexemes source [] (opening_start source + 5) lexemes × IsCut (joined kinds.End None lexemes) ts) (ts ≡ none)
    → MatchBool b ((lexemes : List Token) × AreLexemes source [] (opening_start source + 5) lexemes × IsCut (joined kinds.End None lexemes) us) (us ≡ none)
    → ts ≡ us
one_by true source none ts us v w =
    let same : v.0 ≡ w.0 = one_lexeme_list source [] (opening_start source + 5) v.0 w.0 v.1 w.1 in
    let all = joined kinds.End None w.0 in
    one_cut_by (open_texts all == 0) all ts us (subst (λ ls. IsCut (joined kinds.End None ls) ts) same v.2) w.2
one_by false source none ts us v w = v ∙ sym w

pub one_php_token_list : (source : List ℕ) (ts us : List Token) → AreTokens source ts → AreTokens source us → ts ≡ us
one_php_token_list source ts us v w = one_by (has_opening source) source (record { kind = kinds.Bad; start = 0; end = 0 } ∷ []) ts us v w
