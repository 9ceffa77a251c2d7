-- The tokens of a source stand in order and within it.
use Rattle.std.proofs.Common.{◌≡◌, ℕ, ◌+◌, ◌-◌, ◌≤◌, zero, suc, List, [], ◌∷◌, ◌++◌, length, take, Some, None, Option, Bool, true, false, cond, refl, sym, ap, subst, arith}
use Rattle.std.specs.Prelude.{MatchBool, ◌==◌, not, slice_get}
use Rattle.std.specs.List.{All, AllPairs}
use Rattle.std.proofs.lemmas.List.Elements.{All-nil, All-cons, All-weaker}
use Rattle.std.proofs.lemmas.List.Kept.{AllPairs-cons}
use Rattle.stan_model_grammar.specs.declared.token.Opening.{Opening}
use Rattle.stan_model_grammar.specs.declared.token.Token.{Token}
use Rattle.stan_model_grammar.specs.declared.token.TokenKind.{TokenKind}
use Rattle.stan_model_grammar.specs.declared.token.TokenKind.TheVariants as kinds
use Rattle.stan_model_grammar.specs.Runs.{run_end, blank_at}
use Rattle.stan_model_grammar.specs.Tokens.{is_in_text, top, open_behind, next_start, is_bad, is_comment, is_attribute_start, is_attribute_end, renames, renamed, as_kind, spanning, AreLexemes, joined, open_texts, IsOpenText, IsCut, has_opening, opening_start, AreTokens}
use Rattle.stan_runs.proofs.RunLemmas.{run_end_rises}

-- From a place on, each of these ends behind its beginning and within a length, and the next one begins there or later.
abbrev pub Rise : ℕ → ℕ → List Token → Type 0
Rise limit at [] = Unit {0}
Rise limit at (t ∷ ts) = (at ≤ t.start) × (t.start ≤ t.end) × (t.end ≤ limit) × Rise limit t.end ts

module _ (limit : ℕ) where
  abbrev IsWithin : ℕ → Token → Type 0
  IsWithin at t = (at ≤ t.start) × (t.start ≤ t.end) × (t.end ≤ limit)

  pub all_within : (at : ℕ) (ts : List Token) → Rise limit at ts → All (IsWithin at) ts
  all_within at [] r = All-nil (IsWithin at)
  all_within at (t ∷ ts) r = All-cons (IsWithin at) t ts (r.0, r.1, r.2) (All-weaker (IsWithin t.end) (IsWithin at) (λ u h. (omega (arith, h.0, r.0, r.1), h.1, h.2)) ts (all_within t.end ts r.3))

  pub all_rise : (at : ℕ) (ts : List Token) → Rise limit at ts → AllPairs (λ t u. t.end ≤ u.start) ts
  all_rise at [] r = λ i j d low high. absurd (omega arith)
  all_rise at (t ∷ ts) r =
      let R : Token → Token → Type 0 = λ t u. t.end ≤ u.start in
      AllPairs-cons R t ts (All-weaker (IsWithin t.end) (R t) (λ u h. h.0) ts (all_within t.end ts r.3)) (all_rise t.end ts r.3)

  -- ---- joined lexemes

  renamed_same : (b : Bool) (t : Token) → ((cond b (as_kind kinds.Identifier t) t).start ≡ t.start) × ((cond b (as_kind kinds.Identifier t) t).end ≡ t.end)
  renamed_same true t = (refl, refl)
  renamed_same false t = (refl, refl)

  abbrev Inside : ℕ → ℕ → Option (Token × ℕ) → Type 0
  Inside low at None = low ≤ at
  Inside low at (Some a) = (low ≤ a.0.start) × (a.0.start ≤ a.0.end) × (a.0.end ≤ at) × (at ≤ limit)

  one_of_two : (low : ℕ) (b : Bool) (xs ys : List Token) → Rise limit low xs → Rise limit low ys → Rise limit low (cond b xs ys)
  one_of_two low true xs ys v w = v
  one_of_two low false xs ys v w = w

  joined_rises : (before : TokenKind) (open_at : Option (Token × ℕ)) (low at : ℕ) (ts : List Token) → Inside low at open_at → Rise limit at ts → Rise limit low (joined before open_at ts)
  joined_rises before None low at [] i r = tt
  joined_rises before (Some a) low at [] i r = (i.0, i.1, omega (arith, i.2, i.3), tt)
  joined_rises before None low at (t ∷ ts) i r =
      let next = cond (is_comment t.kind) before t.kind in
      let s = renamed_same (renames before t.kind) t in
      let rest : Rise limit t.end (joined next None ts) = joined_rises next None t.end t.end ts (omega arith) r.3 in
      one_of_two low (is_attribute_start t.kind) (joined before (Some (t, 0)) ts) (renamed before t ∷ joined next None ts)
      (joined_rises before (Some (t, 0)) low t.end ts (omega (arith, i, r.0), r.1, omega arith, r.2) r.3)
      (omega (arith, i, r.0, s.0), omega (arith, r.1, s.0, s.1), omega (arith, r.2, s.1), subst (λ e. Rise limit e (joined next None ts)) (sym s.1) rest)
  joined_rises before (Some a) low at (t ∷ ts) i r =
      let inside : (n : ℕ) → Inside low t.end (Some (a.0, n)) = λ n. (i.0, i.1, omega (arith, i.2, r.0, r.1), r.2) in
      one_of_two low (is_attribute_start t.kind) (joined before (Some (a.0, a.1 + 1)) ts) _ (joined_rises before (Some (a.0, a.1 + 1)) low t.end ts (inside (a.1 + 1)) r.3)
      (one_of_two low (not (is_attribute_end t.kind)) (joined before (Some a) ts) _ (joined_rises before (Some a) low t.end ts (inside a.1) r.3)
      (one_of_two low (a.1 == 0) (spanning kinds.Attribute a.0 t ∷ joined before None ts) (joined before (Some (a.0, a.1 - 1)) ts)
      (i.0, omega (arith, i.1, i.2, r.0, r.1), r.2, joined_rises before None t.end t.end ts (omega arith) r.3)
      (joined_rises before (Some (a.0, a.1 - 1)) low t.end ts (inside (a.1 - 1)) r.3)))

  -- ---- a list that is cut

  cut_rises : (at k : ℕ) (t : Token) (ts : List Token) → slice_get ts k ≡ Some t → Rise limit at ts → Rise limit at (take k ts ++ as_kind kinds.Bad t ∷ [])
  cut_rises at k t [] e r = absurd (none_some k t e)
    where
      none_some : (k : ℕ) (t : Token) → slice_get [] k ≡ Some t → ⊥
      none_some zero t e = cc
      none_some (suc k) t e = cc
  cut_rises at zero t (u ∷ us) e r =
      let same : u ≡ t = cc in
      (omega (arith, r.0, ap (λ (x : Token). x.start) same), omega (arith, r.1, ap (λ (x : Token). x.start) same, ap (λ (x : Token). x.end) same), omega (arith, r.2, ap (λ (x : Token). x.end) same), tt)
  cut_rises at (suc k) t (u ∷ us) e r = (r.0, r.1, r.2, cut_rises u.end k t us e r.3)

  cut_by : (b : Bool) (at : ℕ) (ts us : List Token)
      → MatchBool b (us ≡ ts) ((k : ℕ) × (t : Token) × IsOpenText ts k × (slice_get ts k ≡ Some t) × (us ≡ take k ts ++ as_kind kinds.Bad t ∷ [])) → Rise limit at ts → Rise limit at us
  cut_by true at ts us v r = subst (λ xs. Rise limit at xs) (sym v) r
  cut_by false at ts us v r = subst (λ xs. Rise limit at xs) (sym v.4) (cut_rises at v.0 v.1 ts v.3 r)

module _ (source : List ℕ) where
  pub next_start_rises : (o : Option Opening) (at : ℕ) → at ≤ next_start source o at
  unfolding next_start
  next_start_rises o at = elim (is_in_text o) as (λ b. at ≤ cond b at (run_end source (blank_at source) at)) [ true ↦ omega arith | false ↦ run_end_rises source (blank_at source) at ]

  rest_rises : (b : Bool) (end : ℕ) (stack : List Opening) (ts : List Token) → (AreLexemes source stack end ts → Rise (length source) end ts)
      → MatchBool b (ts ≡ []) (AreLexemes source stack end ts) → Rise (length source) end ts
  rest_rises true end stack ts step v = subst (λ xs. Rise (length source) end xs) (sym v) tt
  rest_rises false end stack ts step v = step v

  lexemes_rise : (stack : List Opening) (at : ℕ) (ts : List Token) → AreLexemes source stack at ts → Rise (length source) at ts
  lexemes_rise stack at [] v = tt
  lexemes_rise stack at (t ∷ ts) v = (
    omega (arith, v.0, next_start_rises (top stack) at),
    omega (arith, v.1),
    v.2,
    rest_rises (is_bad t.kind) t.end (open_behind t.kind stack) ts (lexemes_rise (open_behind t.kind stack) t.end ts) v.4,
  )

  tokens_by : (b : Bool) (none ts : List Token) → Rise (length source) 0 none
      → MatchBool b ((lexemes : List Token) × AreLexemes source [] (opening_start source + 5) lexemes × IsCut (joined kinds.End None lexemes) ts) (ts ≡ none) → Rise (length source) 0 ts
  tokens_by true none ts r v =
      let all = joined kinds.End None v.0 in
      cut_by (length source) (open_texts all == 0) 0 all ts v.2
      (joined_rises (length source) kinds.End None 0 (opening_start source + 5) v.0 (omega arith) (lexemes_rise [] (opening_start source + 5) v.0 v.1))
  tokens_by false none ts r v = subst (λ xs. Rise (length source) 0 xs) (sym v) r

  tokens_rise : (ts : List Token) → AreTokens source ts → Rise (length source) 0 ts
  tokens_rise ts v = tokens_by (has_opening source) (record { kind = kinds.Bad; start = 0; end = 0 } ∷ []) ts (omega arith, omega arith, omega arith, tt) v

pub php_tokens_in_order : (source : List ℕ) (ts : List Token) → AreTokens source ts → All (λ t. (t.start ≤ t.end) × (t.end ≤ length source)) ts × AllPairs (λ t u. t.end ≤ u.start) ts
php_tokens_in_order source ts v =
    let r = tokens_rise source ts v in
    let P : Token → Type 0 = λ t. (0 ≤ t.start) × (t.start ≤ t.end) × (t.end ≤ length source) in
    let Q : Token → Type 0 = λ t. (t.start ≤ t.end) × (t.end ≤ length source) in
    (All-weaker P Q (λ t h. (h.1, h.2)) ts (all_within (length source) 0 ts r), all_rise (length source) 0 ts r)
