-- A source has no more tokens than bytes, but for the one of an empty source.
use Rattle.std.proofs.Common.{◌≡◌, ℕ, ◌+◌, ◌-◌, ◌<◌, ◌≤◌, zero, suc, List, [], ◌∷◌, ◌++◌, length, take, Some, None, Option, Bool, true, false, cond, sym, subst, arith}
use Rattle.std.specs.Prelude.{MatchBool, ◌==◌, not, slice_get}
use Rattle.stan_model_grammar.specs.declared.token.Opening.{Opening}
use Rattle.stan_model_grammar.specs.declared.token.Token.{Token}
use Rattle.stan_model_grammar.specs.declared.token.TokenKind.{TokenKind}
use Rattle.stan_model_grammar.specs.declared.token.TokenKind.TheVariants as kinds
use Rattle.stan_model_grammar.specs.Tokens.{top, open_behind, is_bad, is_comment, is_attribute_start, is_attribute_end, renamed, as_kind, spanning, AreLexemes, joined, open_texts, IsOpenText, IsCut, has_opening, opening_start, AreTokens}
use Rattle.stan_lexer.proofs.OrderLemmas.{next_start_rises}

abbrev IsFew : ℕ → List Token → Type 0
IsFew limit ts = length ts ≤ limit

one_of_two : (limit : ℕ) (b : Bool) (ts us : List Token) → IsFew limit ts → IsFew limit us → IsFew limit (cond b ts us)
one_of_two limit true ts us v w = v
one_of_two limit false ts us v w = w

-- ---- lexemes

module _ (source : List ℕ) where
  rest_few : (b : Bool) (end : ℕ) (stack : List Opening) (ts : List Token) → (AreLexemes source stack end ts → IsFew (length source - end) ts)
      → MatchBool b (ts ≡ []) (AreLexemes source stack end ts) → IsFew (length source - end) ts
  rest_few true end stack ts step v = subst (IsFew (length source - end)) (sym v) (omega arith)
  rest_few false end stack ts step v = step v

  -- each has a byte behind the place
  lexemes_few : (stack : List Opening) (at : ℕ) (ts : List Token) → AreLexemes source stack at ts → IsFew (length source - at) ts
  lexemes_few stack at [] v = omega arith
  lexemes_few stack at (t ∷ ts) v =
      let rest = rest_few (is_bad t.kind) t.end (open_behind t.kind stack) ts (lexemes_few (open_behind t.kind stack) t.end ts) v.4 in
      omega (arith, v.0, v.1, v.2, next_start_rises source (top stack) at, rest)

-- ---- joined lexemes

-- how many tokens an open attribute adds
abbrev open_count : Option (Token × ℕ) → ℕ
open_count None = 0
open_count (Some a) = 1

joined_few : (before : TokenKind) (open_at : Option (Token × ℕ)) (ts : List Token) → IsFew (open_count open_at + length ts) (joined before open_at ts)
joined_few before None [] = omega arith
joined_few before (Some a) [] = omega arith
joined_few before None (t ∷ ts) =
    let next = cond (is_comment t.kind) before t.kind in
    one_of_two (0 + length (t ∷ ts)) (is_attribute_start t.kind) (joined before (Some (t, 0)) ts) (renamed before t ∷ joined next None ts)
    (omega (arith, joined_few before (Some (t, 0)) ts))
    (omega (arith, joined_few next None ts))
joined_few before (Some a) (t ∷ ts) =
    one_of_two (1 + length (t ∷ ts)) (is_attribute_start t.kind) (joined before (Some (a.0, a.1 + 1)) ts) _ (omega (arith, joined_few before (Some (a.0, a.1 + 1)) ts))
    (one_of_two (1 + length (t ∷ ts)) (not (is_attribute_end t.kind)) (joined before (Some a) ts) _ (omega (arith, joined_few before (Some a) ts))
    (one_of_two (1 + length (t ∷ ts)) (a.1 == 0) (spanning kinds.Attribute a.0 t ∷ joined before None ts) (joined before (Some (a.0, a.1 - 1)) ts)
    (omega (arith, joined_few before None ts))
    (omega (arith, joined_few before (Some (a.0, a.1 - 1)) ts))))

-- ---- a list that is cut

cut_few : (k : ℕ) (t : Token) (ts : List Token) → k < length ts → IsFew (length ts) (take k ts ++ t ∷ [])
cut_few k t [] h = absurd (omega arith)
cut_few zero t (u ∷ us) h = omega arith
cut_few (suc k) t (u ∷ us) h = omega (arith, cut_few k t us (omega arith))

cut_by : (b : Bool) (limit : ℕ) (ts us : List Token) → IsFew limit ts
    → MatchBool b (us ≡ ts) ((k : ℕ) × (t : Token) × IsOpenText ts k × (slice_get ts k ≡ Some t) × (us ≡ take k ts ++ as_kind kinds.Bad t ∷ [])) → IsFew limit us
cut_by true limit ts us few v = subst (IsFew limit) (sym v) few
cut_by false limit ts us few v = subst (IsFew limit) (sym v.4) (omega (arith, few, cut_few v.0 (as_kind kinds.Bad v.1) ts v.2.within))

-- ---- the whole source

module _ (source : List ℕ) where
  tokens_by : (b : Bool) (none ts : List Token) → IsFew (length source + 1) none
      → MatchBool b ((lexemes : List Token) × AreLexemes source [] (opening_start source + 5) lexemes × IsCut (joined kinds.End None lexemes) ts) (ts ≡ none) → IsFew (length source + 1) ts
  tokens_by true none ts few v =
      let all = joined kinds.End None v.0 in
      cut_by (open_texts all == 0) (length source + 1) all ts
      (omega (arith, joined_few kinds.End None v.0, lexemes_few source [] (opening_start source + 5) v.0 v.1)) v.2
  tokens_by false none ts few v = subst (IsFew (length source + 1)) (sym v) few

  pub tokens_few : (ts : List Token) → AreTokens source ts → IsFew (length source + 1) ts
  tokens_few ts v = tokens_by (has_opening source) (record { kind = kinds.Bad; start = 0; end = 0 } ∷ []) ts (omega arith) v
