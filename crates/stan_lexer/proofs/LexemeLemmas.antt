-- The steps of a reading of lexemes.
use Rattle.std.proofs.Common.{◌≡◌, ℕ, ◌<◌, ◌≤◌, List, [], ◌∷◌, ◌++◌, length, true, refl}
use Rattle.std.specs.Prelude.{MatchBool}
use Rattle.std.proofs.lemmas.List.{append-nil}
use Rattle.stan_model_grammar.specs.declared.token.Opening.{Opening}
use Rattle.stan_model_grammar.specs.declared.token.Token.{Token}
use Rattle.stan_model_grammar.specs.Tokens.{top, open_behind, next_start, lexeme, is_bad, AreLexemes}

module _ (source : List ℕ) (from : ℕ) where
  -- These lexemes are read from one place up to another, where some things are open: the lexemes from there on complete them.
  abbrev pub AreLexemesUpTo : List Opening → ℕ → List Token → Type 0
  AreLexemesUpTo stack at ts = (tail : List Token) → AreLexemes source stack at tail → AreLexemes source [] from (ts ++ tail)

  pub AreLexemesUpTo-end : (stack : List Opening) (at : ℕ) (ts : List Token) → AreLexemesUpTo stack at ts → length source ≤ next_start source (top stack) at → AreLexemes source [] from ts
  AreLexemesUpTo-end stack at ts read le = rw append-nil at (read [] le)

  module _ (stack : List Opening) (at : ℕ) (ts : List Token) (t : Token) (read : AreLexemesUpTo stack at ts) (start : t.start ≡ next_start source (top stack) at)
      (some : t.start < t.end) (within : t.end ≤ length source) (is : lexeme source (top stack) t.start ≡ (t.kind, t.end)) where
    read_one : (tail : List Token) → MatchBool (is_bad t.kind) (tail ≡ []) (AreLexemes source (open_behind t.kind stack) t.end tail) → AreLexemes source [] from (ts ++ t ∷ tail)
    read_one tail rest = read (t ∷ tail) (start, some, within, is, rest)

    -- Nothing is read behind a `Bad`.
    pub AreLexemes-push_bad : is_bad t.kind ≡ true → AreLexemes source [] from (ts ++ t ∷ [])
    AreLexemes-push_bad bad = read_one [] (rw bad refl)
