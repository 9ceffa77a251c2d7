-- The steps of a reading of tokens.
use Rattle.std.proofs.Common.{◌≡◌, ℕ, ◌<◌, ◌≤◌, List, [], ◌∷◌, ◌++◌, length, subst, append_assoc, append-nil}
use Rattle.stan_model_grammar.specs.Runs.{run_end, blank_at}
use Rattle.stan_model_doc.specs.declared.token.DocToken.{DocToken}
use Rattle.stan_model_doc.specs.Tokens.{doc_token}
use Rattle.stan_doc_tokens.specs.Reading.{AddsTokens, AddsTokensUpTo}

module _ (text : List ℕ) (from : ℕ) (old : List DocToken) where
  pub up_to_end : (at : ℕ) (new : List DocToken) → AddsTokensUpTo text from at old new → length text ≤ run_end text (blank_at text) at → AddsTokens text from old new
  up_to_end at new read le = subst (λ ts. AddsTokens text from old ts) (append-nil new) (read [] le)

  pub up_to_next : (at : ℕ) (new : List DocToken) (t : DocToken) → AddsTokensUpTo text from at old new → t.start ≡ run_end text (blank_at text) at → t.start < t.end → t.end ≤ length text
      → doc_token text t.start ≡ (t.kind, t.end) → AddsTokensUpTo text from t.end old (new ++ t ∷ [])
  up_to_next at new t read start some within is = λ tail are. rw append_assoc (read (t ∷ tail) (start, some, within, is, are))
