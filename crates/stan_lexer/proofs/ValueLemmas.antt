-- The steps of resolving escapes.
use Rattle.std.proofs.Common.{◌≡◌, ℕ, ◌+◌, ◌<◌, zero, suc, List, [], ◌∷◌, ◌++◌, Bool, true, length, drop, get_or, refl, sym, ap, ◌∙◌, add-one, drop-cons, arith}
use Rattle.std.specs.Prelude.{◌==◌}
use Rattle.std.proofs.lemmas.List.{drop-drop}
use Rattle.stan_model_grammar.specs.Values.{escape, resolved, body_lines}

module _ (quoted : Bool) where
  -- Bytes that belong to an escape are passed over.
  resolved_skip : (n : ℕ) (bs : List ℕ) → resolved quoted n bs ≡ resolved quoted zero (drop n bs)
  resolved_skip zero [] = refl
  resolved_skip zero (b ∷ bs) = refl
  resolved_skip (suc n) [] = refl
  resolved_skip (suc n) (b ∷ bs) = resolved_skip n bs

  module _ (bytes : List ℕ) (at : ℕ) (lt : at < length bytes) where
    resolved_step : (get_or bytes at 0 == 92) ≡ true → resolved quoted 0 (drop at bytes) ≡ (escape quoted (drop (at + 1) bytes)).0 ++ resolved quoted (escape quoted (drop (at + 1) bytes)).1 (drop (at + 1) bytes)
    resolved_step e = rw (drop-cons bytes at 0, add-one at, e) refl

    pub resolved_escape : (get_or bytes at 0 == 92) ≡ true → (rest : List ℕ) (used next : ℕ) → rest ≡ drop (at + 1) bytes → used ≡ (escape quoted rest).1 → next ≡ at + (1 + used)
        → (escape quoted rest).0 ++ resolved quoted 0 (drop next bytes) ≡ resolved quoted 0 (drop at bytes)
    resolved_escape e rest used next r u n =
        let behind : List ℕ = drop (at + 1) bytes in
        let count : ℕ = (escape quoted behind).1 in
        let same : used ≡ count = u ∙ ap (λ x. (escape quoted x).1) r in
        let place : next ≡ (at + 1) + count = omega (arith, n, same) in
        let rest_is : drop next bytes ≡ drop count behind = ap (λ k. drop k bytes) place ∙ sym (drop-drop count (at + 1) bytes) in
        ap (λ x. (escape quoted x).0 ++ resolved quoted 0 (drop next bytes)) r
        ∙ ap (λ y. (escape quoted behind).0 ++ resolved quoted 0 y) rest_is
        ∙ ap (λ y. (escape quoted behind).0 ++ y) (sym (resolved_skip count behind))
        ∙ sym (resolved_step e)

pub body_lines_none : (bytes : List ℕ) → length bytes ≡ 0 → [] ≡ body_lines bytes
unfolding body_lines
body_lines_none [] e = refl
body_lines_none (b ∷ bs) e = absurd (omega arith)
