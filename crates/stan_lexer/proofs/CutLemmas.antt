-- The steps of counting open texts.
use Rattle.std.proofs.Common.{◌≡◌, ℕ, ◌+◌, ◌<◌, List, [], ◌∷◌, ◌++◌, Some, false, length, take, get_or, refl, subst, arith}
use Rattle.std.specs.Prelude.{◌==◌, slice_get}
use Rattle.std.proofs.lemmas.Bool.{ne_eqb}
use Rattle.std.proofs.lemmas.List.{take_all}
use Rattle.std.proofs.lemmas.Option.{slice_get_read}
use Rattle.stan_model_grammar.specs.declared.token.TokenKind.TheVariants.{Bad}
use Rattle.std.proofs.lemmas.List.Sums.{fold_more}
use Rattle.stan_model_grammar.specs.declared.token.Token.{Token}
use Rattle.stan_model_grammar.specs.Tokens.{texts_behind, open_texts, IsOpenText, IsCut, as_kind}

pub open_texts_none : 0 ≡ open_texts []
unfolding open_texts
open_texts_none = refl

pub open_texts_more : (ts : List Token) (i : ℕ) (d : Token) → i < length ts → open_texts (take (i + 1) ts) ≡ texts_behind (open_texts (take i ts)) (get_or ts i d)
unfolding open_texts
open_texts_more ts i d h = fold_more texts_behind 0 ts i d h

pub ruleset cut_steps = (open_texts_none, open_texts_more)

some_open : (ts : List Token) (k : ℕ) → IsOpenText ts k → (open_texts ts == 0) ≡ false
some_open ts k h =
    let more : 0 < open_texts (take (length ts) ts) = h.inside (length ts) h.within (omega arith) in
    let all : 0 < open_texts ts = subst (λ us. 0 < open_texts us) (take_all (length ts) ts (omega arith)) more in
    ne_eqb (open_texts ts) 0 (λ (e : open_texts ts ≡ 0). omega arith)

-- The list that ends at the open text.
pub IsCut-at : (ts us : List Token) (k : ℕ) (t : Token) → IsOpenText ts k → t ≡ get_or ts k t → us ≡ take k ts ++ as_kind Bad t ∷ [] → IsCut ts us
IsCut-at ts us k t h e is =
    let stands : slice_get ts k ≡ Some t = slice_get_read ts (length ts) k t refl h.within e in
    rw (some_open ts k h) (k, t, h, stands, is)
