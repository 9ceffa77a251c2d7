-- Comments, one by one, and the owners that are left.
use Rattle.std.proofs.Common.{◌≡◌, ℕ, ◌+◌, ◌≤◌, ◌<◌, List, [], ◌∷◌, ◌++◌, length, get_or, take, Option, Some, refl, sym, ap, ap₂, ◌∙◌, arith}
use Rattle.std.specs.Prelude.{map, slice_get}
use Rattle.std.proofs.lemmas.List.{map_push, take_more}
use Rattle.std.proofs.lemmas.Option.{slice_get-get_or}
use Rattle.stan_model_grammar.specs.declared.token.Token.{Token}
use Rattle.stan_model_files.specs.Owners.{owner_of}
use Rattle.stan_owners.specs.Order.{IsInOrder}

-- one comment more: what was found, and who is left
pub one_more : (owners comments rest left : List Token) (found more : List (Option Token)) (pushed : Option Token) (i : ℕ) (d : Token)
    → i < length comments → IsInOrder comments
    → (found ≡ map (owner_of owners) (take i comments)) × ((j : ℕ) (c : Token) → i ≤ j → slice_get comments j ≡ Some c → owner_of owners c ≡ owner_of rest c)
    → more ≡ found ++ pushed ∷ [] → pushed ≡ slice_get left 0
    → ((c : Token) → (get_or comments i d).start ≤ c.start → owner_of rest c ≡ owner_of left c) → ((c : Token) → c.start ≡ (get_or comments i d).start → owner_of rest c ≡ slice_get left 0)
    → (more ≡ map (owner_of owners) (take (i + 1) comments)) × ((j : ℕ) (c : Token) → i + 1 ≤ j → slice_get comments j ≡ Some c → owner_of owners c ≡ owner_of left c)
one_more owners comments rest left found more pushed i d lt order kept grown front passed first =
    let x : Token = get_or comments i d in
    let here : slice_get comments i ≡ Some x = slice_get-get_or comments i d lt in
    let own : pushed ≡ owner_of owners x = front ∙ sym (first x refl) ∙ sym (kept.1 i x (omega arith) here) in (
      grown ∙ ap₂ (λ a b. a ++ b ∷ []) kept.0 own ∙ sym (map_push (owner_of owners) (take i comments) x) ∙ ap (map (owner_of owners)) (sym (take_more comments i d lt)),
      λ j c le at. kept.1 j c (omega (arith, le)) at ∙ passed c (order i j x c (omega (arith, le)) here at),
    )
