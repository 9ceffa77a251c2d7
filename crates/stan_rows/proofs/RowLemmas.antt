-- The rows of lines, line by line.
use Rattle.std.proofs.Common.{◌≡◌, ℕ, List, [], ◌∷◌, ◌++◌, map, sym, ap, ◌∙◌}
use Rattle.std.specs.Prelude.{filter}
use Rattle.std.proofs.lemmas.List.{map-append}
use Rattle.std.proofs.lemmas.List.Elements.{filter-append}
use Rattle.stan_rows.specs.Rows.{is_row}

-- a line more
pub line-more : {X : Type 0} (f : X → List ℕ) (lines : List X) (line : X) (old new : List (List ℕ)) → new ≡ old ++ filter is_row (f line ∷ []) → old ≡ filter is_row (map f lines) → new ≡ filter is_row (map f (lines ++ line ∷ []))
line-more f lines line old new more e =
    more ∙ ap (λ those. those ++ filter is_row (f line ∷ [])) e ∙ sym (filter-append is_row (map f lines) (f line ∷ [])) ∙ ap (filter is_row) (sym (map-append f lines (line ∷ [])))
