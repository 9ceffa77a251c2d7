-- The steps over the bytes of a comment.
use Rattle.std.proofs.Common.{◌≡◌, ℕ, ◌+◌, ◌-◌, ◌≤◌, List, [], ◌∷◌, ◌++◌, map, true, suc, refl, add-one, arith}
use Rattle.std.specs.Prelude.{slice_index}
use Rattle.std.proofs.lemmas.List.{map-append}
use Rattle.stan_model_doc.specs.Comment.{places, is_line_front}
use Rattle.stan_doc_lines.specs.Fronts.{front_behind}

pub places_next : (n : ℕ) → places (n + 1) ≡ places n ++ n ∷ []
places_next n = rw add-one refl

pub map_places_next : (f : ℕ → ℕ) (n : ℕ) → map f (places (n + 1)) ≡ map f (places n) ++ f n ∷ []
map_places_next f n = rw (places_next n, map-append) refl

pub front_first : (bytes : List ℕ) (from at : ℕ) → at ≤ from → is_line_front bytes from (at - from) ≡ true
unfolding is_line_front
front_first bytes from at le = let e : at - from ≡ 0 = omega arith in rw e refl

pub front_next : (bytes : List ℕ) (from at : ℕ) → from ≤ at → is_line_front bytes from ((at + 1) - from) ≡ front_behind (is_line_front bytes from (at - from)) (slice_index bytes at)
unfolding is_line_front
front_next bytes from at le =
    let e : (at + 1) - from ≡ suc (at - from) = omega arith in
    let f : from + (at - from) ≡ at = omega arith in
    rw (e, f) refl

pub ruleset text_steps = (map_places_next, front_first, front_next)
