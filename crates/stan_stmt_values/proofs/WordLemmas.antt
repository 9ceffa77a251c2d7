-- The bytes of a token, cut to those of the source.
use Rattle.std.proofs.Common.{◌≡◌, ℕ, ◌+◌, ◌-◌, ◌≤◌, List, length, take, drop, ap, ◌∙◌, arith}
use Rattle.std.specs.Prelude.{min, max, slice_range}
use Rattle.std.proofs.lemmas.List.{drop_min, take_min, length-drop}

pub slice_within : (bytes : List ℕ) (from to : ℕ) → slice_range bytes (min from (length bytes)) (max (min to (length bytes)) (min from (length bytes))) ≡ slice_range bytes from to
slice_within bytes from to =
    ap (take (max (min to (length bytes)) (min from (length bytes)) - min from (length bytes))) (drop_min from bytes)
    ∙ ap (λ n. take n (drop from bytes)) (omega (arith, length-drop from bytes))
    ∙ take_min (to - from) (drop from bytes)
