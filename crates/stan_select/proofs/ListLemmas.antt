-- Lists of paths.
use Rattle.std.proofs.Common.{◌≡◌, ℕ, suc, ◌+◌, ◌<◌, List, [], ◌∷◌, ◌++◌, length, take, drop, get_or, map, String, Global, string_bytes, sym, ap, ◌∙◌}
use Rattle.std.proofs.lemmas.List.{map-append, map_more, take-append-drop}
use Rattle.std.proofs.Math.Seq.{drop-cons}
use Rattle.stan_paths.specs.Paths.{normal_path}

-- what stands before a byte, the byte, and what stands behind it
pub splits_at : (bytes : List ℕ) (at byte : ℕ) → at < length bytes → get_or bytes at 0 ≡ byte → bytes ≡ take at bytes ++ (byte ∷ drop (suc at) bytes)
splits_at bytes at byte lt e = sym (take-append-drop at bytes) ∙ ap (λ rest. take at bytes ++ rest) (drop-cons bytes at 0 lt ∙ ap (λ b. b ∷ drop (suc at) bytes) e)

-- the normal forms of one path more
pub normal_paths-more : (paths : List (String Global)) (at : ℕ) (path : String Global) → at < length paths → map normal_path (map string_bytes (take (at + 1) paths)) ≡ map normal_path (map string_bytes (take at paths)) ++ normal_path (string_bytes (get_or paths at path)) ∷ []
normal_paths-more paths at path lt = ap (map normal_path) (map_more string_bytes paths at path lt) ∙ map-append normal_path (map string_bytes (take at paths)) (string_bytes (get_or paths at path) ∷ [])
