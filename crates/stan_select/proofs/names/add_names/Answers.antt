use Rattle.std.proofs.Common.{◌≡◌, ◌+◌, ◌<◌, ◌++◌, [], ◌∷◌, ℕ, List, length, map, take, string_bytes, sym, ap, ◌∙◌, arith}
use Rattle.stan_paths.specs.Paths.{normal_path}
use Rattle.stan_select.specs.Names.{has}
use Rattle.stan_select.proofs.ListLemmas.{normal_paths-more}
use Rattle.stan_select.proofs.NameLemmas.{has-more}
use Rattle.stan_select.proofs.names.add_names.Goals as goal

pub loop-path-preserved : goal.loop-path-preserved
loop-path-preserved c = λ path.
    let paths = c.args.paths.now in
    let at : ℕ = c.loop-path.path-index in
    let so_far : List (List ℕ) = map normal_path (map string_bytes (take at paths)) in
    let item = c.path-item.result in
    let bytes : List ℕ = normal_path (string_bytes item) in
    let lt : at < length paths = omega arith in
    let key : c.into_bytes.result.items ≡ bytes = ap (λ v. v.items) c.into_bytes.ensures.value ∙ c.in_ok-normal.ensures ∙ ap normal_path c.as_str.ensures.value in
    let more : map normal_path (map string_bytes (take (at + 1) paths)) ≡ so_far ++ bytes ∷ [] = normal_paths-more paths at item lt ∙ ap (λ p. so_far ++ normal_path (string_bytes p) ∷ []) (sym c.path-item.is) in
    has-more c.loop-path.names c.insert.new.self c.into_bytes.result (has c.args.names.now path) so_far _ bytes path c.in_ok-insert.ensures.keys (c.loop-path.invariant path) key more
