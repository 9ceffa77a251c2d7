use Rattle.std.proofs.Common.{◌≡◌, ℕ, List, IsSome, map, string_bytes, true, sym, ap, subst}
use Rattle.std.specs.FinMap as finite
use Rattle.std.specs.List.{Contains, list_any}
use Rattle.std.specs.Str.{bytes_eq}
use Rattle.std.proofs.lemmas.Map.Views.{Contains-from_any}
use Rattle.std.proofs.lemmas.Slice.Eq.{bytes_eq-Decides}
use Rattle.stan_outside.specs.Contents.{Contents}
use Rattle.stan_outside.specs.Outside.{Lists}
use Rattle.stan_config_rows.proofs.reading.played.Goals as goal

stands : (paths : List (List ℕ)) (path : List ℕ) → list_any (λ other. bytes_eq other path) paths ≡ true → Contains paths path
stands paths path e = Contains-from_any {K = List ℕ} {eq = λ q other. bytes_eq other q} (λ q other t. sym ((bytes_eq-Decides other q).0 t)) path paths e

-- What is listed of a folder is held.
listed_held : (before after : Contents) (paths shown : List (List ℕ)) → after ≡ before → shown ≡ paths → Lists before paths → (path : List ℕ) → list_any (λ other. bytes_eq other path) shown ≡ true → IsSome (finite.get after path)
listed_held before after paths shown same are lists path e =
    subst (λ contents. IsSome (finite.get contents path)) (sym same) (lists.each path (stands paths path (subst (λ s. list_any (λ other. bytes_eq other path) s ≡ true) are e)))

pub config_of-loaded-requires : goal.config_of-loaded-requires
config_of-loaded-requires c = λ told path e.
    listed_held _ _ (map string_bytes c.in-Ok.listed.items) (map string_bytes c.deref-2.result.now) c.in-Ok.ensures.contents (ap (map string_bytes) c.deref-2.ensures.value) c.in-Ok.ensures.paths path e
