-- Entries of `excludePaths`: those with a `*` one by one, the others by look-ups.
use Rattle.std.proofs.Common.{◌≡◌, ℕ, ◌<◌, true, false, List, length, get_or, map, String, Global, string_bytes, refl, sym, subst, ◌∙◌, inl, inr, ⊎_elim}
use Rattle.std.specs.Prelude.{◌==◌}
use Rattle.std.specs.List.{Contains}
use Rattle.std.proofs.lemmas.Bool.{cases_Bool, eq-eqb, false≢true}
use Rattle.std.proofs.lemmas.List.Folds.{list_any_at}
use Rattle.stan_base.proofs.SortLemmas.{item_from_Contains-map}
use Rattle.stan_settings.specs.declared.Config.{Config}
use Rattle.stan_patterns.specs.Patterns.{Matches}
use Rattle.stan_patterns.proofs.PatternLemmas.{Matches-piece}
use Rattle.stan_select.specs.declared.lookups.Lookups.{Lookups}
use Rattle.stan_select.specs.Choice.{Itself, Under, Matching, normal_paths, IsTakenAwayBy}
use Rattle.stan_select.specs.Names.{has}
use Rattle.stan_select.specs.Lookups.{has_star, AreLookups, HasPattern, IsExcluded}
use Rattle.stan_paths.proofs.ListLemmas.{Contains-filter, passes_from_filter}
use Rattle.stan_select.proofs.NameLemmas.{Contains-from_has, has-from_Contains}

-- ---- patterns one by one

module _ (patterns : List (String Global)) (file : List ℕ) where
  abbrev pub NoPatternBefore : ℕ → Type 0
  NoPatternBefore end = (at : ℕ) (pattern : String Global) → at < end → pattern ≡ get_or patterns at pattern → Matches (string_bytes pattern) file → ⊥

  pub no_pattern : NoPatternBefore (length patterns) → HasPattern (map string_bytes patterns) file → ⊥
  no_pattern none h =
      let x = item_from_Contains-map string_bytes patterns h.0 h.1.0 in
      none x.1.0 x.0 x.1.1 (sym x.1.2) (subst (λ p. Matches p file) (sym x.2) h.1.1)

-- ---- what is taken away

plain_entry : (entry : List ℕ) → has_star entry ≡ false → Contains entry 42 → ⊥
plain_entry entry plain h = false≢true (sym plain ∙ list_any_at (λ byte. byte == 42) entry h.0 42 h.1 (eq-eqb _ 42 h.2))

module _ (config : Config) (lookups : Lookups) (are : AreLookups config lookups) (file : List ℕ) where
  abbrev entries : List (List ℕ)
  entries = normal_paths config.exclude

  pub IsTakenAwayBy-from_lookups : IsExcluded lookups file → IsTakenAwayBy entries file
  IsTakenAwayBy-from_lookups h =
      ⊎_elim
      (λ covered.
      ⊎_elim
      (λ named. (file, (Contains-from_has entries lookups.excluded are.excluded file named, Itself refl)))
      (λ folder. (folder.0, (Contains-from_has entries lookups.excluded are.excluded folder.0 folder.1.0, Under folder.1.1)))
      covered)
      (λ pattern. (pattern.0, ((passes_from_filter has_star entries pattern.0 (subst (λ paths. Contains paths pattern.0) are.patterns pattern.1.0)).0, Matching pattern.1.1)))
      h

  itself : (entry : List ℕ) → Contains entries entry → file ≡ entry → IsExcluded lookups file
  itself entry among same = inl (inl (subst (λ path. has lookups.excluded path ≡ true) (sym same) (has-from_Contains entries lookups.excluded are.excluded entry among)))

  matching : (entry : List ℕ) → Contains entries entry → Matches entry file → IsExcluded lookups file
  matching entry among m =
      ⊎_elim
      (λ star. inr (entry, (subst (λ paths. Contains paths entry) (sym are.patterns) (Contains-filter has_star entries entry among star), m)))
      (λ plain. itself entry among ((Matches-piece entry file (plain_entry entry plain)).0 m))
      (cases_Bool (has_star entry))

  pub lookups_exclude : IsTakenAwayBy entries file → IsExcluded lookups file
  lookups_exclude h =
      elim h.1.1 [
        | Itself same ↦ itself h.0 h.1.0 same
        | Under under ↦ inl (inr (h.0, (has-from_Contains entries lookups.excluded are.excluded h.0 h.1.0, under)))
        | Matching m ↦ matching h.0 h.1.0 m
      ]
