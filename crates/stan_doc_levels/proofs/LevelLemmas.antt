-- All levels, from the lowest one on.
use Rattle.std.proofs.Common.{◌≡◌, ℕ, zero, suc, ◌≤◌, ◌<◌, false, List, length, Some, refl, arith}
use Rattle.stan_model_doc.specs.declared.token.DocToken.{DocToken}
use Rattle.stan_model_doc.specs.Rules.{Rule, conditional, default_value, fields, suffixed, param_tag, method_tag, symbols, sort_of}
use Rattle.stan_model_doc.specs.Trees.{Forest}
use Rattle.stan_model_doc.specs.Grammar.{Runs}
use Rattle.stan_doc_descent.specs.Parse.{Read, height}
use Rattle.stan_doc_descent.specs.Tables.{is_tag}
use Rattle.stan_doc_descent.specs.Descent.{IsSound}
use Rattle.stan_doc_descent.specs.Alternatives.{ReadsProduction, ReadsProductions}
use Rattle.stan_doc_descent.proofs.Reading.{run_sound}
use Rattle.stan_doc_descent.proofs.Alternatives.{plain_productions_are_read}
use Rattle.stan_doc_descent.proofs.FieldLemmas.{fields_are_read}
use Rattle.stan_doc_suffixes.proofs.Suffixes.{suffixes_are_read}
use Rattle.stan_doc_conditions.proofs.ConditionLemmas.{conditions_are_read, conditions_are_sound}
use Rattle.stan_doc_levels.specs.Levels.{production, level, AllLevelsAreRead}
use Rattle.stan_doc_levels.proofs.DefaultLemmas.{default_is, default_there}

module _ (below : List DocToken → Rule → ℕ → Read Forest) (n : ℕ) (sound : (us : List DocToken) → IsSound us (below us) n) (ts : List DocToken) where
  abbrev Is : Rule → ℕ → Forest × ℕ → Type 0
  Is r at x = Runs ts (symbols r) x.0 at x.1 × (height x.0 < suc n)

  up : (r : Rule) (at : ℕ) (x : Forest × ℕ) → Runs ts (symbols r) x.0 at x.1 × (height x.0 ≤ n) → Is r at x
  up r at x h = (h.0, omega (arith, h.1))

  production_is : (r : Rule) (at : ℕ) (x : Forest × ℕ) → production ts below r at ≡ Some x → Is r at x
  production_is conditional at x h = up conditional at x (conditions_are_sound ts below n sound at x h)
  production_is default_value at x h = let w = default_is ts at x h in (w.0, omega (arith, w.1))
  production_is param_tag at x h = up param_tag at x (run_sound ts (below ts) n (sound ts) (symbols param_tag) at x h)
  production_is r at x h = up r at x (run_sound ts (below ts) n (sound ts) (symbols r) at x h)

  production_there : ((us : List DocToken) → ReadsProductions us (below us) n) → (r : Rule) (ps : Forest) (at b : ℕ) → is_tag (sort_of r) ≡ false → height ps ≤ n → b ≤ length ts → Runs ts (symbols r) ps at b
      → ReadsProduction ts r ps b (production ts below r at)
  production_there longest conditional ps at b tag d le h = conditions_are_read ts below n sound longest ps at b d le h
  production_there longest default_value ps at b tag d le h = default_there ts ps at b h
  production_there longest fields ps at b tag d le h = fields_are_read ts (below ts) n (sound ts) (longest ts) ps at b d le h
  production_there longest suffixed ps at b tag d le h = suffixes_are_read ts (below ts) n (sound ts) (longest ts) ps at b d le h
  production_there longest param_tag ps at b tag d le h = absurd (let w = tag in cc)
  production_there longest method_tag ps at b tag d le h = absurd (let w = tag in cc)
  production_there longest r ps at b tag d le h = plain_productions_are_read ts (below ts) n (sound ts) (longest ts) r ps at b refl d le h

pub all_levels_are_read : AllLevelsAreRead
all_levels_are_read zero ts = (λ r at x h. absurd cc, λ r ps at b tag d le h. absurd (omega (arith, d)))
all_levels_are_read (suc n) ts =
    let sound : (us : List DocToken) → IsSound us (level n us) n = λ us. (all_levels_are_read n us).0 in
    let longest : (us : List DocToken) → ReadsProductions us (level n us) n = λ us. (all_levels_are_read n us).1 in
    (λ r at x h. production_is (level n) n sound ts r at x h, λ r ps at b tag d le h. production_there (level n) n sound ts longest r ps at b tag (omega (arith, d)) le h)
