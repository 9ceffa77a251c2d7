-- Faults of the facts of a file: found statement by statement, they are those of all facts.
use Rattle.std.proofs.Common.{◌≡◌, ℕ, List, [], ◌∷◌, ◌++◌, refl, ap, ap₂, sym, ◌∙◌}
use Rattle.std.proofs.lemmas.Grind.{flat_map-append}
use Rattle.std.specs.List.{flat_map}
use Rattle.stan_model_facts.specs.Facts.{fact_of_found, facts_of_statement, facts_of}
use Rattle.stan_model_names.specs.Resolve.{Scope}
use Rattle.stan_model_statements.specs.Trees.{Statement, Top, Namespace, NamespaceBlock, Use, UseGroup, Plain, Tops, no_top, top}
use Rattle.stan_model_table.specs.Table.{Exported}
use Rattle.stan_model_verdict.specs.Faults.{faults_of_fact}
use Rattle.stan_model_walk.specs.Findings.{findings}
use Rattle.stan_model_walk.specs.Scopes.{outside, block_scope, behind, in_top, in_tops}
use Rattle.stan_analyse.specs.Faults.{faults_of_tops}

flat_twice : {A B C : Type 0} (f : B → List C) (g : A → List B) (xs : List A) → flat_map f (flat_map g xs) ≡ flat_map (λ x. flat_map f (g x)) xs
flat_twice f g [] = refl
flat_twice f g (x ∷ xs) = flat_map-append f (g x) (flat_map g xs) ∙ ap (λ rest. flat_map f (g x) ++ rest) (flat_twice f g xs)

module _ {A B : Type 0} (f : A → List B) (of : Scope → Statement → List A) (source : List ℕ) where
  mutual
    top_flat : (x : Top) (scope : Scope) → flat_map f (in_top of source scope x) ≡ in_top (λ sc s. flat_map f (of sc s)) source scope x
    top_flat (Namespace t name end) scope = refl
    top_flat (NamespaceBlock t name xs) scope = tops_flat xs (block_scope source scope name)
    top_flat (Use t kind us end) scope = refl
    top_flat (UseGroup t kind name us comma end) scope = refl
    top_flat (Plain s) scope = refl

    pub tops_flat : (xs : Tops) (scope : Scope) → flat_map f (in_tops of source scope xs) ≡ in_tops (λ sc s. flat_map f (of sc s)) source scope xs
    tops_flat no_top scope = refl
    tops_flat (top x xs) scope =
        flat_map-append f (in_top of source scope x) (in_tops of source (behind source scope x) xs)
        ∙ ap₂ (λ ys zs. ys ++ zs) (top_flat x scope) (tops_flat xs (behind source scope x))

pub faults_of_facts : (table : List Exported) (source : List ℕ) (xs : Tops) → faults_of_tops table source xs ≡ flat_map (faults_of_fact table) (facts_of source xs)
faults_of_facts table source xs =
    sym
    (tops_flat (faults_of_fact table) (facts_of_statement source) source xs outside
    ∙ ap (λ (of : Scope → Statement → List _). in_tops of source outside xs) (λ i scope s. flat_twice (faults_of_fact table) (fact_of_found source scope) (findings s) i))
