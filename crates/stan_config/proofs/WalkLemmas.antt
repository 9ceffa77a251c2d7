-- A file and its includes, step by step.
use Rattle.std.proofs.Common.{◌≡◌, ◌∙◌, ℕ, zero, suc, true, false, List, [], ◌∷◌, ◌++◌, Result, Ok, Err, ap, arith}
use Rattle.std.specs.Prelude.{codes}
use Rattle.std.specs.List.{list_any}
use Rattle.std.proofs.lemmas.Bool.{cond-true, cond-false}
use Rattle.stan_model_config.specs.Faults.{is_among}
use Rattle.stan_model_config.specs.Said.{Content, nothing}
use Rattle.stan_model_config.specs.Files.{Stop, BadConfig, Found, Reader, then_ok, found_at, each_include, found_beside, found_over, alone, with_includes, begun}

-- ---- what stands in a file

-- A file that stops by itself stops with its includes.
pub found_err : (contents : List ℕ → Result Content Stop) (left : ℕ) (chain read : List (List ℕ)) (file : List ℕ) (stop : Stop) → contents file ≡ Err stop → found_at contents left chain read file ≡ Err stop
found_err contents zero chain read file stop e = ap (λ r. then_ok r (alone read file)) e
found_err contents (suc left) chain read file stop e = ap (λ r. then_ok r (with_includes (found_at contents left (chain ++ file ∷ [])) (chain ++ file ∷ []) read file)) e

pub found_alone : (contents : List ℕ → Result Content Stop) (left : ℕ) (chain read : List (List ℕ)) (file : List ℕ) (content : Content) → left ≡ 0 → contents file ≡ Ok content → found_at contents left chain read file ≡ alone read file content
found_alone contents zero chain read file content z e = ap (λ r. then_ok r (alone read file)) e
found_alone contents (suc left) chain read file content z e = absurd (omega arith)

pub found_with : (contents : List ℕ → Result Content Stop) (left less : ℕ) (chain read : List (List ℕ)) (file : List ℕ) (content : Content) → left ≡ suc less → contents file ≡ Ok content
    → found_at contents left chain read file ≡ with_includes (found_at contents less (chain ++ file ∷ [])) (chain ++ file ∷ []) read file content
found_with contents left less chain read file content s e =
    ap (λ n. found_at contents n chain read file) s
    ∙ ap (λ r. then_ok r (with_includes (found_at contents less (chain ++ file ∷ [])) (chain ++ file ∷ []) read file)) e

-- ---- what follows from its includes

pub refused_includes : (reader : Reader) (chain read : List (List ℕ)) (file : List ℕ) (content : Content) → list_any (λ include. is_among chain include) content.includes ≡ true → with_includes reader chain read file content ≡ Err (BadConfig file (codes "includes"))
refused_includes reader chain read file content back = cond-true (list_any (λ include. is_among chain include) content.includes) _ _ back

pub good_includes : (reader : Reader) (chain read : List (List ℕ)) (file : List ℕ) (content : Content) (answer : Result Found Stop) → list_any (λ include. is_among chain include) content.includes ≡ false
    → each_include reader (record { said = nothing; read = begun read file }) content.includes ≡ answer → with_includes reader chain read file content ≡ then_ok answer (λ under. Ok (found_over content.said under))
good_includes reader chain read file content answer none e =
    cond-false (list_any (λ include. is_among chain include) content.includes) _ _ none ∙ ap (λ r. then_ok r (λ under. Ok (found_over content.said under))) e

-- ---- the includes, one by one

pub read_before : (reader : Reader) (found : Found) (file : List ℕ) (files : List (List ℕ)) → is_among found.read file ≡ true → each_include reader found (file ∷ files) ≡ each_include reader found files
read_before reader found file files is_in = cond-true (is_among found.read file) _ _ is_in

pub read_now : (reader : Reader) (found : Found) (file : List ℕ) (files : List (List ℕ)) (answer : Result Found Stop) → is_among found.read file ≡ false → reader found.read file ≡ answer
    → each_include reader found (file ∷ files) ≡ then_ok answer (λ first. each_include reader (found_beside found.said first) files)
read_now reader found file files answer not_in e =
    cond-false (is_among found.read file) _ _ not_in ∙ ap (λ r. then_ok r (λ first. each_include reader (found_beside found.said first) files)) e
