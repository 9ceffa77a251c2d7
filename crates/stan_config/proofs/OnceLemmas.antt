-- No file is read twice.
use Rattle.std.proofs.Common.{◌≡◌, ◌≢◌, ◌∙◌, ℕ, zero, suc, ◌<◌, Bool, true, false, List, [], ◌∷◌, ◌++◌, Option, None, Some, Result, Ok, Err, length, get_or, if◌then◌else◌, refl, sym, ap, arith}
use Rattle.std.specs.Prelude.{◌||◌}
use Rattle.std.specs.List.{AllPairs, list_any}
use Rattle.std.specs.Str.{bytes_eq}
use Rattle.std.proofs.lemmas.Bool.{false≢true}
use Rattle.std.proofs.lemmas.Slice.Eq.{bytes_eq-Decides}
use Rattle.std.proofs.lemmas.List.Quantifiers.{all_pairs_push}
use Rattle.stan_outside.specs.Contents.{Contents}
use Rattle.stan_model_config.specs.Faults.{is_among}
use Rattle.stan_model_config.specs.Said.{Content}
use Rattle.stan_model_config.specs.Files.{Neon, Stop, Missing, BadNeon, BadConfig, NoPaths, Asked, Reader, begun, content_at, found_at, most_includes, root_of}
use Rattle.stan_config.specs.Reads.{Reading, read_alone, if_ok, read_each, read_with, read_at, read_from, files_read}

abbrev AreDistinct : List (List ℕ) → Type 0
AreDistinct = AllPairs (λ x y. x ≢ y)

or_true : (a b : Bool) → b ≡ true → (a || b) ≡ true
or_true true b e = refl
or_true false b e = e

among_at : (files : List (List ℕ)) (place : ℕ) (default file : List ℕ) → place < length files → get_or files place default ≡ file → is_among files file ≡ true
among_at [] place default file lt e = absurd (omega arith)
among_at (first ∷ files) zero default file lt e = ap (λ b. b || is_among files file) ((bytes_eq-Decides first file).1 e)
among_at (first ∷ files) (suc place) default file lt e = or_true (bytes_eq first file) (is_among files file) (among_at files place default file (omega arith) e)

begun_once : (read : List (List ℕ)) (file : List ℕ) → is_among read file ≡ false → AreDistinct read → AreDistinct (begun read file)
begun_once read file not_in once = all_pairs_push (λ x y. x ≢ y) read file once (λ k d lt e. false≢true (sym not_in ∙ among_at read k d file lt e))

read_alone_once : (said : Result Content Stop) (read : List (List ℕ)) (file : List ℕ) → is_among read file ≡ false → AreDistinct read → AreDistinct (read_alone said read file)
read_alone_once (Ok content) read file not_in once = begun_once read file not_in once
read_alone_once (Err (Missing path)) read file not_in once = once
read_alone_once (Err (BadNeon path line)) read file not_in once = begun_once read file not_in once
read_alone_once (Err (BadConfig path key)) read file not_in once = begun_once read file not_in once
read_alone_once (Err NoPaths) read file not_in once = begun_once read file not_in once

module _ (reader : Reader) (reading : Reading) (keeps : (read : List (List ℕ)) (file : List ℕ) → is_among read file ≡ false → AreDistinct read → AreDistinct (reading read file)) where
  read_each_once : (read files : List (List ℕ)) → AreDistinct read → AreDistinct (read_each reader reading read files)
  read_each_once read [] once = once
  read_each_once read (file ∷ files) once =
      elim (is_among read file) as (λ b. is_among read file ≡ b → AreDistinct (if b then read_each reader reading read files else if_ok (reader read file) (read_each reader reading (reading read file) files) (reading read file))) [
        | true ↦ λ e. read_each_once read files once
        | false ↦ λ e. elim (reader read file) as (λ answer. AreDistinct (if_ok answer (read_each reader reading (reading read file) files) (reading read file))) [
          | Ok found ↦ read_each_once (reading read file) files (keeps read file e once)
          | Err stop ↦ keeps read file e once
        ]
      ] refl

  read_with_once : (chain : List (List ℕ)) (said : Result Content Stop) (read : List (List ℕ)) (file : List ℕ) → is_among read file ≡ false → AreDistinct read → AreDistinct (read_with reader reading chain said read file)
  read_with_once chain (Err stop) read file not_in once = read_alone_once (Err stop) read file not_in once
  read_with_once chain (Ok content) read file not_in once =
      elim (list_any (λ include. is_among chain include) content.includes) as (λ b. AreDistinct (if b then begun read file else read_each reader reading (begun read file) content.includes)) [
        | true ↦ begun_once read file not_in once
        | false ↦ read_each_once (begun read file) content.includes (begun_once read file not_in once)
      ]

read_at_once : (contents : List ℕ → Result Content Stop) (left : ℕ) (chain read : List (List ℕ)) (file : List ℕ) → is_among read file ≡ false → AreDistinct read → AreDistinct (read_at contents left chain read file)
read_at_once contents zero chain read file not_in once = read_alone_once (contents file) read file not_in once
read_at_once contents (suc left) chain read file not_in once =
    read_with_once (found_at contents left (chain ++ file ∷ [])) (read_at contents left (chain ++ file ∷ [])) (read_at_once contents left (chain ++ file ∷ [])) (chain ++ file ∷ []) (contents file) read file not_in once

none_twice : AreDistinct []
none_twice i j d lt below = absurd (omega arith)

read_from_once : (contents : List ℕ → Result Content Stop) (root : Option (List ℕ)) → AreDistinct (read_from contents root)
read_from_once contents None = none_twice
read_from_once contents (Some file) = read_at_once contents most_includes [] [] file refl none_twice

pub no_file_twice : (neon : Neon) (contents : Contents) (listed : List (List ℕ)) (words : Asked) → AllPairs (λ x y. x ≢ y) (files_read neon contents listed words)
no_file_twice neon contents listed words = read_from_once (content_at neon contents (is_among listed)) (root_of (is_among listed) words.configuration)
