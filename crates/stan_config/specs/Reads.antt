-- Which files are read for a configuration, and how often the folder is asked for one.
use Rattle.std.specs.Prelude.{◌≡◌, ◌≤◌, ◌+◌, ℕ, zero, suc, ◌++◌, if◌then◌else◌, List, [], ◌∷◌, Option, Some, None, Result, Ok, Err}
use Rattle.std.specs.List.{list_any}
use Rattle.stan_outside.specs.Contents.{Contents}
use Rattle.stan_outside.specs.Outside.{RoseBy}
use Rattle.stan_model_config.specs.Said.{Content}
use Rattle.stan_model_config.specs.Faults.{is_among}
use Rattle.stan_model_config.specs.Files.{Neon, Stop, Missing, BadNeon, BadConfig, NoPaths, Asked, Found, Reader, begun, content_at, found_at, most_includes, root_of}

-- ---- which files are read, behind files that were read before

abbrev pub Reading : Type 0
Reading = List (List ℕ) → List ℕ → List (List ℕ)

-- one file by itself: it is read unless it isn't listed
abbrev pub read_alone : Result Content Stop → Reading
read_alone (Ok content) read file = begun read file
read_alone (Err (Missing path)) read file = read
read_alone (Err (BadNeon path line)) read file = begun read file
read_alone (Err (BadConfig path key)) read file = begun read file
read_alone (Err NoPaths) read file = begun read file

abbrev pub if_ok : {A : Type 0} → Result Found Stop → A → A → A
if_ok (Ok found) a b = a
if_ok (Err stop) a b = b

-- Includes in their order. Nothing is read behind one that is refused.
abbrev pub read_each : Reader → Reading → List (List ℕ) → List (List ℕ) → List (List ℕ)
read_each reader reading read [] = read
read_each reader reading read (file ∷ files) =
    if is_among read file then read_each reader reading read files
    else if_ok (reader read file) (read_each reader reading (reading read file) files) (reading read file)

-- a file and its includes, unless one of them is on the chain that led there
abbrev pub read_with : Reader → Reading → List (List ℕ) → Result Content Stop → Reading
read_with reader reading chain (Err stop) read file = read_alone (Err stop) read file
read_with reader reading chain (Ok content) read file =
    if list_any (λ include. is_among chain include) content.includes then begun read file else read_each reader reading (begun read file) content.includes

-- a file at the end of a chain on which so many includes more may stand, and what is read behind it
abbrev pub read_at : (List ℕ → Result Content Stop) → ℕ → List (List ℕ) → Reading
read_at contents zero chain read file = read_alone (contents file) read file
read_at contents (suc left) chain read file = read_with (found_at contents left (chain ++ file ∷ [])) (read_at contents left (chain ++ file ∷ [])) (chain ++ file ∷ []) (contents file) read file

abbrev pub read_from : (List ℕ → Result Content Stop) → Option (List ℕ) → List (List ℕ)
read_from contents None = []
read_from contents (Some file) = read_at contents most_includes [] [] file

-- The files of which a configuration is made, in the order in which they are read. Where it is refused, those up to the one at which it is.
abbrev pub files_read : Neon → Contents → List (List ℕ) → Asked → List (List ℕ)
files_read neon contents listed words = read_from (content_at neon contents (is_among listed)) (root_of (is_among listed) words.configuration)

-- ---- how often a file was read

-- a count rose by a number that is no greater than another
abbrev pub RoseAtMost : ℕ → ℕ → ℕ → Type 0
RoseAtMost most old new = (number : ℕ) × (number ≤ most) × RoseBy number old new

-- a file was read for each that was added to a number of them
pub record ReadsAdded (before after old new : ℕ) : Type 0 where
  pub number : ℕ
  pub added : after ≡ before + number
  pub rose : RoseBy number old new

-- no more files were read than may be added to a number of them
pub record ReadsWithin (before most old new : ℕ) : Type 0 where
  pub number : ℕ
  pub within : before + number ≤ most
  pub rose : RoseBy number old new
