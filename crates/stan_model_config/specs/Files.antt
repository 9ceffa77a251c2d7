-- What the files of a project say together, or why they are refused.
use Rattle.std.specs.Prelude.{ℕ, zero, suc, ◌++◌, ◌==◌, if◌then◌else◌, Bool, true, List, [], ◌∷◌, Option, Some, None, Result, Ok, Err, codes, length, map, take, unwrap_or}
use Rattle.std.specs.List.{list_any}
use Rattle.std.specs.FinMap as finite
use Rattle.stan_outside.specs.Contents.{Contents}
use Rattle.stan_model_neon.specs.declared.node.Node.{Node}
use Rattle.stan_paths.specs.Paths.{normal_path}
use Rattle.stan_model_config.specs.Faults.{Fault, file_fault, is_among, written}
use Rattle.stan_model_config.specs.Said.{Said, Content, Entry, nothing, content_of}

-- why a configuration is refused
pub data Stop : Type 0 where
  Missing : List ℕ → Stop
  BadNeon : List ℕ → ℕ → Stop
  BadConfig : List ℕ → List ℕ → Stop
  NoPaths : Stop

abbrev pub then_ok : {A B : Type 0} → Result A Stop → (A → Result B Stop) → Result B Stop
then_ok (Ok a) f = f a
then_ok (Err stop) f = Err stop

-- ---- one file

-- what a text is: its tree, or the line at which it has none
abbrev pub Neon : Type 0
Neon = List ℕ → Result Node ℕ

-- how many bytes of a file are looked at: one more than it may have
abbrev pub most_read : ℕ
most_read = 67108865

-- A file without a fault says something.
abbrev pub judged : List ℕ → Node → Fault → Result Content Stop
judged file node None = Ok (content_of file node)
judged file node (Some place) = Err (BadConfig file (written place))

-- A file is first no NEON, and then at fault at a key.
abbrev pub read_as : List ℕ → Result Node ℕ → Result Content Stop
read_as file (Err line) = Err (BadNeon file line)
read_as file (Ok node) = judged file node (file_fault file node)

-- the bytes of a file that are looked at
abbrev pub text_at : Contents → List ℕ → List ℕ
text_at contents file = take most_read (unwrap_or (finite.get contents file) [])

-- what a file says by itself, where a test tells which files are listed
abbrev pub content_at : Neon → Contents → (List ℕ → Bool) → List ℕ → Result Content Stop
content_at neon contents is_listed file = if is_listed file then read_as file (neon (text_at contents file)) else Err (Missing file)

-- ---- files together

abbrev pub or_else : {A : Type 0} → Option A → Option A → Option A
or_else None b = b
or_else (Some a) b = Some a

-- What a file says, over what its includes say: its own scalars win, and its own items come first.
abbrev pub over : Said → Said → Said
over own under = record {
  level = or_else own.level under.level;
  paths = own.paths ++ under.paths;
  exclude = own.exclude ++ under.exclude;
  scan_files = own.scan_files ++ under.scan_files;
  scan_directories = own.scan_directories ++ under.scan_directories;
  ignore = own.ignore ++ under.ignore;
  report = or_else own.report under.report;
}

-- What earlier includes say, and what a later one says: a later scalar wins, and earlier items come first.
abbrev pub beside : Said → Said → Said
beside first later = record {
  level = or_else later.level first.level;
  paths = first.paths ++ later.paths;
  exclude = first.exclude ++ later.exclude;
  scan_files = first.scan_files ++ later.scan_files;
  scan_directories = first.scan_directories ++ later.scan_directories;
  ignore = first.ignore ++ later.ignore;
  report = or_else later.report first.report;
}

-- What files say together, and which files were read up to there.
pub record Found : Type 0 where
  pub said : Said
  pub read : List (List ℕ)

-- what a file says with its includes, behind files that were read before
abbrev pub Reader : Type 0
Reader = List (List ℕ) → List ℕ → Result Found Stop

abbrev pub found_beside : Said → Found → Found
found_beside earlier first = record { said = beside earlier first.said; read = first.read }

abbrev pub found_over : Said → Found → Found
found_over own under = record { said = over own under.said; read = under.read }

-- Includes in their order, behind what was found. One that was read before isn't read again.
abbrev pub each_include : Reader → Found → List (List ℕ) → Result Found Stop
each_include reader found [] = Ok found
each_include reader found (file ∷ files) =
    if is_among found.read file then each_include reader found files
    else then_ok (reader found.read file) (λ first. each_include reader (found_beside found.said first) files)

-- a file that was read
abbrev pub begun : List (List ℕ) → List ℕ → List (List ℕ)
begun read file = read ++ file ∷ []

-- A file to which as many includes led as may be includes nothing.
abbrev pub alone : List (List ℕ) → List ℕ → Content → Result Found Stop
alone read file content = if length content.includes == 0 then Ok (record { said = content.said; read = begun read file }) else Err (BadConfig file (codes "includes"))

-- A file includes neither itself nor a file on the chain of includes that led to it. What it includes is read behind it.
abbrev pub with_includes : Reader → List (List ℕ) → List (List ℕ) → List ℕ → Content → Result Found Stop
with_includes reader chain read file content =
    if list_any (λ include. is_among chain include) content.includes then Err (BadConfig file (codes "includes"))
    else then_ok (each_include reader (record { said = nothing; read = begun read file }) content.includes) (λ under. Ok (found_over content.said under))

-- A file at the end of a chain on which so many includes more may stand: first by itself, then its includes.
abbrev pub found_at : (List ℕ → Result Content Stop) → ℕ → List (List ℕ) → Reader
found_at contents zero chain read file = then_ok (contents file) (alone read file)
found_at contents (suc left) chain read file = then_ok (contents file) (with_includes (found_at contents left (chain ++ file ∷ [])) (chain ++ file ∷ []) read file)

-- ---- the project

-- the most includes on a chain
abbrev pub most_includes : ℕ
most_includes = 64

-- what the words ask for, as far as it concerns the configuration
pub record Asked : Type 0 where
  pub configuration : Option (List ℕ)
  pub level : Option ℕ
  pub paths : List (List ℕ)

abbrev pub first_listed : (List ℕ → Bool) → List (List ℕ) → Option (List ℕ)
first_listed is_listed [] = None
first_listed is_listed (name ∷ names) = if is_listed name then Some name else first_listed is_listed names

abbrev pub default_names : List (List ℕ)
default_names = codes "phpstan.neon" ∷ codes "phpstan.neon.dist" ∷ codes "phpstan.dist.neon" ∷ []

-- the file that is read: the one that the words name, else the first of three names that is listed
abbrev pub root_of : (List ℕ → Bool) → Option (List ℕ) → Option (List ℕ)
root_of is_listed (Some path) = Some (normal_path path)
root_of is_listed None = first_listed is_listed default_names

abbrev pub said_from : (List ℕ → Result Content Stop) → Option (List ℕ) → Result Said Stop
said_from contents None = Ok nothing
said_from contents (Some file) = then_ok (found_at contents most_includes [] [] file) (λ found. Ok found.said)

-- a configuration
pub record Meaning : Type 0 where
  pub level : ℕ
  pub paths : List (List ℕ)
  pub exclude : List (List ℕ)
  pub scan_files : List (List ℕ)
  pub scan_directories : List (List ℕ)
  pub ignore : List Entry
  pub report : Bool

-- The words' paths take the place of those of the files.
abbrev pub chosen_paths : List (List ℕ) → List (List ℕ) → List (List ℕ)
chosen_paths asked said = if length asked == 0 then said else map normal_path asked

abbrev pub meaning : Asked → Said → Meaning
meaning asked said = record {
  level = unwrap_or (or_else asked.level said.level) 0;
  paths = chosen_paths asked.paths said.paths;
  exclude = said.exclude;
  scan_files = said.scan_files;
  scan_directories = said.scan_directories;
  ignore = said.ignore;
  report = unwrap_or said.report true;
}

abbrev pub with_paths : Meaning → Result Meaning Stop
with_paths meant = if length meant.paths == 0 then Err NoPaths else Ok meant

abbrev pub configured : (List ℕ → Result Content Stop) → (List ℕ → Bool) → Asked → Result Meaning Stop
configured contents is_listed asked = then_ok (said_from contents (root_of is_listed asked.configuration)) (λ said. with_paths (meaning asked said))

-- What a project's configuration means under some words, or why it is refused.
abbrev pub configuration : Neon → Contents → List (List ℕ) → Asked → Result Meaning Stop
configuration neon contents listed asked = configured (content_at neon contents (is_among listed)) (is_among listed) asked
