-- Which files are read, and how many.
use Rattle.std.proofs.Common.{◌≡◌, ◌∙◌, ℕ, zero, suc, ◌+◌, ◌≤◌, ◌==◌, Bool, true, false, List, [], ◌∷◌, ◌++◌, Some, None, Result, Ok, Err, length, if◌then◌else◌, refl, ap, arith, length-append}
use Rattle.std.specs.Prelude.{codes}
use Rattle.std.specs.List.{list_any}
use Rattle.stan_outside.specs.Contents.{Contents}
use Rattle.stan_outside.specs.Outside.{RoseBy}
use Rattle.stan_model_neon.specs.declared.node.Node.{Node}
use Rattle.stan_model_config.specs.Faults.{Fault, file_fault, is_among}
use Rattle.stan_model_config.specs.Said.{Content, nothing}
use Rattle.stan_model_config.specs.Files.{Neon, Stop, Missing, BadNeon, BadConfig, NoPaths, Found, Reader, then_ok, judged, read_as, text_at, content_at, found_at, each_include, found_beside, found_over, alone, with_includes, begun}
use Rattle.stan_config.specs.Reads.{Reading, read_alone, if_ok, read_each, read_with, read_at, RoseAtMost, ReadsAdded, ReadsWithin}

-- ---- counts

pub added_then : (a b c x y z : ℕ) → ReadsAdded a b x y → ReadsAdded b c y z → ReadsAdded a c x z
added_then a b c x y z p q = record {
  number = p.number + q.number;
  added = omega (arith, p.added, q.added);
  rose = omega (arith, p.rose, q.rose);
}

pub within_then : (a b most more x y z : ℕ) → ReadsAdded a b x y → ReadsWithin b most y z → most ≤ more → ReadsWithin a more x z
within_then a b most more x y z p q le = record {
  number = p.number + q.number;
  within = omega (arith, p.added, q.within);
  rose = omega (arith, p.rose, q.rose);
}

pub within_from : (a b most x y : ℕ) → ReadsAdded a b x y → b ≤ most → ReadsWithin a most x y
within_from a b most x y p le = record {
  number = p.number;
  within = omega (arith, p.added);
  rose = p.rose;
}

pub length_begun : (read : List (List ℕ)) (file : List ℕ) → length (begun read file) ≡ length read + 1
length_begun read file = length-append read (file ∷ []) ∙ omega arith

pub one_read : (read after : List (List ℕ)) (file : List ℕ) (x y : ℕ) → after ≡ begun read file → RoseBy 1 x y → ReadsAdded (length read) (length after) x y
one_read read after file x y e rose = record {
  number = 1;
  added = ap length e ∙ length_begun read file;
  rose = rose;
}

-- ---- what was found was read

abbrev answered : Found → Result Found Stop
answered found = Ok found

is_found : (a b : Found) → answered a ≡ answered b → a.read ≡ b.read
is_found a b e = let same : a ≡ b = cc in ap (λ found. found.read) same

found_alone : (content : Content) (read : List (List ℕ)) (file : List ℕ) (found : Found) → alone read file content ≡ Ok found → begun read file ≡ found.read
found_alone content read file found =
    elim (length content.includes == 0) as (λ b. (if b then Ok (record { said = content.said; read = begun read file }) else Err (BadConfig file (codes "includes"))) ≡ Ok found → begun read file ≡ found.read) [
      | true ↦ λ e. is_found (record { said = content.said; read = begun read file }) found e
      | false ↦ λ e. absurd (cc)
    ]

read_alone_found : (said : Result Content Stop) (read : List (List ℕ)) (file : List ℕ) (found : Found) → then_ok said (alone read file) ≡ Ok found → read_alone said read file ≡ found.read
read_alone_found (Ok content) read file found e = found_alone content read file found e
read_alone_found (Err stop) read file found e = absurd (cc)

-- readings that read what their readers find
module _ (reader : Reader) (reading : Reading) (reads : (read : List (List ℕ)) (file : List ℕ) (found : Found) → reader read file ≡ Ok found → reading read file ≡ found.read) where
  pub read_each_found : (start : Found) (files : List (List ℕ)) (found : Found) → each_include reader start files ≡ Ok found → read_each reader reading start.read files ≡ found.read
  read_each_found start [] found e = is_found start found e
  read_each_found start (file ∷ files) found e =
      elim (is_among start.read file) as (λ b.
      (if b then each_include reader start files else then_ok (reader start.read file) (λ first. each_include reader (found_beside start.said first) files)) ≡ Ok found
      → (if b then read_each reader reading start.read files else if_ok (reader start.read file) (read_each reader reading (reading start.read file) files) (reading start.read file)) ≡ found.read) [
        | true ↦ λ h. read_each_found start files found h
        | false ↦ λ h. step (λ first e. read_each_found (found_beside start.said first) files found e) (reader start.read file) refl h
      ] e
    where
      step : ((first : Found) → each_include reader (found_beside start.said first) files ≡ Ok found → read_each reader reading first.read files ≡ found.read)
          → (answer : Result Found Stop) → reader start.read file ≡ answer → then_ok answer (λ first. each_include reader (found_beside start.said first) files) ≡ Ok found
          → if_ok answer (read_each reader reading (reading start.read file) files) (reading start.read file) ≡ found.read
      step next (Ok first) is h = ap (λ read. read_each reader reading read files) (reads start.read file first is) ∙ next first h
      step next (Err stop) is h = absurd (cc)

  read_with_found : (chain : List (List ℕ)) (said : Result Content Stop) (read : List (List ℕ)) (file : List ℕ) (found : Found) → then_ok said (with_includes reader chain read file) ≡ Ok found → read_with reader reading chain said read file ≡ found.read
  read_with_found chain (Err stop) read file found e = absurd (cc)
  read_with_found chain (Ok content) read file found e =
      elim (list_any (λ include. is_among chain include) content.includes) as (λ b.
      (if b then Err (BadConfig file (codes "includes")) else then_ok (each_include reader (record { said = nothing; read = begun read file }) content.includes) (λ under. Ok (found_over content.said under))) ≡ Ok found
      → (if b then begun read file else read_each reader reading (begun read file) content.includes) ≡ found.read) [
        | true ↦ λ h. absurd (cc)
        | false ↦ λ h. under_is (each_include reader (record { said = nothing; read = begun read file }) content.includes) refl h
      ] e
    where
      under_is : (answer : Result Found Stop) → each_include reader (record { said = nothing; read = begun read file }) content.includes ≡ answer → then_ok answer (λ under. Ok (found_over content.said under)) ≡ Ok found
          → read_each reader reading (begun read file) content.includes ≡ found.read
      under_is (Ok under) is h = read_each_found (record { said = nothing; read = begun read file }) content.includes under is ∙ is_found (found_over content.said under) found h
      under_is (Err stop) is h = absurd (cc)

-- a file that is not refused, with its includes
pub read_at_found : (contents : List ℕ → Result Content Stop) (left : ℕ) (chain read : List (List ℕ)) (file : List ℕ) (found : Found) → found_at contents left chain read file ≡ Ok found → read_at contents left chain read file ≡ found.read
read_at_found contents zero chain read file found e = read_alone_found (contents file) read file found e
read_at_found contents (suc left) chain read file found e =
    read_with_found (found_at contents left (chain ++ file ∷ [])) (read_at contents left (chain ++ file ∷ [])) (read_at_found contents left (chain ++ file ∷ [])) (chain ++ file ∷ []) (contents file) read file found e

-- ---- what was read stays read

read_alone_keeps : (said : Result Content Stop) (read : List (List ℕ)) (file : List ℕ) → length read ≤ length (read_alone said read file)
read_alone_keeps (Ok content) read file = omega (arith, length_begun read file)
read_alone_keeps (Err (Missing path)) read file = omega arith
read_alone_keeps (Err (BadNeon path line)) read file = omega (arith, length_begun read file)
read_alone_keeps (Err (BadConfig path key)) read file = omega (arith, length_begun read file)
read_alone_keeps (Err NoPaths) read file = omega (arith, length_begun read file)

module _ (reader : Reader) (reading : Reading) (keeps : (read : List (List ℕ)) (file : List ℕ) → length read ≤ length (reading read file)) where
  pub read_each_keeps : (read files : List (List ℕ)) → length read ≤ length (read_each reader reading read files)
  read_each_keeps read [] = omega arith
  read_each_keeps read (file ∷ files) =
      elim (is_among read file) as (λ b. length read ≤ length (if b then read_each reader reading read files else if_ok (reader read file) (read_each reader reading (reading read file) files) (reading read file))) [
        | true ↦ read_each_keeps read files
        | false ↦ elim (reader read file) as (λ answer. length read ≤ length (if_ok answer (read_each reader reading (reading read file) files) (reading read file))) [
          | Ok found ↦ let more = keeps read file in omega (arith, read_each_keeps (reading read file) files)
          | Err stop ↦ keeps read file
        ]
      ]

  -- of some includes the first is read at least
  pub first_include : (read : List (List ℕ)) (file : List ℕ) (files : List (List ℕ)) → is_among read file ≡ false → length (reading read file) ≤ length (read_each reader reading read (file ∷ files))
  first_include read file files not_in =
      rw not_in (elim (reader read file) as (λ answer. length (reading read file) ≤ length (if_ok answer (read_each reader reading (reading read file) files) (reading read file))) [
        | Ok found ↦ read_each_keeps (reading read file) files
        | Err stop ↦ omega arith
      ])

  -- of a file and its includes the file is read at least, if it is read by itself
  read_with_first : (chain : List (List ℕ)) (said : Result Content Stop) (read : List (List ℕ)) (file : List ℕ) → length (read_alone said read file) ≤ length (read_with reader reading chain said read file)
  read_with_first chain (Err stop) read file = omega arith
  read_with_first chain (Ok content) read file =
      elim (list_any (λ include. is_among chain include) content.includes) as (λ b. length (begun read file) ≤ length (if b then begun read file else read_each reader reading (begun read file) content.includes)) [
        | true ↦ omega arith
        | false ↦ read_each_keeps (begun read file) content.includes
      ]

mutual_keeps : (contents : List ℕ → Result Content Stop) (left : ℕ) (chain read : List (List ℕ)) (file : List ℕ) → length read ≤ length (read_at contents left chain read file)
mutual_keeps contents zero chain read file = read_alone_keeps (contents file) read file
mutual_keeps contents (suc left) chain read file =
    let alone = read_alone_keeps (contents file) read file in
    omega (arith, read_with_first (found_at contents left (chain ++ file ∷ [])) (read_at contents left (chain ++ file ∷ [])) (mutual_keeps contents left (chain ++ file ∷ [])) (chain ++ file ∷ []) (contents file) read file)

pub read_at_keeps : (contents : List ℕ → Result Content Stop) (left : ℕ) (chain read : List (List ℕ)) (file : List ℕ) → length read ≤ length (read_at contents left chain read file)
read_at_keeps = mutual_keeps

pub read_at_first : (contents : List ℕ → Result Content Stop) (left : ℕ) (chain read : List (List ℕ)) (file : List ℕ) → length (read_alone (contents file) read file) ≤ length (read_at contents left chain read file)
read_at_first contents zero chain read file = omega arith
read_at_first contents (suc left) chain read file =
    read_with_first (found_at contents left (chain ++ file ∷ [])) (read_at contents left (chain ++ file ∷ [])) (read_at_keeps contents left (chain ++ file ∷ [])) (chain ++ file ∷ []) (contents file) read file

-- ---- one file, as the folder is asked for it

judged_read : (file : List ℕ) (node : Node) (fault : Fault) (read : List (List ℕ)) → read_alone (judged file node fault) read file ≡ begun read file
judged_read file node None read = refl
judged_read file node (Some place) read = refl

read_as_read : (file : List ℕ) (answer : Result Node ℕ) (read : List (List ℕ)) → read_alone (read_as file answer) read file ≡ begun read file
read_as_read file (Ok node) read = judged_read file node (file_fault file node) read
read_as_read file (Err line) read = refl

module _ (contents : Contents) (is_listed : List ℕ → Bool) (left : ℕ) (chain read : List (List ℕ)) (file : List ℕ) (neon : Neon) where
  -- A file that isn't listed isn't asked for, and any other once at most.
  pub file_within : (x y : ℕ) → RoseAtMost (if is_listed file then 1 else 0) x y → ReadsWithin (length read) (length (read_at (content_at neon contents is_listed) left chain read file)) x y
  file_within x y rose =
      record {
        number = rose.0;
        within = elim (is_listed file) as (λ b. is_listed file ≡ b → rose.0 ≤ (if b then 1 else 0) → length read + rose.0 ≤ length (read_at (content_at neon contents is_listed) left chain read file)) [
          | true ↦ λ e le. let first = read_at_first (content_at neon contents is_listed) left chain read file in
              let there : read_alone (content_at neon contents is_listed file) read file ≡ begun read file =
              ap (λ b. read_alone (if b then read_as file (neon (text_at contents file)) else Err (Missing file)) read file) e ∙ read_as_read file (neon (text_at contents file)) read in
              let more : length (read_alone (content_at neon contents is_listed file) read file) ≡ length read + 1 = ap length there ∙ length_begun read file in
              omega (arith, first, more)
          | false ↦ λ e le. omega (arith, read_at_keeps (content_at neon contents is_listed) left chain read file)
        ] refl rose.1;
        rose = rose.2;
      }
