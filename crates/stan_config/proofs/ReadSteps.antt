-- How many files are read for a file and its includes, from what is told of their parts.
use Rattle.std.proofs.Common.{◌≡◌, ◌∙◌, ℕ, suc, Bool, true, false, List, [], ◌∷◌, ◌++◌, Option, Some, Result, Ok, Err, length, sym, ap, subst, arith}
use Rattle.std.specs.Prelude.{IfOk}
use Rattle.std.specs.List.{list_any}
use Rattle.std.proofs.lemmas.Bool.{cond-true, cond-false}
use Rattle.stan_outside.specs.Contents.{Contents}
use Rattle.stan_outside.specs.Outside.{RoseBy}
use Rattle.stan_model_config.specs.Faults.{is_among}
use Rattle.stan_model_config.specs.Said.{Content}
use Rattle.stan_model_config.specs.Files.{Neon, Stop, Found, Asked, content_at, found_at, begun, most_includes, root_of}
use Rattle.stan_settings.specs.declared.Config.{Config}
use Rattle.stan_config_said.specs.declared.content.Said.{Said as CodeSaid}
use Rattle.stan_config_said.specs.Views.{said_view}
use Rattle.stan_config.specs.declared.stop.ConfigStop.{ConfigStop}
use Rattle.stan_config.specs.Neon.{IsNeon, IsMeant}
use Rattle.stan_config.specs.Reads.{if_ok, read_each, read_with, read_at, read_from, files_read, RoseAtMost, ReadsAdded, ReadsWithin}
use Rattle.stan_config.specs.Walk.{file_means, file_reads, include_reads}
use Rattle.stan_config.proofs.ReadLemmas.{within_then, within_from, one_read, read_at_found, read_at_keeps, first_include}

-- ---- a file with its includes

read_below : (contents : List ℕ → Result Content Stop) (left less : ℕ) (chain read : List (List ℕ)) (file : List ℕ) (content : Content) → left ≡ suc less → contents file ≡ Ok content
    → list_any (λ include. is_among (chain ++ file ∷ []) include) content.includes ≡ false
    → read_at contents left chain read file ≡ read_each (found_at contents less (chain ++ file ∷ [])) (read_at contents less (chain ++ file ∷ [])) (begun read file) content.includes
read_below contents left less chain read file content s e none =
    ap (λ n. read_at contents n chain read file) s
    ∙ ap (λ said. read_with (found_at contents less (chain ++ file ∷ [])) (read_at contents less (chain ++ file ∷ [])) (chain ++ file ∷ []) said read file) e
    ∙ cond-false (list_any (λ include. is_among (chain ++ file ∷ []) include) content.includes) _ _ none

module _ (contents : Contents) (is_listed : List ℕ → Bool) (left less : ℕ) (chain read longer : List (List ℕ)) (file : List ℕ) (neon : Neon) (content : Content)
    (by_file : content_at neon contents is_listed file ≡ Ok content) (is_more : left ≡ suc less) (is_longer : longer ≡ chain ++ file ∷ []) (none : list_any (λ include. is_among longer include) content.includes ≡ false)
    (mid : Contents) (same : mid ≡ contents) (after includes : List (List ℕ)) (is_after : after ≡ begun read file) (are : includes ≡ content.includes) where
  pub behind_file : (x y z : ℕ) → RoseBy 1 x y → ReadsWithin (length after) (length (include_reads mid is_listed less longer after includes neon)) y z → ReadsWithin (length read) (length (file_reads contents is_listed left chain read file neon)) x z
  behind_file x y z rose within =
      let opened : file_reads contents is_listed left chain read file neon ≡ include_reads mid is_listed less longer after includes neon =
      read_below (content_at neon contents is_listed) left less chain read file content is_more by_file (subst (λ l. list_any (λ include. is_among l include) content.includes ≡ false) is_longer none)
      ∙ (λ i. include_reads (sym same i) is_listed less (sym is_longer i) (sym is_after i) (sym are i) neon) in
      within_then (length read) (length after) (length (include_reads mid is_listed less longer after includes neon)) (length (file_reads contents is_listed left chain read file neon)) x y z
      (one_read read after file x y is_after rose) within (let e = ap length opened in omega (arith, e))

-- ---- includes, from what was read so far

module _ (contents : Contents) (is_listed : List ℕ → Bool) (left : ℕ) (chain start now includes rest files : List (List ℕ)) (file : List ℕ) (neon : Neon)
    (so_far : include_reads contents is_listed left chain start includes neon ≡ include_reads contents is_listed left chain now rest neon) where
  -- all of them
  pub all_included : rest ≡ [] → (x y : ℕ) → ReadsAdded (length start) (length now) x y → ReadsWithin (length start) (length (include_reads contents is_listed left chain start includes neon)) x y
  all_included e x y once =
      let same : include_reads contents is_listed left chain start includes neon ≡ now = so_far ∙ ap (λ r. include_reads contents is_listed left chain now r neon) e in
      within_from (length start) (length now) (length (include_reads contents is_listed left chain start includes neon)) x y once (let l = ap length same in omega (arith, l))

  module _ (is_rest : rest ≡ file ∷ files) where
    at_file : include_reads contents is_listed left chain start includes neon ≡ include_reads contents is_listed left chain now (file ∷ files) neon
    at_file = so_far ∙ ap (λ r. include_reads contents is_listed left chain now r neon) is_rest

    -- one that was read before
    pub read_before : is_among now file ≡ true → include_reads contents is_listed left chain start includes neon ≡ include_reads contents is_listed left chain now files neon
    read_before is_in = at_file ∙ cond-true (is_among now file) _ _ is_in

    module _ (not_in : is_among now file ≡ false) (mid : Contents) (same : mid ≡ contents) where
      -- one that is read now, and not refused
      pub read_next : (found : Found) → file_means mid is_listed left chain now file neon ≡ Ok found → include_reads contents is_listed left chain start includes neon ≡ include_reads contents is_listed left chain found.read files neon
      read_next found e =
          let here : found_at (content_at neon contents is_listed) left chain now file ≡ Ok found = (λ i. found_at (content_at neon (sym same i) is_listed) left chain now file) ∙ e in
          at_file
          ∙ cond-false (is_among now file) _ _ not_in
          ∙ ap (λ answer. if_ok answer (read_each (found_at (content_at neon contents is_listed) left chain) (read_at (content_at neon contents is_listed) left chain) (read_at (content_at neon contents is_listed) left chain now file) files)
          (read_at (content_at neon contents is_listed) left chain now file)) here
          ∙ ap (λ read. include_reads contents is_listed left chain read files neon) (read_at_found (content_at neon contents is_listed) left chain now file found here)

      -- one that is read now, whatever comes of it
      pub within_next : (x y z : ℕ) → ReadsAdded (length start) (length now) x y → ReadsWithin (length now) (length (file_reads mid is_listed left chain now file neon)) y z
          → ReadsWithin (length start) (length (include_reads contents is_listed left chain start includes neon)) x z
      within_next x y z once within =
          let first = first_include (found_at (content_at neon contents is_listed) left chain) (read_at (content_at neon contents is_listed) left chain) (read_at_keeps (content_at neon contents is_listed) left chain) now file files not_in in
          let all = ap length at_file in
          let here : length (file_reads mid is_listed left chain now file neon) ≡ length (file_reads contents is_listed left chain now file neon) = ap (λ c. length (file_reads c is_listed left chain now file neon)) same in
          within_then (length start) (length now) (length (file_reads mid is_listed left chain now file neon)) (length (include_reads contents is_listed left chain start includes neon)) x y z once within (omega (arith, first, all, here))

-- ---- from the root on

module _ (contents : Contents) (is_listed : List ℕ → Bool) (tells : Type 0) (chain read : List (List ℕ)) (file : List ℕ) (root : Option (List ℕ)) (is_chain : chain ≡ []) (is_read : read ≡ []) (is_root : root ≡ Some file) where
  root_reads : (neon : Neon) → read_from (content_at neon contents is_listed) root ≡ file_reads contents is_listed most_includes chain read file neon
  root_reads neon = ap (read_from (content_at neon contents is_listed)) is_root ∙ (λ i. read_at (content_at neon contents is_listed) most_includes (sym is_chain i) (sym is_read i) file)

  pub root_once : (last : List (List ℕ)) (x y : ℕ) (result : Result CodeSaid ConfigStop) → IfOk result (λ said. tells → IsMeant (file_means contents is_listed most_includes chain read file) (Ok (record { said = said_view said; read = last })))
      → IfOk result (λ said. ReadsAdded (length read) (length last) x y) → IfOk result (λ said. tells → (neon : Neon) → IsNeon neon → RoseBy (length (read_from (content_at neon contents is_listed) root)) x y)
  root_once last x y (Ok said) means added = λ told neon is.
      let all : length (read_from (content_at neon contents is_listed) root) ≡ length last =
      ap length (root_reads neon ∙ read_at_found (content_at neon contents is_listed) most_includes chain read file (record { said = said_view said; read = last }) (means told neon is)) in
      let none : length read ≡ 0 = ap length is_read in
      let number : added.number ≡ length (read_from (content_at neon contents is_listed) root) = omega (arith, added.added) in
      subst (λ n. RoseBy n x y) number added.rose
  root_once last x y (Err stop) means added = tt

  pub root_at_most : (x y : ℕ) → (tells → (neon : Neon) → IsNeon neon → ReadsWithin (length read) (length (file_reads contents is_listed most_includes chain read file neon)) x y)
      → tells → (neon : Neon) → IsNeon neon → RoseAtMost (length (read_from (content_at neon contents is_listed) root)) x y
  root_at_most x y within told neon is =
      let all = ap length (root_reads neon) in
      let most = within told neon is in
      (most.number, omega (arith, most.within, all), most.rose)

-- ---- the configuration

module _ (contents : Contents) (listed : List (List ℕ)) (is_listed : List ℕ → Bool) (are : (text : List ℕ) → is_listed text ≡ is_among listed text) (words : Asked) (root : Option (List ℕ)) (is_root : root ≡ root_of is_listed words.configuration) (tells : Type 0) (x y : ℕ) where
  files_are : (neon : Neon) → read_from (content_at neon contents is_listed) root ≡ files_read neon contents listed words
  files_are neon =
      ap (read_from (content_at neon contents is_listed)) is_root
      ∙ (λ i. read_from (content_at neon contents (λ text. are text i)) (root_of (λ text. are text i) words.configuration))

  pub all_once : (tells → (neon : Neon) → IsNeon neon → RoseBy (length (read_from (content_at neon contents is_listed) root)) x y)
      → (result : Result Config ConfigStop) → IfOk result (λ config. tells → (neon : Neon) → IsNeon neon → RoseBy (length (files_read neon contents listed words)) x y)
  all_once once (Ok config) = λ told neon is. subst (λ n. RoseBy n x y) (ap length (files_are neon)) (once told neon is)
  all_once once (Err stop) = tt

  pub all_at_most : (tells → (neon : Neon) → IsNeon neon → RoseAtMost (length (read_from (content_at neon contents is_listed) root)) x y)
      → tells → (neon : Neon) → IsNeon neon → RoseAtMost (length (files_read neon contents listed words)) x y
  all_at_most most told neon is = subst (λ n. RoseAtMost n x y) (ap length (files_are neon)) (most told neon is)
