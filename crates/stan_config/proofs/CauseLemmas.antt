-- What a file and its includes mean, and why they are refused, from what is told of their parts.
use Rattle.std.proofs.Common.{◌≡◌, ◌∙◌, ℕ, suc, Bool, true, false, List, [], ◌∷◌, ◌++◌, Result, Ok, Err, sym, ap, subst}
use Rattle.std.specs.Prelude.{IfOk, IfErr}
use Rattle.std.specs.List.{list_any}
use Rattle.stan_outside.specs.Contents.{Contents}
use Rattle.stan_config_said.specs.declared.content.Said.{Said as CodeSaid}
use Rattle.stan_config_said.specs.Views.{said_view}
use Rattle.stan_model_config.specs.Faults.{is_among}
use Rattle.stan_model_config.specs.Said.{Said, Content}
use Rattle.stan_model_config.specs.Files.{Neon, Stop, Found, then_ok, content_at, found_at, each_include, found_beside, found_over, alone, begun, over, beside}
use Rattle.stan_config.specs.declared.stop.ConfigStop.{ConfigStop}
use Rattle.stan_config.specs.Neon.{IsNeon, IsMeant}
use Rattle.stan_config.specs.Stops.{IsCause, IsAtIncludes}
use Rattle.stan_config.specs.Walk.{file_means, includes_mean, found_nothing}
use Rattle.stan_config.proofs.StopLemmas.{cause_after, cause_at_includes}
use Rattle.stan_config.proofs.WalkLemmas.{found_err, found_alone, found_with, refused_includes, good_includes, read_before, read_now}

module _ (contents : Contents) (is_listed : List ℕ → Bool) (left : ℕ) (chain read : List (List ℕ)) (file : List ℕ) (tells rose : Type 0) where
  -- a file that is refused by itself
  pub by_itself : (stop : ConfigStop) → IsCause tells rose (λ neon. content_at neon contents is_listed file) stop → IsCause tells rose (file_means contents is_listed left chain read file) stop
  by_itself = cause_after tells rose tells rose (λ neon. content_at neon contents is_listed file) (file_means contents is_listed left chain read file) (λ t. t) (λ r. r)
      (λ told neon is stop e. found_err (content_at neon contents is_listed) left chain read file stop e)

  module _ (content : Content) (by_file : tells → IsMeant (λ neon. content_at neon contents is_listed file) (Ok content)) where
    -- a file to which as many includes led as may be
    pub alone_good : left ≡ 0 → (after : List (List ℕ)) → after ≡ begun read file → (result : Result CodeSaid ConfigStop)
        → IfOk result (λ said. (before : List (List ℕ)) → alone before file content ≡ Ok (record { said = said_view said; read = begun before file }))
        → IfOk result (λ said. tells → IsMeant (file_means contents is_listed left chain read file) (Ok (record { said = said_view said; read = after })))
    alone_good zero after e (Ok said) h = λ told neon is. found_alone (content_at neon contents is_listed) left chain read file content zero (by_file told neon is) ∙ h read ∙ ap (λ r. Ok (record { said = said_view said; read = r })) (sym e)
    alone_good zero after e (Err stop) h = h

    pub alone_refused : left ≡ 0 → (result : Result CodeSaid ConfigStop) → IfErr result (λ stop. (before : List (List ℕ)) → IsCause (Unit {0}) ⊥ (λ _. alone before file content) stop)
        → IfErr result (λ stop. IsCause tells rose (file_means contents is_listed left chain read file) stop)
    alone_refused zero (Ok said) h = h
    alone_refused zero (Err stop) h =
        cause_after (Unit {0}) ⊥ tells rose (λ _. alone read file content) (file_means contents is_listed left chain read file) (λ t. tt) (λ r. absurd r)
        (λ told neon is s e. found_alone (content_at neon contents is_listed) left chain read file content zero (by_file told neon is) ∙ e) stop (h read)

    module _ (less : ℕ) (is_more : left ≡ suc less) (longer : List (List ℕ)) (is_longer : longer ≡ chain ++ file ∷ []) where
      -- one of its includes is on the chain
      pub leads_back : list_any (λ include. is_among longer include) content.includes ≡ true → (stop : ConfigStop) → IsAtIncludes file stop → IsCause tells rose (file_means contents is_listed left chain read file) stop
      leads_back back = cause_at_includes tells rose (file_means contents is_listed left chain read file) file
          (λ told neon is. found_with (content_at neon contents is_listed) left less chain read file content is_more (by_file told neon is)
          ∙ refused_includes (found_at (content_at neon contents is_listed) less (chain ++ file ∷ [])) (chain ++ file ∷ []) read file content (subst (λ l. list_any (λ include. is_among l include) content.includes ≡ true) is_longer back))

      module _ (none : list_any (λ include. is_among longer include) content.includes ≡ false) (after : List (List ℕ)) (is_after : after ≡ begun read file) (mid : Contents) (same : mid ≡ contents) (includes : List (List ℕ)) (are : includes ≡ content.includes) where
        opened : (answer : Result Found Stop) (neon : Neon) → IsNeon neon → tells → includes_mean mid is_listed less longer (found_nothing after) includes neon ≡ answer
            → file_means contents is_listed left chain read file neon ≡ then_ok answer (λ under. Ok (found_over content.said under))
        opened answer neon is told e =
            let there : each_include (found_at (content_at neon contents is_listed) less (chain ++ file ∷ [])) (found_nothing (begun read file)) content.includes ≡ answer =
            (λ i. each_include (found_at (content_at neon (sym same i) is_listed) less (sym is_longer i)) (found_nothing (sym is_after i)) (sym are i)) ∙ e in
            found_with (content_at neon contents is_listed) left less chain read file content is_more (by_file told neon is)
            ∙ good_includes (found_at (content_at neon contents is_listed) less (chain ++ file ∷ [])) (chain ++ file ∷ []) read file content answer
            (subst (λ l. list_any (λ include. is_among l include) content.includes ≡ false) is_longer none) there

        -- its includes are refused, or not
        pub includes_refused : (tells_mid rose_mid : Type 0) → (tells → tells_mid) → (rose_mid → rose) → (stop : ConfigStop) → IsCause tells_mid rose_mid (includes_mean mid is_listed less longer (found_nothing after) includes) stop
            → IsCause tells rose (file_means contents is_listed left chain read file) stop
        includes_refused tells_mid rose_mid told rises =
            cause_after tells_mid rose_mid tells rose (includes_mean mid is_listed less longer (found_nothing after) includes) (file_means contents is_listed left chain read file) told rises
            (λ t neon is stop e. opened (Err stop) neon is t e)

        pub includes_good : (tells_mid : Type 0) → (tells → tells_mid) → (under all : Said) (last : List (List ℕ)) → (tells_mid → IsMeant (includes_mean mid is_listed less longer (found_nothing after) includes) (Ok (record { said = under; read = last })))
            → all ≡ over content.said under → tells → IsMeant (file_means contents is_listed left chain read file) (Ok (record { said = all; read = last }))
        includes_good tells_mid told under all last means e t neon is =
            opened (Ok (record { said = under; read = last })) neon is t (means (told t) neon is) ∙ ap (λ s. Ok (record { said = s; read = last })) (sym e)

-- includes, from what was found so far
module _ (contents : Contents) (is_listed : List ℕ → Bool) (left : ℕ) (chain : List (List ℕ)) (start found : Found) (includes rest files : List (List ℕ)) (file : List ℕ) (tells : Type 0)
    (so_far : tells → (neon : Neon) → IsNeon neon → includes_mean contents is_listed left chain start includes neon ≡ includes_mean contents is_listed left chain found rest neon) (is_rest : rest ≡ file ∷ files) where
  at_file : tells → (neon : Neon) → IsNeon neon → includes_mean contents is_listed left chain start includes neon ≡ includes_mean contents is_listed left chain found (file ∷ files) neon
  at_file told neon is = so_far told neon is ∙ ap (λ r. includes_mean contents is_listed left chain found r neon) is_rest

  pub was_before : is_among found.read file ≡ true → tells → (neon : Neon) → IsNeon neon → includes_mean contents is_listed left chain start includes neon ≡ includes_mean contents is_listed left chain found files neon
  was_before is_in told neon is = at_file told neon is ∙ read_before (found_at (content_at neon contents is_listed) left chain) found file files is_in

  module _ (not_in : is_among found.read file ≡ false) (mid : Contents) (same : mid ≡ contents) where
    stepped : (answer : Result Found Stop) → tells → (neon : Neon) → IsNeon neon → file_means mid is_listed left chain found.read file neon ≡ answer
        → includes_mean contents is_listed left chain start includes neon ≡ then_ok answer (λ first. includes_mean contents is_listed left chain (found_beside found.said first) files neon)
    stepped answer told neon is e =
        at_file told neon is
        ∙ read_now (found_at (content_at neon contents is_listed) left chain) found file files answer not_in ((λ i. found_at (content_at neon (sym same i) is_listed) left chain found.read file) ∙ e)

    pub include_refused : (rose tells_mid rose_mid : Type 0) → (tells → tells_mid) → (rose_mid → rose) → (stop : ConfigStop) → IsCause tells_mid rose_mid (file_means mid is_listed left chain found.read file) stop
        → IsCause tells rose (includes_mean contents is_listed left chain start includes) stop
    include_refused rose tells_mid rose_mid told rises =
        cause_after tells_mid rose_mid tells rose (file_means mid is_listed left chain found.read file) (includes_mean contents is_listed left chain start includes) told rises
        (λ t neon is stop e. stepped (Err stop) t neon is e)

    pub include_good : (tells_mid : Type 0) → (tells → tells_mid) → (first all : Said) (last : List (List ℕ)) → (tells_mid → IsMeant (file_means mid is_listed left chain found.read file) (Ok (record { said = first; read = last })))
        → all ≡ beside found.said first → tells → (neon : Neon) → IsNeon neon → includes_mean contents is_listed left chain start includes neon ≡ includes_mean contents is_listed left chain (record { said = all; read = last }) files neon
    include_good tells_mid told first all last means e t neon is =
        stepped (Ok (record { said = first; read = last })) t neon is (means (told t) neon is)
        ∙ ap (λ s. includes_mean contents is_listed left chain (record { said = s; read = last }) files neon) (sym e)
