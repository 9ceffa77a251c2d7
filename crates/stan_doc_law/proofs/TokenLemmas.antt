-- A text has tokens, it has one list of them, and they stand in order.
use Rattle.std.proofs.Common.{◌≡◌, ℕ, ◌+◌, ◌<◌, ◌≤◌, List, [], ◌∷◌, length, take, zero, suc, refl, sym, ap, subst, ◌∙◌, inl, inr, rules, arith}
use Rattle.std.specs.List.{All, AllPairs}
use Rattle.std.proofs.lemmas.Bool.{cases_lt}
use Rattle.std.proofs.lemmas.List.Elements.{All-nil, All-cons}
use Rattle.std.proofs.lemmas.List.Kept.{AllPairs-cons}
use Rattle.stan_model_grammar.specs.Runs.{run_end, blank_at}
use Rattle.stan_model_doc.specs.declared.token.DocKind.{DocKind}
use Rattle.stan_model_doc.specs.declared.token.DocToken.{DocToken}
use Rattle.stan_model_doc.specs.Tokens.{doc_token, tag_token, AreDocTokens}
use Rattle.stan_runs.proofs.RunLemmas.{run_end_rises}
use Rattle.stan_doc_law.specs.Laws.{EveryTagHasTokens, OneTokenList, TokensStandInOrder}
use Rattle.stan_doc_law.proofs.EndLemmas.{doc_token_ends}

same_token : (t u : DocToken) → t.kind ≡ u.kind → t.start ≡ u.start → t.end ≡ u.end → t ≡ u
same_token t u k s e =
    let make : DocKind → ℕ → ℕ → DocToken = λ kind start end. record { kind = kind; start = start; end = end } in
    ap (λ kind. make kind t.start t.end) k ∙ ap (λ start. make u.kind start t.end) s ∙ ap (λ end. make u.kind u.start end) e

module _ (text : List ℕ) where
  abbrev next : ℕ → ℕ
  next at = run_end text (blank_at text) at

  -- ---- there are tokens

  tokens_from : (left at : ℕ) → length text ≤ at + left → (ts : List DocToken) × AreDocTokens text at ts
  tokens_from zero at h = ([], omega (arith, h, run_end_rises text (blank_at text) at))
  tokens_from (suc left) at h = elim (cases_lt (next at) (length text)) [
    | inr past ↦ ([], past)
    | inl lt ↦
        let up = run_end_rises text (blank_at text) at in
        let ends = doc_token_ends text (next at) lt in
        let rest = tokens_from left (doc_token text (next at)).1 (omega (arith, h, up, ends.rises)) in
        let t : DocToken = record { kind = (doc_token text (next at)).0; start = next at; end = (doc_token text (next at)).1 } in
        (t ∷ rest.0, (refl, ends.rises, ends.within, refl, rest.1))
  ]

  -- ---- there is one list

  one_list : (at : ℕ) (ts us : List DocToken) → AreDocTokens text at ts → AreDocTokens text at us → ts ≡ us
  one_list at [] [] h i = refl
  one_list at [] (u ∷ us) h i = absurd (omega (arith, h, i.0, i.1, i.2))
  one_list at (t ∷ ts) [] h i = absurd (omega (arith, i, h.0, h.1, h.2))
  one_list at (t ∷ ts) (u ∷ us) h i =
      let start : t.start ≡ u.start = h.0 ∙ sym i.0 in
      let first : DocKind × ℕ → DocKind = λ p. p.0 in
      let second : DocKind × ℕ → ℕ = λ p. p.1 in
      let kind : t.kind ≡ u.kind = ap first (sym h.3) ∙ ap (λ k. first (doc_token text k)) start ∙ ap first i.3 in
      let end : t.end ≡ u.end = ap second (sym h.3) ∙ ap (λ k. second (doc_token text k)) start ∙ ap second i.3 in
      let same : t ≡ u = same_token t u kind start end in
      let rest : ts ≡ us = one_list t.end ts us h.4 (subst (λ e. AreDocTokens text e us) (sym end) i.4) in
      cc

  -- ---- they stand in order

  begin_behind : (at : ℕ) (ts : List DocToken) → AreDocTokens text at ts → All (λ t. at ≤ t.start) ts
  begin_behind at [] h = All-nil (λ t. at ≤ t.start)
  begin_behind at (t ∷ ts) h = All-cons (λ t. at ≤ t.start) t ts (omega (arith, h.0, run_end_rises text (blank_at text) at)) (later ts (begin_behind t.end ts h.4))
    where
      later : (us : List DocToken) → All (λ u. t.end ≤ u.start) us → All (λ u. at ≤ u.start) us
      later us all = λ k d lt. omega (arith, all k d lt, h.0, h.1, run_end_rises text (blank_at text) at)

  each : (at : ℕ) (ts : List DocToken) → AreDocTokens text at ts → All (λ t. (t.start < t.end) × (t.end ≤ length text)) ts
  each at [] h = All-nil (λ t. (t.start < t.end) × (t.end ≤ length text))
  each at (t ∷ ts) h = All-cons (λ t. (t.start < t.end) × (t.end ≤ length text)) t ts (h.1, h.2) (each t.end ts h.4)

  pairs : (at : ℕ) (ts : List DocToken) → AreDocTokens text at ts → AllPairs (λ t u. t.end ≤ u.start) ts
  pairs at [] h = search rules
  pairs at (t ∷ ts) h = AllPairs-cons (λ t u. t.end ≤ u.start) t ts (begin_behind t.end ts h.4) (pairs t.end ts h.4)

pub every_tag_has_tokens : EveryTagHasTokens
every_tag_has_tokens text span =
    let rest = tokens_from (take span.end text) (length (take span.end text)) span.word_end (omega arith) in
    (tag_token text span ∷ rest.0, (refl, rest.1))

pub one_token_list : OneTokenList
one_token_list text span [] us h i = absurd h
one_token_list text span (t ∷ ts) [] h i = absurd i
one_token_list text span (t ∷ ts) (u ∷ us) h i =
    let same : t ≡ u = h.0 ∙ sym i.0 in
    let rest : ts ≡ us = one_list (take span.end text) span.word_end ts us h.1 i.1 in
    cc

pub tokens_stand_in_order : TokensStandInOrder
tokens_stand_in_order text at ts h = (each text at ts h, pairs text at ts h)
