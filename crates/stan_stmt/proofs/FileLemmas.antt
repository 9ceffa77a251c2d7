-- What the longest front says of a file.
use Rattle.std.proofs.Common.{◌≡◌, ℕ, ◌≤◌, ◌<◌, List, length, get_or, Some, None, sym, subst, ◌∙◌, ◌⊎◌, inl, inr, arith}
use Rattle.std.specs.Prelude.{slice_get}
use Rattle.std.proofs.lemmas.Option.{slice_get_cases}
use Rattle.std.proofs.lemmas.List.Sums.{length-filter, count_by-le-length}
use Rattle.stan_base.specs.Bytes.{line_of}
use Rattle.stan_model_grammar.specs.declared.token.Token.{Token}
use Rattle.stan_model_grammar.specs.Tokens.{is_code, code_tokens}
use Rattle.stan_model_files.specs.Files.{ReadsTops, SpellsFile}
use Rattle.stan_model_readings.specs.Fronts.{is_strict_types}
use Rattle.stan_stmt_law.proofs.Inside.{token_within}
use Rattle.stan_stmt.specs.declared.fronts.Front.{Front}
use Rattle.stan_stmt.specs.Fronts.{IsFrontOf, tops_of}
use Rattle.stan_model_readings.specs.Reading.{IsBrokenAt}

module _ (source : List ℕ) (tokens code : List Token) (are : code ≡ code_tokens tokens) (f : Front) (front : IsFrontOf source code f) where
  -- no token stands behind it
  pub whole : length code ≤ f.to → SpellsFile (code_tokens tokens) (is_strict_types source) (tops_of f.tops)
  whole le =
      let all : f.to ≡ length code = omega (arith, le, front.1) in
      subst (λ ts. SpellsFile ts (is_strict_types source) (tops_of f.tops)) are (subst (ReadsTops code (is_strict_types source) (tops_of f.tops) 0) all front.0.front.0)

  of_code : (t : Token) (line : ℕ) → slice_get code f.to ≡ Some t → line ≡ line_of source t.start → code ≡ code_tokens tokens → IsBrokenAt source tokens line
  of_code t line there is e =
      let stands = subst (λ ts. slice_get ts f.to ≡ Some t) e there in
      let here = subst (λ ts. IsFrontOf source ts f) e front in
      record {
        tops = tops_of f.tops;
        to = f.to;
        front = here.0;
        token = t;
        stands = stands;
        of_token = is;
        none_spells = λ xs h. absurd (omega (arith, here.0.whole xs h, token_within (code_tokens tokens) f.to t stands));
      }

  pub broken : (t : Token) (line : ℕ) → slice_get code f.to ≡ Some t → line ≡ line_of source t.start → IsBrokenAt source tokens line
  broken t line there is = of_code t line there is are

-- where no token stands
pub past : (ts : List Token) (at : ℕ) → slice_get ts at ≡ None → length ts ≤ at
past ts at h = by (slice_get_cases ts at).1
  where
    by : ((t : Token) × (at < length ts) × (slice_get ts at ≡ Some t) × (get_or ts at t ≡ t)) ⊎ ((length ts ≤ at) × (slice_get ts at ≡ None)) → length ts ≤ at
    by (inl some) = absurd (let no = sym h ∙ some.2 in cc)
    by (inr none) = none.0

pub no_more : (tokens : List Token) → length (code_tokens tokens) ≤ length tokens
no_more tokens = omega (arith, length-filter (λ t. is_code t.kind) tokens, count_by-le-length (λ t. is_code t.kind) tokens)
