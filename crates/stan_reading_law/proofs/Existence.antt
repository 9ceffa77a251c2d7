-- No file is without a reading: where no trees spell its tokens, they have a longest front, and a token stands behind it.
use Rattle.std.proofs.Common.{◌≡◌, ℕ, ◌+◌, ◌<◌, List, [], ◌∷◌, length, get_or, refl, subst, inl, inr, arith}
use Rattle.std.specs.Str.{is_utf8}
use Rattle.std.proofs.lemmas.Bool.{cases_lt, cases_Bool}
use Rattle.std.proofs.lemmas.Option.{slice_get-get_or}
use Rattle.std.proofs.lemmas.Str.{IsUtf8-from_is_utf8, is_utf8-from_IsUtf8}
use Rattle.stan_base.specs.Bytes.{line_of}
use Rattle.stan_model_grammar.specs.declared.token.Token.{Token}
use Rattle.stan_model_grammar.specs.declared.token.TokenKind.TheVariants as kinds
use Rattle.stan_model_grammar.specs.Tokens.{AreTokens, code_tokens, comments}
use Rattle.stan_model_statements.specs.Trees.{Tops}
use Rattle.stan_model_files.specs.Files.{SpellsFile, ReadsTops}
use Rattle.stan_model_readings.specs.Fronts.{is_strict_types}
use Rattle.stan_model_readings.specs.Reading.{Reading, Readable, TooLarge, NotUtf8, Broken, largest_source, IsText, IsReading, AreReadings}
use Rattle.stan_lexer.proofs.ExistLemmas.{some_tokens}
use Rattle.stan_read_law.proofs.Rows.{ended_are_tops}
use Rattle.stan_reading_law.proofs.Fronts.{StopsBehind, tops_within, some_stops, stops_is_longest}

module _ (source : List ℕ) where
  abbrev NoReading : Type 0
  NoReading = (reading : Reading) → IsReading source reading → ⊥

  module _ (text : IsText source) (tokens : List Token) (are : AreTokens source tokens) (none : NoReading) where
    none_spells : (xs : Tops) → SpellsFile (code_tokens tokens) (is_strict_types source) xs → ⊥
    none_spells xs h = none (Readable (record { tops = xs; comments = comments tokens })) (text, tokens, are, record { spelled = h; comments_kept = refl })

    -- Else they would spell all the tokens.
    stops_before_end : (xs : Tops) (to : ℕ) → StopsBehind (code_tokens tokens) (is_strict_types source) xs 0 to → to < length (code_tokens tokens)
    stops_before_end xs to h =
        let ts : List Token = code_tokens tokens in
        let reads = ended_are_tops ts (is_strict_types source) xs 0 to h.0 in
        elim (cases_lt to (length ts)) [
          | inl less ↦ less
          | inr past ↦
              let whole : to ≡ length ts = omega (arith, past, tops_within ts (is_strict_types source) xs 0 to h.0 (omega arith)) in
              absurd (none_spells xs (subst (λ b. ReadsTops ts (is_strict_types source) xs 0 b) whole reads))
        ]

    none_stops : (xs : Tops) (to : ℕ) → StopsBehind (code_tokens tokens) (is_strict_types source) xs 0 to → ⊥
    none_stops xs to h =
        let ts : List Token = code_tokens tokens in
        let d : Token = record { kind = kinds.End; start = 0; end = 0 } in
        none (Broken (line_of source (get_or ts to d).start)) (
          text,
          tokens,
          are,
          record {
            tops = xs;
            to = to;
            front = stops_is_longest ts (is_strict_types source) xs to h none_spells;
            token = get_or ts to d;
            stands = slice_get-get_or ts to d (stops_before_end xs to h);
            of_token = refl;
            none_spells = none_spells;
          },
        )

    no_text : ⊥
    no_text = some_stops (code_tokens tokens) (is_strict_types source) (length (code_tokens tokens) + 1) 0 (omega arith) (omega arith) none_stops

  pub some_reading : NoReading → ⊥
  some_reading none =
      elim (cases_lt largest_source (length source)) [
        | inl large ↦ none TooLarge large
        | inr small ↦ elim (cases_Bool (is_utf8 source)) [
          | inl valid ↦ let tokens = some_tokens source in no_text (small, IsUtf8-from_is_utf8 source valid) tokens.0 tokens.1 none
          | inr invalid ↦ none NotUtf8 (small, λ is. let valid = is_utf8-from_IsUtf8 source is in cc)
        ]
      ]

pub some_readings : (sources : List (List ℕ)) → ((readings : List Reading) → AreReadings sources readings → ⊥) → ⊥
some_readings [] none = none [] tt
some_readings (source ∷ sources) none = some_reading source (λ reading is. some_readings sources (λ readings are. none (reading ∷ readings) (is, are)))
