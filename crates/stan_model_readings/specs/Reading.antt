-- What a file is read as: its tree, or the reason why it cannot be read.
use Rattle.std.specs.Prelude.{◌≡◌, ℕ, ◌<◌, ◌≤◌, IsUtf8, List, [], ◌∷◌, length}
use Rattle.stan_base.specs.Bytes.{line_of}
use Rattle.stan_model_grammar.specs.declared.token.Token.{Token}
use Rattle.stan_model_grammar.specs.Expressions.{Stands}
use Rattle.stan_model_grammar.specs.Tokens.{AreTokens, code_tokens, comments}
use Rattle.stan_model_statements.specs.Trees.{Tops, File}
use Rattle.stan_model_files.specs.Files.{SpellsFile}
use Rattle.stan_model_readings.specs.Fronts.{is_strict_types, IsLongestFront}

module _ (source : List ℕ) (tokens : List Token) where
  -- It spells all the tokens, but for comments, which it holds, and for attributes.
  pub record IsTree (file : File) : Type 0 where
    pub spelled : SpellsFile (code_tokens tokens) (is_strict_types source) file.tops
    pub comments_kept : file.comments ≡ comments tokens

  -- No tree spells them: this is the line of the token behind the longest front.
  pub record IsBrokenAt (line : ℕ) : Type 0 where
    pub tops : Tops
    pub to : ℕ
    pub front : IsLongestFront (code_tokens tokens) (is_strict_types source) tops to
    pub token : Token
    pub stands : Stands (code_tokens tokens) to token
    pub of_token : line ≡ line_of source token.start
    pub none_spells : (xs : Tops) → SpellsFile (code_tokens tokens) (is_strict_types source) xs → ⊥

pub data Reading : Type 0 where
  Readable : File → Reading
  TooLarge : Reading
  NotUtf8 : Reading
  -- with the line of the fault
  Broken : ℕ → Reading

-- the most bytes of a file that can be read
abbrev pub largest_source : ℕ
largest_source = 1048576

abbrev pub IsText : List ℕ → Type 0
IsText source = (length source ≤ largest_source) × IsUtf8 source

abbrev pub IsReading : List ℕ → Reading → Type 0
IsReading source (Readable file) = IsText source × (tokens : List Token) × AreTokens source tokens × IsTree source tokens file
IsReading source TooLarge = largest_source < length source
IsReading source NotUtf8 = (length source ≤ largest_source) × ¬ (IsUtf8 source)
IsReading source (Broken line) = IsText source × (tokens : List Token) × AreTokens source tokens × IsBrokenAt source tokens line

-- each source with its reading
abbrev pub AreReadings : List (List ℕ) → List Reading → Type 0
AreReadings [] [] = Unit {0}
AreReadings (source ∷ sources) (reading ∷ readings) = IsReading source reading × AreReadings sources readings
AreReadings _ _ = ⊥
