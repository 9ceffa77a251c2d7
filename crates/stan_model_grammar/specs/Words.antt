-- Words: variables, identifiers, keywords and names.
use Rattle.std.specs.Prelude.{ℕ, ◌+◌, ◌==◌, ◌||◌, ◌&&◌, if◌then◌else◌, Bool, List, [], ◌∷◌, map, slice_index, slice_range}
use Rattle.std.specs.List.{list_any}
use Rattle.std.specs.Str.{bytes_eq}
use Rattle.stan_model_grammar.specs.declared.token.TokenKind.{TokenKind}
use Rattle.stan_model_grammar.specs.declared.token.TokenKind.TheVariants as kinds
use Rattle.stan_model_grammar.specs.declared.token.TheConstants.{KEYWORDS}
use Rattle.stan_base.specs.Bytes.{begins_identifier, fold_case}
use Rattle.stan_base.specs.Names.{begins_relative}
use Rattle.stan_model_grammar.specs.Runs.{run_end, word_at, name_at}

-- the kind that a table of words gives a word, which is compared without case, or that of an identifier
abbrev pub kind_among : List (List ℕ × TokenKind) → List ℕ → TokenKind
kind_among [] word = kinds.Identifier
kind_among (row ∷ rows) word = if bytes_eq (fold_case word) (fold_case row.0) then row.1 else kind_among rows word

unfoldable pub keywords : List (List ℕ × TokenKind)
keywords = map (λ row. (row.0.now, row.1)) KEYWORDS

unfoldable pub name_kind : List ℕ → TokenKind
name_kind name =
    if slice_index name 0 == 92 then kinds.FullyQualifiedName else (
    if begins_relative name then kinds.RelativeName else (
    if list_any (λ b. b == 92) name then kinds.QualifiedName else kind_among keywords name))

abbrev pub begins_variable : List ℕ → ℕ → Bool
begins_variable source at = (slice_index source at == 36) && begins_identifier (slice_index source (at + 1))

unfoldable pub variable : List ℕ → ℕ → TokenKind × ℕ
variable source at = (kinds.Variable, run_end source (word_at source) (at + 1))

abbrev pub begins_name : List ℕ → ℕ → Bool
begins_name source at = begins_identifier (slice_index source at) || ((slice_index source at == 92) && begins_identifier (slice_index source (at + 1)))

-- an identifier, a keyword or a name with `\`
unfoldable pub name : List ℕ → ℕ → TokenKind × ℕ
name source at = let to = run_end source (name_at source) (at + 1) in (name_kind (slice_range source at to), to)
