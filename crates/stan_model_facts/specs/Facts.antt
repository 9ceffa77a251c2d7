-- All that the rules speak of in a file: each call of a function by its name, and each constant.
use Rattle.std.specs.Prelude.{ℕ, if◌then◌else◌, Bool, ◌||◌, List, [], ◌∷◌, Option, codes}
use Rattle.std.specs.List.{flat_map}
use Rattle.std.specs.Str.{bytes_eq}
use Rattle.stan_base.specs.Bytes.{fold_case, line_of}
use Rattle.stan_base.specs.declared.ask_kind.AskKind.{AskKind}
use Rattle.stan_base.specs.declared.ask_kind.AskKind.TheVariants as asks
use Rattle.stan_model_grammar.specs.declared.token.Token.{Token}
use Rattle.stan_model_grammar.specs.Tokens.{spelling}
use Rattle.stan_model_statements.specs.Trees.{Statement, Tops}
use Rattle.stan_model_names.specs.Resolve.{Scope, full_name, second_name}
use Rattle.stan_model_walk.specs.Findings.{Finding, Calls, Defines, Fetches, DeclaresClass, DeclaresFunction, DeclaresConstant, Found, findings}
use Rattle.stan_model_walk.specs.Scopes.{outside, without_backslash, in_tops}

-- a name that is looked up: its line, what it means, and what it means where the first is absent
pub record NameFact : Type 0 where
  pub line : ℕ
  pub name : List ℕ
  pub second : Option (List ℕ)

pub data Fact : Type 0 where
  CallFact : NameFact → Fact
  ConstantFact : NameFact → Fact

abbrev pub is_spelled : List ℕ → List ℕ → Bool
is_spelled word spelled = bytes_eq (fold_case word) spelled

-- a literal, or what is known where it stands, in any case: words that are no constants
abbrev pub is_plain_word : List ℕ → Bool
is_plain_word word =
    is_spelled word (codes "true") || is_spelled word (codes "false") || is_spelled word (codes "null") || is_spelled word (codes "__line__")
    || is_spelled word (codes "__file__") || is_spelled word (codes "__dir__") || is_spelled word (codes "__function__") || is_spelled word (codes "__class__")
    || is_spelled word (codes "__trait__") || is_spelled word (codes "__method__") || is_spelled word (codes "__namespace__")

-- One backslash may stand before them.
abbrev pub is_word : List ℕ → Bool
is_word written = is_plain_word (without_backslash written)

abbrev pub name_fact : List ℕ → Scope → AskKind → Token → NameFact
name_fact source scope kind t = record { line = line_of source t.start; name = full_name scope kind (spelling source t); second = second_name scope kind (spelling source t) }

abbrev pub fact_of : List ℕ → Scope → Finding → List Fact
fact_of source scope (Calls t) = CallFact (name_fact source scope asks.Function t) ∷ []
fact_of source scope (Defines t text) = []
fact_of source scope (Fetches t) = if is_word (spelling source t) then [] else ConstantFact (name_fact source scope asks.Constant t) ∷ []
fact_of source scope (DeclaresClass t) = []
fact_of source scope (DeclaresFunction t) = []
fact_of source scope (DeclaresConstant t) = []

abbrev pub fact_of_found : List ℕ → Scope → Found → List Fact
fact_of_found source scope f = fact_of source scope f.finding

abbrev pub facts_of_statement : List ℕ → Scope → Statement → List Fact
facts_of_statement source scope s = flat_map (fact_of_found source scope) (findings s)

abbrev pub facts_of : List ℕ → Tops → List Fact
facts_of source tops = in_tops (facts_of_statement source) source outside tops
