-- What the files declare, by what they are read as.
use Rattle.std.specs.Prelude.{ℕ, if◌then◌else◌, Bool, ◌||◌, false, List, [], ◌∷◌, ◌++◌, codes}
use Rattle.std.specs.List.{flat_map}
use Rattle.std.specs.Option.{option_map_or}
use Rattle.std.specs.Str.{bytes_eq}
use Rattle.stan_base.specs.Bytes.{fold_case}
use Rattle.stan_base.specs.declared.ask_kind.AskKind.TheVariants as asks
use Rattle.stan_model_grammar.specs.declared.token.Token.{Token}
use Rattle.stan_model_grammar.specs.Tokens.{spelling}
use Rattle.stan_model_grammar.specs.Values.{text_value}
use Rattle.stan_model_statements.specs.Trees.{Statement, Tops}
use Rattle.stan_model_names.specs.Resolve.{Scope, within, full_name, second_name}
use Rattle.stan_model_readings.specs.Reading.{Reading, Readable, TooLarge, NotUtf8, Broken}
use Rattle.stan_model_table.specs.Table.{Exported, Class, Function, Constant}
use Rattle.stan_model_walk.specs.Findings.{Finding, Calls, Defines, Fetches, DeclaresClass, DeclaresFunction, DeclaresConstant, Found, findings}
use Rattle.stan_model_walk.specs.Scopes.{outside, without_backslash, in_tops}

abbrev pub is_define : List ℕ → Bool
is_define name = bytes_eq (fold_case name) (codes "define")

-- the written name of a function may mean PHP's `define`, whatever is declared
abbrev pub may_be_define : Scope → List ℕ → Bool
may_be_define scope written = is_define (full_name scope asks.Function written) || option_map_or is_define (second_name scope asks.Function written) false

-- the constant that a call of `define` declares: no namespace is put before its name
abbrev pub defined : List ℕ → Token → Exported
defined source t = Constant (record { name = without_backslash (text_value t.kind (spelling source t)) })

abbrev pub export_of : List ℕ → Scope → Finding → List Exported
export_of source scope (Calls t) = []
export_of source scope (Defines t text) = if may_be_define scope (spelling source t) then defined source text ∷ [] else []
export_of source scope (Fetches t) = []
export_of source scope (DeclaresClass t) = Class (record { name = within scope.namespace (spelling source t) }) ∷ []
export_of source scope (DeclaresFunction t) = Function (record { name = within scope.namespace (spelling source t) }) ∷ []
export_of source scope (DeclaresConstant t) = Constant (record { name = within scope.namespace (spelling source t) }) ∷ []

-- In functions and classes nothing is declared that other files see.
abbrev pub export_of_found : List ℕ → Scope → Found → List Exported
export_of_found source scope f = if f.inner then [] else export_of source scope f.finding

abbrev pub exports_of_statement : List ℕ → Scope → Statement → List Exported
exports_of_statement source scope s = flat_map (export_of_found source scope) (findings s)

-- the nodes of a file's tree, in order of place
abbrev pub exports_of_tops : List ℕ → Tops → List Exported
exports_of_tops source tops = in_tops (exports_of_statement source) source outside tops

-- A file that cannot be read declares nothing.
abbrev pub exports_of : List ℕ → Reading → List Exported
exports_of source (Readable file) = exports_of_tops source file.tops
exports_of source TooLarge = []
exports_of source NotUtf8 = []
exports_of source (Broken line) = []

-- the nodes of all files, in the order of the files
abbrev pub table_of : List (List ℕ) → List Reading → List Exported
table_of [] readings = []
table_of sources [] = []
table_of (source ∷ sources) (reading ∷ readings) = exports_of source reading ++ table_of sources readings
