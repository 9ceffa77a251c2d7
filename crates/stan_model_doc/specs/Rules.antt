-- The grammar of tags and their types: its productions, one line each (PHPStan user guide, "PHPDocs Basics" and "PHPDoc Types").
use Rattle.std.specs.Prelude.{List, [], ◌∷◌, ◌++◌}
use Rattle.stan_model_doc.specs.declared.token.DocKind.{DocKind}
use Rattle.stan_model_doc.specs.declared.token.DocKind.TheVariants as k
use Rattle.stan_model_doc.specs.Symbols.{Sort, Tag, VariableName, Reference, Spread, StaticWord, Parameters, Parameter, FurtherParameter, Default, Bound, Written, Negation, Alt, OrPart, Both, AndPart, Unary, Brackets, Atom, Result, Arguments, FurtherType, Fields, Field, FurtherField, LastComma, QuestionMark, One, May, Many, Nowhere, AtComma, Symbol, Mark, Word, Any, Part}

pub data Rule : Type 0 where
  -- tags
  param_tag : Rule
  return_tag : Rule
  var_tag : Rule
  property_tag : Rule
  method_tag : Rule
  template_tag : Rule
  inherit_tag : Rule
  variable_name : Rule
  reference : Rule
  spread : Rule
  static_word : Rule
  parameters : Rule
  parameter : Rule
  further_parameter : Rule
  default_value : Rule
  bound : Rule
  -- types
  conditional : Rule
  plain_type : Rule
  negation : Rule
  alt : Rule
  or_part : Rule
  both : Rule
  and_part : Rule
  nullable : Rule
  suffixed : Rule
  brackets : Rule
  -- atoms
  group : Rule
  this : Rule
  literal : Rule
  shape : Rule
  range : Rule
  callable_type : Rule
  member : Rule
  name : Rule
  result_type : Rule
  arguments : Rule
  further_type : Rule
  fields : Rule
  keyed : Rule
  plain_field : Rule
  further_field : Rule
  last_comma : Rule
  question_mark : Rule

abbrev pub sort_of : Rule → Sort
sort_of param_tag = Tag
sort_of return_tag = Tag
sort_of var_tag = Tag
sort_of property_tag = Tag
sort_of method_tag = Tag
sort_of template_tag = Tag
sort_of inherit_tag = Tag
sort_of variable_name = VariableName
sort_of reference = Reference
sort_of spread = Spread
sort_of static_word = StaticWord
sort_of parameters = Parameters
sort_of parameter = Parameter
sort_of further_parameter = FurtherParameter
sort_of default_value = Default
sort_of bound = Bound
sort_of conditional = Written
sort_of plain_type = Written
sort_of negation = Negation
sort_of alt = Alt
sort_of or_part = OrPart
sort_of both = Both
sort_of and_part = AndPart
sort_of nullable = Unary
sort_of suffixed = Unary
sort_of brackets = Brackets
sort_of group = Atom
sort_of this = Atom
sort_of literal = Atom
sort_of shape = Atom
sort_of range = Atom
sort_of callable_type = Atom
sort_of member = Atom
sort_of name = Atom
sort_of result_type = Result
sort_of arguments = Arguments
sort_of further_type = FurtherType
sort_of fields = Fields
sort_of keyed = Field
sort_of plain_field = Field
sort_of further_field = FurtherField
sort_of last_comma = LastComma
sort_of question_mark = QuestionMark

-- ---- what can be what

abbrev pub identifiers : List DocKind
identifiers = k.Identifier ∷ k.Int ∷ k.Array ∷ k.Callable ∷ k.Static ∷ k.Closure ∷ k.Min ∷ k.Max ∷ k.Is ∷ k.Not ∷ k.Of ∷ []

abbrev pub names : List DocKind
names = k.Name ∷ identifiers

abbrev pub variables : List DocKind
variables = k.Variable ∷ k.This ∷ []

abbrev pub texts : List DocKind
texts = k.SingleQuoted ∷ k.DoubleQuoted ∷ []

abbrev pub literals : List DocKind
literals = k.Integer ∷ k.Float ∷ texts

abbrev pub keys : List DocKind
keys = k.Integer ∷ texts ++ identifiers

-- ---- productions

-- A tag is one of
--   "@param" type ["&"] ["..."] variable                     "@return" type                     "@var" type [variable]
--   "@property" type variable                                "@extends" type
--   "@method" ["static"] [type] identifier "(" [parameter {"," parameter}] ")"                  "@template" identifier ["of" type]
-- with parameter = type variable ["=" any].
-- A type is "(" variable "is" ["not"] type "?" type ":" type ")" or both {"|" both}, with
--   both = unary {"&" unary}        unary = "?" unary | atom {"[" "]"}
-- An atom is one of
--   "(" type ")"        "$this"        integer | float | quoted text        "array" "{" [field {"," field} [","]] "}"
--   "int" "<" (integer | "min") "," (integer | "max") ">"        ("callable" | "Closure") "(" any ")" [":" unary]
--   name "::" (identifier | "*")        name ["<" type {"," type} ">"]
-- with field = [key ["?"] ":"] type and key = identifier | integer | quoted text.
abbrev pub symbols : Rule → List Symbol
symbols param_tag = Word (k.ParamTag ∷ []) ∷ Part One Written ∷ Part May Reference ∷ Part May Spread ∷ Word variables ∷ []
symbols return_tag = Word (k.ReturnTag ∷ []) ∷ Part One Written ∷ []
symbols var_tag = Word (k.VarTag ∷ []) ∷ Part One Written ∷ Part May VariableName ∷ []
symbols property_tag = Word (k.PropertyTag ∷ []) ∷ Part One Written ∷ Word variables ∷ []
symbols method_tag = Word (k.MethodTag ∷ []) ∷ Part May StaticWord ∷ Part May Written ∷ Word identifiers ∷ Mark k.LeftParenthesis ∷ Part May Parameters ∷ Mark k.RightParenthesis ∷ []
symbols template_tag = Word (k.TemplateTag ∷ []) ∷ Word identifiers ∷ Part May Bound ∷ []
symbols inherit_tag = Word (k.InheritTag ∷ []) ∷ Part One Written ∷ []
symbols variable_name = Word variables ∷ []
symbols reference = Mark k.Ampersand ∷ []
symbols spread = Mark k.Ellipsis ∷ []
symbols static_word = Mark k.Static ∷ []
symbols parameters = Part One Parameter ∷ Part Many FurtherParameter ∷ []
symbols parameter = Part One Written ∷ Word variables ∷ Part May Default ∷ []
symbols further_parameter = Mark k.Comma ∷ Part One Parameter ∷ []
symbols default_value = Mark k.Equals ∷ Any AtComma ∷ []
symbols bound = Mark k.Of ∷ Part One Written ∷ []
symbols conditional =
    Mark k.LeftParenthesis ∷ Word variables ∷ Mark k.Is ∷ Part May Negation ∷ Part One Written ∷ Mark k.Question ∷ Part One Written ∷ Mark k.Colon ∷ Part One Written ∷ Mark k.RightParenthesis ∷ []
symbols plain_type = Part One Alt ∷ []
symbols negation = Mark k.Not ∷ []
symbols alt = Part One Both ∷ Part Many OrPart ∷ []
symbols or_part = Mark k.Bar ∷ Part One Both ∷ []
symbols both = Part One Unary ∷ Part Many AndPart ∷ []
symbols and_part = Mark k.Ampersand ∷ Part One Unary ∷ []
symbols nullable = Mark k.Question ∷ Part One Unary ∷ []
symbols suffixed = Part One Atom ∷ Part Many Brackets ∷ []
symbols brackets = Mark k.LeftBracket ∷ Mark k.RightBracket ∷ []
symbols group = Mark k.LeftParenthesis ∷ Part One Written ∷ Mark k.RightParenthesis ∷ []
symbols this = Mark k.This ∷ []
symbols literal = Word literals ∷ []
symbols shape = Mark k.Array ∷ Mark k.LeftBrace ∷ Part May Fields ∷ Mark k.RightBrace ∷ []
symbols range = Mark k.Int ∷ Mark k.Below ∷ Word (k.Integer ∷ k.Min ∷ []) ∷ Mark k.Comma ∷ Word (k.Integer ∷ k.Max ∷ []) ∷ Mark k.Above ∷ []
symbols callable_type = Word (k.Callable ∷ k.Closure ∷ []) ∷ Mark k.LeftParenthesis ∷ Any Nowhere ∷ Mark k.RightParenthesis ∷ Part May Result ∷ []
symbols member = Word names ∷ Mark k.DoubleColon ∷ Word (k.Star ∷ identifiers) ∷ []
symbols name = Word names ∷ Part May Arguments ∷ []
symbols result_type = Mark k.Colon ∷ Part One Unary ∷ []
symbols arguments = Mark k.Below ∷ Part One Written ∷ Part Many FurtherType ∷ Mark k.Above ∷ []
symbols further_type = Mark k.Comma ∷ Part One Written ∷ []
symbols fields = Part One Field ∷ Part Many FurtherField ∷ Part May LastComma ∷ []
symbols keyed = Word keys ∷ Part May QuestionMark ∷ Mark k.Colon ∷ Part One Written ∷ []
symbols plain_field = Part One Written ∷ []
symbols further_field = Mark k.Comma ∷ Part One Field ∷ []
symbols last_comma = Mark k.Comma ∷ []
symbols question_mark = Mark k.Question ∷ []

-- The alternatives of a part, an earlier one before a later one. Of those that can spell the same tokens there is one pair: `int<0, 1>` is a range and no name with two types.
abbrev pub order : Sort → List Rule
order Tag = param_tag ∷ return_tag ∷ var_tag ∷ property_tag ∷ method_tag ∷ template_tag ∷ inherit_tag ∷ []
order VariableName = variable_name ∷ []
order Reference = reference ∷ []
order Spread = spread ∷ []
order StaticWord = static_word ∷ []
order Parameters = parameters ∷ []
order Parameter = parameter ∷ []
order FurtherParameter = further_parameter ∷ []
order Default = default_value ∷ []
order Bound = bound ∷ []
order Written = conditional ∷ plain_type ∷ []
order Negation = negation ∷ []
order Alt = alt ∷ []
order OrPart = or_part ∷ []
order Both = both ∷ []
order AndPart = and_part ∷ []
order Unary = nullable ∷ suffixed ∷ []
order Brackets = brackets ∷ []
order Atom = group ∷ this ∷ literal ∷ shape ∷ range ∷ callable_type ∷ member ∷ name ∷ []
order Result = result_type ∷ []
order Arguments = arguments ∷ []
order FurtherType = further_type ∷ []
order Fields = fields ∷ []
order Field = keyed ∷ plain_field ∷ []
order FurtherField = further_field ∷ []
order LastComma = last_comma ∷ []
order QuestionMark = question_mark ∷ []
