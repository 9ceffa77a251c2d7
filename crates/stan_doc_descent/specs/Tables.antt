-- What the descent asks of the productions.
use Rattle.std.specs.Prelude.{Bool, true, false, ◌&&◌, not, if◌then◌else◌, List, [], ◌∷◌, ◌++◌}
use Rattle.stan_model_doc.specs.declared.token.DocKind.{DocKind}
use Rattle.stan_model_doc.specs.declared.token.DocKind.TheVariants as k
use Rattle.stan_model_doc.specs.Tokens.{has}
use Rattle.stan_model_doc.specs.Symbols.{Sort, Tag, VariableName, Reference, Spread, StaticWord, Parameters, Parameter, FurtherParameter, Default, Bound, Written, Negation, Alt, OrPart, Both, AndPart, Unary, Brackets, Atom, Result, Arguments, FurtherType, Fields, Field, FurtherField, LastComma, QuestionMark, Need, One, Symbol, Mark, Word, Any, Part, lacks, rest}
use Rattle.stan_model_doc.specs.Rules.{Rule, names, variables, literals, conditional, param_tag, method_tag, default_value, fields, suffixed, group, this, literal, shape, range, member, name, sort_of}
use Rattle.stan_model_doc.specs.Grammar.{is_closer}

-- ---- kinds

abbrev pub implies : Bool → Bool → Bool
implies true b = b
implies false b = true

abbrev pub subset : List DocKind → List DocKind → Bool
subset [] ys = true
subset (x ∷ xs) ys = has ys x && subset xs ys

abbrev pub apart : List DocKind → List DocKind → Bool
apart [] ys = true
apart (x ∷ xs) ys = not (has ys x) && apart xs ys

-- ---- the tables

abbrev pub atoms : List DocKind
atoms = k.LeftParenthesis ∷ k.This ∷ literals ++ names

abbrev pub types : List DocKind
types = k.Question ∷ atoms

-- the first tokens of a part
abbrev pub begins : Sort → List DocKind
begins Tag = k.ParamTag ∷ k.ReturnTag ∷ k.VarTag ∷ k.PropertyTag ∷ k.MethodTag ∷ k.TemplateTag ∷ k.InheritTag ∷ []
begins VariableName = variables
begins Reference = k.Ampersand ∷ []
begins Spread = k.Ellipsis ∷ []
begins StaticWord = k.Static ∷ []
begins Parameters = types
begins Parameter = types
begins FurtherParameter = k.Comma ∷ []
begins Default = k.Equals ∷ []
begins Bound = k.Of ∷ []
begins Written = types
begins Negation = k.Not ∷ []
begins Alt = types
begins OrPart = k.Bar ∷ []
begins Both = types
begins AndPart = k.Ampersand ∷ []
begins Unary = types
begins Brackets = k.LeftBracket ∷ []
begins Atom = atoms
begins Result = k.Colon ∷ []
begins Arguments = k.Below ∷ []
begins FurtherType = k.Comma ∷ []
begins Fields = types
begins Field = types
begins FurtherField = k.Comma ∷ []
begins LastComma = k.Comma ∷ []
begins QuestionMark = k.Question ∷ []

abbrev pub atom_goes : List DocKind
atom_goes = k.Below ∷ k.LeftBrace ∷ k.LeftParenthesis ∷ k.DoubleColon ∷ k.Colon ∷ k.LeftBracket ∷ []

abbrev pub type_goes : List DocKind
type_goes = k.Bar ∷ k.Ampersand ∷ atom_goes

abbrev pub field_goes : List DocKind
field_goes = k.Question ∷ type_goes

-- all tokens but a comma and closing brackets, and the end
abbrev pub texts_go : List DocKind
texts_go =
    k.End ∷ k.ParamTag ∷ k.ReturnTag ∷ k.VarTag ∷ k.PropertyTag ∷ k.MethodTag ∷ k.TemplateTag ∷ k.InheritTag ∷ k.OtherTag ∷ k.Variable ∷ k.This ∷ k.Name ∷ k.Identifier ∷ k.Int ∷ k.Array ∷ k.Callable ∷ k.Static
    ∷ k.Closure ∷ k.Min ∷ k.Max ∷ k.Is ∷ k.Not ∷ k.Of ∷ k.Integer ∷ k.Float ∷ k.SingleQuoted ∷ k.DoubleQuoted ∷ k.LeftParenthesis ∷ k.LeftBracket ∷ k.LeftBrace ∷ k.Below ∷ k.Above ∷ k.Bar ∷ k.Ampersand
    ∷ k.Question ∷ k.Colon ∷ k.DoubleColon ∷ k.Equals ∷ k.Star ∷ k.Ellipsis ∷ k.Other ∷ []

-- The tokens with which a longer part of this sort goes on where a shorter one ends.
abbrev pub goes : Sort → List DocKind
goes Tag = variables ++ k.Of ∷ type_goes
goes Parameters = k.Comma ∷ texts_go
goes Parameter = texts_go
goes FurtherParameter = texts_go
goes Default = texts_go
goes VariableName = []
goes Reference = []
goes Spread = []
goes StaticWord = []
goes Bound = type_goes
goes Written = type_goes
goes Negation = []
goes Alt = type_goes
goes OrPart = k.Ampersand ∷ atom_goes
goes Both = k.Ampersand ∷ atom_goes
goes AndPart = atom_goes
goes Unary = atom_goes
goes Brackets = []
goes Atom = atom_goes
goes Result = atom_goes
goes Arguments = []
goes FurtherType = type_goes
goes Fields = k.Comma ∷ field_goes ++ types
goes Field = field_goes
goes FurtherField = field_goes
goes LastComma = []
goes QuestionMark = []

-- The same of one production. An atom goes on behind a name and behind a callable, but never with `[` behind a name.
abbrev pub rule_goes : Rule → List DocKind
rule_goes group = []
rule_goes this = []
rule_goes literal = []
rule_goes shape = []
rule_goes range = []
rule_goes member = []
rule_goes name = k.Below ∷ k.LeftBrace ∷ k.LeftParenthesis ∷ k.DoubleColon ∷ []
rule_goes r = goes (sort_of r)

-- ---- the tests

abbrev pub empty : List Symbol → Bool
empty [] = true
empty (Part n s ∷ xs) = lacks n && empty xs
empty (Mark kind ∷ xs) = false
empty (Word ks ∷ xs) = false
empty (Any stop ∷ xs) = false

abbrev pub firsts : List Symbol → List DocKind
firsts [] = []
firsts (Mark kind ∷ xs) = kind ∷ []
firsts (Word ks ∷ xs) = ks
firsts (Any stop ∷ xs) = []
firsts (Part n s ∷ xs) = begins s ++ (if lacks n then firsts xs else [])

-- the tokens with which more of the symbols goes on where less of them ends
abbrev pub ends : List Symbol → List DocKind
ends [] = []
ends (Mark kind ∷ xs) = ends xs
ends (Word ks ∷ xs) = ends xs
ends (Any stop ∷ xs) = ends xs
ends (Part n s ∷ xs) = (if empty xs then goes s ++ (if lacks n then begins s else []) else []) ++ ends xs

abbrev pub is_end : DocKind → Bool
is_end k.End = true
is_end _ = false

-- a bracket that closes stands first
abbrev pub closes : List Symbol → Bool
closes (Mark kind ∷ xs) = is_closer kind
closes _ = false

-- whether the first tokens are those of `firsts`: no text of any tokens stands first
abbrev pub leads : List Symbol → Bool
leads [] = true
leads (Mark kind ∷ xs) = true
leads (Word ks ∷ xs) = true
leads (Any stop ∷ xs) = false
leads (Part n s ∷ xs) = implies (lacks n) (leads xs)

abbrev pub is_tag : Sort → Bool
is_tag Tag = true
is_tag s = false

-- whether a longer part of this need and sort makes a better tree. No tag is a part.
abbrev pub settled : Need → Sort → Bool
settled n Tag = false
settled One Default = false
settled n s = true

-- Behind a part nothing begins with a token of its `goes`. Behind one that may lack nothing begins like it. A closing bracket ends a text of any tokens.
abbrev pub fine : List Symbol → Bool
fine [] = true
fine (Mark kind ∷ xs) = not (is_end kind) && fine xs
fine (Word ks ∷ xs) = fine xs
fine (Any stop ∷ xs) = closes xs && fine xs
fine (Part n s ∷ xs) = (leads xs && settled n s) && (apart (goes s) (firsts (rest n s xs)) && (implies (lacks n) (apart (begins s) (firsts xs)) && fine xs))

-- The productions for which the descent alone is not enough.
abbrev pub is_special : Rule → Bool
is_special conditional = true
is_special param_tag = true
is_special method_tag = true
is_special default_value = true
is_special fields = true
is_special suffixed = true
is_special _ = false
