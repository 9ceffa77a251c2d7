-- Lists of parts, as the trees of statements hold them.
use Rattle.std.specs.Prelude.{Bool, List, [], ◌∷◌, Option, Some, None}
use Rattle.stan_model_grammar.specs.declared.token.Token.{Token}
use Rattle.stan_model_grammar.specs.Sites.{HeldBody}
use Rattle.stan_model_grammar.specs.Trees.{TypeTree}
use Rattle.stan_model_statements.specs.Trees.{Value, Bodies, no_body, body, MayValue, no_value, some_value, Values, no_more_value, more_value, Statement, Statements, no_statement, statement, MayStatement, no_else, else, MayBlock, no_block, block, ElseIfs, no_else_if, else_if, Cases, no_case, case, Catches, no_catch, catch, Variables, no_variable, variable, Constants, no_constant, constant, Parameters, no_parameter, parameter, Members, no_member, member, Member, Top, Tops, no_top, top}

pub record ReadBody : Type 0 where
  pub held : HeldBody
  pub statements : Statements

pub record ElseIf : Type 0 where
  pub first : Token
  pub condition : Value
  pub then : Statement

pub record Case : Type 0 where
  pub first : Token
  pub value : MayValue
  pub mark : Token
  pub statements : Statements

pub record Catch : Type 0 where
  pub first : Token
  pub classes : List Token
  pub variable : Option Token
  pub statements : Statements

pub record Variable : Type 0 where
  pub name : Token
  pub value : MayValue

pub record Constant : Type 0 where
  pub name : Token
  pub value : Value

pub record Parameter : Type 0 where
  pub first : Token
  pub visibility : Option Token
  pub declared : Option TypeTree
  pub by_reference : Bool
  pub variadic : Bool
  pub name : Token
  pub default : MayValue

pub record ClassMember : Type 0 where
  pub first : Token
  pub form : Member

abbrev pub bodies : List ReadBody → Bodies
bodies [] = no_body
bodies (x ∷ xs) = body x.held x.statements (bodies xs)

abbrev pub may_value : Option Value → MayValue
may_value None = no_value
may_value (Some v) = some_value v

abbrev pub values : List Value → Values
values [] = no_more_value
values (v ∷ vs) = more_value v (values vs)

abbrev pub statements : List Statement → Statements
statements [] = no_statement
statements (s ∷ ss) = statement s (statements ss)

abbrev pub may_else : Option Statement → MayStatement
may_else None = no_else
may_else (Some s) = else s

abbrev pub may_block : Option (List Statement) → MayBlock
may_block None = no_block
may_block (Some ss) = block (statements ss)

abbrev pub else_ifs : List ElseIf → ElseIfs
else_ifs [] = no_else_if
else_ifs (x ∷ xs) = else_if x.first x.condition x.then (else_ifs xs)

abbrev pub cases : List Case → Cases
cases [] = no_case
cases (x ∷ xs) = case x.first x.value x.mark x.statements (cases xs)

abbrev pub catches : List Catch → Catches
catches [] = no_catch
catches (x ∷ xs) = catch x.first x.classes x.variable x.statements (catches xs)

abbrev pub variables : List Variable → Variables
variables [] = no_variable
variables (x ∷ xs) = variable x.name x.value (variables xs)

abbrev pub constants : List Constant → Constants
constants [] = no_constant
constants (x ∷ xs) = constant x.name x.value (constants xs)

abbrev pub parameters : List Parameter → Parameters
parameters [] = no_parameter
parameters (x ∷ xs) = parameter x.first x.visibility x.declared x.by_reference x.variadic x.name x.default (parameters xs)

abbrev pub members : List ClassMember → Members
members [] = no_member
members (x ∷ xs) = member x.first x.form (members xs)

abbrev pub tops : List Top → Tops
tops [] = no_top
tops (x ∷ xs) = top x (tops xs)
