-- Trees of statements, declarations and files, as plain data: one constructor a production that the rest of the model reads, with its
-- parts in order. A token that a production spells in several ways stands in the tree. What a line may be told of has its first token.
use Rattle.std.specs.Prelude.{Bool, List, Option}
use Rattle.stan_model_grammar.specs.declared.token.Token.{Token}
use Rattle.stan_model_grammar.specs.Sites.{HeldBody}
use Rattle.stan_model_grammar.specs.Trees.{Tree, TypeTree}

-- what becomes of a method that a class takes from its traits
pub data Adapting : Type 0 where
  -- the traits whose method it stands for
  InsteadOf : List Token → Adapting
  -- a visibility, a name, or both
  Alias : Option Token → Option Token → Adapting

pub record Adaptation : Type 0 where
  pub from : Option Token
  pub method : Token
  pub adapting : Adapting

mutual
  -- an expression, and what the bodies of its closures hold, from left to right
  pub data Value : Type 0 where
    value : Tree → Bodies → Value

  pub data Bodies : Type 0 where
    no_body : Bodies
    -- where it is held, and the statements between its braces
    body : HeldBody → Statements → Bodies → Bodies

  pub data MayValue : Type 0 where
    no_value : MayValue
    some_value : Value → MayValue

  pub data Values : Type 0 where
    no_more_value : Values
    more_value : Value → Values → Values

  -- a statement: its first token, and its production
  pub data Statement : Type 0 where
    node : Token → Form → Statement

  -- Where a statement ends with `;` or the last `?>`, that token stands last.
  pub data Form : Type 0 where
    Block : Statements → Form
    Empty : Token → Form
    Expression : Value → Token → Form
    Echo : Values → Token → Form
    Return : MayValue → Token → Form
    -- the condition, what is done then, each `elseif` and the `else`
    If : Value → Statement → ElseIfs → MayStatement → Form
    While : Value → Statement → Form
    Do : Statement → Value → Token → Form
    For : Values → Values → Values → Statement → Form
    -- what is walked, the key, whether `&` stands, the element and what is done
    ForEach : Value → MayValue → Bool → Value → Statement → Form
    Switch : Value → Cases → Form
    -- the number of levels
    Break : Option Token → Token → Form
    Continue : Option Token → Token → Form
    -- what is tried, each `catch` and the `finally`
    Try : Statements → Catches → MayBlock → Form
    -- and whether a `,` stands behind the last
    Unset : Values → Bool → Token → Form
    Global : List Token → Token → Form
    Static : Variables → Token → Form
    Const : Constants → Token → Form
    -- the word `strict_types` and its number
    Declare : Token → Token → Token → Form
    -- whether `&` stands, the name, parameters, whether a `,` stands behind the last, the type and the body
    Function : Bool → Token → Parameters → Bool → Option TypeTree → Statements → Form
    -- modifiers, the name, what it extends and implements, and the members
    Class : List Token → Token → Option Token → List Token → Members → Form
    Interface : Token → List Token → Members → Form
    Trait : Token → Members → Form

  pub data Statements : Type 0 where
    no_statement : Statements
    statement : Statement → Statements → Statements

  pub data MayStatement : Type 0 where
    no_else : MayStatement
    else : Statement → MayStatement

  pub data MayBlock : Type 0 where
    no_block : MayBlock
    block : Statements → MayBlock

  pub data ElseIfs : Type 0 where
    no_else_if : ElseIfs
    else_if : Token → Value → Statement → ElseIfs → ElseIfs

  pub data Cases : Type 0 where
    no_case : Cases
    -- the value, which a `default` lacks, the `:` or `;`, and the statements
    case : Token → MayValue → Token → Statements → Cases → Cases

  pub data Catches : Type 0 where
    no_catch : Catches
    -- the classes, the variable and the block
    catch : Token → List Token → Option Token → Statements → Catches → Catches

  pub data Variables : Type 0 where
    no_variable : Variables
    variable : Token → MayValue → Variables → Variables

  pub data Constants : Type 0 where
    no_constant : Constants
    constant : Token → Value → Constants → Constants

  pub data Parameters : Type 0 where
    no_parameter : Parameters
    -- visibility, type, whether `&` and `...` stand, the variable and the default value
    parameter : Token → Option Token → Option TypeTree → Bool → Bool → Token → MayValue → Parameters → Parameters

  pub data Members : Type 0 where
    no_member : Members
    member : Token → Member → Members → Members

  pub data Member : Type 0 where
    -- the traits, and the adaptations where braces stand
    TraitUse : List Token → Option (List Adaptation) → Member
    -- modifiers, and what follows them
    ClassConstants : List Token → Constants → Member
    Method : List Token → Bool → Token → Parameters → Bool → Option TypeTree → MayBlock → Member
    Properties : List Token → Option TypeTree → Variables → Member

-- what a `use` brings: in braces `function` or `const`, the name and the alias
pub record Used : Type 0 where
  pub kind : Option Token
  pub name : Token
  pub alias : Option Token

mutual
  -- Each has its first token, as a statement has.
  pub data Top : Type 0 where
    Namespace : Token → Token → Token → Top
    NamespaceBlock : Token → Option Token → Tops → Top
    -- `function` or `const`, and what is brought
    Use : Token → Option Token → List Used → Token → Top
    -- `function` or `const`, the name before the braces, what stands in them, and whether a `,` stands behind the last
    UseGroup : Token → Option Token → Token → List Used → Bool → Token → Top
    Plain : Statement → Top

  pub data Tops : Type 0 where
    no_top : Tops
    top : Top → Tops → Tops

-- with its comments, in order
pub record File : Type 0 where
  pub tops : Tops
  pub comments : List Token
