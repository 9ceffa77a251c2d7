-- Trees of PHP's expressions, as plain data: one constructor a production, with its parts in order.
use Rattle.std.specs.Prelude.{ℕ, Bool, true, false, ◌||◌, List, Option}
use Rattle.stan_model_grammar.specs.declared.operators.Leaf.{Leaf}
use Rattle.stan_model_grammar.specs.declared.operators.ArrayStyle.{ArrayStyle}
use Rattle.stan_model_grammar.specs.declared.operators.ArrayStyle.TheVariants as styles
use Rattle.stan_model_grammar.specs.declared.operators.PrefixOperator.{PrefixOperator}
use Rattle.stan_model_grammar.specs.declared.operators.BinaryOperator.{BinaryOperator}
use Rattle.stan_model_grammar.specs.declared.operators.AssignmentOperator.{AssignmentOperator}
use Rattle.stan_model_grammar.specs.declared.operators.Visibility.{Visibility}
use Rattle.stan_model_grammar.specs.declared.operators.Production.{Production}
use Rattle.stan_model_grammar.specs.declared.operators.Production.TheVariants as productions
use Rattle.stan_model_grammar.specs.declared.operators.Leaf.TheVariants as leaves
use Rattle.stan_model_grammar.specs.declared.token.Token.{Token}

-- a written type: its first token, and the tokens of its names
pub data TypeTree : Type 0 where
  Nullable : Token → Token → TypeTree
  Union : Token → List Token → TypeTree

mutual
  -- an expression: its first token, and its production
  pub data Tree : Type 0 where
    node : Token → Form → Tree

  pub data Form : Type 0 where
    Single : Leaf → Form
    Brackets : Tree → Form
    Array : ArrayStyle → Items → Form
    IsSet : Items → Form
    Empty : Tree → Form
    Exit : Arguments → Form
    New : ClassReference → Arguments → Form
    Match : Tree → Items → Form
    -- whether `static` and `&` stand, parameters, captured variables, the type and the body
    Closure : Bool → Bool → Items → Items → Option TypeTree → Body → Form
    -- whether `static` and `&` stand, parameters, the type and the expression
    Arrow : Bool → Bool → Items → Option TypeTree → Tree → Form
    -- a text with insertions
    Text : Steps → Form
    -- what stands first, and what is appended to it
    Post : Tree → Steps → Form
    Prefix : PrefixOperator → Tree → Form
    Assignment : Tree → AssignmentOperator → Tree → Form
    -- a chain of one stratum: its first operand, and the operators with their operands
    Chain : ℕ → Tree → Steps → Form
    -- with the token at which the operator begins
    Binary : Tree → Token → BinaryOperator → Tree → Form
    Conditional : Tree → Tree → Tree → Form

  -- items with `,` between them
  pub data Items : Type 0 where
    no_item : Items
    -- the first one, the further ones, and whether a `,` stands behind the last
    items : Item → Steps → Bool → Items

  pub data Item : Type 0 where
    -- an expression, also an argument
    Positional : Tree → Item
    Spread : Tree → Item
    Named : Token → Tree → Item
    -- whether `&` stands, and the value
    Element : Bool → Tree → Item
    KeyedElement : Tree → Bool → Tree → Item
    -- visibility, type, whether `&` and `...` stand, the variable and the default value
    Parameter : Option Visibility → Option TypeTree → Bool → Bool → Token → Default → Item
    Captured : Token → Item
    -- conditions and value
    Arm : Items → Tree → Item
    -- whether a `,` stands behind `default`, and the value
    DefaultArm : Bool → Tree → Item

  pub data Default : Type 0 where
    no_default : Default
    default : Tree → Default

  pub data Arguments : Type 0 where
    no_arguments : Arguments
    arguments : Items → Arguments

  -- the class of a `new`
  pub data ClassReference : Type 0 where
    NamedClass : Token → ClassReference
    VariableClass : Token → Steps → ClassReference
    -- a class, and a static property of it
    ScopedClass : Token → Token → Steps → ClassReference
    ComputedClass : Tree → ClassReference

  pub data MemberName : Type 0 where
    NamedMember : Token → MemberName
    ComputedMember : Tree → MemberName

  -- parts that are repeated
  pub data Steps : Type 0 where
    no_step : Steps
    step : Step → Steps → Steps

  pub data Step : Type 0 where
    Push : Step
    Index : Tree → Step
    -- whether the arrow is `?->`
    Property : Bool → MemberName → Arguments → Step
    Scoped : Token → Arguments → Step
    Call : Items → Step
    Increment : Step
    Decrement : Step
    -- with the token at which the operator begins
    Operation : Token → BinaryOperator → Tree → Step
    -- of a text: fixed bytes, or an insertion of one token
    Part : Token → Step
    -- an insertion in braces
    Inserted : Tree → Step
    -- a `,` and an item
    Further : Item → Step

  -- the body of a closure
  pub data Body : Type 0 where
    -- not read: the place behind its `{`, and the place of its `}`
    Held : ℕ → ℕ → Body
    Read : Statements → Body

  pub data Statements : Type 0 where
    no_statement : Statements
    statement : Statement → Statements → Statements

  pub data Statement : Type 0 where
    Expression : Tree → Statement

-- ---- productions

abbrev pub leaf_production : Leaf → Production
leaf_production leaves.Integer = productions.Literal
leaf_production leaves.Float = productions.Literal
leaf_production leaves.Text = productions.Literal
leaf_production leaves.Variable = productions.Variable
leaf_production leaves.Name = productions.Name
leaf_production leaves.Static = productions.Static

abbrev pub form_production : Form → Production
form_production (Single leaf) = leaf_production leaf
form_production (Brackets e) = productions.Brackets
form_production (Array style es) = productions.Array
form_production (IsSet es) = productions.IsSet
form_production (Empty e) = productions.Empty
form_production (Exit es) = productions.Exit
form_production (New class es) = productions.New
form_production (Match e arms) = productions.Match
form_production (Closure static reference parameters captures type body) = productions.Closure
form_production (Arrow static reference parameters type e) = productions.Arrow
form_production (Text parts) = productions.Text
form_production (Post e ss) = productions.Post
form_production (Prefix o e) = productions.Prefix
form_production (Assignment target o e) = productions.Assignment
form_production (Chain j e ss) = productions.Chain
form_production (Binary d t o e) = productions.Binary
form_production (Conditional c d e) = productions.Conditional

-- what stands at the top of a tree
abbrev pub production : Tree → Production
production (node t f) = form_production f

-- an operator with its operands
abbrev pub operates : Production → Bool
operates productions.Prefix = true
operates productions.Assignment = true
operates productions.Chain = true
operates productions.Binary = true
operates productions.Conditional = true
operates _ = false

-- Without arguments, or with one plain argument, `exit` ends the program. Else it is a call.
abbrev pub ends_program : Arguments → Bool
ends_program no_arguments = true
ends_program (arguments no_item) = true
ends_program (arguments (items (Positional e) no_step false)) = true
ends_program _ = false

-- ---- patterns

abbrev mutual
  -- Whether the array holds `list(..)`, itself or as a value: then it is a pattern, and no value.
  pub is_pattern : Tree → Bool
  is_pattern (node t (Array styles.List es)) = true
  is_pattern (node t (Array s es)) = holds_pattern es
  is_pattern _ = false

  pub holds_pattern : Items → Bool
  holds_pattern no_item = false
  holds_pattern (items x xs comma) = is_pattern_item x || further_pattern xs

  pub is_pattern_item : Item → Bool
  is_pattern_item (Element reference e) = is_pattern e
  is_pattern_item (KeyedElement key reference e) = is_pattern e
  is_pattern_item _ = false

  pub further_pattern : Steps → Bool
  further_pattern no_step = false
  further_pattern (step (Further x) xs) = is_pattern_item x || further_pattern xs
  further_pattern (step x xs) = further_pattern xs
