-- Which tokens are operators, and how tightly they bind (PHP manual, "Operator Precedence"). A stratum is a number, the tightest first:
--     0 what stands alone      10 `*` `/` `%`            20 `||`
--     1 `(` appended           11 `+` `-`                21 `??`
--     2 `::$` appended         12 `<<` `>>`              22 `? :`
--     3 `[` `->` `?->`         13 `.`                    23 `?:`
--     4 all that is appended   14 `<` `<=` `>` `>=`      24 assignments
--     5 operands, `clone`      15 `==` `!=` `===` ..     25 `print`
--     6 `**`                   16 `&`                    26 `and`
--     7 prefix and casts       17 `^`                    27 `xor`
--     8 `instanceof`           18 `|`                    28 `or`
--     9 `!`                    19 `&&`                   29 `include` .., `throw`
use Rattle.std.specs.Prelude.{ℕ, ◌-◌, ◌==◌, if◌then◌else◌, Bool, true, false, List, Option, Some, None, slice_get}
use Rattle.stan_model_grammar.specs.declared.operators.Leaf.{Leaf}
use Rattle.stan_model_grammar.specs.declared.operators.Leaf.TheVariants as leaves
use Rattle.stan_model_grammar.specs.declared.operators.Fixity.{Fixity}
use Rattle.stan_model_grammar.specs.declared.operators.Fixity.TheVariants as fixities
use Rattle.stan_model_grammar.specs.declared.operators.PrefixOperator.{PrefixOperator}
use Rattle.stan_model_grammar.specs.declared.operators.PrefixOperator.TheVariants as prefixes
use Rattle.stan_model_grammar.specs.declared.operators.BinaryOperator.{BinaryOperator}
use Rattle.stan_model_grammar.specs.declared.operators.BinaryOperator.TheVariants as binaries
use Rattle.stan_model_grammar.specs.declared.operators.AssignmentOperator.{AssignmentOperator}
use Rattle.stan_model_grammar.specs.declared.operators.AssignmentOperator.TheVariants as assignments
use Rattle.stan_model_grammar.specs.declared.operators.Visibility.{Visibility}
use Rattle.stan_model_grammar.specs.declared.operators.Visibility.TheVariants as visibilities
use Rattle.stan_model_grammar.specs.declared.token.Token.{Token}
use Rattle.stan_model_grammar.specs.declared.token.TokenKind.{TokenKind}
use Rattle.stan_model_grammar.specs.declared.token.TokenKind.TheVariants as kinds
use Rattle.stan_model_grammar.specs.Tokens.{is_keyword}

-- ---- what stands at a place

abbrev pub kind_of : Option Token → TokenKind
kind_of None = kinds.End
kind_of (Some t) = t.kind

unfoldable pub kind_at : List Token → ℕ → TokenKind
kind_at ts at = kind_of (slice_get ts at)

-- ---- expressions of one token

abbrev pub leaf_of : TokenKind → Option Leaf
leaf_of kinds.Integer = Some leaves.Integer
leaf_of kinds.Float = Some leaves.Float
leaf_of kinds.SingleQuoted = Some leaves.Text
leaf_of kinds.DoubleQuoted = Some leaves.Text
leaf_of kinds.Heredoc = Some leaves.Text
leaf_of kinds.Nowdoc = Some leaves.Text
leaf_of kinds.Variable = Some leaves.Variable
leaf_of kinds.Identifier = Some leaves.Name
leaf_of kinds.QualifiedName = Some leaves.Name
leaf_of kinds.FullyQualifiedName = Some leaves.Name
leaf_of kinds.RelativeName = Some leaves.Name
leaf_of kinds.Static = Some leaves.Static
leaf_of _ = None

-- The first stratum that goes on with it: `static` may begin a closure.
abbrev pub leaf_low : Leaf → ℕ
leaf_low leaves.Static = 0
leaf_low _ = 1

-- ---- operators

abbrev pub prefix_of : TokenKind → Option PrefixOperator
prefix_of kinds.Clone = Some prefixes.Clone
prefix_of kinds.Increment = Some prefixes.Increment
prefix_of kinds.Decrement = Some prefixes.Decrement
prefix_of kinds.Plus = Some prefixes.Plus
prefix_of kinds.Minus = Some prefixes.Minus
prefix_of kinds.Tilde = Some prefixes.BitwiseNot
prefix_of kinds.AtSign = Some prefixes.Silence
prefix_of kinds.IntCast = Some prefixes.IntCast
prefix_of kinds.BoolCast = Some prefixes.BoolCast
prefix_of kinds.FloatCast = Some prefixes.FloatCast
prefix_of kinds.StringCast = Some prefixes.StringCast
prefix_of kinds.ArrayCast = Some prefixes.ArrayCast
prefix_of kinds.ObjectCast = Some prefixes.ObjectCast
prefix_of kinds.Exclamation = Some prefixes.BooleanNot
prefix_of kinds.Print = Some prefixes.Print
prefix_of kinds.Include = Some prefixes.Include
prefix_of kinds.IncludeOnce = Some prefixes.IncludeOnce
prefix_of kinds.Require = Some prefixes.Require
prefix_of kinds.RequireOnce = Some prefixes.RequireOnce
prefix_of kinds.Throw = Some prefixes.Throw
prefix_of _ = None

-- the stratum of the operand
abbrev pub prefix_stratum : PrefixOperator → ℕ
prefix_stratum prefixes.Clone = 5
prefix_stratum prefixes.BooleanNot = 9
prefix_stratum prefixes.Print = 25
prefix_stratum prefixes.Include = 29
prefix_stratum prefixes.IncludeOnce = 29
prefix_stratum prefixes.Require = 29
prefix_stratum prefixes.RequireOnce = 29
prefix_stratum prefixes.Throw = 29
prefix_stratum _ = 7

-- the operators of one token
abbrev pub binary_of : TokenKind → Option BinaryOperator
binary_of kinds.Power = Some binaries.Power
binary_of kinds.InstanceOf = Some binaries.InstanceOf
binary_of kinds.Star = Some binaries.Multiply
binary_of kinds.Slash = Some binaries.Divide
binary_of kinds.Percent = Some binaries.Modulo
binary_of kinds.Plus = Some binaries.Add
binary_of kinds.Minus = Some binaries.Subtract
binary_of kinds.ShiftLeft = Some binaries.ShiftLeft
binary_of kinds.ShiftRight = Some binaries.ShiftRight
binary_of kinds.Dot = Some binaries.Concatenate
binary_of kinds.Below = Some binaries.Smaller
binary_of kinds.AtMost = Some binaries.SmallerOrEqual
binary_of kinds.Above = Some binaries.Greater
binary_of kinds.AtLeast = Some binaries.GreaterOrEqual
binary_of kinds.LooselyEqual = Some binaries.Equal
binary_of kinds.NotEqual = Some binaries.NotEqual
binary_of kinds.LessOrGreater = Some binaries.NotEqual
binary_of kinds.Identical = Some binaries.Identical
binary_of kinds.NotIdentical = Some binaries.NotIdentical
binary_of kinds.Spaceship = Some binaries.Spaceship
binary_of kinds.Ampersand = Some binaries.BitwiseAnd
binary_of kinds.Caret = Some binaries.BitwiseXor
binary_of kinds.Bar = Some binaries.BitwiseOr
binary_of kinds.DoubleAmpersand = Some binaries.BooleanAnd
binary_of kinds.DoubleBar = Some binaries.BooleanOr
binary_of kinds.Coalesce = Some binaries.Coalesce
binary_of kinds.And = Some binaries.LogicalAnd
binary_of kinds.Xor = Some binaries.LogicalXor
binary_of kinds.Or = Some binaries.LogicalOr
binary_of _ = None

-- `?` alone is no operator between two operands, and `?` `:` is one
abbrev pub question : TokenKind → Option BinaryOperator
question kinds.Colon = Some binaries.Elvis
question _ = None

-- the operator that begins with a token, by the token behind it
abbrev pub binary_at : TokenKind → TokenKind → Option BinaryOperator
binary_at kinds.Question next = question next
binary_at kind next = binary_of kind

-- how many tokens spell it
abbrev pub binary_size : BinaryOperator → ℕ
binary_size binaries.Elvis = 2
binary_size _ = 1

abbrev pub binary_stratum : BinaryOperator → ℕ
binary_stratum binaries.Power = 6
binary_stratum binaries.InstanceOf = 8
binary_stratum binaries.Multiply = 10
binary_stratum binaries.Divide = 10
binary_stratum binaries.Modulo = 10
binary_stratum binaries.Add = 11
binary_stratum binaries.Subtract = 11
binary_stratum binaries.ShiftLeft = 12
binary_stratum binaries.ShiftRight = 12
binary_stratum binaries.Concatenate = 13
binary_stratum binaries.Smaller = 14
binary_stratum binaries.SmallerOrEqual = 14
binary_stratum binaries.Greater = 14
binary_stratum binaries.GreaterOrEqual = 14
binary_stratum binaries.Equal = 15
binary_stratum binaries.NotEqual = 15
binary_stratum binaries.Identical = 15
binary_stratum binaries.NotIdentical = 15
binary_stratum binaries.Spaceship = 15
binary_stratum binaries.BitwiseAnd = 16
binary_stratum binaries.BitwiseXor = 17
binary_stratum binaries.BitwiseOr = 18
binary_stratum binaries.BooleanAnd = 19
binary_stratum binaries.BooleanOr = 20
binary_stratum binaries.Coalesce = 21
binary_stratum binaries.Elvis = 23
binary_stratum binaries.LogicalAnd = 26
binary_stratum binaries.LogicalXor = 27
binary_stratum binaries.LogicalOr = 28

abbrev pub fixity : BinaryOperator → Fixity
fixity binaries.Power = fixities.Right
fixity binaries.Smaller = fixities.Single
fixity binaries.SmallerOrEqual = fixities.Single
fixity binaries.Greater = fixities.Single
fixity binaries.GreaterOrEqual = fixities.Single
fixity binaries.Equal = fixities.Single
fixity binaries.NotEqual = fixities.Single
fixity binaries.Identical = fixities.Single
fixity binaries.NotIdentical = fixities.Single
fixity binaries.Spaceship = fixities.Single
fixity binaries.Coalesce = fixities.Right
fixity _ = fixities.Left

-- The stratum of the operands of a stratum: the next tighter one, but a chain of `?:` holds no `? :`.
abbrev pub tighter : ℕ → ℕ
tighter j = if j == 23 then 21 else j - 1

-- the stratum of the right side of an operator that is not in a chain
abbrev pub right_side : Fixity → ℕ → ℕ
right_side fixities.Right j = j
right_side _ j = j - 1

-- ---- assignments

-- `=`, by the token behind it
abbrev pub assign : TokenKind → AssignmentOperator
assign kinds.Ampersand = assignments.Reference
assign _ = assignments.Assign

abbrev pub assignment_at : TokenKind → TokenKind → Option AssignmentOperator
assignment_at kinds.Assign next = Some (assign next)
assignment_at kinds.PlusAssign next = Some assignments.Add
assignment_at kinds.MinusAssign next = Some assignments.Subtract
assignment_at kinds.TimesAssign next = Some assignments.Multiply
assignment_at kinds.DivideAssign next = Some assignments.Divide
assignment_at kinds.DotAssign next = Some assignments.Concatenate
assignment_at kinds.ModuloAssign next = Some assignments.Modulo
assignment_at kinds.PowerAssign next = Some assignments.Power
assignment_at kinds.AmpersandAssign next = Some assignments.BitwiseAnd
assignment_at kinds.BarAssign next = Some assignments.BitwiseOr
assignment_at kinds.CaretAssign next = Some assignments.BitwiseXor
assignment_at kinds.ShiftLeftAssign next = Some assignments.ShiftLeft
assignment_at kinds.ShiftRightAssign next = Some assignments.ShiftRight
assignment_at kinds.CoalesceAssign next = Some assignments.Coalesce
assignment_at _ next = None

abbrev pub assignment_size : AssignmentOperator → ℕ
assignment_size assignments.Reference = 2
assignment_size _ = 1

-- whether an array may stand before it
abbrev pub takes_pattern : AssignmentOperator → Bool
takes_pattern assignments.Assign = true
takes_pattern assignments.Reference = true
takes_pattern _ = false

-- ---- what goes on with an expression

abbrev pub loosest : ℕ
loosest = 29

-- `::`, by the token behind it
abbrev pub double_colon : TokenKind → ℕ
double_colon kinds.Variable = 2
double_colon _ = 4

-- `fn` and `function` go on with the word `static`.
abbrev pub joins_alone : TokenKind → TokenKind → ℕ
joins_alone kinds.Fn next = 0
joins_alone kinds.Function next = 0
joins_alone kinds.LeftParenthesis next = 1
joins_alone kinds.DoubleColon next = double_colon next
joins_alone kinds.LeftBracket next = 3
joins_alone kinds.Arrow next = 3
joins_alone kinds.NullsafeArrow next = 3
joins_alone kinds.Increment next = 4
joins_alone kinds.Decrement next = 4
joins_alone kinds.Question next = 22
joins_alone _ next = 30

abbrev pub joins_assigned : Option AssignmentOperator → ℕ → ℕ
joins_assigned (Some o) j = 5
joins_assigned None j = j

abbrev pub joins_operated : Option BinaryOperator → ℕ → ℕ
joins_operated (Some o) j = binary_stratum o
joins_operated None j = j

-- The stratum in which a token goes on with the expression before it, by the token behind it. It is 30 for one that doesn't.
abbrev pub joins : TokenKind → TokenKind → ℕ
joins kind next = joins_operated (binary_at kind next) (joins_assigned (assignment_at kind next) (joins_alone kind next))

-- the end of an expression: such a token, or nothing
abbrev pub is_end : TokenKind → Bool
is_end kinds.End = true
is_end kinds.ClosingTag = true
is_end kinds.Semicolon = true
is_end kinds.Comma = true
is_end kinds.RightParenthesis = true
is_end kinds.RightBracket = true
is_end kinds.RightBrace = true
is_end kinds.InsertionEnd = true
is_end kinds.Colon = true
is_end kinds.DoubleArrow = true
is_end kinds.As = true
is_end _ = false

-- ---- names and words

-- the class of a `new`, also before `::`
abbrev pub names_class : TokenKind → Bool
names_class kinds.Identifier = true
names_class kinds.QualifiedName = true
names_class kinds.FullyQualifiedName = true
names_class kinds.RelativeName = true
names_class kinds.Static = true
names_class _ = false

abbrev pub names_type : TokenKind → Bool
names_type kinds.Array = true
names_type kinds.Callable = true
names_type kind = names_class kind

-- behind an arrow
abbrev pub names_member : TokenKind → Bool
names_member kinds.Identifier = true
names_member kinds.Variable = true
names_member _ = false

-- behind `::`
abbrev pub names_scoped : TokenKind → Bool
names_scoped kinds.Class = true
names_scoped kind = names_member kind

-- before the `:` of an argument
abbrev pub names_argument : TokenKind → Bool
names_argument kinds.Identifier = true
names_argument kind = is_keyword kind

-- fixed bytes of a text, and insertions of one token
abbrev pub is_part : TokenKind → Bool
is_part kinds.TextPiece = true
is_part kinds.InsertedVariable = true
is_part kinds.InsertedElement = true
is_part kinds.InsertedProperty = true
is_part _ = false

abbrev pub is_exit : TokenKind → Bool
is_exit kinds.Exit = true
is_exit kinds.Die = true
is_exit _ = false

abbrev pub visibility_of : TokenKind → Option Visibility
visibility_of kinds.Public = Some visibilities.Public
visibility_of kinds.Protected = Some visibilities.Protected
visibility_of kinds.Private = Some visibilities.Private
visibility_of _ = None
