-- Which kinds of tokens stand for what.
use Rattle.std.specs.Prelude.{Bool, false, ◌||◌, List, [], ◌∷◌}
use denote.Enum.Bare.{sameb}
use Rattle.stan_model_grammar.specs.contracts.token.TokenKind.{the_type}
use Rattle.stan_model_grammar.specs.declared.token.TokenKind.{TokenKind}
use Rattle.stan_model_grammar.specs.declared.token.TokenKind.TheVariants as k

unfoldable pub same_kind : TokenKind → TokenKind → Bool
same_kind = sameb the_type

abbrev pub has : List TokenKind → TokenKind → Bool
has [] kind = false
has (x ∷ xs) kind = same_kind kind x || has xs kind

-- written names of classes, functions, constants and namespaces
abbrev pub names : List TokenKind
names = k.Identifier ∷ k.QualifiedName ∷ k.FullyQualifiedName ∷ k.RelativeName ∷ []

abbrev pub identifiers : List TokenKind
identifiers = k.Identifier ∷ []

abbrev pub variables : List TokenKind
variables = k.Variable ∷ []

abbrev pub integers : List TokenKind
integers = k.Integer ∷ []

abbrev pub questions : List TokenKind
questions = k.Question ∷ []

abbrev pub statics : List TokenKind
statics = k.Static ∷ []

-- what ends a statement: the last `?>` counts as `;`
abbrev pub ends : List TokenKind
ends = k.Semicolon ∷ k.ClosingTag ∷ []

-- what stands behind a `case`
abbrev pub case_ends : List TokenKind
case_ends = k.Colon ∷ k.Semicolon ∷ []

-- what a `use` brings, besides classes
abbrev pub use_kinds : List TokenKind
use_kinds = k.Function ∷ k.Const ∷ []

abbrev pub visibilities : List TokenKind
visibilities = k.Public ∷ k.Protected ∷ k.Private ∷ []

abbrev pub class_modifiers : List TokenKind
class_modifiers = k.Abstract ∷ k.Final ∷ []

-- of members
abbrev pub modifiers : List TokenKind
modifiers = k.Public ∷ k.Protected ∷ k.Private ∷ k.Static ∷ k.Abstract ∷ k.Final ∷ k.Var ∷ []

-- a `static` that no `|` follows is a modifier of a property
abbrev pub property_type_names : List TokenKind
property_type_names = k.Identifier ∷ k.QualifiedName ∷ k.FullyQualifiedName ∷ k.RelativeName ∷ k.Array ∷ k.Callable ∷ []

abbrev pub type_names : List TokenKind
type_names = k.Identifier ∷ k.QualifiedName ∷ k.FullyQualifiedName ∷ k.RelativeName ∷ k.Array ∷ k.Callable ∷ k.Static ∷ []

-- the names of members may be keywords
abbrev pub member_names : List TokenKind
member_names = k.Identifier ∷ k.Abstract ∷ k.And ∷ k.Array ∷ k.As ∷ k.Break ∷ k.Callable ∷ k.Case ∷ k.Catch ∷ k.Class ∷ k.Clone ∷ k.Const ∷ k.Continue ∷ k.Declare ∷ k.Default ∷ k.Die ∷ k.Do ∷ k.Echo ∷ k.Else ∷ k.ElseIf ∷ k.Empty ∷ k.Eval ∷ k.Exit ∷ k.Extends ∷ k.Final ∷ k.Finally ∷ k.Fn ∷ k.For ∷ k.ForEach ∷ k.Function ∷ k.Global ∷ k.Goto ∷ k.If ∷ k.Implements ∷ k.Include ∷ k.IncludeOnce ∷ k.InstanceOf ∷ k.InsteadOf ∷ k.Interface ∷ k.IsSet ∷ k.List ∷ k.Match ∷ k.Namespace ∷ k.New ∷ k.Or ∷ k.Print ∷ k.Private ∷ k.Protected ∷ k.Public ∷ k.Require ∷ k.RequireOnce ∷ k.Return ∷ k.Static ∷ k.Switch ∷ k.Throw ∷ k.Trait ∷ k.Try ∷ k.Unset ∷ k.Use ∷ k.Var ∷ k.While ∷ k.Xor ∷ k.Yield ∷ k.HaltCompiler ∷ []

-- a visibility before `;` is no name
abbrev pub alias_names : List TokenKind
alias_names = k.Identifier ∷ k.Abstract ∷ k.And ∷ k.Array ∷ k.As ∷ k.Break ∷ k.Callable ∷ k.Case ∷ k.Catch ∷ k.Class ∷ k.Clone ∷ k.Const ∷ k.Continue ∷ k.Declare ∷ k.Default ∷ k.Die ∷ k.Do ∷ k.Echo ∷ k.Else ∷ k.ElseIf ∷ k.Empty ∷ k.Eval ∷ k.Exit ∷ k.Extends ∷ k.Final ∷ k.Finally ∷ k.Fn ∷ k.For ∷ k.ForEach ∷ k.Function ∷ k.Global ∷ k.Goto ∷ k.If ∷ k.Implements ∷ k.Include ∷ k.IncludeOnce ∷ k.InstanceOf ∷ k.InsteadOf ∷ k.Interface ∷ k.IsSet ∷ k.List ∷ k.Match ∷ k.Namespace ∷ k.New ∷ k.Or ∷ k.Print ∷ k.Require ∷ k.RequireOnce ∷ k.Return ∷ k.Static ∷ k.Switch ∷ k.Throw ∷ k.Trait ∷ k.Try ∷ k.Unset ∷ k.Use ∷ k.Var ∷ k.While ∷ k.Xor ∷ k.Yield ∷ k.HaltCompiler ∷ []
