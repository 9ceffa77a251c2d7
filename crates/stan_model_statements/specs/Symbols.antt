-- What a production of the grammar of files is made of.
use Rattle.std.specs.Prelude.{Bool, true, false, List, ◌∷◌}
use Rattle.stan_model_grammar.specs.declared.token.TokenKind.{TokenKind}

-- what can stand as a part of a production
pub data Sort : Type 0 where
  Top : Sort
  NamespaceName : Sort
  Tops : Sort
  UseKind : Sort
  UseRest : Sort
  UseItem : Sort
  FurtherUseItem : Sort
  UseAlias : Sort
  GroupItems : Sort
  GroupItem : Sort
  FurtherGroupItem : Sort
  GroupEnd : Sort
  Statement : Sort
  Block : Sort
  Condition : Sort
  Expressions : Sort
  FurtherExpression : Sort
  Value : Sort
  ElseIfPart : Sort
  ElsePart : Sort
  ForHead : Sort
  ForEachHead : Sort
  ForEachTarget : Sort
  Cases : Sort
  Case : Sort
  Levels : Sort
  Handlers : Sort
  CatchPart : Sort
  CatchHead : Sort
  FurtherClass : Sort
  CatchVariable : Sort
  FinallyPart : Sort
  UnsetList : Sort
  FurtherArgument : Sort
  Closing : Sort
  FurtherGlobal : Sort
  Declared : Sort
  FurtherDeclared : Sort
  Constant : Sort
  FurtherConstant : Sort
  Directive : Sort
  Default : Sort
  ByReference : Sort
  ParameterList : Sort
  Parameter : Sort
  FurtherParameter : Sort
  Visibility : Sort
  Variadic : Sort
  ReturnType : Sort
  WrittenType : Sort
  FurtherType : Sort
  ClassModifier : Sort
  Extends : Sort
  InterfaceExtends : Sort
  Implements : Sort
  Names : Sort
  FurtherName : Sort
  ClassBody : Sort
  Member : Sort
  Modifier : Sort
  Modified : Sort
  ClassConstants : Sort
  ClassConstant : Sort
  FurtherClassConstant : Sort
  Method : Sort
  MethodBody : Sort
  Properties : Sort
  PropertyType : Sort
  TraitUseEnd : Sort
  Adaptations : Sort
  Adaptation : Sort
  AdaptedTrait : Sort
  AdaptationRest : Sort
  Alias : Sort

pub data Need : Type 0 where
  -- it stands once, or it may stand, or any number of it
  One : Need
  May : Need
  Many : Need
  -- any number of it, behind those that stand already
  Again : Need

-- what is asked of a token besides its kind
pub data Check : Type 0 where
  -- it is the word `strict_types`
  strict_types : Check
  -- no `|` stands right behind it, with which `static` would be a type
  modifier : Check

pub data Symbol : Type 0 where
  -- a token of this kind, which the tree need not hold
  Mark : TokenKind → Symbol
  -- a token of one of these kinds, which the tree holds
  Word : List TokenKind → Symbol
  -- a token that the tree holds, and of which more is asked
  Checked : Check → Symbol
  -- an expression that an end token follows, and whether it may be a pattern
  Expression : Bool → Symbol
  Part : Need → Sort → Symbol

abbrev pub lacks : Need → Bool
lacks One = false
lacks _ = true

-- what stands behind a part that was read
abbrev pub rest : Need → Sort → List Symbol → List Symbol
rest Many s xs = Part Again s ∷ xs
rest Again s xs = Part Again s ∷ xs
rest _ s xs = xs
