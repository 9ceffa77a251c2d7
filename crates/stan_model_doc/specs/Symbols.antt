-- What a production is made of.
use Rattle.std.specs.Prelude.{Bool, true, false, List, ◌∷◌}
use Rattle.stan_model_doc.specs.declared.token.DocKind.{DocKind}

-- what can stand as a part of a production
pub data Sort : Type 0 where
  Tag : Sort
  VariableName : Sort
  Reference : Sort
  Spread : Sort
  StaticWord : Sort
  Parameters : Sort
  Parameter : Sort
  FurtherParameter : Sort
  Default : Sort
  Bound : Sort
  Written : Sort
  Negation : Sort
  Alt : Sort
  OrPart : Sort
  Both : Sort
  AndPart : Sort
  Unary : Sort
  Brackets : Sort
  Atom : Sort
  Result : Sort
  Arguments : Sort
  FurtherType : Sort
  Fields : Sort
  Field : Sort
  FurtherField : Sort
  LastComma : Sort
  QuestionMark : Sort

-- a part stands once, or it may stand, or any number of it
pub data Need : Type 0 where
  One : Need
  May : Need
  Many : Need

-- Where a text of any tokens may not go on: nowhere, or at a comma too.
pub data Stop : Type 0 where
  Nowhere : Stop
  AtComma : Stop

pub data Symbol : Type 0 where
  -- a token of this kind, which the tree need not hold
  Mark : DocKind → Symbol
  -- a token of one of these kinds, which the tree holds
  Word : List DocKind → Symbol
  -- any tokens in which brackets match
  Any : Stop → Symbol
  Part : Need → Sort → Symbol

abbrev pub lacks : Need → Bool
lacks One = false
lacks May = true
lacks Many = true

-- what stands behind a part that was read
abbrev pub rest : Need → Sort → List Symbol → List Symbol
rest One s xs = xs
rest May s xs = xs
rest Many s xs = Part Many s ∷ xs
