-- Types of PHP and PHPDoc as plain data: a list of parts, one constructor a kind of part, with its fields in order.
use Rattle.std.specs.Prelude.{ℕ, ℤ, Bool, List, [], ◌∷◌}

-- a string: one text, every text but `''`, or every text
pub data StringForm : Type 0 where
  Literal : List ℕ → StringForm
  NonEmpty : StringForm
  Plain : StringForm

-- the key of a field
pub data Key : Type 0 where
  IntKey : ℤ → Key
  TextKey : List ℕ → Key

mutual
  -- a list of parts; none is `never`
  pub data PhpType : Type 0 where
    never : PhpType
    part_and : Part → PhpType → PhpType

  pub data Part : Type 0 where
    -- name and arguments
    Object : List ℕ → Types → Part
    Static : List ℕ → Part
    -- a value that is of each of these classes
    Meeting : List (List ℕ) → Part
    AnyObject : Part
    -- owner, name and bound
    Template : List ℕ → List ℕ → PhpType → Part
    -- key, value, whether it is a list, and whether it is non-empty
    Array : PhpType → PhpType → Bool → Bool → Part
    Shape : Fields → Part
    Callable : Part
    -- least and greatest
    Int : ℤ → ℤ → Part
    Float : Part
    Str : StringForm → Part
    -- the name of any class, or of one whose objects are of the type
    ClassString : Part
    ClassStringOf : PhpType → Part
    False : Part
    True : Part
    Null : Part
    Void : Part
    ImplicitMixed : Part
    ExplicitMixed : Part

  pub data Types : Type 0 where
    no_type : Types
    type_and : PhpType → Types → Types

  -- key, whether it may be missing, and type
  pub data Fields : Type 0 where
    no_field : Fields
    field_and : Key → Bool → PhpType → Fields → Fields

-- the parts of a type
abbrev pub parts : PhpType → List Part
parts never = []
parts (part_and p t) = p ∷ parts t

-- the type of these parts
abbrev pub of_parts : List Part → PhpType
of_parts [] = never
of_parts (p ∷ ps) = part_and p (of_parts ps)

abbrev pub types : Types → List PhpType
types no_type = []
types (type_and t ts) = t ∷ types ts

abbrev pub of_types : List PhpType → Types
of_types [] = no_type
of_types (t ∷ ts) = type_and t (of_types ts)

-- a field of a shape
pub record Field : Type 0 where
  pub key : Key
  pub optional : Bool
  pub value : PhpType

abbrev pub fields : Fields → List Field
fields no_field = []
fields (field_and k o t fs) = record { key = k; optional = o; value = t } ∷ fields fs

abbrev pub of_fields : List Field → Fields
of_fields [] = no_field
of_fields (f ∷ fs) = field_and f.key f.optional f.value (of_fields fs)
