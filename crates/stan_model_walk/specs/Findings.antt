-- The names of functions and constants that a statement holds, in declarations and elsewhere.
use Rattle.std.specs.Prelude.{if◌then◌else◌, Bool, false, List, [], ◌∷◌, Option, Some, None}
use Rattle.stan_model_grammar.specs.declared.operators.Leaf.{Leaf}
use Rattle.stan_model_grammar.specs.declared.operators.Leaf.TheVariants as leaves
use Rattle.stan_model_grammar.specs.declared.token.Token.{Token}
use Rattle.stan_model_grammar.specs.Trees.{Tree, node, Form, Single, Post, Items, no_item, items, Item, Positional, Steps, step, Call}
use Rattle.stan_model_statements.specs.Trees as statements
use Rattle.stan_model_walk.specs.Nodes.{Node, is_name, AStatement, AMember, AConstant, AnExpression, in_statement}

-- by the token of a name
pub data Finding : Type 0 where
  -- a call of a function
  Calls : Token → Finding
  -- a call whose first argument is a plain text, which stands behind the name
  Defines : Token → Token → Finding
  -- a constant, by its name
  Fetches : Token → Finding
  -- a class, an interface or a trait
  DeclaresClass : Token → Finding
  DeclaresFunction : Token → Finding
  DeclaresConstant : Token → Finding

-- and whether a function, a closure, an arrow function or a class stands around it
pub record Found : Type 0 where
  pub inner : Bool
  pub finding : Finding

abbrev pub leaf_text : Token → Leaf → Option Token
leaf_text t leaves.Text = Some t
leaf_text t _ = None

-- a text without insertions
abbrev pub text_of : Tree → Option Token
text_of (node t (Single leaf)) = leaf_text t leaf
text_of _ = None

abbrev pub item_text : Item → Option Token
item_text (Positional e) = text_of e
item_text _ = None

-- such a text as the first argument
abbrev pub first_text : Items → Option Token
first_text no_item = None
first_text (items x xs comma) = item_text x

abbrev pub defined : Token → Option Token → List Finding
defined t None = []
defined t (Some text) = Defines t text ∷ []

-- what stands in the brackets that follow at once
abbrev pub first_arguments : Steps → Option Items
first_arguments (step (Call es) ss) = Some es
first_arguments _ = None

abbrev pub called_with : Token → Option Items → List Finding
called_with t None = []
called_with t (Some es) = Calls t ∷ defined t (first_text es)

abbrev pub called : Tree → Steps → List Finding
called (node t f) ss = if is_name (node t f) then called_with t (first_arguments ss) else []

abbrev pub of_leaf : Token → Leaf → List Finding
of_leaf t leaves.Name = Fetches t ∷ []
of_leaf t _ = []

abbrev pub of_expression : Tree → List Finding
of_expression (node t (Single leaf)) = of_leaf t leaf
of_expression (node t (Post e ss)) = called e ss
of_expression _ = []

abbrev pub of_form : statements.Form → List Finding
of_form (statements.Function reference name ps comma type ss) = DeclaresFunction name ∷ []
of_form (statements.Class modifiers name parent interfaces ms) = DeclaresClass name ∷ []
of_form (statements.Interface name parents ms) = DeclaresClass name ∷ []
of_form (statements.Trait name ms) = DeclaresClass name ∷ []
of_form _ = []

abbrev pub of_node : Node → List Finding
of_node (AStatement (statements.node t f)) = of_form f
of_node (AMember m) = []
of_node (AConstant t) = DeclaresConstant t ∷ []
of_node (AnExpression e) = of_expression e

abbrev pub placed : Bool → List Finding → List Found
placed inner [] = []
placed inner (f ∷ fs) = record { inner = inner; finding = f } ∷ placed inner fs

abbrev pub found_in : Bool → Node → List Found
found_in inner n = placed inner (of_node n)

-- all of them in a statement
abbrev pub findings : statements.Statement → List Found
findings s = in_statement found_in false s
