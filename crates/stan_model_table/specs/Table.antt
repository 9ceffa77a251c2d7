-- What files declare, and the answer to a look-up by name.
use Rattle.std.specs.Prelude.{ℕ, ◌&&◌, Bool, List, Option, position}
use Rattle.std.specs.Str.{bytes_eq}
use Rattle.stan_base.specs.declared.ask_kind.AskKind.{AskKind}
use Rattle.stan_base.specs.declared.ask_kind.AskKind.TheVariants as kinds
use Rattle.stan_base.specs.Names.{fold_name}
use Rattle.stan_model_names.specs.Resolve.{same_ask}

-- a class, an interface or a trait, by its full name
pub record ClassNode : Type 0 where
  pub name : List ℕ

-- a function, by its full name
pub record FunctionNode : Type 0 where
  pub name : List ℕ

-- a constant, by its full name
pub record ConstantNode : Type 0 where
  pub name : List ℕ

-- what other files can see of a declaration
pub data Exported : Type 0 where
  Class : ClassNode → Exported
  Function : FunctionNode → Exported
  Constant : ConstantNode → Exported

abbrev pub kind_of : Exported → AskKind
kind_of (Class node) = kinds.Class
kind_of (Function node) = kinds.Function
kind_of (Constant node) = kinds.Constant

abbrev pub name_of : Exported → List ℕ
name_of (Class node) = node.name
name_of (Function node) = node.name
name_of (Constant node) = node.name

-- whether a node is of this kind and has this name
abbrev pub is_named : AskKind → List ℕ → Exported → Bool
is_named kind name node = same_ask (kind_of node) kind && bytes_eq (fold_name kind (name_of node)) (fold_name kind name)

-- the place of the first node of this kind and name
abbrev pub answer_of : List Exported → AskKind → List ℕ → Option ℕ
answer_of table kind name = position (is_named kind name) table
