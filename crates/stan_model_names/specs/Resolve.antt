-- Names as they are resolved by a namespace and its uses (PHP manual, "Name resolution rules").
use Rattle.std.specs.Prelude.{ℕ, ◌==◌, ◌&&◌, if◌then◌else◌, Bool, true, false, List, [], ◌∷◌, ◌++◌, Option, Some, None, take, drop, slice_index, position}
use Rattle.std.specs.Str.{bytes_eq}
use Rattle.stan_base.specs.Bytes.{fold_case}
use Rattle.stan_base.specs.Names.{begins_relative}
use Rattle.stan_base.specs.declared.ask_kind.AskKind.{AskKind}
use Rattle.stan_base.specs.declared.ask_kind.AskKind.TheVariants as kinds

-- what a `use` brings: an alias of a kind, and the full name that it means
pub record Use : Type 0 where
  pub kind : AskKind
  pub alias : List ℕ
  pub name : List ℕ

-- what is in force at a place: the namespace, without backslashes at its ends, and the uses before the place, in order
pub record Scope : Type 0 where
  pub namespace : List ℕ
  pub uses : List Use

abbrev pub same_ask : AskKind → AskKind → Bool
same_ask kinds.Class kinds.Class = true
same_ask kinds.Function kinds.Function = true
same_ask kinds.Constant kinds.Constant = true
same_ask _ _ = false

-- the form in which aliases of a kind are compared: those of constants with case
abbrev pub fold_alias : AskKind → List ℕ → List ℕ
fold_alias kinds.Class alias = fold_case alias
fold_alias kinds.Function alias = fold_case alias
fold_alias kinds.Constant alias = alias

abbrev pub brings : AskKind → List ℕ → Use → Bool
brings kind alias u = same_ask u.kind kind && bytes_eq (fold_alias kind u.alias) (fold_alias kind alias)

-- the name that the first use of this kind and alias brings
abbrev pub aliased : AskKind → List ℕ → List Use → Option (List ℕ)
aliased kind alias [] = None
aliased kind alias (u ∷ us) = if brings kind alias u then Some u.name else aliased kind alias us

-- a name in a namespace: the global one has no name
abbrev pub within : List ℕ → List ℕ → List ℕ
within [] name = name
within (b ∷ bs) name = b ∷ bs ++ 92 ∷ name

-- with what an alias means in the place of the first so many bytes
abbrev pub replaced : Option (List ℕ) → List ℕ → ℕ → List ℕ → List ℕ
replaced None namespace at written = within namespace written
replaced (Some name) namespace at written = name ++ drop at written

abbrev pub or_within : Option (List ℕ) → List ℕ → List ℕ → List ℕ
or_within None namespace written = within namespace written
or_within (Some name) namespace written = name

-- where the first backslash of a name stands
abbrev pub backslash : List ℕ → Option ℕ
backslash = position (λ b. b == 92)

-- By where the first backslash stands: a qualified name begins with a class alias or stands in the namespace, an unqualified one is an
-- alias of its own kind or stands there.
abbrev pub resolved_by : Option ℕ → Scope → AskKind → List ℕ → List ℕ
resolved_by (Some at) scope kind written = replaced (aliased kinds.Class (take at written) scope.uses) scope.namespace at written
resolved_by None scope kind written = or_within (aliased kind written scope.uses) scope.namespace written

-- the full name: `\X` is full, `namespace\X` stands in the present namespace
abbrev pub full_name : Scope → AskKind → List ℕ → List ℕ
full_name scope kind written =
    if slice_index written 0 == 92 then drop 1 written
    else (if begins_relative written then within scope.namespace (drop 10 written) else resolved_by (backslash written) scope kind written)

abbrev pub unless_aliased : Option (List ℕ) → List ℕ → Option (List ℕ)
unless_aliased None written = Some written
unless_aliased (Some name) written = None

abbrev pub second_by : Option ℕ → Scope → AskKind → List ℕ → Option (List ℕ)
second_by (Some at) scope kind written = None
second_by None scope kinds.Class written = None
second_by None scope kinds.Function written = unless_aliased (aliased kinds.Function written scope.uses) written
second_by None scope kinds.Constant written = unless_aliased (aliased kinds.Constant written scope.uses) written

-- The global name that an unqualified function or constant without an alias means where the first is absent.
abbrev pub second_name : Scope → AskKind → List ℕ → Option (List ℕ)
second_name scope kind written = second_by (backslash written) scope kind written
