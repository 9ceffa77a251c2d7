-- The names that are in force at each place of a file (PHP manual, "Namespaces", "Using namespaces: Aliasing/Importing").
use Rattle.std.specs.Prelude.{ℕ, ◌==◌, if◌then◌else◌, List, [], ◌∷◌, ◌++◌, Option, Some, None, drop, map, slice_index}
use Rattle.std.specs.List.{list_any}
use Rattle.std.specs.Option.{option_map_or}
use Rattle.stan_base.specs.Names.{begins_relative}
use Rattle.stan_base.specs.declared.ask_kind.AskKind.{AskKind}
use Rattle.stan_base.specs.declared.ask_kind.AskKind.TheVariants as asks
use Rattle.stan_model_grammar.specs.declared.token.Token.{Token}
use Rattle.stan_model_grammar.specs.declared.token.TokenKind.{TokenKind}
use Rattle.stan_model_grammar.specs.declared.token.TokenKind.TheVariants as kinds
use Rattle.stan_model_grammar.specs.Tokens.{spelling}
use Rattle.stan_model_statements.specs.Trees.{Statement, Used, Top, Namespace, NamespaceBlock, Use, UseGroup, Plain, Tops, no_top, top}
use Rattle.stan_model_names.specs.Resolve as names

-- outside all namespaces, before any `use`
abbrev pub outside : names.Scope
outside = record { namespace = []; uses = [] }

abbrev pub without_backslash : List ℕ → List ℕ
without_backslash name = if slice_index name 0 == 92 then drop 1 name else name

-- the full name that stands behind `use` or `namespace`: `\A` and `A` are `A`, `namespace\A` stands in the present namespace
abbrev pub full : names.Scope → List ℕ → List ℕ
full scope written = if begins_relative written then names.within scope.namespace (drop 10 written) else without_backslash written

-- what stands behind the last backslash of a name
abbrev pub last_part : List ℕ → List ℕ
last_part [] = []
last_part (b ∷ bs) = if list_any (λ x. x == 92) (b ∷ bs) then last_part bs else b ∷ bs

-- `function`, `const`, or neither
abbrev pub ask_of_kind : TokenKind → AskKind
ask_of_kind kinds.Function = asks.Function
ask_of_kind kinds.Const = asks.Constant
ask_of_kind _ = asks.Class

abbrev pub ask_of : Option Token → AskKind
ask_of None = asks.Class
ask_of (Some t) = ask_of_kind t.kind

-- The kind of an item in braces wins over that before them.
abbrev pub kind_of : Option Token → Option Token → AskKind
kind_of outer (Some t) = ask_of_kind t.kind
kind_of outer None = ask_of outer

abbrev pub alias_of : List ℕ → Used → List ℕ
alias_of source u = option_map_or (spelling source) u.alias (last_part (spelling source u.name))

-- what an item of a `use` brings
abbrev pub used : List ℕ → names.Scope → Option Token → Used → names.Use
used source scope kind u = record { kind = kind_of kind u.kind; alias = alias_of source u; name = full scope (spelling source u.name) }

-- what an item in braces brings: its name stands behind that before the braces
abbrev pub used_in : List ℕ → List ℕ → Option Token → Used → names.Use
used_in source prefix kind u = record { kind = kind_of kind u.kind; alias = alias_of source u; name = prefix ++ 92 ∷ without_backslash (spelling source u.name) }

abbrev pub with_uses : names.Scope → List names.Use → names.Scope
with_uses scope us = record { namespace = scope.namespace; uses = scope.uses ++ us }

abbrev pub in_namespace : List ℕ → names.Scope
in_namespace name = record { namespace = name; uses = [] }

-- the namespace of a block, which may have no name
abbrev pub block_scope : List ℕ → names.Scope → Option Token → names.Scope
block_scope source scope None = outside
block_scope source scope (Some t) = in_namespace (full scope (spelling source t))

-- what is in force behind a top
abbrev pub behind : List ℕ → names.Scope → Top → names.Scope
behind source scope (Namespace t name end) = in_namespace (full scope (spelling source name))
behind source scope (NamespaceBlock t name xs) = scope
behind source scope (Use t kind us end) = with_uses scope (map (used source scope kind) us)
behind source scope (UseGroup t kind name us comma end) = with_uses scope (map (used_in source (full scope (spelling source name)) kind) us)
behind source scope (Plain s) = scope

-- What `of` takes of each statement outside of functions and classes, with the names in force there. A block of a namespace begins
-- without uses, and what was in force before it is so again behind it.
module _ {X : Type 0} (of : names.Scope → Statement → List X) (source : List ℕ) where
  abbrev mutual
    pub in_top : names.Scope → Top → List X
    in_top scope (Namespace t name end) = []
    in_top scope (NamespaceBlock t name xs) = in_tops (block_scope source scope name) xs
    in_top scope (Use t kind us end) = []
    in_top scope (UseGroup t kind name us comma end) = []
    in_top scope (Plain s) = of scope s

    pub in_tops : names.Scope → Tops → List X
    in_tops scope no_top = []
    in_tops scope (top x xs) = in_top scope x ++ in_tops (behind source scope x) xs
