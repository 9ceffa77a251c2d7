-- Names as they are compared (PHP manual, "Name resolution rules": classes and functions without case, constants with it).
use Rattle.std.specs.Prelude.{ℕ, ◌==◌, if◌then◌else◌, Bool, List, [], ◌∷◌, codes, take}
use Rattle.std.specs.Char.{to_ascii_lowercase}
use Rattle.std.specs.List.{list_any}
use Rattle.std.specs.Str.{bytes_eq}
use Rattle.stan_base.specs.declared.ask_kind.AskKind.{AskKind}
use Rattle.stan_base.specs.declared.ask_kind.AskKind.TheVariants as kinds
use Rattle.stan_base.specs.Bytes.{fold_case}

-- the namespace folded: each byte behind which, or at which, a backslash stands
abbrev pub fold_namespace : List ℕ → List ℕ
fold_namespace [] = []
fold_namespace (b ∷ bs) = if list_any (λ x. x == 92) (b ∷ bs) then to_ascii_lowercase b ∷ fold_namespace bs else b ∷ bs

-- the form in which two names of one kind are compared
abbrev pub fold_name : AskKind → List ℕ → List ℕ
fold_name kinds.Class name = fold_case name
fold_name kinds.Function name = fold_case name
fold_name kinds.Constant name = fold_namespace name

-- `namespace\` in any case
abbrev pub begins_relative : List ℕ → Bool
begins_relative name = bytes_eq (fold_case (take 10 name)) (codes "namespace\\")
