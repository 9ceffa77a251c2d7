-- What lists own: that of the model's list is that of the values, one after the other.
use Rattle.std.proofs.Common.{◌≡◌, List, [], ◌∷◌, ◌++◌, refl, ap}
use Rattle.std.specs.List.{flat_map}
use Rattle.std.specs.Prelude.{map}
use Rattle.stan_model_statements.specs.Trees.{Value, Statement, Top}
use Rattle.stan_model_statements.specs.TreeLists.{ReadBody, ElseIf, Case, Catch, Variable, Constant, Parameter, ClassMember, bodies, values, statements, else_ifs, cases, catches, variables, constants, parameters, members, tops}
use Rattle.stan_stmt_owners.specs.Owned.{value_owned, bodies_owned, may_value_owned, values_owned, statement_owned, statements_owned, else_ifs_owned, else_if_owned, cases_owned, case_owned, catches_owned, variables_owned, constants_owned, parameters_owned, members_owned, class_member_owned, top_owned, tops_owned}

pub bodies_flat : {A : Type 0} (g : A → ReadBody) (xs : List A) → bodies_owned (bodies (map g xs)) ≡ flat_map (λ x. statements_owned (g x).statements) xs
bodies_flat g [] = refl
bodies_flat g (x ∷ xs) = ap (λ found. statements_owned (g x).statements ++ found) (bodies_flat g xs)

pub values_flat : {A : Type 0} (g : A → Value) (xs : List A) → values_owned (values (map g xs)) ≡ flat_map (λ x. value_owned (g x)) xs
values_flat g [] = refl
values_flat g (x ∷ xs) = ap (λ found. value_owned (g x) ++ found) (values_flat g xs)

pub statements_flat : {A : Type 0} (g : A → Statement) (xs : List A) → statements_owned (statements (map g xs)) ≡ flat_map (λ x. statement_owned (g x)) xs
statements_flat g [] = refl
statements_flat g (x ∷ xs) = ap (λ found. statement_owned (g x) ++ found) (statements_flat g xs)

pub else_ifs_flat : {A : Type 0} (g : A → ElseIf) (xs : List A) → else_ifs_owned (else_ifs (map g xs)) ≡ flat_map (λ x. else_if_owned (g x)) xs
else_ifs_flat g [] = refl
else_ifs_flat g (x ∷ xs) = ap (λ found. else_if_owned (g x) ++ found) (else_ifs_flat g xs)

pub cases_flat : {A : Type 0} (g : A → Case) (xs : List A) → cases_owned (cases (map g xs)) ≡ flat_map (λ x. case_owned (g x)) xs
cases_flat g [] = refl
cases_flat g (x ∷ xs) = ap (λ found. case_owned (g x) ++ found) (cases_flat g xs)

pub catches_flat : {A : Type 0} (g : A → Catch) (xs : List A) → catches_owned (catches (map g xs)) ≡ flat_map (λ x. statements_owned (g x).statements) xs
catches_flat g [] = refl
catches_flat g (x ∷ xs) = ap (λ found. statements_owned (g x).statements ++ found) (catches_flat g xs)

pub variables_flat : {A : Type 0} (g : A → Variable) (xs : List A) → variables_owned (variables (map g xs)) ≡ flat_map (λ x. may_value_owned (g x).value) xs
variables_flat g [] = refl
variables_flat g (x ∷ xs) = ap (λ found. may_value_owned (g x).value ++ found) (variables_flat g xs)

pub constants_flat : {A : Type 0} (g : A → Constant) (xs : List A) → constants_owned (constants (map g xs)) ≡ flat_map (λ x. value_owned (g x).value) xs
constants_flat g [] = refl
constants_flat g (x ∷ xs) = ap (λ found. value_owned (g x).value ++ found) (constants_flat g xs)

pub parameters_flat : {A : Type 0} (g : A → Parameter) (xs : List A) → parameters_owned (parameters (map g xs)) ≡ flat_map (λ x. may_value_owned (g x).default) xs
parameters_flat g [] = refl
parameters_flat g (x ∷ xs) = ap (λ found. may_value_owned (g x).default ++ found) (parameters_flat g xs)

pub members_flat : {A : Type 0} (g : A → ClassMember) (xs : List A) → members_owned (members (map g xs)) ≡ flat_map (λ x. class_member_owned (g x)) xs
members_flat g [] = refl
members_flat g (x ∷ xs) = ap (λ found. class_member_owned (g x) ++ found) (members_flat g xs)

pub tops_flat : {A : Type 0} (g : A → Top) (xs : List A) → tops_owned (tops (map g xs)) ≡ flat_map (λ x. top_owned (g x)) xs
tops_flat g [] = refl
tops_flat g (x ∷ xs) = ap (λ found. top_owned (g x) ++ found) (tops_flat g xs)
