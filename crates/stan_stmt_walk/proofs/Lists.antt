-- What is found in lists: that of the model's list is that of the values, one after the other.
use Rattle.std.proofs.Common.{◌≡◌, Bool, true, List, [], ◌∷◌, ◌++◌, refl, ap}
use Rattle.std.specs.List.{flat_map}
use Rattle.std.specs.Prelude.{map}
use Rattle.stan_model_statements.specs.Trees.{Value, Statement}
use Rattle.stan_model_statements.specs.TreeLists.{ReadBody, ElseIf, Case, Catch, Variable, Constant, Parameter, ClassMember, bodies, values, statements, else_ifs, cases, catches, variables, constants, parameters, members}
use Rattle.stan_model_walk.specs.Findings.{found_in}
use Rattle.stan_model_walk.specs.Nodes.{in_value, in_bodies, in_may_value, in_values, in_statement, in_statements, in_else_ifs, in_else_if, in_cases, in_case, in_catches, in_variables, in_constants, in_constant, in_parameters, in_members, in_class_member}

pub bodies_flat : {A : Type 0} (g : A → ReadBody) (xs : List A) → in_bodies found_in (bodies (map g xs)) ≡ flat_map (λ x. in_statements found_in true (g x).statements) xs
bodies_flat g [] = refl
bodies_flat g (x ∷ xs) = ap (λ found. in_statements found_in true (g x).statements ++ found) (bodies_flat g xs)

pub values_flat : {A : Type 0} (inner : Bool) (g : A → Value) (xs : List A) → in_values found_in inner (values (map g xs)) ≡ flat_map (λ x. in_value found_in inner (g x)) xs
values_flat inner g [] = refl
values_flat inner g (x ∷ xs) = ap (λ found. in_value found_in inner (g x) ++ found) (values_flat inner g xs)

pub statements_flat : {A : Type 0} (inner : Bool) (g : A → Statement) (xs : List A) → in_statements found_in inner (statements (map g xs)) ≡ flat_map (λ x. in_statement found_in inner (g x)) xs
statements_flat inner g [] = refl
statements_flat inner g (x ∷ xs) = ap (λ found. in_statement found_in inner (g x) ++ found) (statements_flat inner g xs)

pub else_ifs_flat : {A : Type 0} (inner : Bool) (g : A → ElseIf) (xs : List A) → in_else_ifs found_in inner (else_ifs (map g xs)) ≡ flat_map (λ x. in_else_if found_in inner (g x)) xs
else_ifs_flat inner g [] = refl
else_ifs_flat inner g (x ∷ xs) = ap (λ found. in_else_if found_in inner (g x) ++ found) (else_ifs_flat inner g xs)

pub cases_flat : {A : Type 0} (inner : Bool) (g : A → Case) (xs : List A) → in_cases found_in inner (cases (map g xs)) ≡ flat_map (λ x. in_case found_in inner (g x)) xs
cases_flat inner g [] = refl
cases_flat inner g (x ∷ xs) = ap (λ found. in_case found_in inner (g x) ++ found) (cases_flat inner g xs)

pub catches_flat : {A : Type 0} (inner : Bool) (g : A → Catch) (xs : List A) → in_catches found_in inner (catches (map g xs)) ≡ flat_map (λ x. in_statements found_in inner (g x).statements) xs
catches_flat inner g [] = refl
catches_flat inner g (x ∷ xs) = ap (λ found. in_statements found_in inner (g x).statements ++ found) (catches_flat inner g xs)

pub variables_flat : {A : Type 0} (inner : Bool) (g : A → Variable) (xs : List A) → in_variables found_in inner (variables (map g xs)) ≡ flat_map (λ x. in_may_value found_in inner (g x).value) xs
variables_flat inner g [] = refl
variables_flat inner g (x ∷ xs) = ap (λ found. in_may_value found_in inner (g x).value ++ found) (variables_flat inner g xs)

pub constants_flat : {A : Type 0} (inner : Bool) (g : A → Constant) (xs : List A) → in_constants found_in inner (constants (map g xs)) ≡ flat_map (λ x. in_constant found_in inner (g x)) xs
constants_flat inner g [] = refl
constants_flat inner g (x ∷ xs) = ap (λ found. in_constant found_in inner (g x) ++ found) (constants_flat inner g xs)

pub parameters_flat : {A : Type 0} (g : A → Parameter) (xs : List A) → in_parameters found_in (parameters (map g xs)) ≡ flat_map (λ x. in_may_value found_in true (g x).default) xs
parameters_flat g [] = refl
parameters_flat g (x ∷ xs) = ap (λ found. in_may_value found_in true (g x).default ++ found) (parameters_flat g xs)

pub members_flat : {A : Type 0} (g : A → ClassMember) (xs : List A) → in_members found_in (members (map g xs)) ≡ flat_map (λ x. in_class_member found_in (g x)) xs
members_flat g [] = refl
members_flat g (x ∷ xs) = ap (λ found. in_class_member found_in (g x) ++ found) (members_flat g xs)
