-- Depths of lists: that of the model's list is the greatest one of the values.
use Rattle.std.proofs.Common.{◌≡◌, List, [], ◌∷◌, max, refl, ap}
use Rattle.std.specs.Prelude.{map}
use Rattle.stan_model_statements.specs.Depth.{value_depth, bodies_depth, values_depth, depth, statements_depth, else_ifs_depth, cases_depth, catches_depth, variables_depth, constants_depth, parameters_depth, members_depth, top_depth, tops_depth}
use Rattle.stan_model_statements.specs.Trees.{Value, Statement, Top}
use Rattle.stan_model_statements.specs.TreeLists.{ReadBody, ElseIf, Case, Catch, Variable, Constant, Parameter, ClassMember, bodies, values, statements, else_ifs, cases, catches, variables, constants, parameters, members, tops}
use Rattle.stan_syntax.specs.Depth.{greatest}
use Rattle.stan_stmt_trees.specs.Depth.{body_depth, else_if_depth, case_depth, catch_depth, variable_depth, constant_depth, parameter_depth, class_member_depth}

pub bodies_greatest : {A : Type 0} (g : A → ReadBody) (xs : List A) → bodies_depth (bodies (map g xs)) ≡ greatest (λ x. body_depth (g x)) xs
bodies_greatest g [] = refl
bodies_greatest g (x ∷ xs) = ap (max (body_depth (g x))) (bodies_greatest g xs)

pub values_greatest : {A : Type 0} (g : A → Value) (xs : List A) → values_depth (values (map g xs)) ≡ greatest (λ x. value_depth (g x)) xs
values_greatest g [] = refl
values_greatest g (x ∷ xs) = ap (max (value_depth (g x))) (values_greatest g xs)

pub statements_greatest : {A : Type 0} (g : A → Statement) (xs : List A) → statements_depth (statements (map g xs)) ≡ greatest (λ x. depth (g x)) xs
statements_greatest g [] = refl
statements_greatest g (x ∷ xs) = ap (max (depth (g x))) (statements_greatest g xs)

pub else_ifs_greatest : {A : Type 0} (g : A → ElseIf) (xs : List A) → else_ifs_depth (else_ifs (map g xs)) ≡ greatest (λ x. else_if_depth (g x)) xs
else_ifs_greatest g [] = refl
else_ifs_greatest g (x ∷ xs) = ap (max (else_if_depth (g x))) (else_ifs_greatest g xs)

pub cases_greatest : {A : Type 0} (g : A → Case) (xs : List A) → cases_depth (cases (map g xs)) ≡ greatest (λ x. case_depth (g x)) xs
cases_greatest g [] = refl
cases_greatest g (x ∷ xs) = ap (max (case_depth (g x))) (cases_greatest g xs)

pub catches_greatest : {A : Type 0} (g : A → Catch) (xs : List A) → catches_depth (catches (map g xs)) ≡ greatest (λ x. catch_depth (g x)) xs
catches_greatest g [] = refl
catches_greatest g (x ∷ xs) = ap (max (catch_depth (g x))) (catches_greatest g xs)

pub variables_greatest : {A : Type 0} (g : A → Variable) (xs : List A) → variables_depth (variables (map g xs)) ≡ greatest (λ x. variable_depth (g x)) xs
variables_greatest g [] = refl
variables_greatest g (x ∷ xs) = ap (max (variable_depth (g x))) (variables_greatest g xs)

pub constants_greatest : {A : Type 0} (g : A → Constant) (xs : List A) → constants_depth (constants (map g xs)) ≡ greatest (λ x. constant_depth (g x)) xs
constants_greatest g [] = refl
constants_greatest g (x ∷ xs) = ap (max (constant_depth (g x))) (constants_greatest g xs)

pub parameters_greatest : {A : Type 0} (g : A → Parameter) (xs : List A) → parameters_depth (parameters (map g xs)) ≡ greatest (λ x. parameter_depth (g x)) xs
parameters_greatest g [] = refl
parameters_greatest g (x ∷ xs) = ap (max (parameter_depth (g x))) (parameters_greatest g xs)

pub members_greatest : {A : Type 0} (g : A → ClassMember) (xs : List A) → members_depth (members (map g xs)) ≡ greatest (λ x. class_member_depth (g x)) xs
members_greatest g [] = refl
members_greatest g (x ∷ xs) = ap (max (class_member_depth (g x))) (members_greatest g xs)

pub tops_greatest : {A : Type 0} (g : A → Top) (xs : List A) → tops_depth (tops (map g xs)) ≡ greatest (λ x. top_depth (g x)) xs
tops_greatest g [] = refl
tops_greatest g (x ∷ xs) = ap (max (top_depth (g x))) (tops_greatest g xs)
