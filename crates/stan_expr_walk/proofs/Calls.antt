-- A name that brackets with arguments follow.
use Rattle.std.proofs.Common.{◌≡◌, true, Some, refl}
use Rattle.stan_model_grammar.specs.declared.token.Token.{Token}
use Rattle.stan_model_grammar.specs.Trees.{node, Form, Items, Steps}
use Rattle.stan_model_walk.specs.Findings.{first_arguments, called_with, called}
use Rattle.stan_model_walk.specs.Nodes.{is_name}

pub called_is : (t : Token) (f : Form) (ss : Steps) (es : Items) → is_name (node t f) ≡ true → first_arguments ss ≡ Some es → called (node t f) ss ≡ called_with t (Some es)
called_is t f ss es name first = rw (name, first) refl
