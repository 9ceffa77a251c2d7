-- A name that brackets with arguments follow, by what a function finds of each.
use Rattle.std.proofs.Common.{◌≡◌, true, refl}
use Rattle.std.specs.Prelude.{[], ◌∷◌}
use Rattle.stan_model_grammar.specs.declared.operators.Leaf.TheVariants as leaves
use Rattle.stan_model_grammar.specs.declared.token.Token.{Token}
use Rattle.stan_model_grammar.specs.Trees.{node, Form, Single, Brackets, Array, IsSet, Empty, Exit, New, Match, Closure, Arrow, Text, Post, Prefix, Assignment, Chain, Binary, Conditional, Steps, no_step, step, Push, Index, Property, Scoped, Call, Increment, Decrement, Operation, Part, Inserted, Further}
use Rattle.stan_model_grammar.specs.Sites.{CallSite, called}
use Rattle.stan_sites.specs.Sites.{is_name, begins_with_call}

module _ where
  of_name : (t : Token) (ss : Steps) → begins_with_call ss ≡ true → called (node t (Single leaves.Name)) ss ≡ CallSite t ∷ []
  of_name t no_step is = cc
  of_name t (step Push ss) is = cc
  of_name t (step (Index e) ss) is = cc
  of_name t (step (Property nullsafe name es) ss) is = cc
  of_name t (step (Scoped u es) ss) is = cc
  of_name t (step Increment ss) is = cc
  of_name t (step Decrement ss) is = cc
  of_name t (step (Operation sign o e) ss) is = cc
  of_name t (step (Part u) ss) is = cc
  of_name t (step (Inserted e) ss) is = cc
  of_name t (step (Further x) ss) is = cc
  of_name t (step (Call es) ss) is = refl

pub name_called : (t : Token) (f : Form) (ss : Steps) → is_name (node t f) ≡ true → begins_with_call ss ≡ true → CallSite t ∷ [] ≡ called (node t f) ss
name_called t (Single leaves.Integer) ss name call = cc
name_called t (Single leaves.Float) ss name call = cc
name_called t (Single leaves.Text) ss name call = cc
name_called t (Single leaves.Variable) ss name call = cc
name_called t (Single leaves.Static) ss name call = cc
name_called t (Brackets e) ss name call = cc
name_called t (Array style es) ss name call = cc
name_called t (IsSet es) ss name call = cc
name_called t (Empty e) ss name call = cc
name_called t (Exit es) ss name call = cc
name_called t (New class es) ss name call = cc
name_called t (Match e arms) ss name call = cc
name_called t (Closure static reference parameters captures type body) ss name call = cc
name_called t (Arrow static reference parameters type e) ss name call = cc
name_called t (Text parts) ss name call = cc
name_called t (Post e suffixes) ss name call = cc
name_called t (Prefix o e) ss name call = cc
name_called t (Assignment target o e) ss name call = cc
name_called t (Chain j e operations) ss name call = cc
name_called t (Binary d sign o e) ss name call = cc
name_called t (Conditional c d e) ss name call = cc
name_called t (Single leaves.Name) ss name call = cc (of_name t ss call)
