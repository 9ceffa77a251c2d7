-- `? :` by its second and third part.
use Rattle.std.proofs.Common.{◌≡◌, ℕ, Bool, false, List, Option, Some, None, refl}
use Rattle.stan_model_grammar.specs.declared.token.Token.{Token}
use Rattle.stan_model_grammar.specs.Trees.{Tree, node, Conditional}
use Rattle.stan_expr_operators.specs.Branches.{branches}
use Rattle.stan_expr_rules.specs.Parse.{Read, ◌>>=◌, first_of, conditional}

chained : {A B C : Type 0} (m : Option A) (f : A → Option B) (g : B → Option C) (h : A → Option C) → ((x : A) → h x ≡ (f x >>= g)) → (m >>= h) ≡ ((m >>= f) >>= g)
chained None f g h e = refl
chained (Some x) f g h e = e x

module _ (ts : List Token) (below : Bool → ℕ → ℕ → Read Tree) where
  made : Tree → (Tree × Tree) × ℕ → Read Tree
  made c x = Some (node (first_of c) (Conditional c x.0.0 x.0.1), x.1)

  pub conditional_is : (c : Tree) (at : ℕ) → conditional ts below c at ≡ (branches ts below at >>= λ x. Some (node (first_of c) (Conditional c x.0.0 x.0.1), x.1))
  unfolding conditional branches
  conditional_is c at = chained (below false 29 at) _ _ _ (λ d. chained _ _ _ _ (λ from. chained (below false 21 from) _ _ _ (λ e. refl)))
