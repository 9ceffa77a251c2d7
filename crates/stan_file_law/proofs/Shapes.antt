-- Of one tree by productions one alone holds first tokens and bodies as the tokens have them.
use Rattle.std.proofs.Common.{◌≡◌, inl, inr, ℕ, ◌+◌, Bool, true, false, List, [], ◌∷◌, Option, Some, None, refl, sym, ap, subst, ◌∙◌, arith}
use Rattle.stan_model_grammar.specs.declared.token.Token.{Token}
use Rattle.stan_model_grammar.specs.Sites.{HeldBody, sites, bodies_among}
use Rattle.stan_model_grammar.specs.Takes.{size as tree_size, More}
use Rattle.stan_model_statements.specs.Forests.{Forest}
use Rattle.stan_model_statements.specs.Rules.{sort_of}
use Rattle.stan_model_statements.specs.Symbols.{Symbol}
use Rattle.stan_model_statements.specs.Takes.{size, takes, IsForestOf}
use Rattle.stan_model_files.specs.Shapes.{Shape, nil, mark, word, expr, none, some, Bodies, no_body, body, forest, has_first, inside, IsFirst, Holds, HoldBodies}

module _ where
  never : (xs ys : List ℕ) → More xs ys → More ys xs → ⊥
  never [] ys m n = m
  never (x ∷ xs) [] m n = m
  never (x ∷ xs) (y ∷ ys) (inl lt) (inl gt) = omega (arith, lt, gt)
  never (x ∷ xs) (y ∷ ys) (inl lt) (inr n) = omega (arith, lt, n.0)
  never (x ∷ xs) (y ∷ ys) (inr m) (inl gt) = omega (arith, gt, m.0)
  never (x ∷ xs) (y ∷ ys) (inr m) (inr n) = never xs ys m.1 n.1

module _ (ts : List Token) (named : Token → Bool) where
  pub one_forest : (xs : List Symbol) (f g : Forest) (at to : ℕ) → IsForestOf ts named xs f at to → IsForestOf ts named xs g at to → f ≡ g
  one_forest xs f g at to h i = elim (h.1 g i.0) [ inl same ↦ same | inr m ↦ elim (i.1 f h.0) [ inl same ↦ sym same | inr n ↦ absurd (never (takes xs f) (takes xs g) m n) ] ]

  same_first : (b : Bool) (t u : Option Token) (at : ℕ) → IsFirst ts named b t at → IsFirst ts named b u at → t ≡ u
  same_first true (Some t) (Some u) at h i = sym h ∙ i
  same_first true (Some t) None at h i = absurd i
  same_first true None u at h i = absurd h
  same_first false None None at h i = refl
  same_first false None (Some u) at h i = absurd i
  same_first false (Some t) u at h i = absurd h

  mutual
    pub same_shape : (f g : Shape) (at : ℕ) → forest f ≡ forest g → Holds ts named f at → Holds ts named g at → f ≡ g
    same_shape nil nil at e h i = refl
    same_shape (mark f) (mark g) at e h i = let j : forest f ≡ forest g = cc in ap mark (same_shape f g (at + 1) j h i)
    same_shape (word t f) (word u g) at e h i = let j : forest f ≡ forest g = cc in let x : t ≡ u = cc in let y = same_shape f g (at + 1) j h i in cc
    same_shape (expr d bs f) (expr d2 cs g) at e h i =
        let x : d ≡ d2 = cc in let j : forest f ≡ forest g = cc in
        let a = same_bodies bs cs (bodies_among (sites 0 d)) h.0 (subst (λ z. HoldBodies ts named cs (bodies_among (sites 0 z))) (sym x) i.0) in
        let b = same_shape f g (at + tree_size d) j h.1 (subst (λ z. Holds ts named g (at + tree_size z)) (sym x) i.1) in cc
    same_shape (none f) (none g) at e h i = let j : forest f ≡ forest g = cc in ap none (same_shape f g at j h i)
    same_shape (some r t ps f) (some q u qs g) at e h i =
        let x : r ≡ q = cc in let j : forest ps ≡ forest qs = cc in let k : forest f ≡ forest g = cc in
        let a = same_first (has_first (sort_of r)) t u at h.0 (subst (λ z. IsFirst ts named (has_first (sort_of z)) u at) (sym x) i.0) in
        let b = same_shape ps qs at j h.1 i.1 in
        let c = same_shape f g (at + size (forest ps)) k h.2 (subst (λ z. Holds ts named g (at + size z)) (sym j) i.2) in cc
    same_shape f g at e h i = absurd cc

    pub same_bodies : (bs cs : Bodies) (hs : List HeldBody) → HoldBodies ts named bs hs → HoldBodies ts named cs hs → bs ≡ cs
    same_bodies no_body no_body hs h i = refl
    same_bodies (body a f bs) (body b g cs) (x ∷ hs) h i =
        let p : a ≡ b = h.0 ∙ sym i.0 in
        let q = one_forest inside (forest f) (forest g) x.first (x.last + 1) h.1 i.1 in
        let s = same_shape f g x.first q h.2 i.2 in let t = same_bodies bs cs hs h.3 i.3 in cc
    same_bodies no_body (body b g cs) [] h i = absurd i
    same_bodies no_body (body b g cs) (x ∷ hs) h i = absurd h
    same_bodies (body a f bs) cs [] h i = absurd h
    same_bodies (body a f bs) no_body (x ∷ hs) h i = absurd i
