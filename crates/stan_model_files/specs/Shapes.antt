-- Trees by productions that hold all that the trees of statements hold: what was read for each symbol, in order, the first tokens of
-- parts, and what stands between the braces of closures.
use Rattle.std.specs.Prelude.{◌≡◌, ℕ, ◌+◌, max, Bool, true, false, List, [], ◌∷◌, Option, Some, None}
use Rattle.stan_model_grammar.specs.declared.token.Token.{Token}
use Rattle.stan_model_grammar.specs.declared.token.TokenKind.TheVariants as k
use Rattle.stan_model_grammar.specs.Depth.{depth as tree_depth}
use Rattle.stan_model_grammar.specs.Expressions.{Stands}
use Rattle.stan_model_grammar.specs.Sites.{HeldBody, sites, bodies_among}
use Rattle.stan_model_grammar.specs.Takes.{size as tree_size}
use Rattle.stan_model_grammar.specs.Trees.{Tree}
use Rattle.stan_model_statements.specs.Forests as plain
use Rattle.stan_model_statements.specs.Rules.{Rule, sort_of, weight}
use Rattle.stan_model_statements.specs.Symbols as s
use Rattle.stan_model_statements.specs.Takes.{size, IsForestOf}

mutual
  pub data Shape : Type 0 where
    nil : Shape
    mark : Shape → Shape
    word : Token → Shape → Shape
    -- an expression, with the bodies of its closures from left to right
    expr : Tree → Bodies → Shape → Shape
    none : Shape → Shape
    -- a part: its production, its first token if it holds that, what it is made of, and what stands behind it
    some : Rule → Option Token → Shape → Shape → Shape

  pub data Bodies : Type 0 where
    no_body : Bodies
    -- where it is held, and what stands behind its `{`, up to its `}`
    body : HeldBody → Shape → Bodies → Bodies

-- the tree by productions alone
abbrev pub forest : Shape → plain.Forest
forest nil = plain.nil
forest (mark f) = plain.mark (forest f)
forest (word t f) = plain.word t (forest f)
forest (expr e bs f) = plain.expr e (forest f)
forest (none f) = plain.none (forest f)
forest (some r t ps f) = plain.some r (forest ps) (forest f)

-- which parts hold their first token
abbrev pub has_first : s.Sort → Bool
has_first s.Top = true
has_first s.Statement = true
has_first s.ElseIfPart = true
has_first s.Case = true
has_first s.CatchPart = true
has_first s.Parameter = true
has_first s.Member = true
has_first _ = false

-- what stands behind the `{` of a body
abbrev pub inside : List s.Symbol
inside = s.Part s.Many s.Statement ∷ s.Mark k.RightBrace ∷ []

module _ (ts : List Token) (named : Token → Bool) where
  abbrev pub IsFirst : Bool → Option Token → ℕ → Type 0
  IsFirst true (Some t) at = Stands ts at t
  IsFirst false None at = Unit {0}
  IsFirst _ _ at = ⊥

  abbrev mutual
    -- From this place on first tokens stand where their parts begin, and each held body of an expression is read as the inside of a block.
    pub Holds : Shape → ℕ → Type 0
    Holds nil at = Unit {0}
    Holds (mark f) at = Holds f (at + 1)
    Holds (word t f) at = Holds f (at + 1)
    Holds (expr e bs f) at = HoldBodies bs (bodies_among (sites 0 e)) × Holds f (at + tree_size e)
    Holds (none f) at = Holds f at
    Holds (some r t ps f) at = IsFirst (has_first (sort_of r)) t at × Holds ps at × Holds f (at + size (forest ps))

    pub HoldBodies : Bodies → List HeldBody → Type 0
    HoldBodies no_body [] = Unit {0}
    HoldBodies (body held f bs) (h ∷ hs) = (held ≡ h) × IsForestOf ts named inside (forest f) h.first (h.last + 1) × Holds f h.first × HoldBodies bs hs
    HoldBodies _ _ = ⊥

abbrev mutual
  -- how deep it is, by the weights of its productions
  pub depth : Shape → ℕ
  depth nil = 0
  depth (mark f) = depth f
  depth (word t f) = depth f
  depth (expr e bs f) = max (max (tree_depth e) (bodies_depth bs)) (depth f)
  depth (none f) = depth f
  depth (some r t ps f) = max (weight r + depth ps) (depth f)

  -- the braces around each, and the levels around them in the expression
  pub bodies_depth : Bodies → ℕ
  bodies_depth no_body = 0
  bodies_depth (body held f bs) = max (held.levels + (1 + depth f)) (bodies_depth bs)
