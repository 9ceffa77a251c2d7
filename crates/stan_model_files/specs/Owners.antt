-- Which declaration, statement, member or case a documentation comment belongs to: the first one that begins behind it, also in the body
-- of a closure. A parameter, an `elseif` and a `catch` are none, and so is the block of a function, a closure, `try`, `catch` or `finally`.
use Rattle.std.specs.Prelude.{if◌then◌else◌, nat_lt, Bool, true, false, List, [], ◌∷◌, ◌++◌, Option, Some, None}
use Rattle.stan_model_grammar.specs.declared.token.Token.{Token}
use Rattle.stan_model_statements.specs.Rules as r
use Rattle.stan_model_statements.specs.Symbols as s
use Rattle.stan_model_statements.specs.Trees.{Tops}
use Rattle.stan_model_files.specs.Put.{put_tops}
use Rattle.stan_model_files.specs.Shapes.{Shape, nil, mark, word, expr, none, some, Bodies, no_body, body}

abbrev pub owns_sort : s.Sort → Bool
owns_sort s.Top = true
owns_sort s.Statement = true
owns_sort s.Case = true
owns_sort s.Member = true
owns_sort _ = false

-- a statement at the top is one with its declaration
abbrev pub owns : r.Rule → Bool
owns r.top_statement = false
owns rule = owns_sort (r.sort_of rule)

abbrev pub first_if : Bool → Option Token → List Token → List Token
first_if true (Some t) ts = t ∷ ts
first_if _ _ ts = ts

abbrev mutual
  -- the first tokens of all of them, from left to right
  pub owners : Shape → List Token
  owners nil = []
  owners (mark f) = owners f
  owners (word t f) = owners f
  owners (expr e bs f) = body_owners bs ++ owners f
  owners (none f) = owners f
  owners (some r t ps f) = first_if (owns r) t (owners ps ++ owners f)

  pub body_owners : Bodies → List Token
  body_owners no_body = []
  body_owners (body held f bs) = owners f ++ body_owners bs

abbrev pub file_owners : Tops → List Token
file_owners xs = owners (put_tops xs nil)

-- the one that a comment belongs to, by its first token
abbrev pub owner_of : List Token → Token → Option Token
owner_of [] comment = None
owner_of (o ∷ os) comment = if nat_lt comment.start o.start then Some o else owner_of os comment
