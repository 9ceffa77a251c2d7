-- A statement at the top begins with the first token of the statement.
use Rattle.std.proofs.Common.{◌≡◌, ℕ, ◌+◌, Bool, true, false, List, [], ◌∷◌, Option, Some, None, refl, sym, ap, ◌∙◌}
use Rattle.std.specs.Prelude.{◌&&◌, if◌then◌else◌, slice_get}
use Rattle.stan_expr_rules.specs.Parse.{Read, ◌>>=◌}
use Rattle.stan_model_grammar.specs.Strata.{kind_at}
use Rattle.stan_model_grammar.specs.declared.token.Token.{Token}
use Rattle.stan_model_grammar.specs.declared.token.TokenKind.{TokenKind}
use Rattle.stan_model_statements.specs.Kinds.{same_kind}
use Rattle.stan_model_statements.specs.Rules.{Rule, sort_of}
use Rattle.stan_model_statements.specs.Rules as r
use Rattle.stan_model_statements.specs.Symbols.{Statement}
use Rattle.stan_model_statements.specs.Trees as model
use Rattle.stan_model_files.specs.Put.{put, first_of}
use Rattle.stan_model_files.specs.Shapes.{Shape, nil, has_first}
use Rattle.stan_stmt_rules.specs.Ahead.{Choice, find, starts, statement_choices, pick, pick_at}
use Rattle.stan_stmt_rules.specs.Parse.{behind}
use Rattle.stan_stmt_trees.proofs.TopLayers.{top-Plain}
use Rattle.stan_stmt_trees.specs.Tree.{statement_of}
use Rattle.stan_stmt_trees.specs.declared.statement.Stmt.{Stmt}
use Rattle.stan_stmt_trees.specs.declared.top.Top.TheVariants as variants
use Rattle.stan_stmt_parts.proofs.KindLemmas.{and_split}
use Rattle.stan_stmt_parts.specs.Gives.{Leaves, below, part, inside, enter, entered, statement_piece}
use Rattle.stan_stmt_parts.specs.Parse.{Piece, piece_of, first_at, one, standing}
use Rattle.stan_stmt_parts.specs.declared.depth.Depth.{Depth}
use Rattle.stan_stmt_lists.proofs.ListLemmas.{statement_is}
use Rattle.stan_stmt_tops.specs.Views.{top_piece}

-- ---- each production of a statement holds its first token

abbrev HasFirst : Option Rule → Type 0
HasFirst None = Unit {0}
HasFirst (Some r) = has_first (sort_of r) ≡ true

abbrev all_first : List Choice → Bool
all_first [] = true
all_first (c ∷ cs) = has_first (sort_of c.1) && all_first cs

first_if : (b : Bool) (o q : Option Rule) → HasFirst o → HasFirst q → HasFirst (if b then o else q)
first_if true o q h i = h
first_if false o q h i = i

found_first : (cs : List Choice) (a : TokenKind) → all_first cs ≡ true → HasFirst (find cs a)
found_first [] a h = tt
found_first (c ∷ cs) a h =
    let both = and_split (has_first (sort_of c.1)) (all_first cs) h in
    first_if (same_kind a c.0) (Some c.1) (find cs a) both.0 (found_first cs a both.1)

statement_first : (a b c d : TokenKind) → HasFirst (pick Statement a b c d)
statement_first a b c d = first_if (starts a b c) (Some r.expression_statement) (find statement_choices a) refl (found_first statement_choices a refl)

-- ---- so what is read holds the token there

abbrev token_read : Option (Piece × ℕ) → Option Token
token_read None = None
token_read (Some x) = x.0.1

module _ (ts : List Token) (at : ℕ) where
  held : (o : Option Rule) (read : Rule → ℕ → Read Shape) (p : Piece) (to : ℕ) → HasFirst o
      → (o >>= λ r. read r at >>= λ q. let some : Piece × ℕ → Option (Piece × ℕ) = Some in some ((r, first_at ts r at, q.0), q.1)) ≡ Some (p, to) → p.1 ≡ slice_get ts at
  unfolding first_at
  held None read p to f h = absurd cc
  held (Some r) read p to f h = by (read r at) h
    where
      by : (o : Option (Shape × ℕ)) → (o >>= λ q. let some : Piece × ℕ → Option (Piece × ℕ) = Some in some ((r, first_at ts r at, q.0), q.1)) ≡ Some (p, to) → p.1 ≡ slice_get ts at
      by None h = absurd cc
      by (Some q) h = let e : first_at ts r at ≡ p.1 = ap token_read h in sym e ∙ rw f refl

  part_first : (l : Leaves) (d : Depth) (p : Piece) (to : ℕ) → part ts l d Statement at ≡ Some (p, to) → p.1 ≡ slice_get ts at
  unfolding part one pick_at
  part_first l d p to h = held (pick Statement (kind_at ts at) (kind_at ts (at + 1)) (kind_at ts (at + 2)) (behind ts d.levels at)) (below ts l d) p to
      (statement_first (kind_at ts at) (kind_at ts (at + 1)) (kind_at ts (at + 2)) (behind ts d.levels at)) h

-- ---- and its tree does too

put_first : (s : model.Statement) → (piece_of (put s nil)).1 ≡ Some (first_of s)
put_first (model.node t (model.Block ss)) = refl
put_first (model.node t (model.Empty end)) = refl
put_first (model.node t (model.Expression v end)) = refl
put_first (model.node t (model.Echo vs end)) = refl
put_first (model.node t (model.Return v end)) = refl
put_first (model.node t (model.If v s es o)) = refl
put_first (model.node t (model.While v s)) = refl
put_first (model.node t (model.Do s v end)) = refl
put_first (model.node t (model.For vs us ws s)) = refl
put_first (model.node t (model.ForEach v key reference element s)) = refl
put_first (model.node t (model.Switch v cs)) = refl
put_first (model.node t (model.Break levels end)) = refl
put_first (model.node t (model.Continue levels end)) = refl
put_first (model.node t (model.Try ss cs b)) = refl
put_first (model.node t (model.Unset vs comma end)) = refl
put_first (model.node t (model.Global ts end)) = refl
put_first (model.node t (model.Static vs end)) = refl
put_first (model.node t (model.Const cs end)) = refl
put_first (model.node t (model.Declare name number end)) = refl
put_first (model.node t (model.Function reference name ps comma type ss)) = refl
put_first (model.node t (model.Class modifiers name parent interfaces ms)) = refl
put_first (model.node t (model.Interface name parents ms)) = refl
put_first (model.node t (model.Trait name ms)) = refl

plain_is : (ts : List Token) (l : Leaves) (d : Depth) (at : ℕ) (s : Stmt) (to : ℕ) → part ts l d Statement at ≡ Some (statement_piece s, to)
    → top_piece (variants.Plain s) ≡ (r.top_statement, slice_get ts at, standing (statement_piece s) nil)
unfolding top_piece statement_piece
plain_is ts l d at s to h =
    let first : Some (first_of (statement_of s)) ≡ slice_get ts at = sym (put_first (statement_of s)) ∙ part_first ts at l d (statement_piece s) to h in
    rw (top-Plain s) (rw first (rw (statement_is s nil) refl))

pub plain_read : (ts : List Token) (l : Leaves) (d e : Depth) (at : ℕ) (s : Stmt) (to : ℕ) → enter d 0 ≡ Some e → part ts l e Statement at ≡ Some (statement_piece s, to)
    → entered ts l d r.top_statement at ≡ Some (top_piece (variants.Plain s), to)
unfolding entered inside first_at
plain_read ts l d e at s to deep h = rw (deep, plain_is ts l e at s to h) (rw h refl)
