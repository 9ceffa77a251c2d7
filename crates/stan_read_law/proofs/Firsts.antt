-- The first token of a part that holds it stands where the part begins.
use Rattle.std.proofs.Common.{◌≡◌, ℕ, Bool, true, false, List, Option, Some, None, refl, ap, subst}
use Rattle.std.specs.Prelude.{if◌then◌else◌, slice_get}
use Rattle.stan_model_grammar.specs.declared.token.Token.{Token}
use Rattle.stan_model_grammar.specs.declared.token.TokenKind.TheVariants as k
use Rattle.stan_model_grammar.specs.Strata.{kind_at, kind_of}
use Rattle.stan_model_statements.specs.Kinds.{same_kind, has}
use Rattle.stan_model_statements.specs.Rules.{Rule, sort_of}
use Rattle.stan_model_statements.specs.Symbols as s
use Rattle.stan_model_files.specs.Shapes.{has_first, IsFirst}
use Rattle.stan_stmt_rules.specs.Ahead.{begins}
use Rattle.stan_stmt_parts.specs.Parse.{first_at}
use Rattle.stan_stmt_law.proofs.Words.{clash}

-- no such part begins with the end of the tokens
none_ends : (s : s.Sort) → has_first s ≡ true → has (begins s) k.End ≡ false
unfolding same_kind
none_ends s.Top h = refl
none_ends s.Statement h = refl
none_ends s.ElseIfPart h = refl
none_ends s.Case h = refl
none_ends s.CatchPart h = refl
none_ends s.Parameter h = refl
none_ends s.Member h = refl
none_ends s h = absurd cc

kind_is : (ts : List Token) (at : ℕ) (o : Option Token) → slice_get ts at ≡ o → kind_at ts at ≡ kind_of o
unfolding kind_at
kind_is ts at o h = ap kind_of h

module _ (ts : List Token) (named : Token → Bool) where
  stands_first : (s : s.Sort) (at : ℕ) → has (begins s) (kind_at ts at) ≡ true → IsFirst ts named (has_first s) (if has_first s then slice_get ts at else None) at
  stands_first s at h = by (has_first s) refl (slice_get ts at) refl
    where
      by : (b : Bool) → has_first s ≡ b → (o : Option Token) → slice_get ts at ≡ o → IsFirst ts named b (if b then o else None) at
      by true e (Some t) i = i
      by true e None i = absurd (clash (has (begins s) k.End) (subst (λ z. has (begins s) z ≡ true) (kind_is ts at None i) h) (none_ends s e))
      by false e o i = tt

  pub first_stands : (r : Rule) (at : ℕ) → has (begins (sort_of r)) (kind_at ts at) ≡ true → IsFirst ts named (has_first (sort_of r)) (first_at ts r at) at
  unfolding first_at
  first_stands r at h = stands_first (sort_of r) at h

  is_first : (b : Bool) (t : Option Token) (at : ℕ) → IsFirst ts named b t at → (if b then slice_get ts at else None) ≡ t
  is_first true (Some t) at h = h
  is_first true None at h = absurd h
  is_first false None at h = refl
  is_first false (Some t) at h = absurd h

  -- and only that one
  pub stands_there : (r : Rule) (t : Option Token) (at : ℕ) → IsFirst ts named (has_first (sort_of r)) t at → first_at ts r at ≡ t
  unfolding first_at
  stands_there r t at h = is_first (has_first (sort_of r)) t at h
