-- Expressions up to an end token and within the levels, by what is read a level deeper.
use Rattle.std.proofs.Common.{◌≡◌, ℕ, zero, suc, ◌+◌, ◌-◌, ◌≤◌, ◌<◌, Bool, true, false, List, Option, Some, None, refl, sym, ap, ◌∙◌, ◌⊎◌, inl, inr, arith, ◌&&◌}
use Rattle.std.specs.Prelude.{nat_le, if◌then◌else◌}
use Rattle.std.proofs.lemmas.Bool.{le-leb, leb-true}
use Rattle.stan_model_grammar.specs.declared.token.Token.{Token}
use Rattle.stan_model_grammar.specs.Depth.{depth}
use Rattle.stan_model_grammar.specs.Strata.{kind_at, is_end, loosest}
use Rattle.stan_model_grammar.specs.Trees.{Tree}
use Rattle.stan_expr_rules.specs.Parse.{Read, below}
use Rattle.stan_places.specs.declared.stop.Stop.{Stop}
use Rattle.stan_places.specs.declared.stop.Stop.TheVariants.{Memory, Absent}
use Rattle.stan_places.specs.Gives.{Fails}
use Rattle.stan_stmt_rules.specs.Parse.{expression, fitting, most}

no_more : (n m : ℕ) → m < n → nat_le n m ≡ false
no_more n m lt = by (nat_le n m) refl
  where
    by : (b : Bool) → nat_le n m ≡ b → nat_le n m ≡ false
    by true e = absurd (let le = leb-true n m e in omega (arith, le, lt))
    by false e = e

-- with a level more, since what is read a level deeper stands a level deeper
pub expression_is : (ts : List Token) (levels : ℕ) (p : Bool) (at : ℕ) → expression ts levels p at ≡ fitting ts levels (below ts (most - levels + 1) p loosest at)
unfolding below
expression_is ts levels p at = let e : most - levels + 1 ≡ suc (most - levels) = omega arith in rw e refl

not_both : (a : Bool) (x : Tree × ℕ) → (if a && false then (let s : Tree × ℕ → Option (Tree × ℕ) = Some in s x) else None) ≡ None
not_both true x = refl
not_both false x = refl

module _ (ts : List Token) (levels : ℕ) (p : Bool) (at : ℕ) where
  none_read : below ts (most - levels + 1) p loosest at ≡ None → expression ts levels p at ≡ None
  none_read h = expression_is ts levels p at ∙ ap (fitting ts levels) h

  pub fails : (s : Stop) → Fails s (below ts (most - levels + 1) p loosest at) → Fails s (expression ts levels p at)
  fails Memory h = tt
  fails Absent h = none_read h

  module _ (e : Tree) (to : ℕ) (read : below ts (most - levels + 1) p loosest at ≡ Some (e, to)) where
    as_read : expression ts levels p at ≡ (if is_end (kind_at ts to) && nat_le (depth e + levels) most then Some (e, to) else None)
    as_read = expression_is ts levels p at ∙ ap (fitting ts levels) read

    pub none_unended : is_end (kind_at ts to) ≡ false → expression ts levels p at ≡ None
    none_unended h = as_read ∙ rw h refl

    pub none_deep : most < depth e + levels → expression ts levels p at ≡ None
    none_deep h = as_read ∙ rw (no_more (depth e + levels) most h) (not_both (is_end (kind_at ts to)) (e, to))

    pub one_read : is_end (kind_at ts to) ≡ true → depth e + levels ≤ most → expression ts levels p at ≡ Some (e, to)
    one_read h le = as_read ∙ rw (h, le-leb (depth e + levels) most le) refl
