-- What stands in the body of a closure: the greedy tree of its tokens is their tree, whatever token follows the `}`.
use Rattle.std.proofs.Common.{◌≡◌, ℕ, Bool, true, List, [], refl, sym, subst, true≢false}
use Rattle.stan_model_grammar.specs.declared.token.Token.{Token}
use Rattle.stan_model_statements.specs.Forests.{Forest}
use Rattle.stan_model_statements.specs.Grammar.{Ends, Runs}
use Rattle.stan_model_statements.specs.Kinds.{same_kind}
use Rattle.stan_model_statements.specs.Symbols.{Symbol}
use Rattle.stan_model_statements.specs.Takes.{IsForestOf}
use Rattle.stan_model_files.specs.Shapes.{inside}
use Rattle.stan_stmt_rules.specs.Ahead.{Next}
use Rattle.stan_stmt_law.proofs.Checks.{fine}
use Rattle.stan_stmt_law.proofs.Expressions.{behind, Picked, are_expressions}
use Rattle.stan_stmt_law.proofs.Law.{loose, some_greedy, greedy_takes_most}
use Rattle.stan_file_law.proofs.Shapes.{one_forest}

inside_fine : fine [] inside ≡ true
unfolding same_kind
inside_fine = refl

module _ (ts : List Token) (named : Token → Bool) where
  -- what the parser reads, by symbols
  abbrev pub Greedy : List Symbol → Forest → ℕ → ℕ → Type 0
  Greedy = Runs ts named (Picked ts) (Next ts (behind ts))

  pub inside_tree : (f : Forest) (at to : ℕ) → Greedy inside f at to → IsForestOf ts named inside f at to
  inside_tree f at to h = (
    loose ts named (Ends ts) (Picked ts) (behind ts) (are_expressions ts) inside f at to h,
    greedy_takes_most ts named (Ends ts) (Picked ts) (behind ts) (are_expressions ts) inside f at to refl inside_fine (λ o. absurd (true≢false (sym o))) h,
  )

  pub inside_greedy : (f : Forest) (at to : ℕ) → IsForestOf ts named inside f at to → Greedy inside f at to
  inside_greedy f at to h =
      let w = some_greedy ts named (Ends ts) (Picked ts) (behind ts) (are_expressions ts) inside f at to inside_fine (λ o. absurd (true≢false (sym o))) h.0 in
      subst (λ z. Greedy inside z at to) (one_forest ts named inside w.0 f at to (inside_tree w.0 at to w.1) h) w.1
