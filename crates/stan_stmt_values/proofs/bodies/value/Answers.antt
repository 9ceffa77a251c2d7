use Rattle.std.proofs.Common.{◌≡◌, ◌∙◌, ℕ, Option, Some, ap, sym, map}
use Rattle.stan_sites.specs.Sites.{site_of}
use Rattle.stan_stmt_parts.specs.Parse.{Putting}
use Rattle.stan_stmt_values.proofs.BodyLemmas.{value_read, putting_made}
use Rattle.stan_stmt_values.proofs.bodies.value.Goals as goal

pub returns : goal.returns
returns g c =
    value_read c.args.parser.now.tokens.now (g.R.Reader.leaves c.args.parser.now.reader) c.args.depth.room c.args.depth.levels c.args.pattern c.args.place _ c.in_ok-tree.to (map site_of c.deref.result.now) _ c.in_ok-tree.ensures
    (rw c.deref.ensures.value c.in-Ok.ensures) c.in_ok-bodies.ensures
    ∙ ap (λ (p : Putting). let o : Putting × ℕ → Option (Putting × ℕ) = Some in o (p, c.in_ok-tree.to)) (sym (putting_made c.in_ok-tree.tree c.in_ok-bodies.bodies))
