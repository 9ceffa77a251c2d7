use Rattle.std.proofs.Common.{sym, ◌∙◌, subst}
use Rattle.stan_places.specs.Gives.{Gives, at}
use Rattle.stan_stmt_parts.specs.Gives.{statement_piece}
use Rattle.stan_stmt.proofs.PickLemmas.{absent, none_picked, some_picked}
use Rattle.stan_stmt.proofs.statements.statement_there.Goals as goal

pub returns-in_default : goal.returns-in_default
returns-in_default g c = absent c.args.parser.now.tokens.now (g.R.Reader.leaves c.args.parser.now.reader) c.args.depth c.args.place (sym c.token_at.ensures ∙ c.in_default.is)

pub returns-in_default-pick_statement : goal.returns-in_default-pick_statement
returns-in_default-pick_statement g c = none_picked c.args.parser.now.tokens.now (g.R.Reader.leaves c.args.parser.now.reader) c.args.depth c.args.place
    c.in-Some.first c.next_kind-second.result c.third_kind-third.result c.pick_statement.result (sym c.token_at.ensures ∙ c.in-Some.is) c.next_kind-second.ensures c.third_kind-third.ensures c.pick_statement.ensures c.in_default-pick_statement.is

pub returns : goal.returns
returns g c = subst (Gives (at statement_piece) c.statement_by.result) (sym (some_picked c.args.parser.now.tokens.now (g.R.Reader.leaves c.args.parser.now.reader) c.args.depth c.args.place
    c.in-Some.first c.next_kind-second.result c.third_kind-third.result c.pick_statement.result (sym c.token_at.ensures ∙ c.in-Some.is) c.next_kind-second.ensures c.third_kind-third.ensures c.pick_statement.ensures
    c.in-Some-pick_statement.rule c.in-Some-pick_statement.is)) c.statement_by.ensures
