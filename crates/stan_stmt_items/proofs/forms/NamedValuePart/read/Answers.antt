use Rattle.std.proofs.Common.{arith, [], ◌∷◌, false}
use Rattle.stan_model_grammar.specs.declared.token.TokenKind.TheVariants as kinds
use Rattle.stan_model_statements.specs.Symbols as sorts
use Rattle.stan_stmt_items.proofs.Layers.{made}
use Rattle.stan_stmt_items.specs.Views.{constant_piece}
use Rattle.stan_stmt_parts.specs.Gives.{inside}
use Rattle.stan_stmt_items.proofs.FormLemmas.{worded_part}
use Rattle.stan_stmt_items.proofs.forms.NamedValuePart.read.Goals as goal

pub returns-in_err-depth : goal.returns-in_err-depth
unfolding inside constant_piece
returns-in_err-depth g c = grind (arith, worded_part c.args.parser.now.tokens.now (g.R.Reader.leaves c.args.parser.now.reader) c.args.depth g.F.NamedValueForm.sort g.F.Words.Words.kinds (sorts.Mark kinds.Assign ∷ sorts.Expression false ∷ []) c.args.place g.met.F.NamedValueForm.form, made)

pub returns-in_err-name : goal.returns-in_err-name
unfolding inside constant_piece
returns-in_err-name g c = grind (arith, worded_part c.args.parser.now.tokens.now (g.R.Reader.leaves c.args.parser.now.reader) c.args.depth g.F.NamedValueForm.sort g.F.Words.Words.kinds (sorts.Mark kinds.Assign ∷ sorts.Expression false ∷ []) c.args.place g.met.F.NamedValueForm.form, made)

pub returns-in_err-to : goal.returns-in_err-to
unfolding inside constant_piece
returns-in_err-to g c = grind (arith, worded_part c.args.parser.now.tokens.now (g.R.Reader.leaves c.args.parser.now.reader) c.args.depth g.F.NamedValueForm.sort g.F.Words.Words.kinds (sorts.Mark kinds.Assign ∷ sorts.Expression false ∷ []) c.args.place g.met.F.NamedValueForm.form, made)

pub returns-in_err-value : goal.returns-in_err-value
unfolding inside constant_piece
returns-in_err-value g c = grind (arith, worded_part c.args.parser.now.tokens.now (g.R.Reader.leaves c.args.parser.now.reader) c.args.depth g.F.NamedValueForm.sort g.F.Words.Words.kinds (sorts.Mark kinds.Assign ∷ sorts.Expression false ∷ []) c.args.place g.met.F.NamedValueForm.form, made)

pub returns : goal.returns
unfolding inside constant_piece
returns g c = grind (arith, worded_part c.args.parser.now.tokens.now (g.R.Reader.leaves c.args.parser.now.reader) c.args.depth g.F.NamedValueForm.sort g.F.Words.Words.kinds (sorts.Mark kinds.Assign ∷ sorts.Expression false ∷ []) c.args.place g.met.F.NamedValueForm.form, made)
