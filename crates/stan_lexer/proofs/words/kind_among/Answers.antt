use Rattle.std.proofs.Common.{◌∙◌, ap, sym, arith, []}
use Rattle.std.proofs.lemmas.Bool.{false≢true}
use Rattle.stan_model_grammar.specs.declared.token.TokenKind.TheVariants.{End}
use Rattle.stan_base.specs.Bytes.{fold_case}
use Rattle.stan_lexer.proofs.TableLemmas.{kind_among-found, kind_among-passed}
use Rattle.stan_lexer.proofs.words.kind_among.Goals as goal

pub returns-then-eq_ignore_ascii_case : goal.returns-then-eq_ignore_ascii_case
returns-then-eq_ignore_ascii_case c =
    kind_among-found c.args.rows.now c.args.word.now c.loop-row.row-index _ (omega arith) (c.eq_ignore_ascii_case.ensures.test.0 c.if-eq_ignore_ascii_case.true ∙ ap fold_case c.as_bytes.ensures.value)
    ∙ c.loop-row.invariant

pub loop-row-preserved : goal.loop-row-preserved
loop-row-preserved c =
    kind_among-passed c.args.rows.now c.args.word.now c.loop-row.row-index (record { ref_ptr = (0, 0); now = [] }, End) (omega arith)
    (λ e. false≢true (sym c.if-eq_ignore_ascii_case.false ∙ c.eq_ignore_ascii_case.ensures.test.1 (e ∙ sym (ap fold_case c.as_bytes.ensures.value))))
    ∙ c.loop-row.invariant
