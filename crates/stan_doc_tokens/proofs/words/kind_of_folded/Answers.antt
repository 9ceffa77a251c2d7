use Rattle.std.proofs.Common.{◌∙◌, ap, sym, arith, []}
use Rattle.std.proofs.lemmas.Bool.{false≢true}
use Rattle.stan_model_doc.specs.declared.token.DocKind.TheVariants.{End}
use Rattle.stan_base.specs.Bytes.{fold_case}
use Rattle.stan_doc_tokens.proofs.TableLemmas.{folded-found, folded-passed}
use Rattle.stan_doc_tokens.proofs.words.kind_of_folded.Goals as goal

pub returns-then-eq_ignore_ascii_case : goal.returns-then-eq_ignore_ascii_case
returns-then-eq_ignore_ascii_case c =
    folded-found c.args.rows.now c.args.other c.args.word.now c.loop-row.row-index _ (omega arith) (c.eq_ignore_ascii_case.ensures.test.0 c.if-eq_ignore_ascii_case.true ∙ ap fold_case c.as_bytes.ensures.value)
    ∙ c.loop-row.invariant

pub loop-row-preserved : goal.loop-row-preserved
loop-row-preserved c =
    folded-passed c.args.rows.now c.args.other c.args.word.now c.loop-row.row-index (record { ref_ptr = (0, 0); now = [] }, End) (omega arith)
    (λ e. false≢true (sym c.if-eq_ignore_ascii_case.false ∙ c.eq_ignore_ascii_case.ensures.test.1 (e ∙ sym (ap fold_case c.as_bytes.ensures.value))))
    ∙ c.loop-row.invariant
