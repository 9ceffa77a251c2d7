use Rattle.stan_model_statements.specs.Tops as tops
use Rattle.stan_model_files.specs.Put.{put_top}
use Rattle.stan_model_files.specs.Shapes.{nil, forest}
use Rattle.stan_file_law.proofs.Same.{same_top}
use Rattle.stan_file_law.proofs.Shapes.{one_forest, same_shape}
use Rattle.stan_file_law.proofs.laws.one_top_of_tokens.Goals as goal

pub returns : goal.returns
returns c = λ ts named x y from to h i.
    let e = one_forest ts named tops.top (forest (put_top x nil)) (forest (put_top y nil)) from to h.spelled i.spelled in
    let s = same_shape ts named (put_top x nil) (put_top y nil) from e h.held i.held in
    (same_top x y nil nil s).0
