use Rattle.std.proofs.Common.{◌≡◌, List, ◌++◌, ap, map, sym, ◌∙◌}
use Rattle.stan_model_types.specs.Types as model
use Rattle.stan_model_types.specs.NormalForms.{normal, normal_within}
use Rattle.stan_type_parts.specs.Parts.{part_of}
use Rattle.stan_type_order.proofs.Encodings.{parts-of_parts}
use Rattle.stan_type.proofs.unite.united.Goals as goal

pub returns : goal.returns
unfolding normal
returns c =
    let first : map part_of c.parts.result.now ≡ model.parts c.args.a.now = sym (parts-of_parts (map part_of c.parts.result.now)) ∙ ap model.parts c.parts.ensures.value in
    let second : map part_of c.parts-2.result.now ≡ model.parts c.args.b.now = sym (parts-of_parts (map part_of c.parts-2.result.now)) ∙ ap model.parts c.parts-2.ensures.value in
    c.in_ok-t.ensures
    ∙ ap (λ (ps : List model.Part). normal_within 66 (ps ++ map part_of c.parts-2.result.now)) first
    ∙ ap (λ (ps : List model.Part). normal_within 66 (model.parts c.args.a.now ++ ps)) second
