use Rattle.std.proofs.Common.{sym, ◌∙◌, map}
use Rattle.stan_model_grammar.specs.TreeLists.{steps}
use Rattle.stan_syntax.specs.Tree.{form_of, suffix_of}
use Rattle.stan_syntax.proofs.Layers.{tree_fields}
use Rattle.stan_sites.proofs.Calls.{name_called}
use Rattle.stan_sites.proofs.sites.called.Goals as goal

pub returns-then-begins_with_call : goal.returns-then-begins_with_call
returns-then-begins_with_call c =
    let e = c.args.e.now in
    rw tree_fields (name_called e.first (form_of e.form) (steps (map suffix_of c.args.suffixes.now)) (sym (rw tree_fields at c.is_name.ensures) ∙ c.if-is_name.true) (sym c.begins_with_call.ensures ∙ c.if-begins_with_call.true))
