use Rattle.std.proofs.Common.{sym, ◌∙◌, map}
use Rattle.stan_model_grammar.specs.TreeLists.{steps}
use Rattle.stan_syntax.specs.Tree.{arguments_of, form_of, suffix_of}
use Rattle.stan_syntax.proofs.Layers.{tree_fields}
use Rattle.stan_expr_walk.proofs.Calls.{called_is}
use Rattle.stan_expr_walk.proofs.names.push_called.Goals as goal

pub returns-then-is_name : goal.returns-then-is_name
returns-then-is_name c =
    let e = c.args.head.now in
    let called = called_is e.first (form_of e.form) (steps (map suffix_of c.args.suffixes.now)) (arguments_of c.in-Some.arguments.now) (sym (rw tree_fields at c.is_name.ensures) ∙ c.if-is_name.true) (c.in-Some.ensures) in
    rw (tree_fields, called) c.push_call.ensures
