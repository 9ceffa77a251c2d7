use Rattle.std.proofs.Common.{map, subst}
use Rattle.stan_base.specs.declared.ask_kind.AskKind.TheVariants as kinds
use Rattle.stan_table.specs.Table.{node_of}
use Rattle.stan_table.specs.Places.{Answers}
use Rattle.stan_table.proofs.index.Index.build.Goals as goal

pub invariant_of-result : goal.invariant_of-result
invariant_of-result c = record {
  few = c.requires;
  class_answers = subst (λ nodes. Answers kinds.Class c.in_ok-classes.classes (map node_of nodes)) c.as_slice.ensures.value c.in_ok-classes.ensures;
  function_answers = subst (λ nodes. Answers kinds.Function c.in_ok-functions.functions (map node_of nodes)) c.as_slice-2.ensures.value c.in_ok-functions.ensures;
  constant_answers = subst (λ nodes. Answers kinds.Constant c.in_ok-constants.constants (map node_of nodes)) c.as_slice-3.ensures.value c.in_ok-constants.ensures;
}
