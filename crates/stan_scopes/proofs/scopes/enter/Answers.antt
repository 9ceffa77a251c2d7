use Rattle.std.proofs.Common.{refl}
use Rattle.stan_model_walk.specs.Scopes.{used, used_in, full}
use Rattle.stan_model_grammar.specs.Tokens.{spelling}
use Rattle.stan_names.specs.Scopes.{scope_of}
use Rattle.stan_stmt_trees.specs.Files.{used_of}
use Rattle.stan_stmt_trees.proofs.TopLayers.{top-Namespace, top-NamespaceBlock, top-Use, top-UseGroup, top-Plain}
use Rattle.stan_scopes.proofs.UseLemmas.{map_twice}
use Rattle.stan_scopes.proofs.scopes.enter.Goals as goal

pub returns-in_ok-names-in-Namespace : goal.returns-in_ok-names-in-Namespace
returns-in_ok-names-in-Namespace c = rw (c.in-Namespace.is, top-Namespace) c.in_ok-names-in-Namespace.ensures

pub returns-in-NamespaceBlock : goal.returns-in-NamespaceBlock
returns-in-NamespaceBlock c = rw (c.in-NamespaceBlock.is, top-NamespaceBlock) refl

pub returns-in-Plain : goal.returns-in-Plain
returns-in-Plain c = rw (c.in-Plain.is, top-Plain) refl

pub returns-in-Use : goal.returns-in-Use
returns-in-Use c = rw (c.in-Use.is, top-Use, map_twice (used c.args.source.now (scope_of c.args.names.now) c.in-Use.kind) used_of c.in-Use.items) (rw c.as_slice.ensures at c.add_all.ensures)

pub returns-in_ok-prefix-in-UseGroup : goal.returns-in_ok-prefix-in-UseGroup
returns-in_ok-prefix-in-UseGroup c = rw (c.in-UseGroup.is, top-UseGroup, map_twice (used_in c.args.source.now (full (scope_of c.args.names.now) (spelling c.args.source.now c.in-UseGroup.name)) c.in-UseGroup.kind) used_of c.in-UseGroup.items) (rw (c.as_slice-in-UseGroup.ensures, c.bytes.ensures, c.in_ok-prefix-in-UseGroup.ensures, c.spelling_of.ensures) at c.add_group.ensures)
