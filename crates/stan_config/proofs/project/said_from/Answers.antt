use Rattle.std.proofs.Common.{refl, [], string_bytes}
use Rattle.std.specs.Prelude.{option_map}
use Rattle.stan_config_paths.specs.TextSet.{has}
use Rattle.stan_config.specs.Views.{files_view}
use Rattle.stan_config.proofs.ProjectLemmas.{root_good, root_refused}
use Rattle.stan_config.proofs.ReadSteps.{root_once, root_at_most}
use Rattle.stan_config.proofs.project.said_from.Goals as goal

pub returns-in-Some-clause-said : goal.returns-in-Some-clause-said
returns-in-Some-clause-said g c =
    root_good (g.T.Tree.contents c.args.tree.now) (has c.args.listed.now) (g.T.Tree.tells c.args.tree.now) [] (files_view c.new-read.result) c.as_str.result.now (option_map string_bytes c.args.root)
    refl c.new-read.ensures (rw (c.in-Some.is, c.as_str.ensures.value) refl) (files_view c.found_at.new.read) c.found_at.result c.found_at.ensures.found

pub returns-in-Some-clause-refused : goal.returns-in-Some-clause-refused
returns-in-Some-clause-refused g c =
    root_refused (g.T.Tree.contents c.args.tree.now) (has c.args.listed.now) (g.T.Tree.tells c.args.tree.now) [] (files_view c.new-read.result) c.as_str.result.now (option_map string_bytes c.args.root)
    refl c.new-read.ensures (rw (c.in-Some.is, c.as_str.ensures.value) refl) _ c.found_at.result c.found_at.ensures.refused

pub returns-in-Some-clause-read_once : goal.returns-in-Some-clause-read_once
returns-in-Some-clause-read_once g c =
    root_once (g.T.Tree.contents c.args.tree.now) (has c.args.listed.now) (g.T.Tree.tells c.args.tree.now) [] (files_view c.new-read.result) c.as_str.result.now (option_map string_bytes c.args.root)
    refl c.new-read.ensures (rw (c.in-Some.is, c.as_str.ensures.value) refl) (files_view c.found_at.new.read) (g.T.Tree.reads c.args.tree.now) (g.T.Tree.reads c.found_at.new.tree) c.found_at.result c.found_at.ensures.found c.found_at.ensures.read_once

pub returns-in-Some-clause-read_at_most_once : goal.returns-in-Some-clause-read_at_most_once
returns-in-Some-clause-read_at_most_once g c =
    root_at_most (g.T.Tree.contents c.args.tree.now) (has c.args.listed.now) (g.T.Tree.tells c.args.tree.now) [] (files_view c.new-read.result) c.as_str.result.now (option_map string_bytes c.args.root)
    refl c.new-read.ensures (rw (c.in-Some.is, c.as_str.ensures.value) refl) (g.T.Tree.reads c.args.tree.now) (g.T.Tree.reads c.found_at.new.tree) c.found_at.ensures.read_at_most_once
