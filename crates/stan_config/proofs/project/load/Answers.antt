use Rattle.std.proofs.Common.{map, string_bytes}
use Rattle.std.specs.Prelude.{option_map}
use Rattle.stan_config_paths.specs.TextSet.{has}
use Rattle.stan_config_said.specs.Views.{said_view}
use Rattle.stan_config.specs.Views.{asked}
use Rattle.stan_config.proofs.ProjectLemmas.{said_good, said_refused, files_refused}
use Rattle.stan_config.proofs.ReadSteps.{all_once, all_at_most}
use Rattle.stan_config.proofs.project.load.Goals as goal

pub returns-in-Ok-clause-config : goal.returns-in-Ok-clause-config
returns-in-Ok-clause-config g c =
    said_good (g.T.Tree.contents c.args.tree.now) (map string_bytes c.args.listed.now) (has c.in_ok-names.names) c.in_ok-names.ensures (asked c.args.words.now) (option_map string_bytes c.in_ok-root.root) c.in_ok-root.ensures (g.T.Tree.tells c.args.tree.now)
    (said_view c.in-Ok.said) c.in-Ok.ensures.said c.meaning.result c.meaning.ensures.config

pub returns-in-Ok-clause-refused : goal.returns-in-Ok-clause-refused
returns-in-Ok-clause-refused g c =
    said_refused (g.T.Tree.contents c.args.tree.now) (map string_bytes c.args.listed.now) (has c.in_ok-names.names) c.in_ok-names.ensures (asked c.args.words.now) (option_map string_bytes c.in_ok-root.root) c.in_ok-root.ensures (g.T.Tree.tells c.args.tree.now)
    (said_view c.in-Ok.said) c.in-Ok.ensures.said _ c.meaning.result c.meaning.ensures.refused

pub returns-clause-refused : goal.returns-clause-refused
returns-clause-refused g c =
    files_refused (g.T.Tree.contents c.args.tree.now) (map string_bytes c.args.listed.now) (has c.in_ok-names.names) c.in_ok-names.ensures (asked c.args.words.now) (option_map string_bytes c.in_ok-root.root) c.in_ok-root.ensures (g.T.Tree.tells c.args.tree.now)
    _ c.in-Err.stop c.in-Err.ensures.refused

pub returns-in-Ok-clause-read_once : goal.returns-in-Ok-clause-read_once
returns-in-Ok-clause-read_once g c =
    all_once (g.T.Tree.contents c.args.tree.now) (map string_bytes c.args.listed.now) (has c.in_ok-names.names) c.in_ok-names.ensures (asked c.args.words.now) (option_map string_bytes c.in_ok-root.root) c.in_ok-root.ensures (g.T.Tree.tells c.args.tree.now)
    (g.T.Tree.reads c.args.tree.now) (g.T.Tree.reads c.said_from.new.tree) c.in-Ok.ensures.read_once c.meaning.result

pub returns-in-Ok-clause-read_at_most_once : goal.returns-in-Ok-clause-read_at_most_once
returns-in-Ok-clause-read_at_most_once g c =
    all_at_most (g.T.Tree.contents c.args.tree.now) (map string_bytes c.args.listed.now) (has c.in_ok-names.names) c.in_ok-names.ensures (asked c.args.words.now) (option_map string_bytes c.in_ok-root.root) c.in_ok-root.ensures (g.T.Tree.tells c.args.tree.now)
    (g.T.Tree.reads c.args.tree.now) (g.T.Tree.reads c.said_from.new.tree) c.said_from.ensures.read_at_most_once

pub returns-clause-read_at_most_once : goal.returns-clause-read_at_most_once
returns-clause-read_at_most_once g c =
    all_at_most (g.T.Tree.contents c.args.tree.now) (map string_bytes c.args.listed.now) (has c.in_ok-names.names) c.in_ok-names.ensures (asked c.args.words.now) (option_map string_bytes c.in_ok-root.root) c.in_ok-root.ensures (g.T.Tree.tells c.args.tree.now)
    (g.T.Tree.reads c.args.tree.now) (g.T.Tree.reads c.said_from.new.tree) c.said_from.ensures.read_at_most_once
