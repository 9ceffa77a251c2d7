-- Which texts a set has.
use Rattle.std.specs.Prelude.{ℕ, Bool, List, is_some}
use Rattle.std.specs.BTreeMap as tree
use Rattle.std.specs.Ordering.{nat_cmp}
use Rattle.std.specs.Cmp.Lexicographic.{slice_cmp}
use Rattle.stan_config_paths.specs.declared.text_set.TextSet.{TextSet}

abbrev pub has : TextSet → List ℕ → Bool
has set text = is_some (tree.get_by (λ k. slice_cmp nat_cmp text k.now) set.texts)
