use Rattle.std.proofs.Common.{◌≡◌, ◌∙◌, ap, refl, Bool, true, false, cond, Option, Some, is_some}
use Rattle.std.specs.Str.{bytes_eq}
use Rattle.std.proofs.lemmas.Map.Text.{btree_map_updates_str}
use Rattle.stan_config_paths.proofs.text_set.TextSet.add.Goals as goal

some_or : (b : Bool) (o : Option Bool) → is_some (cond b (Some true) o) ≡ cond b true (is_some o)
some_or true o = refl
some_or false o = refl

pub returns-clause-has : goal.returns-clause-has
returns-clause-has c = λ other.
    ap is_some (btree_map_updates_str c.args.text.now c.args.self.now.texts c.insert.new.self _ c.in_ok-old.ensures.updates other)
    ∙ some_or (bytes_eq c.args.text.now other) _
