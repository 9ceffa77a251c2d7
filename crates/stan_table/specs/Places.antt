-- A map from folded names to places.
use Rattle.std.specs.Prelude.{◌≡◌, ℕ, List, Option, Vec}
use Rattle.std.specs.Ordering.{nat_cmp}
use Rattle.std.specs.Cmp.Lexicographic.{slice_cmp}
use Rattle.std.specs.BTreeMap.{BTreeMap, get_by}
use Rattle.stan_base.specs.declared.ask_kind.AskKind.{AskKind}
use Rattle.stan_base.specs.Names.{fold_name}
use Rattle.stan_model_table.specs.Table.{Exported, answer_of}

-- the place that stands at these bytes
abbrev pub place_at : {Z : Type 0} → BTreeMap (Vec ℕ Z) ℕ → List ℕ → Option ℕ
place_at places bytes = get_by (λ key. slice_cmp nat_cmp bytes key.items) places

-- at each folded name stands the answer of the table for that name and this kind
abbrev pub Answers : {Z : Type 0} → AskKind → BTreeMap (Vec ℕ Z) ℕ → List Exported → Type 0
Answers kind places table = (name : List ℕ) → place_at places (fold_name kind name) ≡ answer_of table kind name
