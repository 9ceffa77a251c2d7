-- How deep a type is.
use Rattle.std.specs.Prelude.{ℕ, ◌+◌, ◌-◌, max}
use Rattle.stan_model_doc.specs.Rules.{Rule, conditional, nullable, suffixed, group, shape, range, callable_type, arguments}
use Rattle.stan_model_doc.specs.Trees.{Forest, nil, mark, word, any, none, some}

-- how many parts stand side by side
abbrev pub parts : Forest → ℕ
parts nil = 0
parts (mark f) = parts f
parts (word t f) = parts f
parts (any n f) = parts f
parts (none f) = parts f
parts (some r ps f) = 1 + parts f

-- How many levels a production adds to the deepest of its parts: brackets of any kind and `?` one, and each `[]` one round what stands before it.
-- So `callable(any): t` is one level deeper than t, and the brackets of a method and the `?` of a condition or a key add nothing.
abbrev pub levels : Rule → Forest → ℕ
levels conditional ps = 1
levels nullable ps = 1
levels group ps = 1
levels shape ps = 1
levels range ps = 1
levels callable_type ps = 1
levels arguments ps = 1
levels suffixed ps = parts ps - 1
levels r ps = 0

-- The depth of the deepest type of a tree.
abbrev pub depth : Forest → ℕ
depth nil = 0
depth (mark f) = depth f
depth (word t f) = depth f
depth (any n f) = depth f
depth (none f) = depth f
depth (some r ps f) = max (levels r ps + depth ps) (depth f)
