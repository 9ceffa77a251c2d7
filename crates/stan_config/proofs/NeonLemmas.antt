-- What NEON says of a text is what the text is.
use Rattle.std.proofs.Common.{◌≡◌, ℕ, List, Result, Ok, Err, ap}
use Rattle.stan_model_neon.specs.declared.node.Node.{Node}
use Rattle.stan_neon.specs.Texts.{IsTreeOf, IsBadAt}
use Rattle.stan_neon.proofs.DocumentLemmas.{one-tree, one-bad-line, tree-or-bad}
use Rattle.stan_model_config.specs.Files.{Neon}
use Rattle.stan_config.specs.Neon.{IsReadAs, IsNeon}

as_tree : (text : List ℕ) (node : Node) → IsTreeOf text node → (answer : Result Node ℕ) → IsReadAs text answer → answer ≡ Ok node
as_tree text node tree (Ok other) is = ap Ok (one-tree text other node is tree)
as_tree text node tree (Err line) is = absurd (tree-or-bad text node line tree is)

as_bad : (text : List ℕ) (line : ℕ) → IsBadAt text line → (answer : Result Node ℕ) → IsReadAs text answer → answer ≡ Err line
as_bad text line bad (Ok node) is = absurd (tree-or-bad text node line is bad)
as_bad text line bad (Err other) is = ap Err (one-bad-line text other line is bad)

pub neon_tree : (neon : Neon) → IsNeon neon → (text : List ℕ) (node : Node) → IsTreeOf text node → neon text ≡ Ok node
neon_tree neon is text node tree = as_tree text node tree (neon text) (is text)

pub neon_bad : (neon : Neon) → IsNeon neon → (text : List ℕ) (line : ℕ) → IsBadAt text line → neon text ≡ Err line
neon_bad neon is text line bad = as_bad text line bad (neon text) (is text)
