-- The tree of a file: declarations and statements in a row that spell its tokens, each at most 200 deep with what the bodies of closures
-- hold. Places count the tokens of the list, which has no comments and attributes.
use Rattle.std.specs.Prelude.{◌≡◌, ℕ, ◌≤◌, Bool, List, length}
use Rattle.stan_model_grammar.specs.declared.token.Token.{Token}
use Rattle.stan_model_statements.specs.Depth.{top_depth}
use Rattle.stan_model_statements.specs.Takes.{IsForestOf}
use Rattle.stan_model_statements.specs.Tops as tops
use Rattle.stan_model_statements.specs.Trees.{Top, Tops, no_top, top}
use Rattle.stan_model_files.specs.Put.{put_top}
use Rattle.stan_model_files.specs.Shapes.{nil, forest, Holds}

-- `named` tells the word `strict_types`.
module _ (ts : List Token) (named : Token → Bool) where
  -- It is the tree of its tokens, its first tokens stand where its parts begin, and so do the bodies of its closures.
  pub record ReadsTop (x : Top) (from to : ℕ) : Type 0 where
    pub spelled : IsForestOf ts named tops.top (forest (put_top x nil)) from to
    pub held : Holds ts named (put_top x nil) from
    pub flat : top_depth x ≤ 200

  abbrev pub ReadsTops : Tops → ℕ → ℕ → Type 0
  ReadsTops no_top from to = from ≡ to
  ReadsTops (top x xs) from to = (b : ℕ) × ReadsTop x from b × ReadsTops xs b to

  -- all the tokens
  abbrev pub SpellsFile : Tops → Type 0
  SpellsFile xs = ReadsTops xs 0 (length ts)
