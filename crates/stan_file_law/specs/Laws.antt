-- What holds of the trees of files: each is the contract of a function of the module `laws`.
use Rattle.std.specs.Prelude.{◌≡◌, ℕ, Bool, List}
use Rattle.stan_model_grammar.specs.declared.token.Token.{Token}
use Rattle.stan_model_statements.specs.Depth.{tops_depth, depth as statement_depth}
use Rattle.stan_model_statements.specs.Trees.{Statement, Top, Tops}
use Rattle.stan_model_files.specs.Files.{ReadsTop}
use Rattle.stan_model_files.specs.Put.{put, put_tops}
use Rattle.stan_model_files.specs.Shapes.{nil, depth}

-- Productions, with first tokens and bodies of closures, are those of one tree alone.
abbrev pub OneTreeOfProductions : Type 0
OneTreeOfProductions = (xs ys : Tops) → put_tops xs nil ≡ put_tops ys nil → xs ≡ ys

abbrev pub OneStatementOfProductions : Type 0
OneStatementOfProductions = (s t : Statement) → put s nil ≡ put t nil → s ≡ t

-- A tree is as deep as its productions.
abbrev pub DepthIsThatOfProductions : Type 0
DepthIsThatOfProductions = (xs : Tops) → tops_depth xs ≡ depth (put_tops xs nil)

abbrev pub StatementsAreAsDeep : Type 0
StatementsAreAsDeep = (s : Statement) → statement_depth s ≡ depth (put s nil)

-- The tokens from one place to another have at most one tree of a declaration or a statement.
abbrev pub OneTopOfTokens : Type 0
OneTopOfTokens = (ts : List Token) (named : Token → Bool) (x y : Top) (from to : ℕ) → ReadsTop ts named x from to → ReadsTop ts named y from to → x ≡ y
