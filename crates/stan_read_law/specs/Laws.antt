-- What the laws say of the parser on places and the trees of files, for every list of tokens.
use Rattle.std.specs.Prelude.{◌≡◌, ℕ, ◌≤◌, Bool, List, length, Some}
use Rattle.stan_model_grammar.specs.declared.token.Token.{Token}
use Rattle.stan_model_statements.specs.Trees.{Top, Tops}
use Rattle.stan_model_files.specs.Files.{ReadsTop, SpellsFile}
use Rattle.stan_model_files.specs.Put.{put_top}
use Rattle.stan_model_files.specs.Shapes.{nil}
use Rattle.stan_stmt_parts.specs.Parse.{Piece, piece_of}
use Rattle.stan_read_law.specs.Reads.{enough, top_read, AreRead}
use Rattle.stan_model_readings.specs.Fronts.{Ended, IsLongestFront}

-- What is read, with whatever room, is a tree of files, unless a token follows that goes on with it.
abbrev pub ReadIsTree : Type 0
ReadIsTree = (ts : List Token) (named : Token → Bool) (room : ℕ) (x : Top) (from to : ℕ)
    → top_read ts named room from ≡ Some (piece_of (put_top x nil), to) → Ended ts named to → ReadsTop ts named x from to

-- A tree of files is read, where there is room enough and no token follows that goes on with it.
abbrev pub TreeIsRead : Type 0
TreeIsRead = (ts : List Token) (named : Token → Bool) (x : Top) (from to : ℕ)
    → ReadsTop ts named x from to → Ended ts named to → (room : ℕ) → enough ≤ room → top_read ts named room from ≡ Some (piece_of (put_top x nil), to)

-- All the tokens have one tree at most.
abbrev pub OneTreeOfTokens : Type 0
OneTreeOfTokens = (ts : List Token) (named : Token → Bool) (xs ys : Tops) → SpellsFile ts named xs → SpellsFile ts named ys → xs ≡ ys

-- Where all the tokens are read, what is read is their tree.
abbrev pub ReadIsFile : Type 0
ReadIsFile = (ts : List Token) (named : Token → Bool) (room : ℕ) (xs : Tops) → AreRead ts named room xs 0 (length ts) → SpellsFile ts named xs

-- The tree of all the tokens is read, where there is room enough.
abbrev pub FileIsRead : Type 0
FileIsRead = (ts : List Token) (named : Token → Bool) (xs : Tops) → SpellsFile ts named xs → (room : ℕ) → enough ≤ room → AreRead ts named room xs 0 (length ts)

-- What is read up to where nothing more is read that no token goes on with is the longest front.
abbrev pub ReadIsLongestFront : Type 0
ReadIsLongestFront = (ts : List Token) (named : Token → Bool) (room : ℕ) → enough ≤ room → (xs : Tops) (to : ℕ) → AreRead ts named room xs 0 to
    → ((p : Piece) (b : ℕ) → top_read ts named room to ≡ Some (p, b) → Ended ts named b → ⊥) → IsLongestFront ts named xs to
