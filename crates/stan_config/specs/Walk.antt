-- What a file means with its includes, whatever NEON says.
use Rattle.std.specs.Prelude.{ℕ, Bool, List, Result}
use Rattle.stan_outside.specs.Contents.{Contents}
use Rattle.stan_model_config.specs.Said.{nothing}
use Rattle.stan_model_config.specs.Files.{Neon, Stop, Found, content_at, found_at, each_include}
use Rattle.stan_config.specs.Reads.{read_at, read_each}

-- before any include was read
abbrev pub found_nothing : List (List ℕ) → Found
found_nothing read = record { said = nothing; read = read }

abbrev pub file_means : Contents → (List ℕ → Bool) → ℕ → List (List ℕ) → List (List ℕ) → List ℕ → Neon → Result Found Stop
file_means contents is_listed left chain read file neon = found_at (content_at neon contents is_listed) left chain read file

abbrev pub includes_mean : Contents → (List ℕ → Bool) → ℕ → List (List ℕ) → Found → List (List ℕ) → Neon → Result Found Stop
includes_mean contents is_listed left chain found includes neon = each_include (found_at (content_at neon contents is_listed) left chain) found includes

-- which files are read for a file with its includes, whatever NEON says
abbrev pub file_reads : Contents → (List ℕ → Bool) → ℕ → List (List ℕ) → List (List ℕ) → List ℕ → Neon → List (List ℕ)
file_reads contents is_listed left chain read file neon = read_at (content_at neon contents is_listed) left chain read file

abbrev pub include_reads : Contents → (List ℕ → Bool) → ℕ → List (List ℕ) → List (List ℕ) → List (List ℕ) → Neon → List (List ℕ)
include_reads contents is_listed left chain read includes neon = read_each (found_at (content_at neon contents is_listed) left chain) (read_at (content_at neon contents is_listed) left chain) read includes
