-- What holds of the readings of every file: each is the contract of a function of the module `laws`.
use Rattle.std.specs.Prelude.{◌≡◌, ℕ, List}
use Rattle.stan_model_readings.specs.Reading.{Reading, IsReading, AreReadings}

-- A file has one reading.
abbrev pub OneReading : Type 0
OneReading = (source : List ℕ) (r s : Reading) → IsReading source r → IsReading source s → r ≡ s

-- Files have one list of readings.
abbrev pub OneReadings : Type 0
OneReadings = (sources : List (List ℕ)) (rs ss : List Reading) → AreReadings sources rs → AreReadings sources ss → rs ≡ ss

-- No file is without a reading, whatever its bytes. Which one it has is not said here.
abbrev pub NoFileIsWithoutAReading : Type 0
NoFileIsWithoutAReading = (source : List ℕ) → ((reading : Reading) → IsReading source reading → ⊥) → ⊥

-- No files are without a list of readings.
abbrev pub NoFilesAreWithoutReadings : Type 0
NoFilesAreWithoutReadings = (sources : List (List ℕ)) → ((readings : List Reading) → AreReadings sources readings → ⊥) → ⊥
