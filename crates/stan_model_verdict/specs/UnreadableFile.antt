-- Rule 0: the file cannot be read. It comes once, for the first reason that there is.
use Rattle.std.specs.Prelude.{ℕ, List, [], ◌∷◌, codes}
use Rattle.stan_model_readings.specs.Reading.{Reading, Readable, TooLarge, NotUtf8, Broken}
use Rattle.stan_model_verdict.specs.Fault.{Fault}

abbrev pub too_large : List ℕ
too_large = codes "File is larger than 1048576 bytes."

abbrev pub not_utf8 : List ℕ
not_utf8 = codes "File is not UTF-8."

abbrev pub broken : List ℕ
broken = codes "Syntax error or a form outside the profile."

abbrev pub unreadable : ℕ → List ℕ → Fault
unreadable line text = record { line = line; rule = 0; text = text }

abbrev pub unreadable_file : Reading → List Fault
unreadable_file (Readable tops) = []
unreadable_file TooLarge = unreadable 1 too_large ∷ []
unreadable_file NotUtf8 = unreadable 1 not_utf8 ∷ []
unreadable_file (Broken line) = unreadable line broken ∷ []
