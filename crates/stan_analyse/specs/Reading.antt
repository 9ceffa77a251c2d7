-- What the program reads of a file, as the definitions see it.
use Rattle.stan_model_readings.specs.Reading as model
use Rattle.stan_stmt_trees.specs.Files.{file_of}
use Rattle.stan_analyse.specs.declared.reading.Reading.{Reading}
use Rattle.stan_analyse.specs.declared.reading.Reading.TheVariants.{Readable, TooLarge, NotUtf8, Broken}

abbrev pub reading_of : Reading → model.Reading
reading_of (Readable tree) = model.Readable (file_of tree)
reading_of TooLarge = model.TooLarge
reading_of NotUtf8 = model.NotUtf8
reading_of (Broken line) = model.Broken line
