-- Lines of the code as the model's.
use Rattle.stan_model_neon.specs.Outlines.{Line}
use Rattle.stan_neon_lines.specs.declared.lines.Line.{Line as CodeLine}

-- the line of the model that a line of the code is
abbrev pub line_of : CodeLine → Line
line_of line = record { number = line.number; indentation = line.indentation.now; entry = line.entry }
