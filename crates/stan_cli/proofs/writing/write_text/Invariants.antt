use Rattle.std.proofs.Common.{◌≡◌, ◌≤◌, ◌-◌, ◌++◌, length, take}
use Rattle.stan_cli.proofs.writing.write_text.Given as goal

-- the front of the text was written, and where there was room for all, there is room for the rest
abbrev pub invariant-loop-done : goal.invariant-loop-done
invariant-loop-done g l = record {
  within : l.done ≤ length l.text;
  tells : g.K.Sink.tells l.initial.sink → g.K.Sink.tells l.sink;
  written : g.K.Sink.tells l.initial.sink → g.K.Sink.written l.sink ≡ g.K.Sink.written l.initial.sink ++ take l.done l.text;
  faults : g.K.Sink.faults l.initial.sink ≤ g.K.Sink.faults l.sink;
  room : length l.text ≤ g.K.Sink.room l.initial.sink → length l.text - l.done ≤ g.K.Sink.room l.sink;
  steady : length l.text ≤ g.K.Sink.room l.initial.sink → g.K.Sink.faults l.sink ≡ g.K.Sink.faults l.initial.sink;
}

abbrev pub decreases-loop-done : goal.decreases-loop-done
decreases-loop-done g l = length l.initial.text - l.done
