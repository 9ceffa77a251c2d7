-- What a sink over a writer shows.
use Rattle.std.specs.Prelude.{ℕ}
use Rattle.stan_outside.specs.declared.stream_sink.StreamSink.{StreamSink}

abbrev pub stream_writer : {W : Type 0} → StreamSink W → W
stream_writer sink = sink.writer

abbrev pub stream_faults : {W : Type 0} → StreamSink W → ℕ
stream_faults sink = sink.faults
