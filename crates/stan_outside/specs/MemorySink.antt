-- What a sink in memory shows.
use Rattle.std.specs.Prelude.{ℕ, ◌-◌, ◌==◌, if◌then◌else◌, List, length, vec_len}
use Rattle.stan_outside.specs.declared.calls.Calls.{Calls}
use Rattle.stan_outside.specs.declared.memory_sink.MemorySink.{MemorySink}

-- the bytes written so far
abbrev pub sink_bytes : MemorySink → List ℕ
sink_bytes sink = sink.bytes.items

abbrev pub sink_calls : MemorySink → Calls
sink_calls sink = sink.calls

-- the most bytes that a call takes
abbrev pub sink_piece : MemorySink → ℕ
sink_piece sink = sink.piece

-- how many bytes have room yet
abbrev pub sink_left : MemorySink → ℕ
sink_left sink = sink.most - vec_len sink.bytes

-- how many bytes it surely takes: none where some call may fail
abbrev pub sink_room : MemorySink → ℕ
sink_room sink = if length (sink_calls sink).failing.items == 0 then sink_left sink else 0
