-- What contracts see of a sink over a writer.
use Rattle.std.specs.Prelude.{ℕ}
use Rattle.dj_outer.specs.declared.stream_sink.StreamSink.{StreamSink}

-- the writer that it writes into
abbrev pub writer_of : {W : Type 0} → StreamSink W → W
writer_of sink = sink.writer

-- the count of its faults
abbrev pub stream_faults : {W : Type 0} → StreamSink W → ℕ
stream_faults sink = sink.faults
