-- What a source over a reader of std and a sink over a writer show.
use Rattle.std.specs.Prelude.{ℕ}
use Rattle.oxt_io.specs.declared.std_adapters.ReaderSource.{ReaderSource}
use Rattle.oxt_io.specs.declared.std_adapters.WriterSink.{WriterSink}

-- the reader that the source reads from
abbrev pub reader_of : {R : Type 0} → ReaderSource R → R
reader_of s = s.reader

-- how many reads failed
abbrev pub reader_faults : {R : Type 0} → ReaderSource R → ℕ
reader_faults s = s.faults

-- the writer that the sink writes to
abbrev pub writer_of : {W : Type 0} → WriterSink W → W
writer_of s = s.writer

-- how many writes failed
abbrev pub writer_faults : {W : Type 0} → WriterSink W → ℕ
writer_faults s = s.faults
