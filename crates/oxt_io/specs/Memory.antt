-- What a source and a sink over memory show.
use Rattle.std.specs.Prelude.{◌≡◌, ℕ, ◌<◌, List, length}
use Rattle.oxt_io.specs.SureBytes.{bytes_left}
use Rattle.oxt_io.specs.declared.memory.MemorySource.{MemorySource}
use Rattle.oxt_io.specs.declared.memory.MemorySink.{MemorySink}
use Rattle.oxt_io.specs.declared.plan.Plan.{Plan}

-- the bytes that the source has not given yet
abbrev pub source_left : MemorySource → List ℕ
source_left s = bytes_left s.bytes

-- which calls of the source fail, and how much one gives
abbrev pub source_plan : MemorySource → Plan
source_plan s = s.plan

-- the bytes that the sink took
abbrev pub sink_taken : MemorySink → List ℕ
sink_taken s = s.bytes.items

-- how many bytes the sink takes in all
abbrev pub sink_room : MemorySink → ℕ
sink_room s = s.room

-- which calls of the sink fail, and how much one takes
abbrev pub sink_plan : MemorySink → Plan
sink_plan s = s.plan

-- bytes come and the sink has taken all that it has room for
abbrev pub IsFull : MemorySink → List ℕ → Type 0
IsFull s piece = (length (sink_taken s) ≡ sink_room s) × (0 < length piece)
