-- What a sure source has left to give.
use Rattle.std.specs.Prelude.{ℕ, List, drop}
use Rattle.oxt_io.specs.declared.sure.SureSource.{SureSource}

-- the bytes that it has not given yet
abbrev pub bytes_left : SureSource → List ℕ
bytes_left s = drop s.next s.bytes.items
