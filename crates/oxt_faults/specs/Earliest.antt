-- Of names that would be captured, the one at the node of the least number.
use Rattle.std.specs.Prelude.{List, fold, nat_lt, if◌then◌else◌, Option, None, Some}
use Rattle.oxt_faults.specs.Captured.{Capture}
use Rattle.oxt_faults.specs.Level.{LevelWordAt}
use Rattle.oxt_faults.specs.Words.{text_of_word}
use Rattle.oxt_faults.specs.declared.earliest.MovedName.{MovedName}

abbrev pub moved_view : MovedName → Capture
moved_view m = record { node = m.node.0; name = m.name.now }

-- a word, at its node
abbrev pub of_word : LevelWordAt → Capture
of_word w = record { node = w.1; name = text_of_word w.0 }

-- the one of two at the node of the lesser number, and the first of two at one node
abbrev pub earlier : Option Capture → Option Capture → Option Capture
earlier None c = c
earlier (Some b) None = Some b
earlier (Some b) (Some c) = Some (if nat_lt c.node b.node then c else b)

-- the same with one more
abbrev pub earlier_of : Option Capture → Capture → Option Capture
earlier_of o c = earlier o (Some c)

-- the one at the node of the least number, and the first of those at one node
abbrev pub earliest : List Capture → Option Capture
earliest cs = fold earlier_of None cs
