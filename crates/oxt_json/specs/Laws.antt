-- What writing and reading have to do with one another.
use Rattle.std.specs.Prelude.{◌≡◌, ◌≤◌, ℕ, List, Ok}
use Rattle.std.specs.Str.{IsUtf8}
use Rattle.oxt_json.specs.Spelled.{data_of, ReadsBack}
use Rattle.oxt_json.specs.Numbered.{numbered, unnumbered}
use Rattle.oxt_json.specs.Reading.{tree_of}
use Rattle.oxt_json.specs.Spelling.{reading, tree}
use Rattle.oxt_tree.specs.Doc.{Doc}
use Rattle.oxt_valid.specs.Valid.{IsValid}
use Rattle.serde_json.specs.Data.{depth}
use Rattle.serde_json.specs.Read.{max_depth}
use Rattle.serde_json.specs.Written.{IsInOrder}

-- The data of a valid tree reads as the tree itself, numbered anew.
abbrev pub DataReadsBack : Type 0
DataReadsBack = (d : Doc) → IsValid d → tree_of (data_of d) ≡ Ok (numbered d 1)

-- What is written of a valid tree, where it nests no deeper than a reader goes, spells the tree itself, numbered anew.
abbrev pub TextReadsBack : Type 0
TextReadsBack = (bytes : List ℕ) (d : Doc) → IsValid d → IsUtf8 bytes → ReadsBack bytes (data_of d) → depth (data_of d) ≤ max_depth → reading bytes ≡ tree (numbered d 1).0 (numbered d 1).1

-- Numbering anew changes numbers alone.
abbrev pub NumberingChangesNumbers : Type 0
NumberingChangesNumbers = (d : Doc) (n : ℕ) → unnumbered (numbered d n).0 ≡ unnumbered d

-- Valid trees with the same data differ in numbers alone.
abbrev pub DataTellsTrees : Type 0
DataTellsTrees = (c d : Doc) → IsValid c → IsValid d → data_of c ≡ data_of d → unnumbered c ≡ unnumbered d

-- Valid trees that are written alike differ in numbers alone, however deep they nest.
abbrev pub TextTellsTrees : Type 0
TextTellsTrees = (bytes : List ℕ) (c d : Doc) → IsValid c → IsValid d → IsInOrder bytes (data_of c) → IsInOrder bytes (data_of d) → unnumbered c ≡ unnumbered d
