-- What bytes spell.
use Rattle.std.specs.Prelude.{◌≡◌, ℕ, List, if◌then◌else◌, Option, None, Some, Ok, Err}
use Rattle.std.specs.Str.{is_utf8}
use Rattle.serde_json.specs.Data.{Data}
use Rattle.serde_json.specs.Read.{read}
use Rattle.oxt_tree.specs.Doc.{Doc}
use Rattle.oxt_json.specs.Answer.{Answer}
use Rattle.oxt_json.specs.Reading.{tree_of}

-- no JSON value, a value with the place of what is wrong in it, or a tree and the first number that no node of it has
pub data Reading : Type 0 where
  no_value : Reading
  wrong : List ℕ → Reading
  tree : Doc → ℕ → Reading

-- the JSON value that the bytes are
unfoldable pub value_of : List ℕ → Option Data
value_of bytes = if is_utf8 bytes then read bytes else None

abbrev pub answered : Answer Doc → Reading
answered (Ok p) = tree p.0 p.1
answered (Err place) = wrong place

abbrev pub value_reading : Option Data → Reading
value_reading None = no_value
value_reading (Some d) = answered (tree_of d)

-- what the bytes are
abbrev pub reading : List ℕ → Reading
reading bytes = value_reading (value_of bytes)

-- the bytes spell the document
abbrev pub Spells : List ℕ → Doc → Type 0
Spells bytes d = (next : ℕ) × (reading bytes ≡ tree d next)
