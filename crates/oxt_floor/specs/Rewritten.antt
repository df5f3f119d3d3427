-- What it is to write a source's JSON to a sink.
use Rattle.std.specs.Prelude.{◌≡◌, ℕ, List, Option, Some, false}
use Rattle.std.specs.Io.KnownBytes.{Appends}
use Rattle.oxt_io.specs.Passed.{GaveAll}
use Rattle.serde_json.specs.Data.{Data}
use Rattle.serde_json.specs.Read.{read}
use Rattle.serde_json.specs.Written.{compact_text, has_float}

-- The source's bytes are a value, and the sink took its text, which has no spaces.
pub record Rewritten (left left' taken taken' : Option (List ℕ)) : Type 0 where
  pub bytes : List ℕ
  pub value : Data
  pub text : List ℕ
  pub gave : GaveAll left left' bytes
  pub spelled : read bytes ≡ Some value
  pub compact : has_float value ≡ false → text ≡ compact_text value
  pub wrote : Appends taken taken' text
