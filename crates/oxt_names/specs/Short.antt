-- The text of a short text.
use Rattle.std.specs.Prelude.{ℕ, List, take}
use Rattle.oxt_names.specs.declared.short.ShortText.{ShortText}

abbrev pub short_bytes : ShortText → List ℕ
short_bytes short = take short.len short.bytes
