-- A field of a kind, as the grammar has it.
use Rattle.std.specs.Prelude.{ℕ, List, Bool, true, false}
use Rattle.oxt_grammar.specs.Keys.{key_of}
use Rattle.oxt_grammar.specs.declared.holds.Holds.{Holds}
use Rattle.oxt_grammar.specs.declared.holds.Presence.{Presence}
use Rattle.oxt_grammar.specs.declared.holds.Presence.TheVariants.{Required, Optional, TypeScript}
use Rattle.oxt_grammar.specs.declared.holds.Row.{Row}

-- the key in the node's JSON, what may stand there, and whether it has to
pub record Field : Type 0 where
  pub name : List ℕ
  pub holds : Holds
  pub presence : Presence

abbrev pub field : List ℕ → Holds → Presence → Field
field n h p = record { name = n; holds = h; presence = p }

abbrev pub row_view : Row → Field
row_view r = field (key_of r.field) r.holds r.presence

-- the field has to be there
abbrev pub is_required : Presence → Bool
is_required Required = true
is_required Optional = false
is_required TypeScript = false

-- only TypeScript has the field
abbrev pub is_typescript_field : Presence → Bool
is_typescript_field Required = false
is_typescript_field Optional = false
is_typescript_field TypeScript = true
