-- Why bytes are no tree.
use Rattle.std.specs.Prelude.{◌≡◌, ⊤, string_bytes}
use Rattle.oxt_names.specs.Names.{name_bytes}
use Rattle.oxt_names.specs.declared.name.Name.{Name}
use Rattle.oxt_json.specs.declared.misread.Misread.{Misread}
use Rattle.oxt_json.specs.declared.misread.Misread.TheVariants as misread
use Rattle.oxt_json.specs.declared.read.ReadFault.{ReadFault}
use Rattle.oxt_json.specs.declared.read.ReadFault.TheVariants.{OutOfMemory, Json, Shape}

-- the fact holds if the fault is that there is no JSON value
abbrev pub OnJson : Type 0 → ReadFault → Type 0
OnJson P OutOfMemory = ⊤
OnJson P Json = P
OnJson P (Shape place) = ⊤

-- the fact holds of the place, if the fault is a wrong value
abbrev pub IfShape : (Name → Type 0) → ReadFault → Type 0
IfShape P OutOfMemory = ⊤
IfShape P Json = ⊤
IfShape P (Shape place) = P place

-- memory ran out, or the fault has the misread value's place
abbrev pub Shows : Misread → ReadFault → Type 0
Shows m OutOfMemory = ⊤
Shows m Json = ⊥
Shows misread.OutOfMemory (Shape place) = ⊥
Shows (misread.At text) (Shape place) = name_bytes place ≡ string_bytes text
