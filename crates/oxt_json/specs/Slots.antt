-- What stands at each slot of the object of a node.
use Rattle.std.specs.Prelude.{ℕ, zero, suc, List, [], ◌∷◌, ◌==◌, if◌then◌else◌, Option, None, Some, codes}
use Rattle.oxt_grammar.specs.Field.{Field}
use Rattle.oxt_grammar.specs.Kinds.{name_of}
use Rattle.oxt_grammar.specs.Rows.{row_of}
use Rattle.oxt_grammar.specs.declared.kind.Kind.{Kind}
use Rattle.oxt_json.specs.Spelled.{data_of}
use Rattle.oxt_json.specs.declared.slot.Slot.{Slot}
use Rattle.oxt_json.specs.declared.slot.Slot.TheVariants as slot
use Rattle.oxt_tree.specs.Doc.{Doc, Docs, no_docs, doc}
use Rattle.oxt_tree.specs.Fields.{is_left_out}
use Rattle.serde_json.specs.Data as json
use Rattle.serde_json.specs.Data.{Data, Members, no_members, member}

-- the name of the field at a place
abbrev pub name_at : ℕ → List Field → List ℕ
name_at i [] = []
name_at zero (r ∷ rs) = r.name
name_at (suc i) (r ∷ rs) = name_at i rs

-- the key of what stands at a slot
abbrev pub key_at : List Field → Slot → List ℕ
key_at rs slot.Type = codes "type"
key_at rs slot.Start = codes "start"
key_at rs slot.End = codes "end"
key_at rs (slot.Field i) = name_at i rs

-- an offset, where it is not 0
abbrev pub offset_data : ℕ → Option Data
offset_data n = if n == 0 then None else Some (json.number (json.unsigned n))

-- what is written of a field, unless it is left out
abbrev pub written : Field → Doc → Option Data
written r d = if is_left_out r d then None else Some (data_of d)

-- what is written of the field at a place
abbrev pub field_data : ℕ → List Field → Docs → Option Data
field_data i [] ds = None
field_data i (r ∷ rs) no_docs = None
field_data zero (r ∷ rs) (doc d ds) = written r d
field_data (suc i) (r ∷ rs) (doc d ds) = field_data i rs ds

-- what is written at a slot
abbrev pub data_at : Kind → ℕ → ℕ → Docs → Slot → Option Data
data_at k start end ds slot.Type = Some (json.string (name_of k))
data_at k start end ds slot.Start = offset_data start
data_at k start end ds slot.End = offset_data end
data_at k start end ds (slot.Field i) = field_data i (row_of k) ds

-- a member in front of others, where it is there
abbrev pub in_front : List ℕ → Option Data → Members → Members
in_front key None ms = ms
in_front key (Some d) ms = member key d ms

-- what is written at each of the slots, in turn
abbrev pub laid : (Slot → List ℕ) → (Slot → Option Data) → List Slot → Members
laid key at [] = no_members
laid key at (s ∷ ss) = in_front (key s) (at s) (laid key at ss)

-- the members of the object of a node that stand at these slots
abbrev pub laid_node : Kind → ℕ → ℕ → Docs → List Slot → Members
laid_node k start end ds ss = laid (key_at (row_of k)) (data_at k start end ds) ss
