-- What a fault says of the bytes.
pub use Rattle.oxt_check.specs.Faults.{refusal_in}
use Rattle.std.specs.Prelude.{ℕ, List, Option, None, Some, ⊤}
use Rattle.oxt_names.specs.declared.diagnostic.OxcDiagnostic.{OxcDiagnostic}
use Rattle.oxt_json.specs.declared.read.ReadFault.{ReadFault}
use Rattle.oxt_json.specs.declared.read.ReadFault.TheVariants as read_fault
use Rattle.oxt_options.specs.Options.{TransformData}
use Rattle.oxt_transform.specs.Refusals.{Refusal, json, shape, Refuses}
use Rattle.oxt_transform.specs.declared.transform.TransformerReturn.{TransformerReturn}
use Rattle.oxt_names.specs.Names.{name_bytes}

-- the refusal that a fault of reading is; none for want of memory
abbrev pub read_refusal : ReadFault → Option Refusal
read_refusal read_fault.OutOfMemory = None
read_refusal read_fault.Json = Some json
read_refusal (read_fault.Shape place) = Some (shape (name_bytes place))

-- the bytes are refused for this reason under these options; for want of memory, nothing is said
abbrev pub IsReasonFor : Option Refusal → TransformData → List ℕ → Type 0
IsReasonFor None o bytes = ⊤
IsReasonFor (Some r) o bytes = Refuses r o bytes

-- the bytes of an answer
abbrev pub text_in : TransformerReturn → List ℕ
text_in r = r.bytes.items

-- the diagnostics of an answer
abbrev pub told_in : TransformerReturn → List OxcDiagnostic
told_in r = r.diagnostics.items
