-- Why bytes are refused.
pub use Rattle.oxt_check.specs.Refusals.{json, shape, misplaced_node, wide_member, captured_name, line_of}
pub use Rattle.oxt_certificate.specs.Judges.{Difference, misfit_at, typescript_at, setting_at, item_at, owner_at, binding_of, difference_in, Refusal, uncertified, is_plain_output, IsFailure, Judges}
use Rattle.std.specs.Prelude.{ℕ, ◌≡◌, List, Option, None, Some, ⊤}
use Rattle.oxt_json.specs.Spelling.{no_value, wrong, tree, reading}
use Rattle.oxt_tree.specs.Doc.{Doc}
use Rattle.oxt_options.specs.Options.{TransformData}
use Rattle.oxt_certificate.specs.Expected.{expected_of, fault_of}

-- The source has no fault, but some output fails its test so.
pub record Fails (difference : Difference) (options : TransformData) (source : Doc) : Type 0 where
  pub output : Doc
  pub faultless : fault_of options source ≡ None
  pub judged : Judges (expected_of options source) output (Some difference)

-- a source tree is not lowered for this reason
abbrev pub Hinders : Refusal → TransformData → Doc → Type 0
Hinders json o source = ⊥
Hinders (shape place) o source = ⊥
Hinders (misplaced_node kind place) o source = fault_of o source ≡ Some (misplaced_node kind place)
Hinders (wide_member span) o source = fault_of o source ≡ Some (wide_member span)
Hinders (captured_name name place) o source = fault_of o source ≡ Some (captured_name name place)
Hinders (uncertified difference) o source = Fails difference o source

-- a source tree is not lowered for this reason; for want of memory, nothing is said
abbrev pub IsHindrance : Option Refusal → TransformData → Doc → Type 0
IsHindrance None o source = ⊤
IsHindrance (Some r) o source = Hinders r o source

-- The bytes spell a tree that is not lowered for this reason.
pub record IsHindered (r : Refusal) (options : TransformData) (bytes : List ℕ) : Type 0 where
  pub source : Doc
  pub next : ℕ
  pub spelled : reading bytes ≡ tree source next
  pub cause : Hinders r options source

-- the bytes are refused for this reason
abbrev pub Refuses : Refusal → TransformData → List ℕ → Type 0
Refuses json o bytes = reading bytes ≡ no_value
Refuses (shape place) o bytes = reading bytes ≡ wrong place
Refuses (misplaced_node kind place) o bytes = IsHindered (misplaced_node kind place) o bytes
Refuses (wide_member span) o bytes = IsHindered (wide_member span) o bytes
Refuses (captured_name name place) o bytes = IsHindered (captured_name name place) o bytes
Refuses (uncertified difference) o bytes = IsHindered (uncertified difference) o bytes

-- The bytes spell a tree that has no fault under the options.
pub record Accepts (options : TransformData) (bytes : List ℕ) : Type 0 where
  pub source : Doc
  pub next : ℕ
  pub spelled : reading bytes ≡ tree source next
  pub faultless : fault_of options source ≡ None
