-- What lowering the bytes of a tree gives.
use Rattle.std.specs.Prelude.{◌≡◌, ℕ, List, Bool, true, false, None}
use Rattle.std.specs.List.{list_any}
use Rattle.oxt_check.specs.Diagnostics.{diagnostics}
use Rattle.oxt_names.specs.declared.diagnostic.DiagnosticKind.{DiagnosticKind}
use Rattle.oxt_names.specs.declared.diagnostic.DiagnosticKind.TheVariants as kind
use Rattle.oxt_names.specs.declared.diagnostic.OxcDiagnostic.{OxcDiagnostic}
use Rattle.oxt_json.specs.Spelling.{reading, tree}
use Rattle.oxt_json.specs.Spelled.{data_of, text_of}
use Rattle.oxt_json.specs.Numbered.{unnumbered}
use Rattle.oxt_options.specs.Options.{TransformData}
use Rattle.oxt_grammar.specs.declared.category.Category.TheVariants as category
use Rattle.oxt_grammar.specs.declared.holds.Holds.TheVariants as holds
use Rattle.oxt_check.specs.Beside.{is_plain_beside}
use Rattle.oxt_check.specs.Targets.{is_listed, targets}
use Rattle.oxt_tree.specs.Doc.{Doc}
use Rattle.oxt_certificate.specs.Bound.{misbound}
use Rattle.oxt_certificate.specs.Expected.{expected_of, fault_of, is_due, keeps, known_of_output, names_of, output_word, source_word}
use Rattle.oxt_certificate.specs.Decorators.{has_decorator}
use Rattle.oxt_certificate.specs.Exports.{HasExports}
use Rattle.oxt_rewrite.specs.Plain.{as_javascript, is_plain_source, leaves_javascript}
use Rattle.oxt_transform.specs.Refusals.{Judges}
use Rattle.oxt_certificate.specs.Settings.{settings_by, wrong_setting}
use Rattle.oxt_valid.specs.Plain.{is_plain}
use Rattle.oxt_valid.specs.Valid.{is_tree}
use Rattle.serde_json.specs.Written.{IsInOrder}

-- no other tree of the grammar is written so: one that is differs in the numbers of its nodes alone
abbrev pub IsTextOfOne : List ℕ → Doc → Type 0
IsTextOfOne text output =
    (other : Doc) → is_tree other ≡ true → IsInOrder text (data_of other) → unnumbered other ≡ unnumbered output

-- the kind of diagnostics that tell of wrappers around targets
abbrev pub is_of_wrapper : DiagnosticKind → Bool
is_of_wrapper kind.AssignmentTarget = true
is_of_wrapper k = false

-- one of the diagnostics tells of such a wrapper
abbrev pub tells_of_wrapper : List OxcDiagnostic → Bool
tells_of_wrapper told = list_any (λ t. is_of_wrapper t.kind) told

-- The bytes spell a source tree, and the text is that of an output and of no other tree. The output is a tree of the
-- grammar with the source's settings, plain but for the wrappers around targets of which the diagnostics tell; where
-- there are none, it is plain. Each of its made names is bound once, and each use of one means that binding. It has the
-- effect word that the source has under the options, in which each name that is used or bound has the owner that it had,
-- and its `export {}` statements are the source's and the one that is due. Where decorators are lowered none is left.
pub record Lowers (options : TransformData) (bytes : List ℕ) (told : List OxcDiagnostic) (text : List ℕ) : Type 0 where
  pub source : Doc
  pub next : ℕ
  pub output : Doc
  pub spelled : reading bytes ≡ tree source next
  pub all_told : told ≡ diagnostics (keeps options source) options source
  pub valid : is_tree output ≡ true
  pub plain_beside : is_plain_beside output (holds.Node category.Program) (is_listed (targets options.decorator.legacy source)) ≡ true
  pub plain : tells_of_wrapper told ≡ false → is_plain output ≡ true
  pub settings : wrong_setting (settings_by (is_due options source) options.decorator.legacy source) output ≡ None
  pub undecorated : options.decorator.legacy ≡ true → has_decorator output ≡ false
  pub exports : HasExports (is_due options source) source output
  pub bound_once : misbound (known_of_output (names_of source) output) output ≡ None
  pub same_word : output_word (names_of source) output ≡ source_word options source
  pub written : text ≡ text_of output
  pub only : IsTextOfOne text output

-- Where the options leave JavaScript as it is, a plain tree comes back as it is, but that it says to be JavaScript.
abbrev pub ReturnsPlain : TransformData → List ℕ → List ℕ → Type 0
ReturnsPlain o bytes text =
    (source : Doc) (next : ℕ) → reading bytes ≡ tree source next → leaves_javascript o ≡ true
    → is_plain_source source ≡ true → text ≡ text_of (as_javascript source)

-- The source has no fault, and the output passes its test.
pub record Passes (options : TransformData) (source output : Doc) : Type 0 where
  pub faultless : fault_of options source ≡ None
  pub judged : Judges (expected_of options source) output None
