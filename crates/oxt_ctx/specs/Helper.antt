-- Calls of helpers.
use Rattle.std.specs.Prelude.{ℕ, ◌+◌, List, codes}
use Rattle.oxt_ctx.specs.declared.helper.Helper.{Helper}
use Rattle.oxt_ctx.specs.declared.helper.Helper.TheVariants as helper
use Rattle.oxt_ctx.specs.Made.{reference}
use Rattle.oxt_ctx.specs.Nodes.{call, member, property_name}
use Rattle.oxt_tree.specs.Doc.{Doc, Docs}

-- how the helper is called
abbrev pub helper_name : Helper → List ℕ
helper_name helper.Decorate = codes "decorate"
helper_name helper.DecorateParam = codes "decorateParam"
helper_name helper.DecorateMetadata = codes "decorateMetadata"

-- `babelHelpers.t(arguments)`
abbrev pub helper_call : ℕ → List ℕ → Docs → Doc
helper_call n t arguments =
    call (n + 3) (member (n + 2) (reference n (codes "babelHelpers")) (property_name (n + 1) t)) arguments
