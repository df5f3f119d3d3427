-- The texts of diagnostics.
use Rattle.std.specs.Prelude.{ℕ, List, codes, Option, None, Some}
use Rattle.oxt_names.specs.declared.diagnostic.DiagnosticKind.{DiagnosticKind}
use Rattle.oxt_names.specs.declared.diagnostic.DiagnosticKind.TheVariants as kind

-- what is said of a kind: the code of TypeScript for it, if it has one, what is wrong, and what to do
-- about it, if anything is known
pub record Text : Type 0 where
  pub code : Option (List ℕ)
  pub message : List ℕ
  pub help : Option (List ℕ)

-- the texts of the kinds
abbrev pub text_of : DiagnosticKind → Text
text_of kind.NamespaceNotSupported = record {
  code = None;
  message = codes "Namespace not marked type-only declare are disabled. To enable and review caveats see: https://oxc.rs/docs/guide/usage/transformer/typescript.html#partial-namespace-support";
  help = None;
}
text_of kind.AmbientModuleNested = record {
  code = None;
  message = codes "Ambient modules cannot be nested in other modules or namespaces.";
  help = None;
}
text_of kind.NamespaceExportingNonConst = record {
  code = None;
  message = codes "Namespaces exporting non-const are not supported by Oxc. Change to const or see: https://oxc.rs/docs/guide/usage/transformer/typescript.html#partial-namespace-support";
  help = None;
}
text_of kind.ImportEqualsInEsm = record {
  code = Some (codes "TS1202");
  message = codes "Import assignment cannot be used when targeting ECMAScript modules.";
  help = Some (codes "Consider using 'import * as ns from \"mod\"', 'import {a} from \"mod\"', 'import d from \"mod\"', or another module format instead.");
}
text_of kind.ExportAssignmentInEsm = record {
  code = Some (codes "TS1203");
  message = codes "Export assignment cannot be used when targeting ECMAScript modules.";
  help = Some (codes "Consider using 'export default' or another module format instead.");
}
text_of kind.AssignmentTarget = record {
  code = None;
  message = codes "Cannot strip out typescript syntax if SimpleAssignmentTarget is not an IdentifierReference or MemberExpression";
  help = None;
}
