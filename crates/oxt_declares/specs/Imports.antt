-- The declarations `import a = ..`.
use Rattle.std.specs.Prelude.{Bool, not, ◌&&◌, codes}
use Rattle.oxt_grammar.specs.Places.{same_kind}
use Rattle.oxt_grammar.specs.declared.kind.Kind.{Kind}
use Rattle.oxt_grammar.specs.declared.kind.Kind.TheVariants as kind
use Rattle.oxt_tree.specs.Doc.{Docs}
use Rattle.oxt_tree.specs.Fields.{is_kind, named}
use Rattle.oxt_tree.specs.Syntax.{is_type_only}

-- a declaration `import a = ..` that is not of types alone
abbrev pub is_alias : Kind → Docs → Bool
is_alias k ds = same_kind k kind.TSImportEqualsDeclaration && not (is_type_only k ds)

-- one of a module, as in `import a = require("m")`
abbrev pub is_required : Kind → Docs → Bool
is_required k ds = is_alias k ds && is_kind kind.TSExternalModuleReference (named (codes "moduleReference") k ds)
