-- The constants of members of enums that are named by way of their enums.
use Rattle.std.specs.Prelude.{ℕ, List, Bool, false, ◌&&◌, ◌||◌, if◌then◌else◌, Option, None, Some, slice_get, codes}
use Rattle.std.specs.Option.{option_and_then}
use Rattle.oxt_grammar.specs.Places.{same_kind}
use Rattle.oxt_grammar.specs.declared.kind.Kind.{Kind}
use Rattle.oxt_grammar.specs.declared.kind.Kind.TheVariants as kind
use Rattle.oxt_inline.specs.Names.{meant_by}
use Rattle.oxt_names.specs.Constant.{Constant}
use Rattle.oxt_names.specs.declared.ids.SymbolId.{SymbolId}
use Rattle.oxt_options.specs.Options.{TypeScriptData}
use Rattle.oxt_scoping.specs.Entries.{SymbolData, begins_const}
use Rattle.oxt_scoping.specs.Scoped.{Scoped}
use Rattle.oxt_tree.specs.Doc.{Doc, node, Docs}
use Rattle.oxt_tree.specs.Fields.{field_of, is_kind, is_set, named, text_in}

-- ---- the members of an enum

-- members of enums of either sort are inlined
abbrev pub optimizes : TypeScriptData → Bool
optimizes o = o.optimize_const_enums || o.optimize_enums

-- the members of the enum are inlined: the option is on for enums that begin with a `const` block, or for others
abbrev pub is_optimized : TypeScriptData → SymbolData → Bool
is_optimized o y = if begins_const y.declarations then o.optimize_const_enums else o.optimize_enums

-- the same of an enum, if it is there
abbrev pub is_optimized_at : TypeScriptData → Option SymbolData → Bool
is_optimized_at o None = false
is_optimized_at o (Some y) = is_optimized o y

-- the constants of members, by the number of the symbol of the enum and the name of the member
abbrev pub Named : Type 0
Named = ℕ → List ℕ → Option Constant

-- the constant of the member of that name, if the members of the enum are inlined
abbrev pub constant_in_enum : Scoped → Named → TypeScriptData → List ℕ → Option SymbolId → Option Constant
constant_in_enum s c o x None = None
constant_in_enum s c o x (Some i) = if is_optimized_at o (slice_get s.symbols i.0) then c i.0 x else None

-- ---- expressions

-- the text in that field of a key
abbrev pub key_text : List ℕ → Doc → Option (List ℕ)
key_text name d = text_in (field_of name d)

-- the name of the member in `E.X` and `E["X"]`
abbrev pub key_of : Kind → Docs → Option (List ℕ)
key_of k ds =
    if same_kind k kind.StaticMemberExpression then key_text (codes "name") (named (codes "property") k ds)
    else if same_kind k kind.ComputedMemberExpression && is_kind kind.StringLiteral (named (codes "expression") k ds)
    then key_text (codes "value") (named (codes "expression") k ds)
    else None

-- the constant of the member that a member expression names, whose object is a bare name of its enum
abbrev pub member_constant : Scoped → Named → TypeScriptData → Kind → Docs → Option Constant
member_constant s c o k ds =
    option_and_then (λ x. constant_in_enum s c o x (meant_by s (named (codes "object") k ds))) (key_of k ds)

-- the same of an optional one
abbrev pub optional_constant : Scoped → Named → TypeScriptData → Doc → Option Constant
optional_constant s c o (node k i b e ds) = if is_set (named (codes "optional") k ds) then member_constant s c o k ds else None
optional_constant s c o d = None

-- the constant of the member that a dotted name `E.X` names, whose first part is a bare name of its enum
abbrev pub dotted_constant : Scoped → Named → TypeScriptData → Kind → Docs → Option Constant
dotted_constant s c o k ds =
    if same_kind k kind.TSQualifiedName then option_and_then (λ x. constant_in_enum s c o x (meant_by s (named (codes "left") k ds))) (key_text (codes "name") (named (codes "right") k ds))
    else None
