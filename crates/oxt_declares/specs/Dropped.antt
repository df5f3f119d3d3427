-- Declarations and class elements that stand for nothing at run time.
use Rattle.std.specs.Prelude.{Bool, false, ◌&&◌, ◌||◌, if◌then◌else◌, codes}
use Rattle.oxt_declares.specs.RoleOf.{role_of}
use Rattle.oxt_declares.specs.TypesAlone.{field_of_types, stands_for_types}
use Rattle.oxt_grammar.specs.Places.{kind_in, same_kind}
use Rattle.oxt_grammar.specs.Rows.{row_of}
use Rattle.oxt_grammar.specs.declared.category.Category.TheVariants as category
use Rattle.oxt_grammar.specs.declared.field.Field.TheVariants as field
use Rattle.oxt_grammar.specs.declared.kind.Kind.{Kind}
use Rattle.oxt_grammar.specs.declared.kind.Kind.TheVariants as kind
use Rattle.oxt_tree.specs.declared.inside.Inside.{Inside}
use Rattle.oxt_tree.specs.declared.inside.Inside.TheVariants as inside
use Rattle.oxt_tree.specs.Doc.{Doc, nil, flag, number, text, list, node, Docs}
use Rattle.oxt_tree.specs.Fields.{is_set, named}
use Rattle.oxt_tree.specs.Syntax.{is_erased}

-- a declaration, or an element of a class
abbrev pub is_droppable : Kind → Bool
is_droppable k = kind_in category.Declaration k || kind_in category.ClassElement k

-- a block of a namespace that holds nothing but types
abbrev pub is_namespace_of_types : Kind → Docs → Bool
is_namespace_of_types k ds =
    same_kind k kind.TSNamespaceDeclaration && stands_for_types (role_of k) k ds (field_of_types ds (row_of k))

-- such a node that is erased, or that is such a block
abbrev pub is_dropped_by : Kind → Docs → Bool
is_dropped_by k ds = is_droppable k && (is_erased k ds || is_namespace_of_types k ds)

abbrev pub is_dropped : Doc → Bool
is_dropped nil = false
is_dropped (flag b) = false
is_dropped (number n) = false
is_dropped (text t) = false
is_dropped (list ds) = false
is_dropped (node k i b e ds) = is_dropped_by k ds

-- a field that is only declared
abbrev pub is_declared_field : Kind → Docs → Bool
is_declared_field k ds = same_kind k kind.PropertyDefinition && is_set (named (codes "declare") k ds)

-- the decorators of such a node outlive it: it is a field that is only declared, where they have their older meaning
abbrev pub keeps_decorators : Bool → Kind → Docs → Bool
keeps_decorators legacy k ds = legacy && is_declared_field k ds

-- What a search reaches inside such a node, in the state `s`: nothing but the decorators of a field that is only declared, where
-- the flag says that decorators have their older meaning.
abbrev pub inside_dropped_by : {S : Type 0} → Bool → Kind → Docs → S → Inside S
inside_dropped_by legacy k ds s = if keeps_decorators legacy k ds then inside.Only field.Decorators s else inside.Skipped
