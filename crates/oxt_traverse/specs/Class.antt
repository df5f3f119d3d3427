-- The name of a class.
use Rattle.std.specs.Prelude.{ℕ, List, ◌||◌, if◌then◌else◌, codes, Option, None}
use Rattle.oxt_grammar.specs.Places.{same_kind}
use Rattle.oxt_grammar.specs.declared.kind.Kind.{Kind}
use Rattle.oxt_grammar.specs.declared.kind.Kind.TheVariants as kind
use Rattle.oxt_tree.specs.Doc.{Doc, Docs}
use Rattle.oxt_tree.specs.Fields.{field_of, named, text_in}

-- the name that a binding binds
abbrev pub bound_name : Doc → Option (List ℕ)
bound_name d = text_in (field_of (codes "name") d)

-- the name of a class; none of a nameless one and of another node
abbrev pub class_name : Kind → Docs → Option (List ℕ)
class_name k ds = if same_kind k kind.ClassDeclaration || same_kind k kind.ClassExpression then bound_name (named (codes "id") k ds) else None
