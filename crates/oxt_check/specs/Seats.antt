-- Where the declarations stand of which diagnostics tell.
use Rattle.std.specs.Prelude.{Bool, true, false, if◌then◌else◌, codes}
use Rattle.oxt_check.specs.declared.seat.Seat.{Seat}
use Rattle.oxt_check.specs.declared.seat.Seat.TheVariants as seat
use Rattle.oxt_grammar.specs.declared.kind.Kind.{Kind}
use Rattle.oxt_grammar.specs.declared.kind.Kind.TheVariants as kind
use Rattle.oxt_tree.specs.Doc.{Docs}
use Rattle.oxt_tree.specs.Fields.{is_text, named}

-- a statement of the program or of a namespace, or what an export there declares
abbrev pub is_item : Seat → Bool
is_item seat.Top = true
is_item seat.ExportedTop = true
is_item seat.Item = true
is_item seat.ExportedItem = true
is_item s = false

-- where what an export declares stands
abbrev pub exported : Seat → Seat
exported seat.Top = seat.ExportedTop
exported seat.Item = seat.ExportedItem
exported s = seat.Elsewhere

-- where the body of a namespace stands: a block, or a namespace of its own as in `namespace A.B {}`
abbrev pub body_of : Seat → Seat
body_of seat.Elsewhere = seat.Elsewhere
body_of seat.Declarator = seat.Elsewhere
body_of s = seat.Body

-- where the statements of a block stand
abbrev pub items_of : Seat → Seat
items_of seat.Body = seat.Item
items_of s = seat.Elsewhere

-- where the declarators of variables stand, which are exported from a namespace or not
abbrev pub declarators_of : Seat → Kind → Docs → Seat
declarators_of seat.ExportedItem k ds =
    if is_text (codes "const") (named (codes "kind") k ds) then seat.Elsewhere else seat.Declarator
declarators_of s k ds = seat.Elsewhere

-- where what a node of that kind and with these fields holds stands, if the node stands there itself
abbrev pub seat_inside : Seat → Kind → Docs → Seat
seat_inside s kind.Program ds = seat.Top
seat_inside s kind.ExportDeclaration ds = exported s
seat_inside s kind.TSNamespaceDeclaration ds = body_of s
seat_inside s kind.TSModuleBlock ds = items_of s
seat_inside s kind.VariableDeclaration ds = declarators_of s kind.VariableDeclaration ds
seat_inside s k ds = seat.Elsewhere
