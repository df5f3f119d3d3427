-- What a node stands as, by the kind of the node around it and the field that holds it or the list that it is in.
use Rattle.std.specs.Prelude.{ℕ, List, Bool, ◌&&◌, if◌then◌else◌, codes}
use Rattle.std.specs.Str.{bytes_eq}
use Rattle.oxt_faults.specs.declared.seat.Seat.{Seat}
use Rattle.oxt_faults.specs.declared.seat.Seat.TheVariants as seat
use Rattle.oxt_grammar.specs.Field.{Field}
use Rattle.oxt_grammar.specs.Places.{same_kind}
use Rattle.oxt_grammar.specs.declared.kind.Kind.{Kind}
use Rattle.oxt_grammar.specs.declared.kind.Kind.TheVariants as kind
use Rattle.oxt_tree.specs.Doc.{Docs}
use Rattle.oxt_tree.specs.Fields.{is_text, named}

-- that seat in the field of that name
abbrev pub seat_named : List ℕ → Seat → Field → Seat
seat_named name s r = if bytes_eq r.name name then s else seat.Other

-- in a field of `if`
abbrev pub branch_seat : Field → Seat
branch_seat r =
    if bytes_eq r.name (codes "consequent") then seat.Branch
    else seat_named (codes "alternate") seat.Branch r

-- in a field of a `for` whose head has the field of that name
abbrev pub head_seat : List ℕ → Field → Seat
head_seat head r =
    if bytes_eq r.name head then seat.Head else seat_named (codes "body") seat.Branch r

-- in a node that stands as nothing that the fields depend on
abbrev pub seat_of : Kind → Field → Seat
seat_of kind.ClassDeclaration r = seat_named (codes "body") seat.ClassBody r
seat_of kind.ClassExpression r = seat_named (codes "decorators") seat.StrayDecorator r
seat_of kind.MethodDefinition r = seat_named (codes "decorators") seat.StrayDecorator r
seat_of kind.PropertyDefinition r = seat_named (codes "decorators") seat.StrayDecorator r
seat_of kind.AccessorProperty r = seat_named (codes "decorators") seat.StrayDecorator r
seat_of kind.LabeledStatement r = seat_named (codes "body") seat.Body r
seat_of kind.WithStatement r = seat_named (codes "body") seat.Body r
seat_of kind.IfStatement r = branch_seat r
seat_of kind.WhileStatement r = seat_named (codes "body") seat.Branch r
seat_of kind.DoWhileStatement r = seat_named (codes "body") seat.Branch r
seat_of kind.ForStatement r = head_seat (codes "init") r
seat_of kind.ForInStatement r = head_seat (codes "left") r
seat_of kind.ForOfStatement r = head_seat (codes "left") r
seat_of kind.FormalParameter r = seat_named (codes "decorators") seat.ParameterDecorator r
seat_of kind.Program r = seat_named (codes "body") seat.Item r
seat_of kind.TSModuleBlock r = seat_named (codes "body") seat.NamespaceItem r
seat_of kind.TSNamespaceDeclaration r = seat_named (codes "body") seat.Item r
seat_of kind.ExportDeclaration r = seat_named (codes "declaration") seat.Item r
seat_of k r = seat.Other

-- ---- class declarations

abbrev pub is_constructor : Kind → Docs → Bool
is_constructor k ds = same_kind k kind.MethodDefinition && is_text (codes "constructor") (named (codes "kind") k ds)

-- what a node stands as to those in it: an element that is a constructor, as that
abbrev pub seat_inside : Seat → Kind → Docs → Seat
seat_inside seat.Element k ds = if is_constructor k ds then seat.Constructor else seat.Element
seat_inside s k ds = s

-- what the decorators of an erased element stand as
abbrev pub dropped_seat : Seat → Seat
dropped_seat seat.Element = seat.Other
dropped_seat s = seat.StrayDecorator

-- in a field of an element that is no constructor: its decorators stand well, and so may those of the parameters of a method
abbrev pub element_seat : Kind → Field → Seat
element_seat kind.MethodDefinition r = seat_named (codes "value") seat.OfMethod r
element_seat k r = seat.Other

-- in a field of a constructor
abbrev pub constructor_seat : Field → Seat
constructor_seat r =
    if bytes_eq r.name (codes "decorators") then seat.StrayDecorator
    else seat_named (codes "value") seat.OfConstructor r

-- in a field of a function, its parameters or one of them, which stand in the one seat, and the decorators of its parameters
-- in the other
abbrev pub parameter_seat : Seat → Seat → Kind → Field → Seat
parameter_seat s t kind.FunctionExpression r = seat_named (codes "params") s r
parameter_seat s t kind.FormalParameters r = seat_named (codes "items") s r
parameter_seat s t kind.FormalParameter r = seat_named (codes "decorators") t r
parameter_seat s t k r = seat_of k r

-- in a field of a node that stands in a seat
abbrev pub seat_in : Seat → Kind → Field → Seat
seat_in seat.ClassBody k r = seat_named (codes "body") seat.Element r
seat_in seat.Element k r = element_seat k r
seat_in seat.Constructor k r = constructor_seat r
seat_in seat.OfMethod k r = parameter_seat seat.OfMethod seat.MethodParameterDecorator k r
seat_in seat.OfConstructor k r = parameter_seat seat.OfConstructor seat.ConstructorParameterDecorator k r
seat_in s k r = seat_of k r
