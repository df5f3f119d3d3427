-- Where a search for the decorators of a class declaration that go behind it is.
use Rattle.std.specs.Prelude.{Bool, ◌&&◌, if◌then◌else◌, Option, None, Some, codes}
use Rattle.std.specs.Str.{bytes_eq}
use Rattle.oxt_declares.specs.Calls.{is_called, is_constructor}
use Rattle.oxt_class_checks.specs.declared.station.Station.{Station}
use Rattle.oxt_class_checks.specs.declared.station.Station.TheVariants as station
use Rattle.oxt_tree.specs.declared.inside.Inside.{Inside}
use Rattle.oxt_tree.specs.declared.inside.Inside.TheVariants as inside
use Rattle.oxt_grammar.specs.Field.{Field}
use Rattle.oxt_grammar.specs.Places.{same_kind}
use Rattle.oxt_grammar.specs.declared.kind.Kind.{Kind}
use Rattle.oxt_grammar.specs.declared.kind.Kind.TheVariants as kind
use Rattle.oxt_tree.specs.Doc.{node, Docs}

-- inside an element: of one that gives a call its decorators, of a constructor those of its parameters
abbrev pub element_inside : Kind → Docs → Inside Station
element_inside k ds =
    if is_called (node k 0 0 0 ds) then inside.ByField station.Member
    else if is_constructor (node k 0 0 0 ds) then inside.ByField station.Constructor
    else inside.Skipped

-- inside a node where the search is there
abbrev pub station_inside : Station → Kind → Docs → Inside Station
station_inside station.Body k ds = inside.Alike station.Element
station_inside station.Element k ds = element_inside k ds
station_inside station.Behind k ds = inside.Skipped
station_inside station.IntoBlock k ds = inside.Skipped
station_inside s k ds = inside.ByField s

-- where the decorators of elements go: into a static block of the class, or behind it
abbrev pub goal : Bool → Station
goal into_block = if into_block then station.IntoBlock else station.Behind

-- in a field of the class
abbrev pub class_station : Field → Option Station
class_station r =
    if bytes_eq r.name (codes "decorators") then Some station.Behind
    else if bytes_eq r.name (codes "body") then Some station.Body
    else None

-- in a field of an element that gives a call
abbrev pub member_station : Bool → Kind → Field → Option Station
member_station into_block k r =
    if bytes_eq r.name (codes "decorators") then Some (goal into_block)
    else if same_kind k kind.MethodDefinition && bytes_eq r.name (codes "value") then Some station.OfMember
    else None

-- that station in the field of that name
abbrev pub named_station : Bool → Station → Option Station
named_station b s = if b then Some s else None

-- in a field of a function, its parameters or one of them, where the search is at that station, and the decorators of the
-- parameters go to the other
abbrev pub parameter_station : Station → Station → Kind → Field → Option Station
parameter_station s t kind.FunctionExpression r = named_station (bytes_eq r.name (codes "params")) s
parameter_station s t kind.FormalParameters r = named_station (bytes_eq r.name (codes "items")) s
parameter_station s t kind.FormalParameter r = named_station (bytes_eq r.name (codes "decorators")) t
parameter_station s t k r = None

-- In a field of a node of that kind, where the search is there: nothing is looked at but the decorators, and what leads to
-- them. The flag says that those of elements go into a static block.
abbrev pub station_in : Bool → Station → Kind → Field → Option Station
station_in b station.Class k r = class_station r
station_in b station.Member k r = member_station b k r
station_in b station.Constructor k r = named_station (bytes_eq r.name (codes "value")) station.OfConstructor
station_in b station.OfMember k r = parameter_station station.OfMember (goal b) k r
station_in b station.OfConstructor k r = parameter_station station.OfConstructor station.Behind k r
station_in b s k r = Some s
