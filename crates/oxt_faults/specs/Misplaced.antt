-- The first node, outside erased code, that stands where it may not by what stands around it.
use Rattle.std.specs.Prelude.{ℕ, List, [], ◌∷◌, Bool, false, not, ◌&&◌, ◌||◌, if◌then◌else◌, Option, Some, find, is_some, option_map, codes}
use Rattle.std.specs.List.{list_any}
use Rattle.oxt_faults.specs.PrivateIns.{holds_private_in}
use Rattle.oxt_faults.specs.Seats.{dropped_seat, seat_in, seat_inside}
use Rattle.oxt_faults.specs.declared.misplaced.Misplaced.{Misplaced}
use Rattle.oxt_faults.specs.declared.misplaced.MisplacedKind.{MisplacedKind}
use Rattle.oxt_faults.specs.declared.misplaced.MisplacedKind.TheVariants as misplaced_kind
use Rattle.oxt_faults.specs.declared.seat.Seat.{Seat}
use Rattle.oxt_faults.specs.declared.seat.Seat.TheVariants as seat
use Rattle.oxt_fields.specs.Rules.{Rules}
use Rattle.oxt_declares.specs.Imports.{is_alias}
use Rattle.oxt_search.specs.First.{first_in}
use Rattle.oxt_search.specs.Sought.{Sought}
use Rattle.oxt_tree.specs.declared.inside.Inside.{Inside}
use Rattle.oxt_tree.specs.declared.inside.Inside.TheVariants as inside
use Rattle.oxt_grammar.specs.Kinds.{is_typescript_kind}
use Rattle.oxt_grammar.specs.Places.{kind_in, same_kind}
use Rattle.oxt_grammar.specs.declared.category.Category.TheVariants as category
use Rattle.oxt_grammar.specs.declared.kind.Kind.{Kind}
use Rattle.oxt_grammar.specs.declared.kind.Kind.TheVariants as kind
use Rattle.oxt_tree.specs.Doc.{Doc, nil, flag, number, text, list, node, Docs}
use Rattle.oxt_tree.specs.Fields.{is_set, named}
use Rattle.oxt_tree.specs.Syntax.{is_type_only}
use Rattle.oxt_declares.specs.Dropped.{inside_dropped_by, is_dropped_by}

-- a declaration of a kind that only TypeScript has, or one with `declare`
abbrev pub is_typescript_declaration : Kind → Docs → Bool
is_typescript_declaration k ds =
    kind_in category.Declaration k && (is_typescript_kind k || is_set (named (codes "declare") k ds))

-- the kinds of declarations in whose place a list of statements comes
abbrev pub list_kinds : List Kind
list_kinds =
    kind.TSEnumDeclaration ∷ kind.TSNamespaceDeclaration ∷ kind.ClassDeclaration ∷
    kind.TSImportEqualsDeclaration ∷ []

-- such a declaration that is not erased
abbrev pub is_statement_list : Kind → Docs → Bool
is_statement_list k ds = list_any (λ j. same_kind k j) list_kinds && not (is_dropped_by k ds)

-- variables with `declare`
abbrev pub is_declared_variable : Kind → Docs → Bool
is_declared_variable k ds =
    same_kind k kind.VariableDeclaration && is_set (named (codes "declare") k ds)

-- In a seat: a declaration of TypeScript as the body of a label or of `with`, one in whose place a list of statements
-- comes there and as a branch or the body of a loop, and variables with `declare` in the head of a `for`.
abbrev pub is_misplaced_body : Seat → Kind → Docs → Bool
is_misplaced_body seat.Body k ds = is_typescript_declaration k ds || is_statement_list k ds
is_misplaced_body seat.Branch k ds = is_statement_list k ds
is_misplaced_body seat.Head k ds = is_declared_variable k ds
is_misplaced_body s k ds = false

-- a namespace that is not erased
abbrev pub is_emitting_namespace : Kind → Docs → Bool
is_emitting_namespace k ds = same_kind k kind.TSNamespaceDeclaration && not (is_dropped_by k ds)

-- the kinds of imports and exports that only a module has, which is all but the export of a declaration
abbrev pub module_kinds : List Kind
module_kinds =
    kind.ImportDeclaration ∷ kind.ExportNamedDeclaration ∷ kind.ExportFromDeclaration ∷
    kind.ExportAllDeclaration ∷ kind.ExportDefaultDeclaration ∷ kind.TSExportAssignment ∷ []

-- such an import or export that is not of types alone
abbrev pub is_module_statement : Kind → Docs → Bool
is_module_statement k ds = list_any (λ j. same_kind k j) module_kinds && not (is_type_only k ds)

-- In a seat: an import or export of a module as a statement of a namespace, and a namespace or an `import =` that emits
-- code where it stands neither in the program nor in a namespace directly.
abbrev pub is_misplaced_item : Seat → Kind → Docs → Bool
is_misplaced_item seat.Item k ds = false
is_misplaced_item seat.NamespaceItem k ds = is_module_statement k ds
is_misplaced_item s k ds = is_alias k ds || is_emitting_namespace k ds

-- a name that is read as the alias of a decorated class
abbrev pub is_alias_name : Rules → Doc → Bool
is_alias_name r nil = false
is_alias_name r (flag b) = false
is_alias_name r (number n) = false
is_alias_name r (text t) = false
is_alias_name r (list ds) = false
is_alias_name r (node k i b e ds) = is_some (r.alias i)

-- a target in a pattern that is its property's name too, and is such a name
abbrev pub is_alias_target : Rules → Kind → Docs → Bool
is_alias_target r k ds =
    same_kind k kind.AssignmentTargetPropertyIdentifier && is_alias_name r (named (codes "binding") k ds)

-- In a seat: a decorator of a parameter where decorators are the standard ones; where they have their older meaning, one of a
-- class expression, of an element of one, of a constructor, or of a parameter of anything but a method of a class declaration,
-- and one of a parameter of its constructor that holds a private `in`. In any other seat: a target in a pattern whose name is
-- read as an alias.
abbrev pub is_misplaced_decorator : Rules → Seat → Kind → Docs → Bool
is_misplaced_decorator r seat.ParameterDecorator k ds = same_kind k kind.Decorator
is_misplaced_decorator r seat.StrayDecorator k ds = r.legacy && same_kind k kind.Decorator
is_misplaced_decorator r seat.MethodParameterDecorator k ds = not r.legacy && same_kind k kind.Decorator
is_misplaced_decorator r seat.ConstructorParameterDecorator k ds =
    same_kind k kind.Decorator && (not r.legacy || holds_private_in ds)
is_misplaced_decorator r s k ds = is_alias_target r k ds

-- A node of that kind and with those fields is misplaced in a seat, by kind. The others are no matter of the seat:
-- the names of the program decide them, or a class as a whole.
abbrev pub is_misplaced : Rules → Seat → Kind → Docs → MisplacedKind → Bool
is_misplaced r s k ds misplaced_kind.Body = is_misplaced_body s k ds
is_misplaced r s k ds misplaced_kind.Namespace = is_misplaced_item s k ds
is_misplaced r s k ds misplaced_kind.Decorator = is_misplaced_decorator r s k ds
is_misplaced r s k ds m = false

-- the order in which the kinds are answered at one node
abbrev pub misplaced_kinds : List MisplacedKind
misplaced_kinds = misplaced_kind.Body ∷ misplaced_kind.Namespace ∷ misplaced_kind.Decorator ∷ []

-- what is wrong, and the number of the node
abbrev pub Misplacement : Type 0
Misplacement = MisplacedKind × ℕ

abbrev pub misplaced_view : Misplaced → Misplacement
misplaced_view m = (m.kind, m.node.0)

abbrev pub at_number : ℕ → MisplacedKind → Misplacement
at_number i m = (m, i)

-- how the node is misplaced: the first of the kinds
abbrev pub misplaced_at : Rules → Seat → Kind → ℕ → Docs → Option Misplacement
misplaced_at r s k i ds = option_map (at_number i) (find (is_misplaced r s k ds) misplaced_kinds)

-- What is erased may be misplaced itself, and nothing in it is; the decorators of a field that is only declared are not erased
-- where they have their older meaning.
abbrev pub misplaced_inside : Rules → Seat → Kind → ℕ → Docs → Inside Seat
misplaced_inside r s k i ds =
    if is_dropped_by k ds then inside_dropped_by r.legacy k ds (dropped_seat s) else inside.ByField (seat_inside s k ds)

abbrev pub sought : Rules → Sought Seat Misplacement
sought r = record { at = misplaced_at r; inside = misplaced_inside r; in_field = λ s k f. Some (seat_in s k f) }

-- the first in a whole tree: a node comes before those in it
abbrev pub misplaced : Rules → Doc → Option Misplacement
misplaced r d = first_in (sought r) d seat.Other
