-- The first misplaced node of a program, of all kinds.
use Rattle.std.specs.Prelude.{◌≡◌, ℕ, Bool, false, ◌&&◌, ◌||◌, nat_lt, nat_eq, if◌then◌else◌, Option, None, Some, option_map}
use Rattle.oxt_check.specs.Occurring.{names_elements}
use Rattle.oxt_class_checks.specs.Misplaced.{ElementFault, misplaced_element}
use Rattle.oxt_class_checks.specs.declared.misplaced.ClassFault.{ClassFault}
use Rattle.oxt_class_checks.specs.declared.misplaced.ClassFault.TheVariants as class_fault
use Rattle.oxt_enum_checks.specs.Clash.{first_clash}
use Rattle.oxt_enum_checks.specs.LateBase.{late_base}
use Rattle.oxt_enum_checks.specs.Misnamed.{misnamed}
use Rattle.oxt_enum_checks.specs.Misused.{HasNoWrittenMember}
use Rattle.oxt_faults.specs.Misplaced.{Misplacement, misplaced}
use Rattle.oxt_faults.specs.declared.misplaced.MisplacedKind.{MisplacedKind}
use Rattle.oxt_faults.specs.declared.misplaced.MisplacedKind.TheVariants as misplaced_kind
use Rattle.oxt_fields.specs.Rules.{Rules}
use Rattle.oxt_scoping.specs.Scoped.{Scoped}
use Rattle.oxt_tree.specs.Doc.{Doc}

-- the place of a kind among those of one node
abbrev pub rank : MisplacedKind → ℕ
rank misplaced_kind.Body = 0
rank misplaced_kind.Namespace = 1
rank misplaced_kind.Merge = 2
rank misplaced_kind.Enum = 3
rank misplaced_kind.Super = 4
rank misplaced_kind.Key = 5
rank misplaced_kind.Field = 6
rank misplaced_kind.Decorator = 7
rank misplaced_kind.Accessor = 8

-- one comes before the other: its node has the lesser number, or it is of an earlier kind at the same node
abbrev pub is_before : Misplacement → Misplacement → Bool
is_before m n = nat_lt m.1 n.1 || (nat_eq m.1 n.1 && nat_lt (rank m.0) (rank n.0))

-- the one of two that comes first
abbrev pub former : Option Misplacement → Option Misplacement → Option Misplacement
former None n = n
former (Some m) None = Some m
former (Some m) (Some n) = Some (if is_before n m then n else m)

-- the node of that number, as misplaced in that way
abbrev pub of_kind : MisplacedKind → Option ℕ → Option Misplacement
of_kind k n = option_map (λ (i : ℕ). (k, i)) n

-- no bare name of a member of an enum is written or may name an element of JSX
abbrev pub MisusesNone : Scoped → Doc → Type 0
MisusesNone s d = HasNoWrittenMember s × (names_elements d ≡ false)

-- the first that names decide, of whose members of enums and bare names of them that is the first: a function or class behind a
-- namespace of its name, a declaration that does not merge, or that one
abbrev pub named_beside : Scoped → Doc → Option ℕ → Option Misplacement
named_beside s d n =
    former (of_kind misplaced_kind.Namespace (late_base s d))
    (former (of_kind misplaced_kind.Merge (first_clash s d)) (of_kind misplaced_kind.Enum n))

-- what is misplaced where that is wrong with an element of a class
abbrev pub element_kind : ClassFault → MisplacedKind
element_kind class_fault.Super = misplaced_kind.Super
element_kind class_fault.Key = misplaced_kind.Key
element_kind class_fault.Field = misplaced_kind.Field
element_kind class_fault.Accessor = misplaced_kind.Accessor

abbrev pub of_element : ElementFault → Misplacement
of_element e = (element_kind e.0, e.1)

-- the first that classes decide, by the rules of fields: the constructor of a derived class, or a field
abbrev pub class_misplacement : Rules → Doc → Option Misplacement
class_misplacement r d = option_map of_element (misplaced_element r d)

-- the first of all, where that is the first such member or bare name
abbrev pub misplacement_beside : Scoped → Rules → Doc → Option ℕ → Option Misplacement
misplacement_beside s r d n = former (misplaced r d) (former (named_beside s d n) (class_misplacement r d))

-- The first of a whole tree: of all kinds the one at the node of the least number, and of several kinds at one node the
-- earliest.
abbrev pub first_misplacement : Scoped → Rules → Doc → Option Misplacement
first_misplacement s r d = misplacement_beside s r d (misnamed r.legacy s d)
