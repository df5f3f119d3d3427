-- The first element of a class, outside erased code, that stands where it may not.
use Rattle.std.specs.Prelude.{ℕ, List, Bool, if◌then◌else◌, Option, None, Some, option_map, codes}
use Rattle.std.specs.Str.{bytes_eq}
use Rattle.oxt_class_checks.specs.Class.{class_facts, is_class}
use Rattle.oxt_class_checks.specs.Refused.{refused_accessors}
use Rattle.oxt_class_checks.specs.Rules.{fault_at}
use Rattle.oxt_class_checks.specs.declared.class.ClassFacts.{ClassFacts}
use Rattle.oxt_class_checks.specs.declared.misplaced.ClassFault.{ClassFault}
use Rattle.oxt_class_checks.specs.declared.misplaced.MisplacedElement.{MisplacedElement}
use Rattle.oxt_fields.specs.Rules.{Rules}
use Rattle.oxt_options.specs.Facts.{is_in}
use Rattle.oxt_search.specs.First.{first_in}
use Rattle.oxt_search.specs.Sought.{Sought}
use Rattle.oxt_tree.specs.declared.inside.Inside.{Inside}
use Rattle.oxt_tree.specs.declared.inside.Inside.TheVariants as inside
use Rattle.oxt_grammar.specs.Field.{Field}
use Rattle.oxt_grammar.specs.Places.{same_kind}
use Rattle.oxt_grammar.specs.declared.kind.Kind.{Kind}
use Rattle.oxt_grammar.specs.declared.kind.Kind.TheVariants as kind
use Rattle.oxt_tree.specs.Doc.{Doc, Docs}
use Rattle.oxt_declares.specs.Dropped.{inside_dropped_by, is_dropped_by}

-- what is wrong, and the number of the element
abbrev pub ElementFault : Type 0
ElementFault = ClassFault × ℕ

abbrev pub element_view : MisplacedElement → ElementFault
element_view e = (e.fault, e.node.0)

abbrev pub at_number : ℕ → ClassFault → ElementFault
at_number i f = (f, i)

-- what is wrong with a node that is an element of that class, if it is one, where the accessors of these numbers are refused
abbrev pub fault_in : Rules → (ℕ → Bool) → Option ClassFacts → Kind → ℕ → Docs → Option ElementFault
fault_in r refused None k i ds = None
fault_in r refused (Some c) k i ds = option_map (at_number i) (fault_at r (refused i) c k ds)

-- The class around what a node holds as its body: the node itself, or the class whose body it is.
abbrev pub around_inside : Rules → Option ClassFacts → Kind → Docs → Option ClassFacts
around_inside r c k ds =
    if is_class k then Some (class_facts r k ds) else if same_kind k kind.ClassBody then c else None

abbrev pub element_here : Rules → (ℕ → Bool) → Option ClassFacts → Kind → ℕ → Docs → Option ElementFault
element_here r refused c k i ds = if is_dropped_by k ds then None else fault_in r refused c k i ds

-- nothing is looked at in what is erased, of which decorators are no part that are lowered
abbrev pub element_inside : Rules → Option ClassFacts → Kind → ℕ → Docs → Inside (Option ClassFacts)
element_inside r c k i ds =
    if is_dropped_by k ds then inside_dropped_by r.legacy k ds None else inside.ByField (around_inside r c k ds)

-- only the field `body` of a class and that of its body lead to its elements
abbrev pub around_field : Option ClassFacts → Kind → Field → Option (Option ClassFacts)
around_field c k r = if bytes_eq r.name (codes "body") then Some c else Some None

abbrev pub sought : Rules → (ℕ → Bool) → Sought (Option ClassFacts) ElementFault
sought r refused = record { at = element_here r refused; inside = element_inside r; in_field = around_field }

-- the first in a whole tree where these accessors are refused: a node comes before those in it
abbrev pub misplaced_beside : List ℕ → Rules → Doc → Option ElementFault
misplaced_beside refused r d = first_in (sought r (is_in refused)) d None

-- the first in a whole tree
abbrev pub misplaced_element : Rules → Doc → Option ElementFault
misplaced_element r d = misplaced_beside (refused_accessors r d) r d
