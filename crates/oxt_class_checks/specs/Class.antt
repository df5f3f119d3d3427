-- What the elements of a class have to know of it.
use Rattle.std.specs.Prelude.{Bool, false, not, ◌&&◌, ◌||◌, codes}
use Rattle.std.specs.List.{list_any}
use Rattle.oxt_class_checks.specs.Nodes.{some_node}
use Rattle.oxt_class_checks.specs.declared.class.ClassFacts.{ClassFacts}
use Rattle.oxt_fields.specs.Classes.{elements_of, is_derived}
use Rattle.oxt_fields.specs.Fates.{has_value, hoists_private, is_static, moves_to_constructor}
use Rattle.oxt_fields.specs.Rules.{Rules}
use Rattle.oxt_grammar.specs.Places.{same_kind}
use Rattle.oxt_grammar.specs.declared.kind.Kind.{Kind}
use Rattle.oxt_grammar.specs.declared.kind.Kind.TheVariants as kind
use Rattle.oxt_tree.specs.Doc.{Doc, nil, flag, number, text, list, node, Docs}
use Rattle.oxt_tree.specs.Fields.{docs_list, elements, is_empty_list, named}
use Rattle.oxt_declares.specs.Dropped.{is_dropped_by}

abbrev pub is_any_moving : Rules → Bool → Docs → Bool
is_any_moving r h es = list_any (moves_to_constructor r h) (docs_list es)

abbrev pub has_decorators : Kind → Docs → Bool
has_decorators k ds = not (is_empty_list (list (elements (named (codes "decorators") k ds))))

-- an element that is not erased, and has decorators
abbrev pub is_decorated : Doc → Bool
is_decorated nil = false
is_decorated (flag b) = false
is_decorated (number n) = false
is_decorated (text t) = false
is_decorated (list ds) = false
is_decorated (node k i b e ds) = not (is_dropped_by k ds) && has_decorators k ds

abbrev pub is_any_decorated : Docs → Bool
is_any_decorated es = list_any is_decorated (docs_list es)

-- an `accessor` of instances that has a value
abbrev pub is_assigned_accessor : Doc → Bool
is_assigned_accessor nil = false
is_assigned_accessor (flag b) = false
is_assigned_accessor (number n) = false
is_assigned_accessor (text t) = false
is_assigned_accessor (list ds) = false
is_assigned_accessor (node k i b e ds) =
    same_kind k kind.AccessorProperty && (not (is_static k ds) && has_value k ds)

abbrev pub is_any_assigned : Docs → Bool
is_any_assigned es = list_any is_assigned_accessor (docs_list es)

-- a class
abbrev pub is_class : Kind → Bool
is_class k = same_kind k kind.ClassDeclaration || same_kind k kind.ClassExpression

-- the facts of a class with these elements; the flags say whether it is a declaration, whether it is derived, and whether
-- private fields move too
abbrev pub facts_of : Rules → Bool → Bool → Bool → Docs → ClassFacts
facts_of r declared derived h es =
    record {
      is_declaration = declared;
      is_derived = derived;
      hoists = h;
      has_moving = is_any_moving r h es;
      has_decorated = is_any_decorated es;
      has_assigned = is_any_assigned es;
    }

abbrev pub facts_by : Rules → Bool → Bool → Docs → ClassFacts
facts_by r declared derived es = facts_of r declared derived (hoists_private es) es

-- the facts of the class
abbrev pub class_facts : Rules → Kind → Docs → ClassFacts
class_facts r k ds =
    facts_by r (same_kind k kind.ClassDeclaration) (is_derived (some_node k ds)) (elements_of (some_node k ds))
