-- Decorators that ask for private names.
use Rattle.std.specs.Prelude.{ℕ, Bool, true, not, ◌&&◌, ◌||◌, if◌then◌else◌, is_some, Option, None, Some, codes}
use Rattle.std.specs.List.{list_any}
use Rattle.oxt_declares.specs.Calls.{decorators_of, elements_of, parameters_of}
use Rattle.oxt_grammar.specs.Places.{same_kind}
use Rattle.oxt_grammar.specs.declared.kind.Kind.{Kind}
use Rattle.oxt_grammar.specs.declared.kind.Kind.TheVariants as kind
use Rattle.oxt_search.specs.First.{first_among}
use Rattle.oxt_search.specs.Sought.{Sought}
use Rattle.oxt_tree.specs.declared.inside.Inside.{Inside}
use Rattle.oxt_tree.specs.declared.inside.Inside.TheVariants as inside
use Rattle.oxt_tree.specs.Doc.{Doc, Docs}
use Rattle.oxt_tree.specs.Fields.{docs_list, field_of, is_kind, is_set}
use Rattle.oxt_names.specs.declared.ids.NodeId.{NodeId}
use Rattle.oxt_declares.specs.Dropped.{inside_dropped_by, is_dropped, is_dropped_by}

-- the node, if it is `#x in o`
abbrev pub private_in_at : Kind → ℕ → Option ℕ
private_in_at k i = if same_kind k kind.PrivateInExpression then Some i else None

-- nothing is looked at in erased code
abbrev pub live_inside : Kind → Docs → Inside (Unit {0})
live_inside k ds = if is_dropped_by k ds then inside_dropped_by true k ds tt else inside.Alike tt

-- each `#x in o` outside erased code
abbrev pub private_ins : Sought (Unit {0}) ℕ
private_ins =
    record {
      at = λ u k i ds. private_in_at k i;
      inside = λ u k i ds. live_inside k ds;
      in_field = λ u k r. Some u;
    }

-- one of the decorators holds such
abbrev pub hold_private_in : Docs → Bool
hold_private_in ds = is_some (first_among private_ins ds tt)

-- one of the decorators of a class, an element or a parameter does
abbrev pub asks : Doc → Bool
asks d = hold_private_in (decorators_of d)

-- a field that is only declared
abbrev pub is_declared : Doc → Bool
is_declared d = is_kind kind.PropertyDefinition d && is_set (field_of (codes "declare") d)

-- an element that is not erased, or only declared, whose decorators or those of whose parameters do
abbrev pub asks_inside : Doc → Bool
asks_inside d =
    (not (is_dropped d) || is_declared d)
    && (asks d || (is_kind kind.MethodDefinition d && list_any asks (docs_list (parameters_of d))))

-- A decorator of the class, of one of its elements outside erased code, or of a parameter of such an element holds `#x in o`
-- outside erased code.
abbrev pub holds_private_in : Doc → Bool
holds_private_in d = asks d || list_any asks_inside (docs_list (elements_of d))

abbrev pub number_of : NodeId → ℕ
number_of i = i.0
