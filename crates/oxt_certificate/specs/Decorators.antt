-- Decorators that are left in a lowered tree.
use Rattle.std.specs.Prelude.{ℕ, Bool, if◌then◌else◌, Option, None, Some, is_some}
use Rattle.oxt_grammar.specs.Places.{same_kind}
use Rattle.oxt_grammar.specs.declared.kind.Kind.{Kind}
use Rattle.oxt_grammar.specs.declared.kind.Kind.TheVariants as kind
use Rattle.oxt_search.specs.First.{first_in}
use Rattle.oxt_search.specs.Sought.{Sought}
use Rattle.oxt_tree.specs.declared.inside.Inside.TheVariants as inside
use Rattle.oxt_tree.specs.Doc.{Doc}
use Rattle.oxt_names.specs.declared.ids.NodeId.{NodeId}

abbrev pub number_of : NodeId → ℕ
number_of n = n.0

-- the node of that number, if it is a decorator
abbrev pub decorator_at : Kind → ℕ → Option ℕ
decorator_at k i = if same_kind k kind.Decorator then Some i else None

-- all decorators
abbrev pub sought : Sought (Unit {0}) ℕ
sought =
    record {
      at = λ u k i ds. decorator_at k i;
      inside = λ u k i ds. inside.Alike u;
      in_field = λ u k r. Some u;
    }

-- one stands in the document
abbrev pub has_decorator : Doc → Bool
has_decorator d = is_some (first_in sought d tt)
