-- Decorators that hold a private `in`, where decorators have their older meaning.
use Rattle.std.specs.Prelude.{ℕ, Bool, true, if◌then◌else◌, Option, None, Some, is_some}
use Rattle.oxt_search.specs.First.{first_among}
use Rattle.oxt_search.specs.Sought.{Sought}
use Rattle.oxt_tree.specs.declared.inside.Inside.TheVariants as inside
use Rattle.oxt_grammar.specs.Places.{same_kind}
use Rattle.oxt_grammar.specs.declared.kind.Kind.{Kind}
use Rattle.oxt_grammar.specs.declared.kind.Kind.TheVariants as kind
use Rattle.oxt_tree.specs.Doc.{Docs}
use Rattle.oxt_declares.specs.Dropped.{inside_dropped_by, is_dropped_by}

-- the number of a node that is one
abbrev pub private_in : Kind → ℕ → Option ℕ
private_in k i = if same_kind k kind.PrivateInExpression then Some i else None

-- each outside what is erased
abbrev pub sought : Sought (Unit {0}) ℕ
sought =
    record {
      at = λ u k i ds. if is_dropped_by k ds then None else private_in k i;
      inside = λ u k i ds. if is_dropped_by k ds then inside_dropped_by true k ds tt else inside.Alike u;
      in_field = λ u k r. Some u;
    }

-- one stands among these documents, as those of a decorator
abbrev pub holds_private_in : Docs → Bool
holds_private_in ds = is_some (first_among sought ds tt)
