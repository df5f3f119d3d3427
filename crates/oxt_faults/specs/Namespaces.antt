-- Words in namespaces, whose statements go into a function.
use Rattle.std.specs.Prelude.{Bool, if◌then◌else◌, Option, None, Some, codes}
use Rattle.oxt_faults.specs.Level.{LevelWordAt, level_word}
use Rattle.oxt_search.specs.First.{first_in}
use Rattle.oxt_search.specs.Sought.{Sought}
use Rattle.oxt_tree.specs.declared.inside.Inside.{Inside}
use Rattle.oxt_tree.specs.declared.inside.Inside.TheVariants as inside
use Rattle.oxt_grammar.specs.Places.{same_kind}
use Rattle.oxt_grammar.specs.declared.kind.Kind.{Kind}
use Rattle.oxt_grammar.specs.declared.kind.Kind.TheVariants as kind
use Rattle.oxt_tree.specs.Doc.{Doc, Docs}
use Rattle.oxt_tree.specs.Fields.{named}
use Rattle.oxt_declares.specs.Dropped.{inside_dropped_by, is_dropped_by}

-- outside what is erased, the first word at the level of the statements of a block
abbrev pub block_word : Bool → Kind → Docs → Option LevelWordAt
block_word legacy k ds =
    if is_dropped_by k ds then None
    else if same_kind k kind.TSModuleBlock then level_word legacy (named (codes "body") k ds)
    else None

-- a block inside another is no matter of its own: its statements stand at the level of the outer one
abbrev pub block_inside : Bool → Kind → Docs → Inside (Unit {0})
block_inside legacy k ds =
    if is_dropped_by k ds then inside_dropped_by legacy k ds tt
    else if same_kind k kind.TSModuleBlock then inside.Skipped
    else inside.Alike tt

-- that word of each outermost block; the flag says that decorators have their older meaning
abbrev pub sought : Bool → Sought (Unit {0}) LevelWordAt
sought legacy =
    record {
      at = λ u k i ds. block_word legacy k ds;
      inside = λ u k i ds. block_inside legacy k ds;
      in_field = λ u k r. Some u;
    }

-- The first word of a whole tree at the level of the statements of a namespace: a node stands before those in it.
abbrev pub namespace_word : Bool → Doc → Option LevelWordAt
namespace_word legacy d = first_in (sought legacy) d tt
