-- Statements that are lowered.
use Rattle.std.specs.Prelude.{Bool, false, not, ◌&&◌}
use Rattle.oxt_grammar.specs.Places.{same_kind}
use Rattle.oxt_grammar.specs.declared.kind.Kind.TheVariants as kind
use Rattle.oxt_options.specs.Facts.{Facts, is_in}
use Rattle.oxt_tree.specs.Doc.{Doc, node}
use Rattle.oxt_tree.specs.Fields.{is_kind}
use Rattle.oxt_declares.specs.Dropped.{is_dropped}

-- a block of an enum that is not erased
abbrev pub is_block : Doc → Bool
is_block d = is_kind kind.TSEnumDeclaration d && not (is_dropped d)

-- a block of an enum that the plan drops
abbrev pub is_dropped_block : Facts → Doc → Bool
is_dropped_block f (node k n b e ds) = same_kind k kind.TSEnumDeclaration && is_in f.dropped n
is_dropped_block f d = false

-- a block of an enum that is neither erased nor dropped
abbrev pub is_lowered : Facts → Doc → Bool
is_lowered f d = is_block d && not (is_dropped_block f d)
