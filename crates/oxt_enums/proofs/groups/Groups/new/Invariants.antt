-- The enums of the blocks so far.
use Rattle.oxt_enums.proofs.Grouping.{GroupsTo}
use Rattle.oxt_enums.proofs.groups.Groups.new.Given as goal

abbrev pub invariant-loop-block : goal.invariant-loop-block
invariant-loop-block l = GroupsTo l.block-index l.blocks l.groups.entries
