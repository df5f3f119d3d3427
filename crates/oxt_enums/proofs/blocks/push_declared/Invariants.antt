-- The blocks so far stand in front of those of the declarations that are left.
use Rattle.std.proofs.Common.{◌≡◌, ◌++◌, drop}
use Rattle.oxt_declares.specs.Declarations.{declared_views}
use Rattle.oxt_enums.specs.Blocks.{block_views, blocks_among}
use Rattle.oxt_enums.proofs.blocks.push_declared.Given as goal

abbrev pub invariant-loop-declaration : goal.invariant-loop-declaration
invariant-loop-declaration l =
    block_views l.initial.out.items ++ blocks_among l.number.0 l.standing (declared_views l.scope.declarations.items)
    ≡ block_views l.out.items ++ blocks_among l.number.0 l.standing (declared_views (drop l.declaration-index l.scope.declarations.items))
