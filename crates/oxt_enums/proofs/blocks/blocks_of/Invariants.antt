-- The blocks so far stand in front of those of the scopes that are left.
use Rattle.std.proofs.Common.{◌≡◌, ◌++◌, drop}
use Rattle.oxt_enums.specs.Blocks.{block_views, blocks_in}
use Rattle.oxt_scopes.specs.Views.{opened_views}
use Rattle.oxt_enums.proofs.blocks.blocks_of.Given as goal

abbrev pub invariant-loop-scope : goal.invariant-loop-scope
invariant-loop-scope l = blocks_in (opened_views l.scopes) ≡ block_views l.out.items ++ blocks_in (opened_views (drop l.scope-index l.scopes))
