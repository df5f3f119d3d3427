-- The nodes are those of the blocks.
use Rattle.std.proofs.Common.{◌∙◌, ap, map}
use Rattle.oxt_enum_checks.specs.First.{first_by, numbers_of}
use Rattle.oxt_enum_checks.specs.Places.{places_in}
use Rattle.oxt_enum_checks.specs.declared.blocks.Block.{Block}
use Rattle.oxt_enum_checks.proofs.Names.{ok_numbers}
use Rattle.oxt_enum_checks.proofs.Symbols.{numbers_are}
use Rattle.oxt_enum_checks.proofs.first.first_blocks.Goals as goal

pub returns : goal.returns
returns c =
    let bs = c.as_slice.result.now in
    ok_numbers c.nodes_of.result (map (λ (b : Block). b.node) bs) (first_by (places_in c.args.places.now) c.args.scoping.now c.args.blocks.now) (numbers_are bs ∙ ap numbers_of (c.as_slice.ensures.value ∙ c.in_ok-first.ensures)) c.nodes_of.ensures
