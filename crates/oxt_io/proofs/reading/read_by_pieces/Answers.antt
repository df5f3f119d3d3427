use Rattle.std.proofs.Common.{rules}
use Rattle.std.specs.Result.{IsErrOf}
use Rattle.oxt_io.specs.declared.outcome.InputFault.TheVariants.{TooLong}
use Rattle.oxt_io.proofs.InTurn.{GavePast-after}
use Rattle.oxt_io.proofs.reading.read_by_pieces.Goals as goal

pub returns-in_err-read_piece-clause-too_long : goal.returns-in_err-read_piece-clause-too_long
returns-in_err-read_piece-clause-too_long g c = λ e.
    let same : IsErrOf c.read_piece.result TooLong = search rules in
    GavePast-after _ _ _ _ _ c.loop-bytes.invariant.within c.loop-bytes.invariant.gave
    (c.read_piece.ensures.too_long same)
