use Rattle.std.proofs.Common.{◌∙◌}
use Rattle.oxt_lower.proofs.Tables.{frame_on}
use Rattle.oxt_lower.proofs.puts.function_statements.Goals as goal

pub loop-member-preserved : goal.loop-member-preserved
loop-member-preserved c =
    let at = c.loop-member in (
      tt,
      tt,
      frame_on c.args.ctx.now at.ctx c.push_statement.new.ctx at.invariant.2 c.in_ok-push_statement.ensures.frame,
      c.in_ok-push_statement.ensures.symbols_stay ∙ at.invariant.3,
    )
