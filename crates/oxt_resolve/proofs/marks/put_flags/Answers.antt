use Rattle.oxt_resolve.proofs.Gatherings.{at_put}
use Rattle.oxt_resolve.proofs.marks.put_flags.Goals as goal

pub returns : goal.returns
returns c = λ n. at_put n c.args.node.0 c.args.flags c.args.table.now.entries c.insert.new.self.entries (c.in_ok-insert.ensures.updates.0 n)
