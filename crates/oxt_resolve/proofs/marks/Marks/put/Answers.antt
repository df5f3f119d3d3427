use Rattle.oxt_resolve.proofs.Gatherings.{flags_put}
use Rattle.oxt_resolve.proofs.marks.Marks.put.Goals as goal

pub returns : goal.returns
returns c =
    λ n. flags_put n c.args.mark.now.node.0 c.args.self.now.flags.entries c.put_flags.new.table.entries c.args.mark.now.flags c.both-flags.result c.flags_of.result c.in_ok-put_flags.ensures c.both-flags.ensures c.flags_of.ensures
