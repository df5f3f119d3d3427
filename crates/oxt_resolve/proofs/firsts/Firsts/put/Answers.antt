use Rattle.oxt_resolve.proofs.Noted.{key_put}
use Rattle.oxt_resolve.proofs.firsts.Firsts.put.Goals as goal

pub returns : goal.returns
returns c = λ n t. key_put n t (c.args.scope.0, c.args.name) c.args.node.0 c.args.self.now.nodes.entries c.insert.new.self.entries c.in_ok-insert.ensures.updates.1 c.in_ok-insert.ensures.updates.3
