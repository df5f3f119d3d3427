-- What is given at the sites is given in the program.
use Rattle.std.proofs.Common.{map}
use Rattle.oxt_declares.proofs.Eaches.{all_of_sites}
use Rattle.oxt_declares.proofs.Finds.{site_doc}
use Rattle.oxt_tree.specs.View.{node_doc}
use Rattle.oxt_declares.proofs.all.all_at_sites.Goals as goal

pub returns : goal.returns
returns g c =
    all_of_sites g.S.Search.view c.args.sites.now.legacy (g.S.Search.sought c.args.search.now) c.args.state (node_doc c.args.sites.now.program.now)
    c.new-out.result.items c.push_each.new.out.items (map site_doc c.as_slice.result.now) c.requires c.new-out.ensures.items c.as_slice.ensures c.in_ok-push_each.ensures
