-- Nothing is there to be found, or it stands in enums.
use Rattle.oxt_tree.specs.View.{node_doc}
use Rattle.oxt_enum_checks.proofs.MemberSites.{quiet_outside}
use Rattle.oxt_enum_checks.proofs.Memberless.{no_members}
use Rattle.oxt_enum_checks.proofs.members.members_of.Goals as goal

pub returns-then-not-has_members : goal.returns-then-not-has_members
returns-then-not-has_members c = no_members c.args.sites.now.legacy c.args.scoping.now (node_doc c.args.sites.now.program.now) c.has_members.result c.new.result.items c.has_members.ensures c.if-not-has_members.true c.new.ensures.items

pub all_at_sites-requires : goal.all_at_sites-requires
all_at_sites-requires c = quiet_outside c.args.sites.now.legacy c.args.scoping.now
