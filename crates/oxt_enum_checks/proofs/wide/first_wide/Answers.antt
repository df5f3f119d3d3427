-- Nothing is there to be found.
use Rattle.oxt_tree.specs.View.{node_doc}
use Rattle.oxt_enum_checks.proofs.Memberless.{no_wide}
use Rattle.oxt_enum_checks.proofs.wide.first_wide.Goals as goal

pub returns-then-not-has_largest_member : goal.returns-then-not-has_largest_member
returns-then-not-has_largest_member c = no_wide c.args.legacy c.args.scoping.now (node_doc c.args.program.now) c.has_largest_member.result c.has_largest_member.ensures c.if-not-has_largest_member.true
