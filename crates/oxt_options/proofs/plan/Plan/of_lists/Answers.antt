-- What each step put is what the lists say.
use Rattle.oxt_options.specs.Lists.{facts_in}
use Rattle.oxt_options.proofs.Made.{all_known}
use Rattle.oxt_options.proofs.plan.Plan.of_lists.Goals as goal

pub returns : goal.returns
returns c =
    all_known c.in_ok-plan.plan c.set_tables.new.self (facts_in c.args.lists.now)
    c.in_ok-plan.ensures.kept c.in_ok-plan.ensures.first c.in_ok-plan.ensures.dropped c.in_ok-plan.ensures.never_written
    c.in_ok-set_tables.ensures.nodes c.in_ok-set_tables.ensures.tables
