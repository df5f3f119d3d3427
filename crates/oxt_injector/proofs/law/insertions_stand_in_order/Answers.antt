use Rattle.oxt_injector.proofs.Laws.{each_among, many_first_before, many_last_after, one_last_after, one_last_before}
use Rattle.oxt_injector.proofs.law.insertions_stand_in_order.Goals as goal

pub returns-clause-each : goal.returns-clause-each
returns-clause-each c = each_among

pub returns-clause-before : goal.returns-clause-before
returns-clause-before c = one_last_before

pub returns-clause-after : goal.returns-clause-after
returns-clause-after c = one_last_after

pub returns-clause-many_before : goal.returns-clause-many_before
returns-clause-many_before c = many_first_before

pub returns-clause-many_after : goal.returns-clause-many_after
returns-clause-many_after c = many_last_after
