use Rattle.oxt_fields.specs.Rules.{rules_view}
use Rattle.oxt_options.specs.Options.{transform_view}
use Rattle.oxt_told.proofs.Choices.{told_whole}
use Rattle.oxt_told.specs.Source.{asked_of}
use Rattle.oxt_tree.specs.View.{node_doc}
use Rattle.oxt_told.proofs.told.told_of_source.Goals as goal

pub returns-in-Ok : goal.returns-in-Ok
returns-in-Ok c =
    told_whole c.args.scoping.now (asked_of c.args.plan.now) (transform_view c.args.options.now) (node_doc c.args.program.now) (rules_view c.new.result) c.new-told.result c.tell_all.new.told
    c.new-told.ensures c.new.ensures c.in-Ok.ensures
