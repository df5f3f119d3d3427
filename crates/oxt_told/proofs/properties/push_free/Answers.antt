use Rattle.std.proofs.Common.{◌∙◌, sym}
use Rattle.oxt_told.proofs.Taking.{name_put}
use Rattle.oxt_names.specs.Names.{name_bytes}
use Rattle.oxt_told.proofs.properties.push_free.Goals as goal

pub returns-in_ok-push-clause-fields : goal.returns-in_ok-push-clause-fields
returns-in_ok-push-clause-fields c =
    name_put (name_bytes c.args.name.now) c.args.taken.now c.in_ok-share.field-0 c.args.fields.now.items c.push.new.self.items
    (sym c.if-branch.true ∙ c.in_ok-take.ensures.free) c.in_ok-share.ensures c.in_ok-push.ensures.items
