-- The table's entry, seen as contracts see it.
use Rattle.std.proofs.Common.{ap, ◌∙◌, option_map}
use Rattle.oxt_options.specs.Facts.{Facts, constant_at}
use Rattle.oxt_options.proofs.Tables.{constant_found, constant_lent}
use Rattle.oxt_names.specs.Constant.{constant_view}
use Rattle.oxt_options.proofs.plan.Plan.inlined.Goals as goal

pub returns : goal.returns
returns c =
    constant_lent c.get.result ∙ ap (option_map constant_view) c.get.ensures.value ∙ constant_found c.self.inside.inlined.entries c.args.node.0
    ∙ ap (λ (f : Facts). constant_at f.inlined c.args.node.0) c.self.view_is
