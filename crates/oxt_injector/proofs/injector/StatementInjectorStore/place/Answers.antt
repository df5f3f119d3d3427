use Rattle.std.proofs.Common.{◌∙◌, ◌++◌, ap, sym}
use Rattle.oxt_stores.specs.Insertion.{docs}
use Rattle.oxt_injector.specs.Placed.{around}
use Rattle.oxt_tree.specs.View.{part_doc}
use Rattle.oxt_injector.proofs.Placing.{placed_list}
use Rattle.oxt_injector.proofs.injector.StatementInjectorStore.place.Goals as goal

pub returns-in-Some-clause-placed : goal.returns-in-Some-clause-placed
returns-in-Some-clause-placed c =
    placed_list c.in-Some.list c.args.statement c.args.out.now.items c.place.new.out.items c.place.ensures.placed ∙ ap (λ es. docs c.args.out.now.items ++ around (part_doc c.args.statement) es) (sym c.in-Some.ensures.taken)
