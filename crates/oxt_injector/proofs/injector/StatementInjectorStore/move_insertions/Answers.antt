use Rattle.std.proofs.Common.{◌≡◌, ◌∙◌, Some, ap, sym}
use Rattle.oxt_stores.specs.Insertion.{entries}
use Rattle.oxt_injector.specs.Pending.{pending}
use Rattle.std.specs.Option.{option_map}
use Rattle.oxt_stores.proofs.Waiting.{on_ok}
use Rattle.oxt_injector.proofs.Moving.{apart, moves}
use Rattle.oxt_injector.proofs.injector.StatementInjectorStore.move_insertions.Goals as goal

pub returns-in-Some-clause-moved : goal.returns-in-Some-clause-moved
returns-in-Some-clause-moved c =
    let m = c.args.old_target.0 in
    let n = c.args.new_target.0 in
    let there : pending c.args.self.now m ≡ Some (entries c.in-Some.list) = sym c.take_list.ensures.taken ∙ ap (option_map entries) c.in-Some.is in
    on_ok c.move_list.result (λ moved q. moved q ∙ moves (pending c.args.self.now) (pending c.take_list.new.self) m n (entries c.in-Some.list) (apart m n c.if-old_target-new_target.false) there c.in-Some.ensures.emptied q) c.move_list.ensures.moved
