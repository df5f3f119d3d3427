use Rattle.oxt_injector.proofs.Stored.{empty_none, none_empty}
use Rattle.oxt_injector.proofs.injector.StatementInjectorStore.is_empty.Goals as goal

pub returns : goal.returns
returns c =
    (λ empty n. empty_none c.args.self.now.insertions.entries (c.is_empty.ensures.0 empty) n, λ none. c.is_empty.ensures.1 (none_empty c.args.self.now.insertions.entries none))
