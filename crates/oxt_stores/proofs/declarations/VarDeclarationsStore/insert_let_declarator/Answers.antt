use Rattle.std.proofs.Common.{◌≡◌, ◌-◌, length, rules}
use Rattle.oxt_tree.specs.View.{node_doc}
use Rattle.oxt_stores.proofs.Frames.{last_index, last_kept, let_last, on_err}
use Rattle.oxt_stores.proofs.Waiting.{on_ok}
use Rattle.oxt_stores.proofs.declarations.VarDeclarationsStore.insert_let_declarator.Goals as goal

pub returns-clause-added : goal.returns-clause-added
returns-clause-added c =
    let len : c.len-top.result ≡ length c.args.self.now.stack.items = search rules in
    let last = last_index c.args.self.now.stack.items c.len-top.result len c.requires in
    on_ok c.add_let.result (λ added. let_last c.args.self.now.stack.items (c.len-top.result - 1) c.index_mut.result.now c.add_let.new.self (node_doc c.args.declarator) last c.index_mut.ensures.value c.add_let.ensures.vars added) c.add_let.ensures.lets

pub returns-clause-kept : goal.returns-clause-kept
returns-clause-kept c =
    let len : c.len-top.result ≡ length c.args.self.now.stack.items = search rules in
    let last = last_index c.args.self.now.stack.items c.len-top.result len c.requires in
    on_err c.add_let.result (λ kept. last_kept c.args.self.now.stack.items (c.len-top.result - 1) c.index_mut.result.now c.add_let.new.self last c.index_mut.ensures.value c.add_let.ensures.vars kept) c.add_let.ensures.kept
