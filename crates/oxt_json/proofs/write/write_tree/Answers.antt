use Rattle.std.proofs.Common.{◌∙◌}
use Rattle.oxt_json.proofs.Whole.{printed, is_text, is_in_order, is_read_back}
use Rattle.oxt_tree.specs.View.{node_doc}
use Rattle.oxt_json.proofs.write.write_tree.Goals as goal

pub returns-clause-text : goal.returns-clause-text
returns-clause-text c =
    let wrote = c.in_ok-write_node.ensures in
    let same = printed c.into_inner.result.items _ _ _ _ (wrote.before ∙ (c.new-out.ensures.before ∙ c.new.ensures.items)) c.new-out.ensures.tokens wrote.tokens c.into_inner.ensures.items c.into_inner.ensures.reads_back in
    is_text (node_doc c.args.program.now.root) _ same.0

pub returns-clause-in_order : goal.returns-clause-in_order
returns-clause-in_order c =
    let wrote = c.in_ok-write_node.ensures in
    let same = printed c.into_inner.result.items _ _ _ _ (wrote.before ∙ (c.new-out.ensures.before ∙ c.new.ensures.items)) c.new-out.ensures.tokens wrote.tokens c.into_inner.ensures.items c.into_inner.ensures.reads_back in
    is_in_order (node_doc c.args.program.now.root) _ same.1 wrote.numbers

pub returns-clause-reads_back : goal.returns-clause-reads_back
returns-clause-reads_back c =
    let wrote = c.in_ok-write_node.ensures in
    let same = printed c.into_inner.result.items _ _ _ _ (wrote.before ∙ (c.new-out.ensures.before ∙ c.new.ensures.items)) c.new-out.ensures.tokens wrote.tokens c.into_inner.ensures.items c.into_inner.ensures.reads_back in
    is_read_back (node_doc c.args.program.now.root) _ same.1 wrote.numbers
