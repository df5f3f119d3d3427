-- The facts of the steps, put together.
use Rattle.oxt_options.specs.Options.{transform_view}
use Rattle.oxt_transform.proofs.Steps.{passes_accepts, passes_lowers, returns_plain}
use Rattle.oxt_transform.proofs.transform.transform_text.Goals as goal
use Rattle.oxt_tree.specs.View.{node_doc}

pub returns-clause-lowers : goal.returns-clause-lowers
returns-clause-lowers c =
    passes_lowers (transform_view c.args.options.now) c.args.text.now (node_doc c.in-Ok.program.root) c.in-Ok.program.ids.next c.in-Ok.ensures.tree c.in_ok-diagnostics.diagnostics.items c.in_ok-bytes.bytes.items (node_doc c.lower.new.program.root)
    c.in_ok-diagnostics.ensures.passes c.in_ok-diagnostics.ensures.told c.in_ok-bytes.ensures.text c.in_ok-bytes.ensures.only

pub returns-clause-returns_plain : goal.returns-clause-returns_plain
returns-clause-returns_plain c =
    returns_plain (transform_view c.args.options.now) c.args.text.now (node_doc c.in-Ok.program.root) c.in-Ok.program.ids.next c.in-Ok.ensures.tree c.in_ok-bytes.bytes.items (node_doc c.lower.new.program.root)
    c.in_ok-diagnostics.ensures.comes_back c.in_ok-bytes.ensures.text

pub returns-clause-accepted : goal.returns-clause-accepted
returns-clause-accepted c =
    passes_accepts (transform_view c.args.options.now) c.args.text.now (node_doc c.in-Ok.program.root) c.in-Ok.program.ids.next c.in-Ok.ensures.tree (node_doc c.lower.new.program.root)
    c.in_ok-diagnostics.ensures.passes
