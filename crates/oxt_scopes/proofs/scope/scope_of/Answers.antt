-- The declarations are those of the node.
use Rattle.std.proofs.Common.{◌∙◌, ◌++◌, ap}
use Rattle.oxt_tree.specs.View.{docs_in}
use Rattle.oxt_declares.specs.Declarations.{declared_views}
use Rattle.oxt_declares.specs.Declares.{each_found, node_declares}
use Rattle.oxt_scopes.proofs.Tables.{level_as}
use Rattle.oxt_scopes.proofs.scope.scope_of.Goals as goal

pub returns : goal.returns
returns c =
    let node = c.args.node.now in
    let docs = docs_in node.parts.items in
    let declared = node_declares c.args.role node.kind docs (each_found docs) in
    let same = ap declared_views c.as_slice.ensures.value ∙ c.in_ok-push_declared.ensures ∙ ap (λ ds. declared_views ds ++ declared) c.new-declarations.ensures.items in
    level_as c.in_ok-scope.scope _ _ declared _ same c.in_ok-scope.ensures.level
