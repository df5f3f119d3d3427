use Rattle.std.proofs.Common.{◌∙◌, arith, refl}
use Rattle.oxt_tree.specs.View.{docs_in}
use Rattle.oxt_enum_checks.proofs.ShadowLoops.{both, fields_as}
use Rattle.oxt_scopes.proofs.Stacks.{levels_closed, levels_opened}
use Rattle.oxt_declares.specs.Declares.{each_found}
use Rattle.oxt_scopes.specs.Owners.{opened}
use Rattle.oxt_enum_checks.proofs.shadows.+shadows.Goals as goal

pub push_scope-returns-clause-pushed : goal.push_scope-returns-clause-pushed
push_scope-returns-clause-pushed t c =
    let node = c.args.node.now in
    let inside = levels_opened _ _ c.in_ok-scope_of.field-0 (opened c.args.reading.role node.kind node.id.0 (docs_in node.parts.items) (each_found (docs_in node.parts.items))) _ c.in_ok-push_fields.ensures.kept c.in_ok-scope_of.ensures c.in_ok-push.ensures.items in
    both _ _ _ _ _
    (c.in_ok-push_fields.ensures.pushed ∙ fields_as _ _ _ _ _ _ _ _ _ _ _ _ c.deref.ensures.value c.rows-rows.ensures c.with-around.ensures refl)
    (c.in_ok-push_fields-2.ensures.pushed ∙ fields_as _ _ _ _ _ _ _ _ _ _ _ _ c.deref-2.ensures.value c.rows-rows.ensures c.with-within.ensures inside)

pub push_scope-returns-clause-kept : goal.push_scope-returns-clause-kept
push_scope-returns-clause-kept t c =
    let node = c.args.node.now in
    let inside = levels_opened _ _ c.in_ok-scope_of.field-0 (opened c.args.reading.role node.kind node.id.0 (docs_in node.parts.items) (each_found (docs_in node.parts.items))) _ c.in_ok-push_fields.ensures.kept c.in_ok-scope_of.ensures c.in_ok-push.ensures.items in
    levels_closed c.push_fields-2.new.scopes.items _ _ _ _ (c.in_ok-push_fields-2.ensures.kept ∙ inside) (omega (arith, c.push_fields-2.new.scopes.ok.0)) c.pop-scope.ensures.rest
