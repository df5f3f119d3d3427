-- What stands around a scope, the scope, and what stands in it; and the scopes around are as before once it is taken off.
use Rattle.std.proofs.Common.{[], ◌∷◌, ◌++◌, ◌∙◌, ap, arith, refl}
use Rattle.oxt_tree.specs.View.{docs_in}
use Rattle.oxt_declares.specs.Declares.{each_found}
use Rattle.oxt_scopes.proofs.Appends.{three_more}
use Rattle.oxt_scopes.proofs.Numbers.{numbers_closed, numbers_opened}
use Rattle.oxt_scopes.proofs.OwnerLoops.{both_apart, fields_as as owner_fields_as}
use Rattle.oxt_scopes.proofs.ScopeLoops.{fields_as}
use Rattle.oxt_scopes.proofs.Stacks.{levels_closed, levels_opened}
use Rattle.oxt_scopes.specs.Nestings.{innermost, opened_scope}
use Rattle.oxt_scopes.specs.Owners.{opened}
use Rattle.oxt_scopes.specs.Stack.{scope_numbers}
use Rattle.oxt_scopes.specs.Views.{opened_views}
use Rattle.oxt_scopes.proofs.walk.+walk.Goals as goal

pub push_scope-returns-clause-scopes : goal.push_scope-returns-clause-scopes
push_scope-returns-clause-scopes t c =
    let node = c.args.node.now in
    let docs = docs_in node.parts.items in
    let parent = c.last-parent.ensures ∙ ap (λ ss. innermost (scope_numbers ss)) c.as_slice.ensures.value ∙ ap innermost c.in_ok-push_fields.ensures.numbers in
    let inside = numbers_opened _ _ c.in_ok-scope.scope _ _ c.in_ok-push_fields.ensures.numbers c.in_ok-scope.ensures.number c.in_ok-push.ensures.items in
    three_more _ _ _ _ _ _ _
    (c.in_ok-push_fields.ensures.scopes ∙ fields_as _ _ _ _ _ _ _ _ _ _ c.deref.ensures.value c.rows-rows.ensures c.with-outside.ensures refl)
    (c.in_ok-scope.ensures.scopes ∙ ap (λ n. opened_views c.push_fields.new.out.scopes.items ++ opened_scope c.args.reading.role node.kind node.id.0 docs c.args.standing n (each_found docs) ∷ []) parent)
    (c.in_ok-push_fields-2.ensures.scopes ∙ fields_as _ _ _ _ _ _ _ _ _ _ c.deref-2.ensures.value c.rows-rows.ensures c.with-inside.ensures inside)

pub push_scope-returns-clause-names : goal.push_scope-returns-clause-names
push_scope-returns-clause-names t c =
    let node = c.args.node.now in
    let level = opened c.args.reading.role node.kind node.id.0 (docs_in node.parts.items) (each_found (docs_in node.parts.items)) in
    let inside = levels_opened _ _ c.in_ok-scope.scope level _ c.in_ok-push_fields.ensures.levels c.in_ok-scope.ensures.level c.in_ok-push.ensures.items in
    both_apart _ _ _ _ _ _
    (c.in_ok-push_fields.ensures.names ∙ owner_fields_as _ _ _ _ _ _ _ _ _ c.deref.ensures.value c.rows-rows.ensures c.with-outside.ensures refl)
    c.in_ok-scope.ensures.names
    (c.in_ok-push_fields-2.ensures.names ∙ owner_fields_as _ _ _ _ _ _ _ _ _ c.deref-2.ensures.value c.rows-rows.ensures c.with-inside.ensures inside)

pub push_scope-returns-clause-numbers : goal.push_scope-returns-clause-numbers
push_scope-returns-clause-numbers t c =
    let inside = numbers_opened _ _ c.in_ok-scope.scope _ _ c.in_ok-push_fields.ensures.numbers c.in_ok-scope.ensures.number c.in_ok-push.ensures.items in
    numbers_closed c.push_fields-2.new.around.items _ _ _ _ (c.in_ok-push_fields-2.ensures.numbers ∙ inside) (omega (arith, c.push_fields-2.new.around.ok.0)) c.pop-scope.ensures.rest

pub push_scope-returns-clause-levels : goal.push_scope-returns-clause-levels
push_scope-returns-clause-levels t c =
    let node = c.args.node.now in
    let level = opened c.args.reading.role node.kind node.id.0 (docs_in node.parts.items) (each_found (docs_in node.parts.items)) in
    let inside = levels_opened _ _ c.in_ok-scope.scope level _ c.in_ok-push_fields.ensures.levels c.in_ok-scope.ensures.level c.in_ok-push.ensures.items in
    levels_closed c.push_fields-2.new.around.items _ _ _ _ (c.in_ok-push_fields-2.ensures.levels ∙ inside) (omega (arith, c.push_fields-2.new.around.ok.0)) c.pop-scope.ensures.rest
