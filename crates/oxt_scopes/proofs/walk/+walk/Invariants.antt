-- The scopes and names so far stand in front of those of what is left, and the scopes around are as they were.
use Rattle.std.proofs.Common.{◌≡◌, ◌++◌, drop, map}
use Rattle.oxt_grammar.specs.Field.{row_view}
use Rattle.oxt_tree.specs.View.{docs_in}
use Rattle.oxt_scopes.specs.Nestings.{each_scopes, field_scopes}
use Rattle.oxt_scopes.specs.OwnedViews.{owned_views}
use Rattle.oxt_scopes.specs.Owners.{each_owners, field_owners}
use Rattle.oxt_scopes.specs.Stack.{levels, scope_numbers}
use Rattle.oxt_scopes.specs.Views.{opened_views}
use Rattle.oxt_scopes.proofs.walk.+walk.Given as goal

abbrev pub invariant-push_each-loop-part : goal.invariant-push_each-loop-part
invariant-push_each-loop-part l = record {
  scopes : opened_views l.initial.out.scopes.items ++ each_scopes (docs_in l.parts) l.way l.standing (scope_numbers l.initial.around.items) ≡ opened_views l.out.scopes.items ++ each_scopes (docs_in (drop l.part-index l.parts)) l.way l.standing (scope_numbers l.initial.around.items);
  names : owned_views l.initial.out.names.items ++ each_owners (docs_in l.parts) l.way (levels l.initial.around.items) ≡ owned_views l.out.names.items ++ each_owners (docs_in (drop l.part-index l.parts)) l.way (levels l.initial.around.items);
  numbers : scope_numbers l.around.items ≡ scope_numbers l.initial.around.items;
  levels : levels l.around.items ≡ levels l.initial.around.items;
}

abbrev pub invariant-push_fields-loop-i : goal.invariant-push_fields-loop-i
invariant-push_fields-loop-i l = record {
  scopes : opened_views l.initial.out.scopes.items ++ field_scopes (docs_in l.parts) (map row_view l.rows) l.reading l.standing (scope_numbers l.initial.around.items) ≡ opened_views l.out.scopes.items ++ field_scopes (docs_in (drop l.i l.parts)) (map row_view (drop l.i l.rows)) l.reading l.standing (scope_numbers l.initial.around.items);
  names : owned_views l.initial.out.names.items ++ field_owners (docs_in l.parts) (map row_view l.rows) l.reading (levels l.initial.around.items) ≡ owned_views l.out.names.items ++ field_owners (docs_in (drop l.i l.parts)) (map row_view (drop l.i l.rows)) l.reading (levels l.initial.around.items);
  numbers : scope_numbers l.around.items ≡ scope_numbers l.initial.around.items;
  levels : levels l.around.items ≡ levels l.initial.around.items;
}
