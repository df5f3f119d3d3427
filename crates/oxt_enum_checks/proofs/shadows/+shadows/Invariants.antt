-- The names so far stand in front of those of what is left, and the scopes are as they were.
use Rattle.std.proofs.Common.{◌≡◌, ◌++◌, drop, map}
use Rattle.oxt_grammar.specs.Field.{row_view}
use Rattle.oxt_tree.specs.View.{docs_in}
use Rattle.oxt_enum_checks.specs.Around.{around_view}
use Rattle.oxt_enum_checks.specs.Shadows.{each_shadows, field_shadows, shadow_views}
use Rattle.oxt_scopes.specs.Stack.{levels}
use Rattle.oxt_enum_checks.proofs.shadows.+shadows.Given as goal

abbrev pub invariant-push_each-loop-part : goal.invariant-push_each-loop-part
invariant-push_each-loop-part l = record {
  so_far : shadow_views l.initial.out.items ++ each_shadows l.search.legacy l.search.scoping.now (around_view l.search.around) (docs_in l.parts) l.way (levels l.initial.scopes.items) ≡ shadow_views l.out.items ++ each_shadows l.search.legacy l.search.scoping.now (around_view l.search.around) (docs_in (drop l.part-index l.parts)) l.way (levels l.initial.scopes.items);
  kept : levels l.scopes.items ≡ levels l.initial.scopes.items;
}

abbrev pub invariant-push_fields-loop-i : goal.invariant-push_fields-loop-i
invariant-push_fields-loop-i l = record {
  so_far : shadow_views l.initial.out.items ++ field_shadows l.search.legacy l.search.scoping.now (around_view l.search.around) (docs_in l.parts) (map row_view l.rows) l.reading (levels l.initial.scopes.items) ≡ shadow_views l.out.items ++ field_shadows l.search.legacy l.search.scoping.now (around_view l.search.around) (docs_in (drop l.i l.parts)) (map row_view (drop l.i l.rows)) l.reading (levels l.initial.scopes.items);
  kept : levels l.scopes.items ≡ levels l.initial.scopes.items;
}
