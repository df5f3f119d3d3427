-- The context is level, what is watched is untouched, and the parts from the place on are left.
use Rattle.std.proofs.Common.{◌≡◌, ◌+◌, ◌*◌, drop, length, map}
use Rattle.oxt_grammar.specs.Field.{row_view}
use Rattle.oxt_traverse.proofs.Logs.{Remains}
use Rattle.oxt_ctx.specs.Level.{IsLevel, IsUntouched}
use Rattle.oxt_tree.specs.Doc.{list}
use Rattle.oxt_tree.specs.View.{docs_in, node_doc}
use Rattle.oxt_walk.specs.Visited.{visits_each, visits_fields}
use Rattle.oxt_walk.specs.Watched.{IsWatched}
use Rattle.oxt_walk.proofs.walk.+walk.Given as goal

abbrev pub invariant-walk_fields-loop-i : goal.invariant-walk_fields-loop-i
invariant-walk_fields-loop-i g l = record {
  level : IsLevel l.initial.ctx l.ctx;
  untouched : IsUntouched (IsWatched g.T.Traverse.watches l.initial.ctx) (node_doc l.initial.node) (node_doc l.node) l.initial.ctx l.ctx;
  len : length l.node.parts.items ≡ length l.initial.node.parts.items;
  logged : Remains (IsWatched g.T.Traverse.watches l.initial.ctx) g.T.Traverse.trace (g.T.Traverse.log l.initial.pass) (g.T.Traverse.log l.pass) (visits_fields (docs_in l.initial.node.parts.items) (map row_view l.rows) l.levels) (visits_fields (docs_in (drop l.i l.node.parts.items)) (map row_view (drop l.i l.rows)) l.levels);
}

abbrev pub invariant-walk_elements-loop-i : goal.invariant-walk_elements-loop-i
invariant-walk_elements-loop-i g l = record {
  level : IsLevel l.initial.ctx l.ctx;
  untouched : IsUntouched (IsWatched g.T.Traverse.watches l.initial.ctx) (list (docs_in l.initial.parts.items)) (list (docs_in l.parts.items)) l.initial.ctx l.ctx;
  len : length l.parts.items ≡ length l.initial.parts.items;
  logged : Remains (IsWatched g.T.Traverse.watches l.initial.ctx) g.T.Traverse.trace (g.T.Traverse.log l.initial.pass) (g.T.Traverse.log l.pass) (visits_each (docs_in l.initial.parts.items) l.place l.levels) (visits_each (docs_in (drop l.i l.parts.items)) l.place l.levels);
}

abbrev pub decreases-walk_node : goal.decreases-walk_node
decreases-walk_node g l = 8 * l.levels

abbrev pub decreases-walk_element : goal.decreases-walk_element
decreases-walk_element g l = 8 * l.levels + 1

abbrev pub decreases-walk_elements : goal.decreases-walk_elements
decreases-walk_elements g l = 8 * l.levels + 2

abbrev pub decreases-walk_opened : goal.decreases-walk_opened
decreases-walk_opened g l = 8 * l.levels + 3

abbrev pub decreases-walk_statements : goal.decreases-walk_statements
decreases-walk_statements g l = 8 * l.levels + 4

abbrev pub decreases-walk_expression_body : goal.decreases-walk_expression_body
decreases-walk_expression_body g l = 8 * l.levels + 1

abbrev pub decreases-walk_part : goal.decreases-walk_part
decreases-walk_part g l = 8 * l.levels + 5

abbrev pub decreases-walk_field : goal.decreases-walk_field
decreases-walk_field g l = 8 * l.levels + 6

abbrev pub decreases-walk_fields : goal.decreases-walk_fields
decreases-walk_fields g l = 8 * l.levels + 7
