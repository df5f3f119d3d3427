-- So far all is as the hooks leave it, and the hooks from the place on are left.
use Rattle.std.proofs.Common.{◌≡◌, drop, true}
use Rattle.oxt_traverse.proofs.Logs.{Remains}
use Rattle.oxt_ctx.specs.Level.{IsLevel, IsUntouched}
use Rattle.oxt_ctx.specs.Visits.{visits_by}
use Rattle.oxt_tree.specs.View.{node_doc}
use Rattle.oxt_traverse.proofs.dispatch.run_wanted.Given as goal

abbrev pub invariant-loop-hook : goal.invariant-loop-hook
invariant-loop-hook g l = record {
  level : IsLevel l.initial.ctx l.ctx;
  untouched : IsUntouched (g.T.Traverse.watches ≡ true) (node_doc l.initial.node) (node_doc l.node) l.initial.ctx l.ctx;
  logged : Remains (g.T.Traverse.watches ≡ true) g.T.Traverse.trace (g.T.Traverse.log l.initial.pass) (g.T.Traverse.log l.pass) (visits_by l.hooks (node_doc l.initial.node)) (visits_by (drop l.hook-index l.hooks) (node_doc l.initial.node));
}
