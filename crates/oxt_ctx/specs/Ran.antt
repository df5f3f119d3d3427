-- What holds once a hook has run.
use Rattle.std.specs.Prelude.{◌≡◌, List, ◌++◌}
use Rattle.oxt_ctx.specs.Context.{Context}
use Rattle.oxt_ctx.specs.Level.{IsLevel, IsUntouched}
use Rattle.oxt_ctx.specs.Visits.{Visit, visit}
use Rattle.oxt_ctx.specs.declared.hook.Hook.{Hook}
use Rattle.oxt_tree.specs.Doc.{Doc}

-- The hook has run at the document: the context is level, where the premise holds nothing was touched, and
-- the log has grown by what it gets of the visit.
pub record HasRun (Premise : Type 0) (trace : Visit → List Visit) (h : Hook) (old new : Doc) (before after : Context) (logged_before logged_after : List Visit) : Type 0 where
  pub level : IsLevel before after
  pub untouched : IsUntouched Premise old new before after
  pub logged : logged_after ≡ logged_before ++ trace (visit h old)
