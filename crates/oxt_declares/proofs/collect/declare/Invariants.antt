-- The names so far stand in front of those of what is left.
use Rattle.std.proofs.Common.{◌≡◌, ◌++◌, drop}
use Rattle.oxt_tree.specs.View.{doc_or_nil}
use Rattle.oxt_declares.specs.Bare.{bare_views}
use Rattle.oxt_declares.specs.Declarations.{all_declared, declared_views}
use Rattle.oxt_declares.proofs.collect.declare.Given as goal

abbrev pub invariant-loop-bare : goal.invariant-loop-bare
invariant-loop-bare l = declared_views l.initial.out.items ++ all_declared l.sort l.is_ambient (doc_or_nil l.body) (bare_views l.names) ≡ declared_views l.out.items ++ all_declared l.sort l.is_ambient (doc_or_nil l.body) (bare_views (drop l.bare-index l.names))
