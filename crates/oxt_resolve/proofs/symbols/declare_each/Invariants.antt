-- What has been done and what is left come to the whole.
use Rattle.std.proofs.Common.{◌≡◌, drop}
use Rattle.std.specs.Prelude.{fold}
use Rattle.oxt_declares.specs.Declarations.{declared_views}
use Rattle.oxt_resolve.specs.Resolved.{with_declared}
use Rattle.oxt_resolve.proofs.symbols.declare_each.Given as goal

abbrev pub invariant-loop-declaration : goal.invariant-loop-declaration
invariant-loop-declaration l = fold (with_declared l.number.0 l.standing) l.initial.table (declared_views l.scope.declarations.items) ≡ fold (with_declared l.number.0 l.standing) l.table (declared_views (drop l.declaration-index l.scope.declarations.items))
