-- What is put and what is left come to the whole.
use Rattle.std.proofs.Common.{◌≡◌, drop}
use Rattle.std.specs.Prelude.{fold}
use Rattle.oxt_declares.specs.Declarations.{declared_views}
use Rattle.oxt_resolve.specs.Groups.{first_at, with_declared}
use Rattle.oxt_resolve.proofs.groups.put_scope.Given as goal

abbrev pub invariant-loop-declaration : goal.invariant-loop-declaration
invariant-loop-declaration l = fold (with_declared (first_at l.firsts) l.number.0) l.initial.groups (declared_views l.scope.declarations.items) ≡ fold (with_declared (first_at l.firsts) l.number.0) l.groups (declared_views (drop l.declaration-index l.scope.declarations.items))
