-- What is noted and what is left come to the whole.
use Rattle.std.proofs.Common.{◌≡◌, drop}
use Rattle.std.specs.Prelude.{fold}
use Rattle.oxt_declares.specs.Declarations.{declared_views}
use Rattle.oxt_resolve.specs.Groups.{first_at, noted}
use Rattle.oxt_resolve.proofs.firsts.Firsts.note_each.Given as goal

abbrev pub invariant-loop-declaration : goal.invariant-loop-declaration
invariant-loop-declaration l = fold (noted l.number.0) (first_at l.initial.self) (declared_views l.scope.declarations.items) ≡ fold (noted l.number.0) (first_at l.self) (declared_views (drop l.declaration-index l.scope.declarations.items))
