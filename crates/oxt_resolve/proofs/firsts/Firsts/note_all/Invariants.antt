-- What is noted and what is left come to the whole.
use Rattle.std.proofs.Common.{◌≡◌, drop}
use Rattle.oxt_resolve.specs.Groups.{all_noted, first_at}
use Rattle.oxt_scopes.specs.Views.{opened_views}
use Rattle.oxt_resolve.proofs.firsts.Firsts.note_all.Given as goal

abbrev pub invariant-loop-scope : goal.invariant-loop-scope
invariant-loop-scope l = all_noted (opened_views l.scopes) (first_at l.initial.self) ≡ all_noted (opened_views (drop l.scope-index l.scopes)) (first_at l.self)
