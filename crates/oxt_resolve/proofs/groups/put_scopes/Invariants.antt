-- What is put and what is left come to the whole.
use Rattle.std.proofs.Common.{◌≡◌, drop}
use Rattle.oxt_resolve.specs.Groups.{first_at, with_scopes}
use Rattle.oxt_scopes.specs.Views.{opened_views}
use Rattle.oxt_resolve.proofs.groups.put_scopes.Given as goal

abbrev pub invariant-loop-scope : goal.invariant-loop-scope
invariant-loop-scope l = with_scopes (first_at l.firsts) (opened_views l.scopes) l.initial.groups ≡ with_scopes (first_at l.firsts) (opened_views (drop l.scope-index l.scopes)) l.groups
