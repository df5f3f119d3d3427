-- What has been done and what is left come to the whole.
use Rattle.std.proofs.Common.{◌≡◌, drop}
use Rattle.oxt_resolve.specs.Resolved.{all_enums}
use Rattle.oxt_resolve.specs.Values.{values_in}
use Rattle.oxt_scopes.specs.Views.{opened_views}
use Rattle.oxt_resolve.proofs.enums.tell_all.Given as goal

abbrev pub invariant-loop-scope : goal.invariant-loop-scope
invariant-loop-scope l = all_enums (values_in l.enums) (opened_views l.scopes) l.initial.table ≡ all_enums (values_in l.enums) (opened_views (drop l.scope-index l.scopes)) l.table
