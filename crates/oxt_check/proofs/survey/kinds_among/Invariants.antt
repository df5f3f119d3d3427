-- Those so far stand in front of those of what is left.
use Rattle.std.proofs.Common.{◌≡◌, ◌++◌, drop, map}
use Rattle.oxt_check.proofs.survey.kinds_among.Given as goal

abbrev pub invariant-loop-form : goal.invariant-loop-form
invariant-loop-form l = map (λ f. f.kind) l.forms ≡ l.kinds.items ++ map (λ f. f.kind) (drop l.form-index l.forms)
