use Rattle.std.proofs.Common.{rules}
use Rattle.std.proofs.lemmas.Map.Made.{filter_same_pairs}
use Rattle.oxt_scoping.proofs.entry.keep_bound_values.Goals as goal

pub returns : goal.returns
returns c = filter_same_pairs _ _ _ (λ k v b w g call. search rules) _ _ c.retain.ensures.filtered
