-- The constants so far stand before those of what is left.
use Rattle.std.proofs.Common.{◌≡◌, ◌++◌, drop, option_map}
use Rattle.oxt_constant.specs.Evaluated.{all_of, constant_views, each_seen}
use Rattle.oxt_tree.specs.View.{docs_in}
use Rattle.oxt_constant.proofs.evaluate.+constant.Given as goal

abbrev pub invariant-all_of-loop-part : goal.invariant-all_of-loop-part
invariant-all_of-loop-part g l = all_of (each_seen (g.M.Meanings.env l.env) (docs_in l.parts)) ≡ option_map (λ rest. constant_views l.values.items ++ rest) (all_of (each_seen (g.M.Meanings.env l.env) (docs_in (drop l.part-index l.parts))))
