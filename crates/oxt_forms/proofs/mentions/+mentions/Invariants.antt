-- What is left has the name exactly where the whole has.
use Rattle.std.proofs.Common.{◌≡◌, drop}
use Rattle.oxt_tree.specs.View.{docs_in}
use Rattle.oxt_forms.specs.Made.{any_mentions}
use Rattle.oxt_forms.proofs.mentions.+mentions.Given as goal

abbrev pub invariant-any_mentions-loop-part : goal.invariant-any_mentions-loop-part
invariant-any_mentions-loop-part l = any_mentions l.name (docs_in l.parts) ≡ any_mentions l.name (docs_in (drop l.part-index l.parts))
