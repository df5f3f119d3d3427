-- What was found so far stands in front of what is left.
use Rattle.std.proofs.Common.{◌≡◌, ◌++◌, map, drop}
use Rattle.oxt_declares.proofs.Finds.{site_doc}
use Rattle.oxt_declares.specs.Sites.{sites_among}
use Rattle.oxt_tree.specs.View.{docs_in}
use Rattle.oxt_declares.proofs.find.+find.Given as goal

abbrev pub invariant-push_among-loop-i : goal.invariant-push_among-loop-i
invariant-push_among-loop-i l = map site_doc l.initial.out.items ++ sites_among l.legacy (docs_in l.parts) ≡ map site_doc l.out.items ++ sites_among l.legacy (docs_in (drop l.i l.parts))
