-- What waits so far, with the elements that are left, decides.
use Rattle.std.proofs.Common.{◌≡◌, drop, fold, option_map}
use Rattle.oxt_faults.specs.Earliest.{moved_view}
use Rattle.oxt_faults.specs.Waiting.{word_behind, word_left}
use Rattle.oxt_fields.specs.Rules.{rules_view}
use Rattle.oxt_tree.specs.Fields.{docs_list}
use Rattle.oxt_tree.specs.View.{docs_in}
use Rattle.oxt_faults.proofs.waiting.first_word_left.Given as goal

abbrev pub invariant-loop-element : goal.invariant-loop-element
invariant-loop-element l =
    word_left (rules_view l.rules) l.hoists (docs_in l.elements)
    ≡ fold (word_behind (rules_view l.rules) l.hoists) (option_map moved_view l.left) (docs_list (docs_in (drop l.element-index l.elements)))
