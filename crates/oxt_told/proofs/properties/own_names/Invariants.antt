-- A text is one of the names so far, or the key of one of the elements that are left.
use Rattle.std.proofs.Common.{◌≡◌, ℕ, List, ◌||◌, drop}
use Rattle.oxt_fields.specs.Rules.{rules_view}
use Rattle.oxt_names.specs.Made.{is_among}
use Rattle.oxt_told.specs.Classes.{is_own_name}
use Rattle.oxt_tree.specs.View.{docs_in}
use Rattle.oxt_told.proofs.properties.own_names.Given as goal

abbrev pub invariant-loop-element : goal.invariant-loop-element
invariant-loop-element l = (t : List ℕ) → is_own_name (rules_view l.rules) (docs_in l.elements) t ≡ (is_among t l.names || is_own_name (rules_view l.rules) (docs_in (drop l.element-index l.elements)) t)
