-- Classes one after another, for the earliest name of them.
use denote.Ref.{Bor}
use Rattle.std.proofs.Common.{◌≡◌, ◌∙◌, ap, sym, ℕ, ◌+◌, ◌<◌, ◌≤◌, List, length, get_or, drop, fold, map, Option}
use Rattle.oxt_class_checks.specs.Moved.{capture_behind}
use Rattle.oxt_faults.specs.Captured.{Capture}
use Rattle.oxt_names.proofs.Lists.{drop_at, drop_end}
use Rattle.oxt_tree.specs.Doc.{Doc}
use Rattle.oxt_tree.specs.View.{node_doc}
use Rattle.oxt_tree.specs.declared.tree.Node.{Node}

abbrev pub class_doc : Bor Node → Doc
class_doc class = node_doc class.now

-- one more
pub behind_more : (o o' : Option Capture) (cs : List (Bor Node)) (i : ℕ) (c : Bor Node) → i < length cs → c ≡ get_or cs i c → o' ≡ capture_behind o (class_doc c)
    → fold capture_behind o (map class_doc (drop i cs)) ≡ fold capture_behind o' (map class_doc (drop (i + 1) cs))
behind_more o o' cs i c within at is =
    ap (λ xs. fold capture_behind o (map class_doc xs)) (drop_at cs i c within at) ∙ ap (λ p. fold capture_behind p (map class_doc (drop (i + 1) cs))) (sym is)

-- no more
pub behind_done : (o : Option Capture) (cs : List (Bor Node)) (i : ℕ) → length cs ≤ i → fold capture_behind o (map class_doc (drop i cs)) ≡ o
behind_done o cs i past = ap (λ xs. fold capture_behind o (map class_doc xs)) (drop_end cs i past)

pub ruleset behind_steps = (behind_more, behind_done)
