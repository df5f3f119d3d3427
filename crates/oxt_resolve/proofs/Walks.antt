-- Marks, a part at a time.
use Rattle.std.proofs.Common.{◌≡◌, ◌∙◌, sym, ap, ℕ, ◌+◌, ◌<◌, ◌≤◌, List, [], ◌∷◌, ◌++◌, length, drop, get_or, append_assoc, append-nil}
use Rattle.std.proofs.lemmas.List.{map-append}
use Rattle.oxt_resolve.specs.Marks.{Mark, each_marks, mark_view, mark_views, marks}
use Rattle.oxt_resolve.specs.declared.marks.Mark.{Mark as Marked}
use Rattle.oxt_names.proofs.Lists.{drop_at, drop_end}
use Rattle.oxt_tree.specs.View.{docs_in, part_doc}
use Rattle.oxt_tree.specs.declared.tree.Part.{Part}

pub marks_end : (before : List Mark) (ps : List Part) (i : ℕ) → length ps ≤ i → before ++ each_marks (docs_in (drop i ps)) ≡ before
marks_end before ps i h = ap (λ qs. before ++ each_marks (docs_in qs)) (drop_end ps i h) ∙ append-nil before

pub marks_next : (before after : List Mark) (ps : List Part) (i : ℕ) (p : Part) → i < length ps → p ≡ get_or ps i p → after ≡ before ++ marks (part_doc p)
    → before ++ each_marks (docs_in (drop i ps)) ≡ after ++ each_marks (docs_in (drop (i + 1) ps))
marks_next before after ps i p h e pushed =
    ap (λ qs. before ++ each_marks (docs_in qs)) (drop_at ps i p h e)
    ∙ sym (append_assoc before (marks (part_doc p)) (each_marks (docs_in (drop (i + 1) ps))))
    ∙ ap (λ ms. ms ++ each_marks (docs_in (drop (i + 1) ps))) (sym pushed)

pub ruleset mark_steps = (marks_next, marks_end)

pub one_mark : (old new : List Marked) (m : Marked) → new ≡ old ++ m ∷ [] → mark_views new ≡ mark_views old ++ mark_view m ∷ []
one_mark old new m is = ap mark_views is ∙ map-append mark_view old (m ∷ [])
