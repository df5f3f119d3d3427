-- What a list of statements declares, one after another.
use Rattle.std.proofs.Common.{ℕ, ◌+◌, ◌<◌, ◌≤◌, ◌≡◌, sym, ap, ◌∙◌, List, ◌++◌, length, drop, get_or, Bool, append_assoc, append-nil}
use Rattle.oxt_names.proofs.Lists.{drop_at, drop_end}
use Rattle.oxt_tree.specs.View.{docs_in, part_doc}
use Rattle.oxt_tree.specs.declared.tree.Part.{Part}
use Rattle.oxt_declares.specs.Declarations.{Declared}
use Rattle.oxt_declares.specs.Declares.{found, each_found, imported, imported_name, members, member}
use Rattle.oxt_declares.specs.declared.collect.Mode.{Mode}

pub found_end : (before : List Declared) (m : Mode) (ps : List Part) (i : ℕ) → length ps ≤ i → before ++ each_found (docs_in (drop i ps)) m ≡ before
found_end before m ps i h = ap (λ qs. before ++ each_found (docs_in qs) m) (drop_end ps i h) ∙ append-nil before

pub found_next : (before after : List Declared) (m : Mode) (ps : List Part) (i : ℕ) (p : Part) → i < length ps → p ≡ get_or ps i p → after ≡ before ++ found (part_doc p) m → before ++ each_found (docs_in (drop i ps)) m ≡ after ++ each_found (docs_in (drop (i + 1) ps)) m
found_next before after m ps i p h e pushed =
    ap (λ qs. before ++ each_found (docs_in qs) m) (drop_at ps i p h e)
    ∙ sym (append_assoc before (found (part_doc p) m) (each_found (docs_in (drop (i + 1) ps)) m))
    ∙ ap (λ bs. bs ++ each_found (docs_in (drop (i + 1) ps)) m) (sym pushed)

pub ruleset found_steps = (found_next, found_end)

pub import_end : (before : List Declared) (b : Bool) (ps : List Part) (i : ℕ) → length ps ≤ i → before ++ imported b (docs_in (drop i ps)) ≡ before
import_end before b ps i h = ap (λ qs. before ++ imported b (docs_in qs)) (drop_end ps i h) ∙ append-nil before

pub import_next : (before after : List Declared) (b : Bool) (ps : List Part) (i : ℕ) (p : Part) → i < length ps → p ≡ get_or ps i p → after ≡ before ++ imported_name b (part_doc p) → before ++ imported b (docs_in (drop i ps)) ≡ after ++ imported b (docs_in (drop (i + 1) ps))
import_next before after b ps i p h e pushed =
    ap (λ qs. before ++ imported b (docs_in qs)) (drop_at ps i p h e)
    ∙ sym (append_assoc before (imported_name b (part_doc p)) (imported b (docs_in (drop (i + 1) ps))))
    ∙ ap (λ bs. bs ++ imported b (docs_in (drop (i + 1) ps))) (sym pushed)

pub ruleset import_steps = (import_next, import_end)

pub members_end : (before : List Declared) (ps : List Part) (i : ℕ) → length ps ≤ i → before ++ members (docs_in (drop i ps)) ≡ before
members_end before ps i h = ap (λ qs. before ++ members (docs_in qs)) (drop_end ps i h) ∙ append-nil before

pub members_next : (before after : List Declared) (ps : List Part) (i : ℕ) (p : Part) → i < length ps → p ≡ get_or ps i p → after ≡ before ++ member (part_doc p) → before ++ members (docs_in (drop i ps)) ≡ after ++ members (docs_in (drop (i + 1) ps))
members_next before after ps i p h e pushed =
    ap (λ qs. before ++ members (docs_in qs)) (drop_at ps i p h e)
    ∙ sym (append_assoc before (member (part_doc p)) (members (docs_in (drop (i + 1) ps))))
    ∙ ap (λ bs. bs ++ members (docs_in (drop (i + 1) ps))) (sym pushed)

pub ruleset member_steps = (members_next, members_end)
