-- The names of a list of parts, an element at a time.
use Rattle.std.proofs.Common.{ℕ, ◌+◌, ◌<◌, ◌≤◌, ◌≡◌, refl, sym, ap, ◌∙◌, List, [], ◌∷◌, ◌++◌, length, drop, get_or}
use Rattle.oxt_names.proofs.Lists.{drop_at, drop_end}
use Rattle.oxt_tree.specs.View.{docs_in, part_doc}
use Rattle.oxt_tree.specs.declared.tree.Part.{Part}
use Rattle.oxt_names.specs.Made.{added, all_added}
use Rattle.oxt_resolve.specs.Names.{names, names_of_each}

pub all_added-append : (ts us ss : List (List ℕ)) → all_added (ts ++ us) ss ≡ all_added us (all_added ts ss)
all_added-append [] us ss = refl
all_added-append (t ∷ ts) us ss = all_added-append ts us (added t ss)

pub each_end : (before : List (List ℕ)) (ps : List Part) (i : ℕ) → length ps ≤ i → all_added (names_of_each (docs_in (drop i ps))) before ≡ before
each_end before ps i h = ap (λ qs. all_added (names_of_each (docs_in qs)) before) (drop_end ps i h)

pub each_next : (before after : List (List ℕ)) (ps : List Part) (i : ℕ) (p : Part) → i < length ps → p ≡ get_or ps i p → after ≡ all_added (names (part_doc p)) before → all_added (names_of_each (docs_in (drop i ps))) before ≡ all_added (names_of_each (docs_in (drop (i + 1) ps))) after
each_next before after ps i p h e pushed =
    ap (λ qs. all_added (names_of_each (docs_in qs)) before) (drop_at ps i p h e)
    ∙ all_added-append (names (part_doc p)) (names_of_each (docs_in (drop (i + 1) ps))) before
    ∙ ap (all_added (names_of_each (docs_in (drop (i + 1) ps)))) (sym pushed)

-- the steps of the loop over a list, and of a node
pub ruleset each_steps = (each_next, each_end)

pub ruleset node_steps = (all_added-append)
