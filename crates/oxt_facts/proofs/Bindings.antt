-- The bindings of a list of parts, an element at a time.
use Rattle.std.proofs.Common.{ℕ, ◌+◌, ◌<◌, ◌≤◌, ◌≡◌, refl, sym, ap, ◌∙◌, List, [], ◌∷◌, ◌++◌, Bool, true, false, filter, if◌then◌else◌, length, drop, get_or}
use Rattle.oxt_names.proofs.Lists.{drop_at, drop_end}
use Rattle.oxt_tree.specs.View.{docs_in, part_doc}
use Rattle.oxt_tree.specs.declared.tree.Part.{Part}
use Rattle.oxt_names.specs.Made.{added, all_added}
use Rattle.oxt_facts.specs.Facts.{bindings, bindings_of_each}

pub all_added-append : (ts us ss : List (List ℕ)) → all_added (ts ++ us) ss ≡ all_added us (all_added ts ss)
all_added-append [] us ss = refl
all_added-append (t ∷ ts) us ss = all_added-append ts us (added t ss)

filter-append : (p : List ℕ → Bool) (ts us : List (List ℕ)) → filter p (ts ++ us) ≡ filter p ts ++ filter p us
filter-append p [] us = refl
filter-append p (t ∷ ts) us = step (p t) (filter-append p ts us)
  where
    step : (b : Bool) → filter p (ts ++ us) ≡ filter p ts ++ filter p us → (if b then t ∷ filter p (ts ++ us) else filter p (ts ++ us)) ≡ (if b then t ∷ filter p ts else filter p ts) ++ filter p us
    step true e = ap (λ v. t ∷ v) e
    step false e = e

-- the names of two lists, one after the other
pub added_both : (p : List ℕ → Bool) (ts us ss : List (List ℕ)) → all_added (filter p (ts ++ us)) ss ≡ all_added (filter p us) (all_added (filter p ts) ss)
added_both p ts us ss = ap (λ v. all_added v ss) (filter-append p ts us) ∙ all_added-append (filter p ts) (filter p us) ss

pub each_end : (p : List ℕ → Bool) (before : List (List ℕ)) (ps : List Part) (i : ℕ) → length ps ≤ i → all_added (filter p (bindings_of_each (docs_in (drop i ps)))) before ≡ before
each_end p before ps i h = ap (λ qs. all_added (filter p (bindings_of_each (docs_in qs))) before) (drop_end ps i h)

pub each_next : (p : List ℕ → Bool) (before after : List (List ℕ)) (ps : List Part) (i : ℕ) (q : Part) → i < length ps → q ≡ get_or ps i q → after ≡ all_added (filter p (bindings (part_doc q))) before → all_added (filter p (bindings_of_each (docs_in (drop i ps)))) before ≡ all_added (filter p (bindings_of_each (docs_in (drop (i + 1) ps)))) after
each_next p before after ps i q h e pushed =
    ap (λ qs. all_added (filter p (bindings_of_each (docs_in qs))) before) (drop_at ps i q h e)
    ∙ added_both p (bindings (part_doc q)) (bindings_of_each (docs_in (drop (i + 1) ps))) before
    ∙ ap (all_added (filter p (bindings_of_each (docs_in (drop (i + 1) ps))))) (sym pushed)

-- the steps of the loop over a list, and of a node
pub ruleset each_steps = (each_next, each_end)

pub ruleset node_steps = (added_both)
