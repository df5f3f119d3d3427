-- The elements of a class, one at a time.
use Rattle.std.proofs.Common.{◌≡◌, ◌∙◌, refl, sym, ap, ℕ, ◌+◌, ◌<◌, ◌≤◌, List, [], ◌∷◌, ◌++◌, Bool, true, false, ◌||◌, length, get_or, drop, append_assoc, append-nil}
use Rattle.std.proofs.lemmas.List.{map-append}
use Rattle.oxt_class_checks.specs.Refused.{refused_among, refused_each, refused_in, refused_one}
use Rattle.oxt_class_checks.specs.Storages.{has_reserved, is_any_reserved, own_private, own_storage, with_name, with_privates}
use Rattle.oxt_fields.specs.Rules.{Rules}
use Rattle.oxt_options.specs.Lists.{numbers_in}
use Rattle.oxt_names.proofs.Lists.{drop_at, drop_end}
use Rattle.oxt_tree.specs.View.{docs_in, part_doc}
use Rattle.oxt_names.specs.declared.ids.NodeId.{NodeId}
use Rattle.oxt_tree.specs.declared.tree.Part.{Part}

-- a number more
pub one_more : (old new : List NodeId) (n : NodeId) → new ≡ old ++ n ∷ [] → numbers_in new ≡ numbers_in old ++ n.0 ∷ []
one_more old new n is = ap numbers_in is ∙ map-append (λ m. m.0) old (n ∷ [])

-- ---- the classes of parts

pub each_end : (before : List ℕ) (r : Rules) (ps : List Part) (i : ℕ) → length ps ≤ i → before ++ refused_each r (docs_in (drop i ps)) ≡ before
each_end before r ps i h = ap (λ qs. before ++ refused_each r (docs_in qs)) (drop_end ps i h) ∙ append-nil before

pub each_next : (before after : List ℕ) (r : Rules) (ps : List Part) (i : ℕ) (p : Part) → i < length ps → p ≡ get_or ps i p → after ≡ before ++ refused_in r (part_doc p)
    → before ++ refused_each r (docs_in (drop i ps)) ≡ after ++ refused_each r (docs_in (drop (i + 1) ps))
each_next before after r ps i p h e pushed =
    ap (λ qs. before ++ refused_each r (docs_in qs)) (drop_at ps i p h e)
    ∙ sym (append_assoc before (refused_in r (part_doc p)) (refused_each r (docs_in (drop (i + 1) ps))))
    ∙ ap (λ ns. ns ++ refused_each r (docs_in (drop (i + 1) ps))) (sym pushed)

pub ruleset each_steps = (each_next, each_end)

-- ---- the elements that are refused

pub among_end : (before : List ℕ) (r : Rules) (b : Bool) (ns : List (List ℕ)) (ps : List Part) (i : ℕ) → length ps ≤ i → before ++ refused_among r b ns (docs_in (drop i ps)) ≡ before
among_end before r b ns ps i h = ap (λ qs. before ++ refused_among r b ns (docs_in qs)) (drop_end ps i h) ∙ append-nil before

pub among_next : (before after : List ℕ) (r : Rules) (b : Bool) (old new : List (List ℕ)) (ps : List Part) (i : ℕ) (p : Part) → i < length ps → p ≡ get_or ps i p
    → after ≡ before ++ refused_one r b old (part_doc p) → new ≡ with_name (own_storage r (part_doc p)) old
    → before ++ refused_among r b old (docs_in (drop i ps)) ≡ after ++ refused_among r b new (docs_in (drop (i + 1) ps))
among_next before after r b old new ps i p h e pushed added =
    ap (λ qs. before ++ refused_among r b old (docs_in qs)) (drop_at ps i p h e)
    ∙ sym (append_assoc before (refused_one r b old (part_doc p)) (refused_among r b (with_name (own_storage r (part_doc p)) old) (docs_in (drop (i + 1) ps))))
    ∙ ap (λ xs. xs ++ refused_among r b (with_name (own_storage r (part_doc p)) old) (docs_in (drop (i + 1) ps))) (sym pushed)
    ∙ ap (λ ns. after ++ refused_among r b ns (docs_in (drop (i + 1) ps))) (sym added)

pub ruleset among_steps = (among_next, among_end)

-- ---- reserved names

pub reserved_end : (r : Rules) (ps : List Part) (i : ℕ) → length ps ≤ i → is_any_reserved r (docs_in (drop i ps)) ≡ false
reserved_end r ps i h = ap (λ qs. is_any_reserved r (docs_in qs)) (drop_end ps i h)

-- the element has none
pub reserved_next : (r : Rules) (ps : List Part) (i : ℕ) (p : Part) (b : Bool) → i < length ps → p ≡ get_or ps i p → b ≡ has_reserved r (part_doc p) → b ≡ false
    → is_any_reserved r (docs_in (drop i ps)) ≡ is_any_reserved r (docs_in (drop (i + 1) ps))
reserved_next r ps i p b h e has none =
    ap (λ qs. is_any_reserved r (docs_in qs)) (drop_at ps i p h e)
    ∙ ap (λ c. c || is_any_reserved r (docs_in (drop (i + 1) ps))) (sym has ∙ none)

-- the element has one
pub reserved_found : (r : Rules) (ps : List Part) (i : ℕ) (p : Part) (b : Bool) → i < length ps → p ≡ get_or ps i p → b ≡ has_reserved r (part_doc p) → b ≡ true
    → is_any_reserved r (docs_in (drop i ps)) ≡ true
reserved_found r ps i p b h e has some =
    ap (λ qs. is_any_reserved r (docs_in qs)) (drop_at ps i p h e)
    ∙ ap (λ c. c || is_any_reserved r (docs_in (drop (i + 1) ps))) (sym has ∙ some)

pub ruleset reserved_steps = (reserved_next, reserved_found, reserved_end)

-- ---- private names

pub private_end : (ns : List (List ℕ)) (ps : List Part) (i : ℕ) → length ps ≤ i → with_privates (docs_in (drop i ps)) ns ≡ ns
private_end ns ps i h = ap (λ qs. with_privates (docs_in qs) ns) (drop_end ps i h)

pub private_next : (before after : List (List ℕ)) (ps : List Part) (i : ℕ) (p : Part) → i < length ps → p ≡ get_or ps i p → after ≡ with_name (own_private (part_doc p)) before
    → with_privates (docs_in (drop i ps)) before ≡ with_privates (docs_in (drop (i + 1) ps)) after
private_next before after ps i p h e added =
    ap (λ qs. with_privates (docs_in qs) before) (drop_at ps i p h e)
    ∙ ap (with_privates (docs_in (drop (i + 1) ps))) (sym added)

pub ruleset private_steps = (private_next, private_end)
