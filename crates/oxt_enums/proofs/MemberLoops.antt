-- Members, a part at a time.
use Rattle.std.proofs.Common.{◌≡◌, ◌∙◌, sym, ap, ℕ, ◌+◌, ◌<◌, ◌≤◌, List, [], ◌∷◌, ◌++◌, length, drop, get_or, append_assoc, append-nil}
use Rattle.std.proofs.lemmas.List.{map-append}
use Rattle.oxt_enums.specs.Members.{Found, Spot, behind, each_members, found_view, found_views, members}
use Rattle.oxt_enums.specs.declared.members.Member.{Member}
use Rattle.oxt_names.proofs.Lists.{drop_at, drop_end}
use Rattle.oxt_tree.specs.View.{docs_in, part_doc}
use Rattle.oxt_tree.specs.declared.tree.Part.{Part}

pub each_end : (before : List Found) (s : Spot) (ps : List Part) (i : ℕ) → length ps ≤ i → before ++ each_members (docs_in (drop i ps)) s ≡ before
each_end before s ps i h = ap (λ qs. before ++ each_members (docs_in qs) s) (drop_end ps i h) ∙ append-nil before

pub each_next : (before after : List Found) (s t : Spot) (ps : List Part) (i : ℕ) (p : Part) → i < length ps → p ≡ get_or ps i p → t ≡ behind (part_doc p) s → after ≡ before ++ members (part_doc p) s
    → before ++ each_members (docs_in (drop i ps)) s ≡ after ++ each_members (docs_in (drop (i + 1) ps)) t
each_next before after s t ps i p h e moved pushed =
    ap (λ qs. before ++ each_members (docs_in qs) s) (drop_at ps i p h e)
    ∙ sym (append_assoc before (members (part_doc p) s) (each_members (docs_in (drop (i + 1) ps)) (behind (part_doc p) s)))
    ∙ ap (λ ms. ms ++ each_members (docs_in (drop (i + 1) ps)) (behind (part_doc p) s)) (sym pushed)
    ∙ ap (λ u. after ++ each_members (docs_in (drop (i + 1) ps)) u) (sym moved)

pub ruleset each_steps = (each_next, each_end)

pub one_more : (old new : List Member) (m : Member) → new ≡ old ++ m ∷ [] → found_views new ≡ found_views old ++ found_view m ∷ []
one_more old new m is = ap found_views is ∙ map-append found_view old (m ∷ [])
