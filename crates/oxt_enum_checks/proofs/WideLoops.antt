-- Members that are too large, one after another.
use Rattle.std.proofs.Common.{◌≡◌, ◌∙◌, sym, ap, ℕ, ◌+◌, ◌<◌, ◌≤◌, List, drop, length, get_or, Bool, true, false, ◌&&◌, Option, None, cond}
use Rattle.oxt_enum_checks.specs.Wide.{ends_with_largest, is_bare, member_at, wide_among}
use Rattle.oxt_enum_checks.specs.declared.wide.WideMember.{WideMember}
use Rattle.oxt_scoping.specs.Scoped.{Scoped}
use Rattle.oxt_names.proofs.Lists.{drop_at, drop_end}
use Rattle.oxt_tree.specs.View.{docs_in, part_doc}
use Rattle.oxt_tree.specs.declared.tree.Part.{Part}

-- the first of the members, behind one with the largest constant or not
abbrev pub first_of : Scoped → Bool → List Part → Option WideMember
first_of s b ps = wide_among s b (docs_in ps)

one_more : (s : Scoped) (b : Bool) (ps : List Part) (i : ℕ) (p : Part) → i < length ps → p ≡ get_or ps i p
    → first_of s b (drop i ps) ≡ cond (b && is_bare (part_doc p)) (member_at (part_doc p)) (first_of s (ends_with_largest s (part_doc p)) (drop (i + 1) ps))
one_more s b ps i p within at = ap (first_of s b) (drop_at ps i p within at)

pub wide_found : (s : Scoped) (whole : Option WideMember) (b : Bool) (ps : List Part) (i : ℕ) (p : Part) (n : Option WideMember) → i < length ps → p ≡ get_or ps i p → (b && is_bare (part_doc p)) ≡ true
    → n ≡ member_at (part_doc p) → whole ≡ first_of s b (drop i ps) → n ≡ whole
wide_found s whole b ps i p n within at holds is so_far =
    sym (so_far ∙ one_more s b ps i p within at ∙ ap (λ c. cond c (member_at (part_doc p)) (first_of s (ends_with_largest s (part_doc p)) (drop (i + 1) ps))) holds ∙ sym is)

pub wide_next : (s : Scoped) (whole : Option WideMember) (b c : Bool) (ps : List Part) (i : ℕ) (p : Part) → i < length ps → p ≡ get_or ps i p → (b && is_bare (part_doc p)) ≡ false
    → c ≡ ends_with_largest s (part_doc p) → whole ≡ first_of s b (drop i ps) → whole ≡ first_of s c (drop (i + 1) ps)
wide_next s whole b c ps i p within at not is so_far =
    so_far ∙ one_more s b ps i p within at ∙ ap (λ e. cond e (member_at (part_doc p)) (first_of s (ends_with_largest s (part_doc p)) (drop (i + 1) ps))) not
    ∙ ap (λ e. first_of s e (drop (i + 1) ps)) (sym is)

pub wide_none : (s : Scoped) (whole : Option WideMember) (b : Bool) (ps : List Part) (i : ℕ) → length ps ≤ i → whole ≡ first_of s b (drop i ps) → None ≡ whole
wide_none s whole b ps i past so_far = sym (so_far ∙ ap (first_of s b) (drop_end ps i past))

pub ruleset steps = (wide_found, wide_next, wide_none)
