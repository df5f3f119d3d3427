-- Looking for the first statement that is not read as nothing.
use Rattle.std.proofs.Common.{ℕ, ◌+◌, ◌<◌, ◌≤◌, ◌≡◌, sym, ap, ◌∙◌, List, Bool, true, false, not, ◌&&◌, if◌then◌else◌, length, drop, get_or}
use Rattle.oxt_facts.specs.Facts.{Known}
use Rattle.oxt_names.proofs.Lists.{drop_at, drop_end}
use Rattle.oxt_tree.specs.Fields.{is_text}
use Rattle.oxt_tree.specs.View.{docs_in, part_doc}
use Rattle.oxt_tree.specs.declared.tree.Part.{Part}
use Rattle.oxt_forms.specs.Made.{is_passing_statement, is_silent_declaration, mentions, pass_first, pass_nothing, passed_name}

-- a statement, and what comes after it
abbrev pub turn : Known → List ℕ → Part → List Part → Bool → Bool → Bool
turn f p s ps silent has =
    if silent then not has && pass_first f p (docs_in ps)
    else (is_passing_statement f (part_doc s) && is_text p (passed_name (part_doc s))) && pass_nothing f p (docs_in ps)

here : (f : Known) (p : List ℕ) (ps : List Part) (i : ℕ) (s : Part) → i < length ps → s ≡ get_or ps i s → pass_first f p (docs_in (drop i ps)) ≡ turn f p s (drop (i + 1) ps) (is_silent_declaration f (part_doc s)) (mentions p (part_doc s))
here f p ps i s h e = ap (λ qs. pass_first f p (docs_in qs)) (drop_at ps i s h e)

pub one_more : (whole : Bool) (f : Known) (p : List ℕ) (ps : List Part) (i : ℕ) (s : Part) → i < length ps → s ≡ get_or ps i s → true ≡ is_silent_declaration f (part_doc s) → false ≡ mentions p (part_doc s) → whole ≡ pass_first f p (docs_in (drop i ps)) → whole ≡ pass_first f p (docs_in (drop (i + 1) ps))
one_more whole f p ps i s h e silent has so_far =
    so_far ∙ here f p ps i s h e ∙ ap (λ b. turn f p s (drop (i + 1) ps) b (mentions p (part_doc s))) (sym silent) ∙ ap (λ b. turn f p s (drop (i + 1) ps) true b) (sym has)

pub named : (whole : Bool) (f : Known) (p : List ℕ) (ps : List Part) (i : ℕ) (s : Part) → i < length ps → s ≡ get_or ps i s → true ≡ is_silent_declaration f (part_doc s) → true ≡ mentions p (part_doc s) → whole ≡ pass_first f p (docs_in (drop i ps)) → false ≡ whole
named whole f p ps i s h e silent has so_far =
    sym (so_far ∙ here f p ps i s h e ∙ ap (λ b. turn f p s (drop (i + 1) ps) b (mentions p (part_doc s))) (sym silent) ∙ ap (λ b. turn f p s (drop (i + 1) ps) true b) (sym has))

pub loud : (whole : Bool) (f : Known) (p : List ℕ) (ps : List Part) (i : ℕ) (s : Part) → i < length ps → s ≡ get_or ps i s → false ≡ is_silent_declaration f (part_doc s) → whole ≡ pass_first f p (docs_in (drop i ps))
    → ((is_passing_statement f (part_doc s) && is_text p (passed_name (part_doc s))) && pass_nothing f p (docs_in (drop (i + 1) ps))) ≡ whole
loud whole f p ps i s h e silent so_far =
    sym (so_far ∙ here f p ps i s h e ∙ ap (λ b. turn f p s (drop (i + 1) ps) b (mentions p (part_doc s))) (sym silent))

pub no_more : (whole : Bool) (f : Known) (p : List ℕ) (ps : List Part) (i : ℕ) → length ps ≤ i → whole ≡ pass_first f p (docs_in (drop i ps)) → false ≡ whole
no_more whole f p ps i past so_far = sym (so_far ∙ ap (λ qs. pass_first f p (docs_in qs)) (drop_end ps i past))
