-- Plain lists, an element at a time.
use Rattle.std.proofs.Common.{ℕ, ◌+◌, ◌<◌, ◌≤◌, ◌≡◌, refl, ap, ◌∙◌, List, [], ◌∷◌, length, map, drop, Bool, true, ◌&&◌, ◌||◌, not, get_or}
use Rattle.oxt_grammar.specs.Field.{row_view, is_typescript_field}
use Rattle.oxt_grammar.specs.declared.holds.Row.{Row}
use Rattle.oxt_names.proofs.Lists.{drop_at, drop_end}
use Rattle.oxt_tree.specs.Fields.{is_default}
use Rattle.oxt_valid.specs.Plain.{is_plain, all_plain, fields_plain}
use Rattle.oxt_tree.specs.View.{docs_in, part_doc}
use Rattle.oxt_tree.specs.declared.tree.Part.{Part}

pub all_plain_end : (ps : List Part) (i : ℕ) → length ps ≤ i → all_plain (docs_in (drop i ps)) ≡ true
all_plain_end ps i h = ap (λ qs. all_plain (docs_in qs)) (drop_end ps i h)

pub all_plain_at : (ps : List Part) (i : ℕ) (p : Part) → i < length ps → p ≡ get_or ps i p → all_plain (docs_in (drop i ps)) ≡ (is_plain (part_doc p) && all_plain (docs_in (drop (i + 1) ps)))
all_plain_at ps i p h e = ap (λ qs. all_plain (docs_in qs)) (drop_at ps i p h e)

-- a field is no TypeScript field away from its default
abbrev pub field_plain : Row → Part → Bool
field_plain r p = not (is_typescript_field r.presence) || is_default r.holds (part_doc p)

pub fields_plain_end : (rs : List Row) (ps : List Part) (i : ℕ) → length rs ≤ i → fields_plain (map row_view (drop i rs)) (docs_in (drop i ps)) ≡ true
fields_plain_end rs ps i h = ap (λ qs. fields_plain (map row_view qs) (docs_in (drop i ps))) (drop_end rs i h)

plain_without_docs : (rs : List Row) → fields_plain (map row_view rs) (docs_in []) ≡ true
plain_without_docs [] = refl
plain_without_docs (r ∷ rs) = refl

pub fields_plain_short : (rs : List Row) (ps : List Part) (i : ℕ) → length ps ≤ i → fields_plain (map row_view (drop i rs)) (docs_in (drop i ps)) ≡ true
fields_plain_short rs ps i h = ap (λ qs. fields_plain (map row_view (drop i rs)) (docs_in qs)) (drop_end ps i h) ∙ plain_without_docs (drop i rs)

pub fields_plain_at : (rs : List Row) (ps : List Part) (i : ℕ) (r : Row) (p : Part) → i < length rs → r ≡ get_or rs i r → i < length ps → p ≡ get_or ps i p → fields_plain (map row_view (drop i rs)) (docs_in (drop i ps)) ≡ (field_plain r p && fields_plain (map row_view (drop (i + 1) rs)) (docs_in (drop (i + 1) ps)))
fields_plain_at rs ps i r p h e k f = ap (λ qs. fields_plain (map row_view qs) (docs_in (drop i ps))) (drop_at rs i r h e) ∙ ap (λ qs. fields_plain (map row_view (r ∷ drop (i + 1) rs)) (docs_in qs)) (drop_at ps i p k f)

-- the steps of the loop over a list, and of that over fields
pub ruleset all_plain_steps = (all_plain_at, all_plain_end)

pub ruleset fields_plain_steps = (fields_plain_at, fields_plain_end, fields_plain_short)
