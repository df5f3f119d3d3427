-- Shadowed names, a part at a time.
use Rattle.std.proofs.Common.{◌≡◌, ◌∙◌, refl, sym, ap, ℕ, ◌+◌, ◌<◌, ◌≤◌, List, [], ◌∷◌, ◌++◌, map, length, drop, get_or, append_assoc, append-nil, Bool, Option}
use Rattle.std.proofs.lemmas.List.{map-append}
use Rattle.oxt_grammar.specs.Keys.{key_of}
use Rattle.oxt_enum_checks.specs.Around.{Enum}
use Rattle.oxt_enum_checks.specs.Shadows.{Shadow, all_among, all_shadows, each_shadows, field_shadows, read_shadows, shadow_view, shadow_views, shadows}
use Rattle.oxt_enum_checks.specs.declared.shadowed.ShadowedName.{ShadowedName}
use Rattle.oxt_scopes.specs.Scopes.{Level}
use Rattle.oxt_scopes.specs.Ways.{way_of}
use Rattle.oxt_scopes.specs.declared.way.Reading.{Reading}
use Rattle.oxt_scopes.specs.declared.way.Way.{Way}
use Rattle.oxt_scoping.specs.Scoped.{Scoped}
use Rattle.oxt_names.specs.declared.ids.SymbolId.{SymbolId}
use Rattle.oxt_grammar.specs.Field.{row_view}
use Rattle.oxt_grammar.specs.Rows.{row_of}
use Rattle.oxt_grammar.specs.declared.holds.Row.{Row}
use Rattle.oxt_grammar.specs.declared.kind.Kind.{Kind}
use Rattle.oxt_names.proofs.Lists.{drop_at, drop_end}
use Rattle.oxt_tree.specs.View.{docs_in, part_doc}
use Rattle.oxt_tree.specs.declared.tree.Part.{Part}

pub each_end : (before : List Shadow) (g : Bool) (s : Scoped) (a : Enum) (w : Way) (ls : List Level) (ps : List Part) (i : ℕ) → length ps ≤ i → before ++ each_shadows g s a (docs_in (drop i ps)) w ls ≡ before
each_end before g s a w ls ps i h = ap (λ qs. before ++ each_shadows g s a (docs_in qs) w ls) (drop_end ps i h) ∙ append-nil before

pub each_next : (before after : List Shadow) (g : Bool) (s : Scoped) (a : Enum) (w : Way) (now ls : List Level) (ps : List Part) (i : ℕ) (p : Part) → i < length ps → p ≡ get_or ps i p → now ≡ ls → after ≡ before ++ shadows g s a (part_doc p) w now
    → before ++ each_shadows g s a (docs_in (drop i ps)) w ls ≡ after ++ each_shadows g s a (docs_in (drop (i + 1) ps)) w ls
each_next before after g s a w now ls ps i p h e same pushed =
    ap (λ qs. before ++ each_shadows g s a (docs_in qs) w ls) (drop_at ps i p h e)
    ∙ sym (append_assoc before (shadows g s a (part_doc p) w ls) (each_shadows g s a (docs_in (drop (i + 1) ps)) w ls))
    ∙ ap (λ os. os ++ each_shadows g s a (docs_in (drop (i + 1) ps)) w ls) (ap (λ ks. before ++ shadows g s a (part_doc p) w ks) (sym same) ∙ sym pushed)

no_fields : (g : Bool) (s : Scoped) (a : Enum) (ps : List Part) (r : Reading) (ls : List Level) → field_shadows g s a (docs_in ps) (map row_view []) r ls ≡ []
no_fields g s a [] r ls = refl
no_fields g s a (p ∷ ps) r ls = refl

pub fields_end : (before : List Shadow) (g : Bool) (s : Scoped) (a : Enum) (ps : List Part) (rs : List Row) (r : Reading) (ls : List Level) (i : ℕ) → length ps ≤ i → before ++ field_shadows g s a (docs_in (drop i ps)) (map row_view (drop i rs)) r ls ≡ before
fields_end before g s a ps rs r ls i h = ap (λ qs. before ++ field_shadows g s a (docs_in qs) (map row_view (drop i rs)) r ls) (drop_end ps i h) ∙ append-nil before

pub fields_short : (before : List Shadow) (g : Bool) (s : Scoped) (a : Enum) (ps : List Part) (rs : List Row) (r : Reading) (ls : List Level) (i : ℕ) → length rs ≤ i → before ++ field_shadows g s a (docs_in (drop i ps)) (map row_view (drop i rs)) r ls ≡ before
fields_short before g s a ps rs r ls i h =
    ap (λ qs. before ++ field_shadows g s a (docs_in (drop i ps)) (map row_view qs) r ls) (drop_end rs i h) ∙ ap (λ os. before ++ os) (no_fields g s a (drop i ps) r ls) ∙ append-nil before

pub fields_next : (before after : List Shadow) (g : Bool) (s : Scoped) (a : Enum) (ps : List Part) (rs : List Row) (r : Reading) (now ls : List Level) (i : ℕ) (p : Part) (f : Row) → i < length ps → p ≡ get_or ps i p → i < length rs → f ≡ get_or rs i f → now ≡ ls
    → after ≡ before ++ read_shadows (way_of r (key_of f.field)) (shadows g s a (part_doc p)) now
    → before ++ field_shadows g s a (docs_in (drop i ps)) (map row_view (drop i rs)) r ls ≡ after ++ field_shadows g s a (docs_in (drop (i + 1) ps)) (map row_view (drop (i + 1) rs)) r ls
fields_next before after g s a ps rs r now ls i p f h e k there same pushed =
    ap (λ qs. before ++ field_shadows g s a (docs_in qs) (map row_view (drop i rs)) r ls) (drop_at ps i p h e)
    ∙ ap (λ qs. before ++ field_shadows g s a (docs_in (p ∷ drop (i + 1) ps)) (map row_view qs) r ls) (drop_at rs i f k there)
    ∙ sym (append_assoc before (read_shadows (way_of r (key_of f.field)) (shadows g s a (part_doc p)) ls) (field_shadows g s a (docs_in (drop (i + 1) ps)) (map row_view (drop (i + 1) rs)) r ls))
    ∙ ap (λ os. os ++ field_shadows g s a (docs_in (drop (i + 1) ps)) (map row_view (drop (i + 1) rs)) r ls) (ap (λ ks. before ++ read_shadows (way_of r (key_of f.field)) (shadows g s a (part_doc p)) ks) (sym same) ∙ sym pushed)

pub ruleset each_steps = (each_next, each_end)

pub ruleset field_steps = (fields_next, fields_end, fields_short)

-- the fields by the rows of the kind
pub fields_as : (g : Bool) (s : Scoped) (a : Enum) (old : List Shadow) (ps qs : List Part) (rs : List Row) (k : Kind) (r t : Reading) (ls ks : List Level) → ps ≡ qs → map row_view rs ≡ row_of k → r ≡ t → ls ≡ ks → old ++ field_shadows g s a (docs_in ps) (map row_view rs) r ls ≡ old ++ field_shadows g s a (docs_in qs) (row_of k) t ks
fields_as g s a old ps qs rs k r t ls ks parts rows same levels =
    ap (λ xs. old ++ field_shadows g s a (docs_in xs) (map row_view rs) r ls) parts ∙ ap (λ fs. old ++ field_shadows g s a (docs_in qs) fs r ls) rows ∙ ap (λ x. old ++ field_shadows g s a (docs_in qs) (row_of k) x ls) same ∙ ap (λ x. old ++ field_shadows g s a (docs_in qs) (row_of k) t x) levels

-- two parts of the names, one behind the other
pub both : (old one two x y : List Shadow) → one ≡ old ++ x → two ≡ one ++ y → two ≡ old ++ (x ++ y)
both old one two x y first second = second ∙ ap (λ v. v ++ y) first ∙ append_assoc old x y

-- in all initializers, no parts more
pub all_end : (before : List Shadow) (g : Bool) (s : Scoped) (a : Option SymbolId) (ps : List Part) (i : ℕ) → length ps ≤ i → before ++ all_among g s (docs_in (drop i ps)) a ≡ before
all_end before g s a ps i h = ap (λ qs. before ++ all_among g s (docs_in qs) a) (drop_end ps i h) ∙ append-nil before

-- one part more
pub all_next : (before after : List Shadow) (g : Bool) (s : Scoped) (a : Option SymbolId) (ps : List Part) (i : ℕ) (p : Part) → i < length ps → p ≡ get_or ps i p → after ≡ before ++ all_shadows g s (part_doc p) a
    → before ++ all_among g s (docs_in (drop i ps)) a ≡ after ++ all_among g s (docs_in (drop (i + 1) ps)) a
all_next before after g s a ps i p h e pushed =
    ap (λ qs. before ++ all_among g s (docs_in qs) a) (drop_at ps i p h e)
    ∙ sym (append_assoc before (all_shadows g s (part_doc p) a) (all_among g s (docs_in (drop (i + 1) ps)) a))
    ∙ ap (λ ns. ns ++ all_among g s (docs_in (drop (i + 1) ps)) a) (sym pushed)

pub ruleset all_steps = (all_next, all_end)

-- a name more
pub one_more : (old new : List ShadowedName) (n : ShadowedName) → new ≡ old ++ n ∷ [] → shadow_views new ≡ shadow_views old ++ shadow_view n ∷ []
one_more old new n is = ap shadow_views is ∙ map-append shadow_view old (n ∷ [])
