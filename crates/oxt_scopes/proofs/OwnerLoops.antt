-- Owners of names, a part at a time.
use Rattle.std.proofs.Common.{◌≡◌, ◌∙◌, refl, sym, ap, ℕ, ◌+◌, ◌<◌, ◌≤◌, List, [], ◌∷◌, ◌++◌, map, length, drop, get_or, append_assoc, append-nil}
use Rattle.oxt_grammar.specs.Keys.{key_of}
use Rattle.oxt_grammar.specs.Field.{row_view}
use Rattle.oxt_grammar.specs.Rows.{row_of}
use Rattle.oxt_grammar.specs.declared.holds.Row.{Row}
use Rattle.oxt_grammar.specs.declared.kind.Kind.{Kind}
use Rattle.oxt_names.proofs.Lists.{drop_at, drop_end}
use Rattle.oxt_tree.specs.View.{docs_in, part_doc}
use Rattle.oxt_tree.specs.declared.tree.Part.{Part}
use Rattle.oxt_scopes.specs.Owners.{Owned, each_owners, field_owners, owners, read_so}
use Rattle.oxt_scopes.specs.Scopes.{Level}
use Rattle.oxt_scopes.specs.Ways.{way_of}
use Rattle.oxt_scopes.specs.declared.way.Reading.{Reading}
use Rattle.oxt_scopes.specs.declared.way.Way.{Way}

pub each_end : (before : List Owned) (w : Way) (ls : List Level) (ps : List Part) (i : ℕ) → length ps ≤ i → before ++ each_owners (docs_in (drop i ps)) w ls ≡ before
each_end before w ls ps i h = ap (λ qs. before ++ each_owners (docs_in qs) w ls) (drop_end ps i h) ∙ append-nil before

pub each_next : (before after : List Owned) (w : Way) (now ls : List Level) (ps : List Part) (i : ℕ) (p : Part) → i < length ps → p ≡ get_or ps i p → now ≡ ls → after ≡ before ++ owners (part_doc p) w now
    → before ++ each_owners (docs_in (drop i ps)) w ls ≡ after ++ each_owners (docs_in (drop (i + 1) ps)) w ls
each_next before after w now ls ps i p h e same pushed =
    ap (λ qs. before ++ each_owners (docs_in qs) w ls) (drop_at ps i p h e)
    ∙ sym (append_assoc before (owners (part_doc p) w ls) (each_owners (docs_in (drop (i + 1) ps)) w ls))
    ∙ ap (λ os. os ++ each_owners (docs_in (drop (i + 1) ps)) w ls) (ap (λ ks. before ++ owners (part_doc p) w ks) (sym same) ∙ sym pushed)

no_fields : (ps : List Part) (r : Reading) (ls : List Level) → field_owners (docs_in ps) (map row_view []) r ls ≡ []
no_fields [] r ls = refl
no_fields (p ∷ ps) r ls = refl

pub fields_end : (before : List Owned) (ps : List Part) (rs : List Row) (r : Reading) (ls : List Level) (i : ℕ) → length ps ≤ i → before ++ field_owners (docs_in (drop i ps)) (map row_view (drop i rs)) r ls ≡ before
fields_end before ps rs r ls i h = ap (λ qs. before ++ field_owners (docs_in qs) (map row_view (drop i rs)) r ls) (drop_end ps i h) ∙ append-nil before

pub fields_short : (before : List Owned) (ps : List Part) (rs : List Row) (r : Reading) (ls : List Level) (i : ℕ) → length rs ≤ i → before ++ field_owners (docs_in (drop i ps)) (map row_view (drop i rs)) r ls ≡ before
fields_short before ps rs r ls i h =
    ap (λ qs. before ++ field_owners (docs_in (drop i ps)) (map row_view qs) r ls) (drop_end rs i h) ∙ ap (λ os. before ++ os) (no_fields (drop i ps) r ls) ∙ append-nil before

pub fields_next : (before after : List Owned) (ps : List Part) (rs : List Row) (r : Reading) (now ls : List Level) (i : ℕ) (p : Part) (f : Row) → i < length ps → p ≡ get_or ps i p → i < length rs → f ≡ get_or rs i f → now ≡ ls
    → after ≡ before ++ read_so (way_of r (key_of f.field)) (owners (part_doc p)) now
    → before ++ field_owners (docs_in (drop i ps)) (map row_view (drop i rs)) r ls ≡ after ++ field_owners (docs_in (drop (i + 1) ps)) (map row_view (drop (i + 1) rs)) r ls
fields_next before after ps rs r now ls i p f h e k g same pushed =
    ap (λ qs. before ++ field_owners (docs_in qs) (map row_view (drop i rs)) r ls) (drop_at ps i p h e)
    ∙ ap (λ qs. before ++ field_owners (docs_in (p ∷ drop (i + 1) ps)) (map row_view qs) r ls) (drop_at rs i f k g)
    ∙ sym (append_assoc before (read_so (way_of r (key_of f.field)) (owners (part_doc p)) ls) (field_owners (docs_in (drop (i + 1) ps)) (map row_view (drop (i + 1) rs)) r ls))
    ∙ ap (λ os. os ++ field_owners (docs_in (drop (i + 1) ps)) (map row_view (drop (i + 1) rs)) r ls) (ap (λ ks. before ++ read_so (way_of r (key_of f.field)) (owners (part_doc p)) ks) (sym same) ∙ sym pushed)

pub ruleset each_steps = (each_next, each_end)

pub ruleset field_steps = (fields_next, fields_end, fields_short)

-- the fields by the rows of the kind
pub fields_as : (old : List Owned) (ps qs : List Part) (rs : List Row) (k : Kind) (r s : Reading) (ls ks : List Level) → ps ≡ qs → map row_view rs ≡ row_of k → r ≡ s → ls ≡ ks → old ++ field_owners (docs_in ps) (map row_view rs) r ls ≡ old ++ field_owners (docs_in qs) (row_of k) s ks
fields_as old ps qs rs k r s ls ks parts rows same levels =
    ap (λ xs. old ++ field_owners (docs_in xs) (map row_view rs) r ls) parts ∙ ap (λ fs. old ++ field_owners (docs_in qs) fs r ls) rows ∙ ap (λ x. old ++ field_owners (docs_in qs) (row_of k) x ls) same ∙ ap (λ x. old ++ field_owners (docs_in qs) (row_of k) s x) levels

-- two parts of the names, one behind the other
pub both : (old one two a b : List Owned) → one ≡ old ++ a → two ≡ one ++ b → two ≡ old ++ (a ++ b)
both old one two a b first second = second ∙ ap (λ v. v ++ b) first ∙ append_assoc old a b

-- the same, where what is done in between leaves the names as they are
pub both_apart : (old one still two a b : List Owned) → one ≡ old ++ a → still ≡ one → two ≡ still ++ b → two ≡ old ++ (a ++ b)
both_apart old one still two a b first same second = both old one two a b first (second ∙ ap (λ v. v ++ b) same)
