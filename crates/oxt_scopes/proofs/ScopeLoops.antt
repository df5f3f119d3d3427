-- Scopes, a part at a time.
use Rattle.std.proofs.Common.{◌≡◌, ◌∙◌, refl, sym, ap, ℕ, ◌+◌, ◌<◌, ◌≤◌, List, [], ◌∷◌, ◌++◌, map, length, drop, get_or, append_assoc, append-nil}
use Rattle.oxt_grammar.specs.Keys.{key_of}
use Rattle.oxt_grammar.specs.Field.{row_view}
use Rattle.oxt_grammar.specs.Rows.{row_of}
use Rattle.oxt_grammar.specs.declared.holds.Row.{Row}
use Rattle.oxt_grammar.specs.declared.kind.Kind.{Kind}
use Rattle.oxt_names.proofs.Lists.{drop_at, drop_end}
use Rattle.oxt_tree.specs.View.{docs_in, part_doc}
use Rattle.oxt_tree.specs.declared.tree.Part.{Part}
use Rattle.oxt_scopes.specs.declared.standing.Standing.{Standing}
use Rattle.oxt_scopes.specs.Nestings.{Opened, each_scopes, field_scopes, scopes, read_scopes}
use Rattle.oxt_scopes.specs.Ways.{way_of}
use Rattle.oxt_scopes.specs.declared.way.Reading.{Reading}
use Rattle.oxt_scopes.specs.declared.way.Way.{Way}

pub each_end : (before : List Opened) (w : Way) (st : Standing) (ls : List ℕ) (ps : List Part) (i : ℕ) → length ps ≤ i → before ++ each_scopes (docs_in (drop i ps)) w st ls ≡ before
each_end before w st ls ps i h = ap (λ qs. before ++ each_scopes (docs_in qs) w st ls) (drop_end ps i h) ∙ append-nil before

pub each_next : (before after : List Opened) (w : Way) (st : Standing) (now ls : List ℕ) (ps : List Part) (i : ℕ) (p : Part) → i < length ps → p ≡ get_or ps i p → now ≡ ls → after ≡ before ++ scopes (part_doc p) w st now
    → before ++ each_scopes (docs_in (drop i ps)) w st ls ≡ after ++ each_scopes (docs_in (drop (i + 1) ps)) w st ls
each_next before after w st now ls ps i p h e same pushed =
    ap (λ qs. before ++ each_scopes (docs_in qs) w st ls) (drop_at ps i p h e)
    ∙ sym (append_assoc before (scopes (part_doc p) w st ls) (each_scopes (docs_in (drop (i + 1) ps)) w st ls))
    ∙ ap (λ os. os ++ each_scopes (docs_in (drop (i + 1) ps)) w st ls) (ap (λ ks. before ++ scopes (part_doc p) w st ks) (sym same) ∙ sym pushed)

no_fields : (ps : List Part) (r : Reading) (st : Standing) (ls : List ℕ) → field_scopes (docs_in ps) (map row_view []) r st ls ≡ []
no_fields [] r st ls = refl
no_fields (p ∷ ps) r st ls = refl

pub fields_end : (before : List Opened) (ps : List Part) (rs : List Row) (r : Reading) (st : Standing) (ls : List ℕ) (i : ℕ) → length ps ≤ i → before ++ field_scopes (docs_in (drop i ps)) (map row_view (drop i rs)) r st ls ≡ before
fields_end before ps rs r st ls i h = ap (λ qs. before ++ field_scopes (docs_in qs) (map row_view (drop i rs)) r st ls) (drop_end ps i h) ∙ append-nil before

pub fields_short : (before : List Opened) (ps : List Part) (rs : List Row) (r : Reading) (st : Standing) (ls : List ℕ) (i : ℕ) → length rs ≤ i → before ++ field_scopes (docs_in (drop i ps)) (map row_view (drop i rs)) r st ls ≡ before
fields_short before ps rs r st ls i h =
    ap (λ qs. before ++ field_scopes (docs_in (drop i ps)) (map row_view qs) r st ls) (drop_end rs i h) ∙ ap (λ os. before ++ os) (no_fields (drop i ps) r st ls) ∙ append-nil before

pub fields_next : (before after : List Opened) (ps : List Part) (rs : List Row) (r : Reading) (st : Standing) (now ls : List ℕ) (i : ℕ) (p : Part) (f : Row) → i < length ps → p ≡ get_or ps i p → i < length rs → f ≡ get_or rs i f → now ≡ ls
    → after ≡ before ++ read_scopes (way_of r (key_of f.field)) (scopes (part_doc p)) st now
    → before ++ field_scopes (docs_in (drop i ps)) (map row_view (drop i rs)) r st ls ≡ after ++ field_scopes (docs_in (drop (i + 1) ps)) (map row_view (drop (i + 1) rs)) r st ls
fields_next before after ps rs r st now ls i p f h e k g same pushed =
    ap (λ qs. before ++ field_scopes (docs_in qs) (map row_view (drop i rs)) r st ls) (drop_at ps i p h e)
    ∙ ap (λ qs. before ++ field_scopes (docs_in (p ∷ drop (i + 1) ps)) (map row_view qs) r st ls) (drop_at rs i f k g)
    ∙ sym (append_assoc before (read_scopes (way_of r (key_of f.field)) (scopes (part_doc p)) st ls) (field_scopes (docs_in (drop (i + 1) ps)) (map row_view (drop (i + 1) rs)) r st ls))
    ∙ ap (λ os. os ++ field_scopes (docs_in (drop (i + 1) ps)) (map row_view (drop (i + 1) rs)) r st ls) (ap (λ ks. before ++ read_scopes (way_of r (key_of f.field)) (scopes (part_doc p)) st ks) (sym same) ∙ sym pushed)

pub ruleset each_steps = (each_next, each_end)

pub ruleset field_steps = (fields_next, fields_end, fields_short)

-- the fields by the rows of the kind
pub fields_as : (old : List Opened) (ps qs : List Part) (rs : List Row) (k : Kind) (r s : Reading) (st : Standing) (ls ks : List ℕ) → ps ≡ qs → map row_view rs ≡ row_of k → r ≡ s → ls ≡ ks → old ++ field_scopes (docs_in ps) (map row_view rs) r st ls ≡ old ++ field_scopes (docs_in qs) (row_of k) s st ks
fields_as old ps qs rs k r s st ls ks parts rows same levels =
    ap (λ xs. old ++ field_scopes (docs_in xs) (map row_view rs) r st ls) parts ∙ ap (λ fs. old ++ field_scopes (docs_in qs) fs r st ls) rows ∙ ap (λ x. old ++ field_scopes (docs_in qs) (row_of k) x st ls) same ∙ ap (λ x. old ++ field_scopes (docs_in qs) (row_of k) s st x) levels
