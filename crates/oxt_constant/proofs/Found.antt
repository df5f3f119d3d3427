-- The field of that name stands at the place of its row.
use Rattle.std.proofs.Common.{◌≡◌, ◌∙◌, refl, sym, ap, ℕ, zero, suc, ◌<◌, ◌≤◌, List, [], ◌∷◌, map, length, get_or, arith, Bool, true, false, if◌then◌else◌, Option, None, Some}
use Rattle.std.specs.List.{position_from, slice_get}
use Rattle.std.specs.Str.{bytes_eq}
use Rattle.oxt_grammar.specs.Keys.{key_of}
use Rattle.oxt_constant.specs.Evaluated.{Env, seen, field_seen, nothing_seen}
use Rattle.oxt_grammar.specs.Field.{Field, row_view}
use Rattle.oxt_grammar.specs.Rows.{row_of}
use Rattle.oxt_grammar.specs.declared.holds.Row.{Row}
use Rattle.oxt_grammar.specs.declared.kind.Kind.{Kind}
use Rattle.oxt_tree.proofs.Places.{doc_at, named_at}
use Rattle.oxt_tree.specs.Doc.{Docs, no_docs, doc}
use Rattle.oxt_tree.specs.Fields.{at_name}
use Rattle.oxt_tree.specs.View.{docs_in, doc_of_part, part_doc}
use Rattle.oxt_tree.specs.declared.tree.Part.{Part}

seen_named : (env : Env) (name : List ℕ) (rs : List Field) (ds : Docs) → field_seen env ds rs name ≡ seen env (at_name name rs ds)
seen_named env name [] no_docs = refl
seen_named env name [] (doc d ds) = refl
seen_named env name (r ∷ rs) no_docs = refl
seen_named env name (r ∷ rs) (doc d ds) = step (bytes_eq r.name name) (seen_named env name rs ds)
  where
    step : (b : Bool) → field_seen env ds rs name ≡ seen env (at_name name rs ds) → (if b then seen env d else field_seen env ds rs name) ≡ seen env (if b then d else at_name name rs ds)
    step true e = refl
    step false e = e

field_at : (env : Env) (name : List ℕ) (k : Kind) (rs : List Row) (ps : List Part) (o : Option ℕ) → map row_view rs ≡ row_of k → o ≡ position_from (λ r. bytes_eq (key_of r.field) name) 0 rs → field_seen env (docs_in ps) (row_of k) name ≡ seen env (doc_at ps o)
field_at env name k rs ps o rows place = seen_named env name (row_of k) (docs_in ps) ∙ ap (seen env) (sym (named_at name k rs ps o rows place))

slice_get_at : (ps : List Part) (i : ℕ) (p : Part) → i < length ps → p ≡ get_or ps i p → slice_get ps i ≡ Some p
slice_get_at [] i p within is = absurd (omega arith)
slice_get_at (q ∷ ps) zero p within is = ap (λ (r : Part). Some r) (sym is)
slice_get_at (q ∷ ps) (suc i) p within is = slice_get_at ps i p (omega arith) is

slice_get_past : (ps : List Part) (i : ℕ) → length ps ≤ i → slice_get ps i ≡ None
slice_get_past [] i past = refl
slice_get_past (q ∷ ps) zero past = absurd (omega arith)
slice_get_past (q ∷ ps) (suc i) past = slice_get_past ps i (omega arith)

-- a field whose row and part are there
pub field_some : (env : Env) (name : List ℕ) (k : Kind) (rs : List Row) (ps qs : List Part) (i : ℕ) (p : Part) → map row_view rs ≡ row_of k → Some i ≡ position_from (λ r. bytes_eq (key_of r.field) name) 0 rs → qs ≡ ps
    → i < length qs → p ≡ get_or qs i p → seen env (part_doc p) ≡ field_seen env (docs_in ps) (row_of k) name
field_some env name k rs ps qs i p rows place same within is =
    sym (field_at env name k rs ps (Some i) rows place ∙ ap (λ o. seen env (doc_of_part o)) (ap (λ xs. slice_get xs i) (sym same) ∙ slice_get_at qs i p within is))

-- a field whose part is not there
pub field_past : (env : Env) (name : List ℕ) (k : Kind) (rs : List Row) (ps qs : List Part) (i : ℕ) → map row_view rs ≡ row_of k → Some i ≡ position_from (λ r. bytes_eq (key_of r.field) name) 0 rs → qs ≡ ps
    → length qs ≤ i → nothing_seen ≡ field_seen env (docs_in ps) (row_of k) name
field_past env name k rs ps qs i rows place same past =
    sym (field_at env name k rs ps (Some i) rows place ∙ ap (λ o. seen env (doc_of_part o)) (ap (λ xs. slice_get xs i) (sym same) ∙ slice_get_past qs i past))

-- a field whose row is not there
pub field_none : (env : Env) (name : List ℕ) (k : Kind) (rs : List Row) (ps : List Part) → map row_view rs ≡ row_of k → None ≡ position_from (λ r. bytes_eq (key_of r.field) name) 0 rs → nothing_seen ≡ field_seen env (docs_in ps) (row_of k) name
field_none env name k rs ps rows place = sym (field_at env name k rs ps None rows place)
