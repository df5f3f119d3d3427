-- Statements of types alone, one after another, and the fields of a node by name.
use Rattle.std.proofs.Common.{◌≡◌, ◌∙◌, refl, sym, ap, ℕ, zero, suc, ◌+◌, ◌<◌, ◌≤◌, List, [], ◌∷◌, map, length, drop, get_or, arith, Bool, true, false, ◌&&◌, if◌then◌else◌, Option, None, Some}
use Rattle.std.specs.List.{position_from, slice_get}
use Rattle.std.specs.Str.{bytes_eq}
use Rattle.oxt_grammar.specs.Keys.{key_of}
use Rattle.oxt_grammar.specs.Field.{Field, row_view}
use Rattle.oxt_grammar.specs.Rows.{row_of}
use Rattle.oxt_grammar.specs.declared.holds.Row.{Row}
use Rattle.oxt_grammar.specs.declared.kind.Kind.{Kind}
use Rattle.oxt_names.proofs.Lists.{drop_at, drop_end}
use Rattle.oxt_tree.proofs.Places.{doc_at, named_at}
use Rattle.oxt_tree.specs.Doc.{Docs, no_docs, doc}
use Rattle.oxt_tree.specs.Fields.{at_name}
use Rattle.oxt_tree.specs.View.{docs_in, doc_of_part, part_doc}
use Rattle.oxt_tree.specs.declared.tree.Part.{Part}
use Rattle.oxt_declares.specs.TypesAlone.{all_of_types, field_of_types, is_of_types}

and_left : {b c d : Bool} → b ≡ (c && d) → c ≡ true → b ≡ d
and_left {b} {c} {d} e h = e ∙ ap (λ x. x && d) h

and_false : {b c : Bool} (d : Bool) → b ≡ (c && d) → c ≡ false → b ≡ false
and_false d e h = e ∙ ap (λ x. x && d) h

pub one_more : (whole : Bool) (ps : List Part) (i : ℕ) (p : Part) → i < length ps → p ≡ get_or ps i p → is_of_types (part_doc p) ≡ true → whole ≡ all_of_types (docs_in (drop i ps)) → whole ≡ all_of_types (docs_in (drop (i + 1) ps))
one_more whole ps i p within at is so_far = and_left (so_far ∙ ap (λ qs. all_of_types (docs_in qs)) (drop_at ps i p within at)) is

pub one_fails : (whole : Bool) (ps : List Part) (i : ℕ) (p : Part) → i < length ps → p ≡ get_or ps i p → is_of_types (part_doc p) ≡ false → whole ≡ all_of_types (docs_in (drop i ps)) → whole ≡ false
one_fails whole ps i p within at is so_far = and_false _ (so_far ∙ ap (λ qs. all_of_types (docs_in qs)) (drop_at ps i p within at)) is

pub no_more : (whole : Bool) (ps : List Part) (i : ℕ) → length ps ≤ i → whole ≡ all_of_types (docs_in (drop i ps)) → whole ≡ true
no_more whole ps i past so_far = so_far ∙ ap (λ qs. all_of_types (docs_in qs)) (drop_end ps i past)

of_types_named : (name : List ℕ) (rs : List Field) (ds : Docs) → field_of_types ds rs name ≡ is_of_types (at_name name rs ds)
of_types_named name [] no_docs = refl
of_types_named name [] (doc d ds) = refl
of_types_named name (r ∷ rs) no_docs = refl
of_types_named name (r ∷ rs) (doc d ds) = step (bytes_eq r.name name) (of_types_named name rs ds)
  where
    step : (b : Bool) → field_of_types ds rs name ≡ is_of_types (at_name name rs ds) → (if b then is_of_types d else field_of_types ds rs name) ≡ is_of_types (if b then d else at_name name rs ds)
    step true e = refl
    step false e = e

-- The field of that name stands at the place of its row.
field_at : (name : List ℕ) (k : Kind) (rs : List Row) (ps : List Part) (o : Option ℕ) → map row_view rs ≡ row_of k → o ≡ position_from (λ r. bytes_eq (key_of r.field) name) 0 rs → field_of_types (docs_in ps) (row_of k) name ≡ is_of_types (doc_at ps o)
field_at name k rs ps o rows place = of_types_named name (row_of k) (docs_in ps) ∙ ap is_of_types (sym (named_at name k rs ps o rows place))

slice_get_at : (ps : List Part) (i : ℕ) (p : Part) → i < length ps → p ≡ get_or ps i p → slice_get ps i ≡ Some p
slice_get_at [] i p within is = absurd (omega arith)
slice_get_at (q ∷ ps) zero p within is = ap (λ (r : Part). Some r) (sym is)
slice_get_at (q ∷ ps) (suc i) p within is = slice_get_at ps i p (omega arith) is

slice_get_past : (ps : List Part) (i : ℕ) → length ps ≤ i → slice_get ps i ≡ None
slice_get_past [] i past = refl
slice_get_past (q ∷ ps) zero past = absurd (omega arith)
slice_get_past (q ∷ ps) (suc i) past = slice_get_past ps i (omega arith)

-- a field whose row and part are there
pub field_some : (name : List ℕ) (k : Kind) (rs : List Row) (ps qs : List Part) (i : ℕ) (p : Part) → map row_view rs ≡ row_of k → Some i ≡ position_from (λ r. bytes_eq (key_of r.field) name) 0 rs → qs ≡ ps
    → i < length qs → p ≡ get_or qs i p → is_of_types (part_doc p) ≡ field_of_types (docs_in ps) (row_of k) name
field_some name k rs ps qs i p rows place same within is =
    sym (field_at name k rs ps (Some i) rows place ∙ ap (λ o. is_of_types (doc_of_part o)) (ap (λ xs. slice_get xs i) (sym same) ∙ slice_get_at qs i p within is))

-- a field whose part is not there
pub field_past : (name : List ℕ) (k : Kind) (rs : List Row) (ps qs : List Part) (i : ℕ) → map row_view rs ≡ row_of k → Some i ≡ position_from (λ r. bytes_eq (key_of r.field) name) 0 rs → qs ≡ ps
    → length qs ≤ i → false ≡ field_of_types (docs_in ps) (row_of k) name
field_past name k rs ps qs i rows place same past =
    sym (field_at name k rs ps (Some i) rows place ∙ ap (λ o. is_of_types (doc_of_part o)) (ap (λ xs. slice_get xs i) (sym same) ∙ slice_get_past qs i past))

-- a field whose row is not there
pub field_none : (name : List ℕ) (k : Kind) (rs : List Row) (ps : List Part) → map row_view rs ≡ row_of k → None ≡ position_from (λ r. bytes_eq (key_of r.field) name) 0 rs → false ≡ field_of_types (docs_in ps) (row_of k) name
field_none name k rs ps rows place = sym (field_at name k rs ps None rows place)
