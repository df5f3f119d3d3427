-- A part changed in its place is a document changed in its place.
use Rattle.std.proofs.Common.{◌≡◌, ℕ, zero, suc, ◌<◌, ◌≤◌, List, [], ◌∷◌, length, get_or, map, Option, None, Some, refl, ap, sym, ◌∙◌, arith}
use Rattle.std.proofs.Math.ListN.{set}
use Rattle.std.specs.List.{position_from}
use Rattle.std.specs.Str.{bytes_eq}
use Rattle.oxt_grammar.specs.Keys.{key_of}
use Rattle.oxt_rewrite.specs.Places.{changed_at, changed_in, changed_where}
use Rattle.oxt_grammar.specs.Field.{row_view}
use Rattle.oxt_grammar.specs.Rows.{row_of}
use Rattle.oxt_grammar.specs.declared.holds.Row.{Row}
use Rattle.oxt_grammar.specs.declared.kind.Kind.{Kind}
use Rattle.oxt_tree.proofs.Places.{position_from_map}
use Rattle.oxt_tree.specs.Doc.{Doc, doc}
use Rattle.oxt_tree.specs.View.{docs_in, part_doc}
use Rattle.oxt_tree.specs.declared.tree.Part.{Part}

set_changed : (f : Doc → Doc) (n : ℕ) (ps : List Part) (q d : Part) → n < length ps → part_doc q ≡ f (part_doc (get_or ps n d)) → docs_in (set ps n q) ≡ changed_at n f (docs_in ps)
set_changed f n [] q d h e = absurd (omega arith)
set_changed f zero (p ∷ ps) q d h e = ap (λ x. doc x (docs_in ps)) e
set_changed f (suc n) (p ∷ ps) q d h e = ap (doc (part_doc p)) (set_changed f n ps q d (omega arith) e)

none_changed : (f : Doc → Doc) (n : ℕ) (ps : List Part) → length ps ≤ n → docs_in ps ≡ changed_at n f (docs_in ps)
none_changed f n [] h = refl
none_changed f zero (p ∷ ps) h = absurd (omega arith)
none_changed f (suc n) (p ∷ ps) h = ap (doc (part_doc p)) (none_changed f n ps (omega arith))

-- the place of a row, as the program finds it
place_same : (name : List ℕ) (k : Kind) (rs : List Row) (o : Option ℕ) → map row_view rs ≡ row_of k → o ≡ position_from (λ r. bytes_eq (key_of r.field) name) 0 rs → o ≡ position_from (λ r. bytes_eq r.name name) 0 (row_of k)
place_same name k rs o rows place = place ∙ (sym (position_from_map (λ r. bytes_eq r.name name) row_view 0 rs) ∙ ap (position_from (λ r. bytes_eq r.name name) 0) rows)

-- the field of that name was changed
pub field_changed : (f : Doc → Doc) (name : List ℕ) (k : Kind) (rs : List Row) (o : Option ℕ) (n : ℕ) (ps : List Part) (q p : Part) → map row_view rs ≡ row_of k → o ≡ position_from (λ r. bytes_eq (key_of r.field) name) 0 rs → o ≡ Some n → n < length ps → p ≡ get_or ps n p → part_doc q ≡ f (part_doc p) → docs_in (set ps n q) ≡ changed_in name f k (docs_in ps)
field_changed f name k rs o n ps q p rows place is h here e =
    set_changed f n ps q p h (e ∙ ap (λ x. f (part_doc x)) here)
    ∙ ap (λ w. changed_where w f (docs_in ps)) (sym is ∙ place_same name k rs o rows place)

-- there is no part in its place
pub field_beyond : (f : Doc → Doc) (name : List ℕ) (k : Kind) (rs : List Row) (o : Option ℕ) (n : ℕ) (ps : List Part) → map row_view rs ≡ row_of k → o ≡ position_from (λ r. bytes_eq (key_of r.field) name) 0 rs → o ≡ Some n → length ps ≤ n → docs_in ps ≡ changed_in name f k (docs_in ps)
field_beyond f name k rs o n ps rows place is h =
    none_changed f n ps h
    ∙ ap (λ w. changed_where w f (docs_in ps)) (sym is ∙ place_same name k rs o rows place)

-- there is no field of that name
pub field_missing : (f : Doc → Doc) (name : List ℕ) (k : Kind) (rs : List Row) (o : Option ℕ) (ps : List Part) → map row_view rs ≡ row_of k → o ≡ position_from (λ r. bytes_eq (key_of r.field) name) 0 rs → o ≡ None → docs_in ps ≡ changed_in name f k (docs_in ps)
field_missing f name k rs o ps rows place is = ap (λ w. changed_where w f (docs_in ps)) (sym is ∙ place_same name k rs o rows place)
