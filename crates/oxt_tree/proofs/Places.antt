-- The place of a field among the parts of its node.
use Rattle.std.proofs.Common.{ℕ, suc, ◌+◌, ◌≡◌, refl, sym, ◌∙◌, ap, List, [], ◌∷◌, map, Bool, true, false, Option, None, Some, option_map, cond, add-one}
use Rattle.std.specs.List.{position_from, slice_get}
use Rattle.std.specs.Str.{bytes_eq}
use Rattle.oxt_grammar.specs.Keys.{key_of}
use Rattle.oxt_grammar.specs.Field.{Field, row_view}
use Rattle.oxt_grammar.specs.Rows.{row_of}
use Rattle.oxt_grammar.specs.declared.holds.Row.{Row}
use Rattle.oxt_grammar.specs.declared.kind.Kind.{Kind}
use Rattle.oxt_tree.specs.Doc.{Doc, nil}
use Rattle.oxt_tree.specs.Fields.{at_name, named}
use Rattle.oxt_tree.specs.View.{docs_in, part_doc, doc_of_part, part_named}
use Rattle.oxt_tree.specs.declared.tree.Node.{Node}
use Rattle.oxt_tree.specs.declared.tree.Part.{Part}

-- the document at what may be a place
abbrev pub doc_at : List Part → Option ℕ → Doc
doc_at ps None = nil
doc_at ps (Some i) = doc_of_part (slice_get ps i)

pub position_from_suc : {A : Type 0} (t : A → Bool) (i : ℕ) (xs : List A) → position_from t (suc i) xs ≡ option_map (λ n. suc n) (position_from t i xs)
position_from_suc t i [] = refl
position_from_suc t i (x ∷ xs) = step (t x) (rw (add-one, add-one) (position_from_suc t (suc i) xs))
  where
    step : (b : Bool) → position_from t (suc i + 1) xs ≡ option_map (λ n. suc n) (position_from t (i + 1) xs) → cond b (Some (suc i)) (position_from t (suc i + 1) xs) ≡ option_map (λ n. suc n) (cond b (Some i) (position_from t (i + 1) xs))
    step true e = refl
    step false e = e

doc_at_suc : (p : Part) (ps : List Part) (o : Option ℕ) → doc_at ps o ≡ doc_at (p ∷ ps) (option_map (λ n. suc n) o)
doc_at_suc p ps None = refl
doc_at_suc p ps (Some i) = refl

doc_at_none : (o : Option ℕ) → nil ≡ doc_at [] o
doc_at_none None = refl
doc_at_none (Some i) = refl

pub position_from_map : {A B : Type 0} (t : B → Bool) (f : A → B) (i : ℕ) (xs : List A) → position_from t i (map f xs) ≡ position_from (λ x. t (f x)) i xs
position_from_map t f i [] = refl
position_from_map t f i (x ∷ xs) = ap (cond (t (f x)) (Some i)) (position_from_map t f (i + 1) xs)

-- The field of that name stands at the place of its row.
pub at_name_position : (name : List ℕ) (rs : List Field) (ps : List Part) → at_name name rs (docs_in ps) ≡ doc_at ps (position_from (λ r. bytes_eq r.name name) 0 rs)
at_name_position name [] ps = refl
at_name_position name (r ∷ rs) [] = doc_at_none (position_from (λ r. bytes_eq r.name name) 0 (r ∷ rs))
at_name_position name (r ∷ rs) (p ∷ ps) = step (bytes_eq r.name name) (at_name_position name rs ps ∙ doc_at_suc p ps (position_from (λ r. bytes_eq r.name name) 0 rs) ∙ ap (doc_at (p ∷ ps)) (sym (position_from_suc (λ r. bytes_eq r.name name) 0 rs)))
  where
    step : (b : Bool) → at_name name rs (docs_in ps) ≡ doc_at (p ∷ ps) (position_from (λ r. bytes_eq r.name name) 1 rs) → cond b (part_doc p) (at_name name rs (docs_in ps)) ≡ doc_at (p ∷ ps) (cond b (Some 0) (position_from (λ r. bytes_eq r.name name) 1 rs))
    step true e = refl
    step false e = e

-- The same, by the rows that the program has of a kind.
pub named_at : (name : List ℕ) (k : Kind) (rs : List Row) (ps : List Part) (o : Option ℕ) → map row_view rs ≡ row_of k → o ≡ position_from (λ r. bytes_eq (key_of r.field) name) 0 rs → doc_at ps o ≡ named name k (docs_in ps)
named_at name k rs ps o rows place =
    ap (doc_at ps) (place ∙ sym (position_from_map (λ r. bytes_eq r.name name) row_view 0 rs))
    ∙ sym (at_name_position name (map row_view rs) ps)
    ∙ ap (λ fs. at_name name fs (docs_in ps)) rows

-- the names of the fields of a kind
unfoldable pub names_of : Kind → List (List ℕ)
names_of k = map (λ r. r.name) (row_of k)

-- The same, where the place is known.
pub named_place : (name : List ℕ) (k : Kind) (i : ℕ) (n : Node) (d : Doc) (names : List (List ℕ)) → d ≡ doc_of_part (slice_get n.parts.items i) → names_of k ≡ names → position_from (λ m. bytes_eq m name) 0 names ≡ Some i → d ≡ part_named name k n
unfolding names_of
named_place name k i n d names at rows place =
    at
    ∙ ap (doc_at n.parts.items) (sym place ∙ ap (position_from (λ m. bytes_eq m name) 0) (sym rows) ∙ position_from_map (λ m. bytes_eq m name) (λ (r : Field). r.name) 0 (row_of k))
    ∙ sym (at_name_position name (row_of k) n.parts.items)
