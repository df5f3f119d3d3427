-- The field of a node that stands at a place.
use Rattle.std.proofs.Common.{◌≡◌, ◌∙◌, refl, sym, ap, ℕ, zero, suc, ◌<◌, ◌≤◌, List, [], ◌∷◌, map, length, get_or, arith, Bool, true, false, if◌then◌else◌, Option, None, Some}
use Rattle.std.specs.List.{position_from, slice_get}
use Rattle.std.specs.Str.{bytes_eq}
use Rattle.oxt_grammar.specs.Field.{Field, row_view}
use Rattle.oxt_grammar.specs.Keys.{key_of}
use Rattle.oxt_grammar.specs.Rows.{row_of}
use Rattle.oxt_grammar.specs.declared.holds.Row.{Row}
use Rattle.oxt_grammar.specs.declared.kind.Kind.{Kind}
use Rattle.oxt_metadata.specs.Joins.{object}
use Rattle.oxt_metadata.specs.Sights.{Seeing}
use Rattle.oxt_metadata.specs.Types.{field_joined, field_type, joined_in, type_of}
use Rattle.oxt_metadata.specs.declared.form.Join.{Join}
use Rattle.oxt_metadata.specs.declared.join.Joined.{Joined}
use Rattle.oxt_tree.proofs.Places.{doc_at, named_at}
use Rattle.oxt_tree.specs.Doc.{Docs, no_docs, doc}
use Rattle.oxt_tree.specs.Fields.{at_name}
use Rattle.oxt_tree.specs.View.{docs_in, doc_of_part, part_doc}
use Rattle.oxt_tree.specs.declared.tree.Part.{Part}

there : (ps : List Part) (i : ℕ) (p : Part) → i < length ps → p ≡ get_or ps i p → slice_get ps i ≡ Some p
there [] i p within is = absurd (omega arith)
there (q ∷ ps) zero p within is = ap (λ (r : Part). Some r) (sym is)
there (q ∷ ps) (suc i) p within is = there ps i p (omega arith) is

past_end : (ps : List Part) (i : ℕ) → length ps ≤ i → slice_get ps i ≡ None
past_end [] i past = refl
past_end (q ∷ ps) zero past = absurd (omega arith)
past_end (q ∷ ps) (suc i) past = past_end ps i (omega arith)

-- ---- types

type_named : (s : Seeing) (name : List ℕ) (rs : List Field) (ds : Docs) → field_type s ds rs name ≡ type_of s (at_name name rs ds)
type_named s name [] no_docs = refl
type_named s name [] (doc d ds) = refl
type_named s name (r ∷ rs) no_docs = refl
type_named s name (r ∷ rs) (doc d ds) = step (bytes_eq r.name name) (type_named s name rs ds)
  where
    step : (b : Bool) → field_type s ds rs name ≡ type_of s (at_name name rs ds) → (if b then type_of s d else field_type s ds rs name) ≡ type_of s (if b then d else at_name name rs ds)
    step true e = refl
    step false e = e

type_placed : (s : Seeing) (name : List ℕ) (k : Kind) (rs : List Row) (ps : List Part) (o : Option ℕ) → map row_view rs ≡ row_of k → o ≡ position_from (λ r. bytes_eq (key_of r.field) name) 0 rs
    → type_of s (doc_at ps o) ≡ field_type s (docs_in ps) (row_of k) name
type_placed s name k rs ps o rows place = sym (type_named s name (row_of k) (docs_in ps) ∙ ap (type_of s) (sym (named_at name k rs ps o rows place)))

pub type_there : (s : Seeing) (name : List ℕ) (k : Kind) (rs : List Row) (ps qs : List Part) (i : ℕ) (p : Part) → map row_view rs ≡ row_of k → Some i ≡ position_from (λ r. bytes_eq (key_of r.field) name) 0 rs → qs ≡ ps
    → i < length qs → p ≡ get_or qs i p → type_of s (part_doc p) ≡ field_type s (docs_in ps) (row_of k) name
type_there s name k rs ps qs i p rows place same within is =
    sym (ap (λ o. type_of s (doc_of_part o)) (ap (λ xs. slice_get xs i) (sym same) ∙ there qs i p within is)) ∙ type_placed s name k rs ps (Some i) rows place

pub type_past : (s : Seeing) (name : List ℕ) (k : Kind) (rs : List Row) (ps qs : List Part) (i : ℕ) → map row_view rs ≡ row_of k → Some i ≡ position_from (λ r. bytes_eq (key_of r.field) name) 0 rs → qs ≡ ps
    → length qs ≤ i → object ≡ field_type s (docs_in ps) (row_of k) name
type_past s name k rs ps qs i rows place same past =
    sym (ap (λ o. type_of s (doc_of_part o)) (ap (λ xs. slice_get xs i) (sym same) ∙ past_end qs i past)) ∙ type_placed s name k rs ps (Some i) rows place

pub type_none : (s : Seeing) (name : List ℕ) (k : Kind) (rs : List Row) (ps : List Part) → map row_view rs ≡ row_of k → None ≡ position_from (λ r. bytes_eq (key_of r.field) name) 0 rs → object ≡ field_type s (docs_in ps) (row_of k) name
type_none s name k rs ps rows place = type_placed s name k rs ps None rows place

pub ruleset type_steps = (type_there, type_past, type_none)

-- ---- members

joined_named : (s : Seeing) (name : List ℕ) (rs : List Field) (ds : Docs) (j : Join) (q : Joined) → field_joined s ds rs name j q ≡ joined_in s (at_name name rs ds) j q
joined_named s name [] no_docs j q = refl
joined_named s name [] (doc d ds) j q = refl
joined_named s name (r ∷ rs) no_docs j q = refl
joined_named s name (r ∷ rs) (doc d ds) j q = step (bytes_eq r.name name) (joined_named s name rs ds j q)
  where
    step : (b : Bool) → field_joined s ds rs name j q ≡ joined_in s (at_name name rs ds) j q → (if b then joined_in s d j q else field_joined s ds rs name j q) ≡ joined_in s (if b then d else at_name name rs ds) j q
    step true e = refl
    step false e = e

joined_placed : (s : Seeing) (name : List ℕ) (k : Kind) (rs : List Row) (ps : List Part) (o : Option ℕ) (j : Join) (q : Joined) → map row_view rs ≡ row_of k → o ≡ position_from (λ r. bytes_eq (key_of r.field) name) 0 rs
    → joined_in s (doc_at ps o) j q ≡ field_joined s (docs_in ps) (row_of k) name j q
joined_placed s name k rs ps o j q rows place = sym (joined_named s name (row_of k) (docs_in ps) j q ∙ ap (λ d. joined_in s d j q) (sym (named_at name k rs ps o rows place)))

pub joined_there : (s : Seeing) (name : List ℕ) (k : Kind) (rs : List Row) (ps qs : List Part) (i : ℕ) (p : Part) (j : Join) (q : Joined) → map row_view rs ≡ row_of k → Some i ≡ position_from (λ r. bytes_eq (key_of r.field) name) 0 rs → qs ≡ ps
    → i < length qs → p ≡ get_or qs i p → joined_in s (part_doc p) j q ≡ field_joined s (docs_in ps) (row_of k) name j q
joined_there s name k rs ps qs i p j q rows place same within is =
    sym (ap (λ o. joined_in s (doc_of_part o) j q) (ap (λ xs. slice_get xs i) (sym same) ∙ there qs i p within is)) ∙ joined_placed s name k rs ps (Some i) j q rows place

pub joined_past : (s : Seeing) (name : List ℕ) (k : Kind) (rs : List Row) (ps qs : List Part) (i : ℕ) (j : Join) (q : Joined) → map row_view rs ≡ row_of k → Some i ≡ position_from (λ r. bytes_eq (key_of r.field) name) 0 rs → qs ≡ ps
    → length qs ≤ i → q ≡ field_joined s (docs_in ps) (row_of k) name j q
joined_past s name k rs ps qs i j q rows place same past =
    sym (ap (λ o. joined_in s (doc_of_part o) j q) (ap (λ xs. slice_get xs i) (sym same) ∙ past_end qs i past)) ∙ joined_placed s name k rs ps (Some i) j q rows place

pub joined_none : (s : Seeing) (name : List ℕ) (k : Kind) (rs : List Row) (ps : List Part) (j : Join) (q : Joined) → map row_view rs ≡ row_of k → None ≡ position_from (λ r. bytes_eq (key_of r.field) name) 0 rs → q ≡ field_joined s (docs_in ps) (row_of k) name j q
joined_none s name k rs ps j q rows place = joined_placed s name k rs ps None j q rows place

pub ruleset joined_steps = (joined_there, joined_past, joined_none)
