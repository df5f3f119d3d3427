-- Fields by their places, and the two loops of the writer: what is written, and what is left.
use Rattle.std.proofs.Common.{◌≡◌, refl, sym, ap, ap₂, ℕ, zero, suc, ◌<◌, ◌≤◌, List, [], ◌∷◌, None, map, length, drop, get_or, arith}
use Rattle.oxt_grammar.specs.Field.{Field, row_view}
use Rattle.oxt_grammar.specs.Keys.{key_of}
use Rattle.oxt_grammar.specs.declared.holds.Row.{Row}
use Rattle.oxt_json.specs.Slots.{name_at, written, field_data}
use Rattle.oxt_json.specs.Spelled.{each_data}
use Rattle.oxt_tree.specs.Doc.{Docs, no_docs, doc}
use Rattle.oxt_tree.specs.View.{docs_in, part_doc}
use Rattle.oxt_tree.specs.declared.tree.Part.{Part}
use Rattle.serde_json.specs.Data.{Items}
use Rattle.serde_json.specs.View.{items_of}

-- ---- the field at a place

pub field_here : (rows : List Row) (parts : List Part) (i : ℕ) (r : Row) (p : Part) → i < length rows → i < length parts → r ≡ get_or rows i r → p ≡ get_or parts i p
    → field_data i (map row_view rows) (docs_in parts) ≡ written (row_view r) (part_doc p)
field_here [] parts i r p within within_parts is_row is_part = absurd (omega arith)
field_here (s ∷ rows) [] i r p within within_parts is_row is_part = absurd (omega arith)
field_here (s ∷ rows) (q ∷ parts) zero r p within within_parts is_row is_part = ap₂ (λ (a : Row) (b : Part). written (row_view a) (part_doc b)) (sym is_row) (sym is_part)
field_here (s ∷ rows) (q ∷ parts) (suc i) r p within within_parts is_row is_part = field_here rows parts i r p (omega arith) (omega arith) is_row is_part

pub name_here : (rows : List Row) (i : ℕ) (r : Row) → i < length rows → r ≡ get_or rows i r → name_at i (map row_view rows) ≡ key_of r.field
name_here [] i r within is = absurd (omega arith)
name_here (s ∷ rows) zero r within is = ap (λ (a : Row). key_of a.field) (sym is)
name_here (s ∷ rows) (suc i) r within is = name_here rows i r (omega arith) is

pub no_row : (rows : List Row) (i : ℕ) (ds : Docs) → length rows ≤ i → field_data i (map row_view rows) ds ≡ None
no_row [] i ds past = refl
no_row (s ∷ rows) zero ds past = absurd (omega arith)
no_row (s ∷ rows) (suc i) no_docs past = refl
no_row (s ∷ rows) (suc i) (doc d ds) past = no_row rows i ds (omega arith)

pub no_part : (rs : List Field) (i : ℕ) (parts : List Part) → length parts ≤ i → field_data i rs (docs_in parts) ≡ None
no_part [] i parts past = refl
no_part (r ∷ rs) i [] past = refl
no_part (r ∷ rs) zero (p ∷ parts) past = absurd (omega arith)
no_part (r ∷ rs) (suc i) (p ∷ parts) past = no_part rs i parts (omega arith)

-- ---- the items of an array

-- the data of the parts from a place on
abbrev pub items_from : ℕ → List Part → Items
items_from i parts = items_of (each_data (docs_in (drop i parts)))
