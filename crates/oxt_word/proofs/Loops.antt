-- The loops of the word: what is put, and what is left.
use Rattle.std.proofs.Common.{◌≡◌, ◌∙◌, refl, sym, ap, ℕ, zero, suc, ◌+◌, ◌<◌, ◌≤◌, List, [], ◌∷◌, ◌++◌, map, length, drop, get_or, append_assoc, append-nil, arith, Bool, true, false, if◌then◌else◌, nat_lt, length-drop, ◌-◌, Option, None, Some}
use Rattle.std.proofs.lemmas.Bool.Decides.{nat_tests}
use Rattle.std.specs.List.{position_from, slice_get}
use Rattle.std.specs.Str.{bytes_eq}
use Rattle.oxt_grammar.specs.Keys.{key_of}
use Rattle.oxt_facts.specs.Facts.{Known}
use Rattle.oxt_grammar.specs.Rows.{row_of}
use Rattle.oxt_grammar.specs.declared.kind.Kind.{Kind}
use Rattle.oxt_grammar.specs.Field.{Field, row_view}
use Rattle.oxt_grammar.specs.declared.holds.Row.{Row}
use Rattle.oxt_names.proofs.Lists.{drop_at, drop_end}
use Rattle.oxt_tree.proofs.Places.{doc_at, named_at}
use Rattle.oxt_tree.specs.Doc.{Docs, no_docs, doc}
use Rattle.oxt_tree.specs.Fields.{at_name}
use Rattle.oxt_tree.specs.View.{docs_in, doc_of_part, part_doc}
use Rattle.oxt_tree.specs.declared.tree.Part.{Part}
use Rattle.oxt_forms.proofs.Details.{row_at}
use Rattle.oxt_facts.specs.Entry.{Entry, lone}
use Rattle.oxt_forms.specs.Details.{is_read}
use Rattle.oxt_forms.specs.Leaves.{dropped}
use Rattle.oxt_items.specs.Read.{takes}
use Rattle.oxt_word.specs.Word.{said, each_said, turns_said, last_said, some_said, fields_said, field_said}
use Rattle.oxt_facts.specs.declared.item.ItemKind.TheVariants as item
use Rattle.oxt_items.specs.declared.way.Way.{Way}
use Rattle.oxt_items.specs.declared.way.Way.TheVariants as way

regroup : (whole old a rest : List Entry) → whole ≡ old ++ (a ++ rest) → whole ≡ (old ++ a) ++ rest
regroup whole old a rest h = h ∙ sym (append_assoc old a rest)

pub one_more : (f : Known) (whole : List Entry) (ps : List Part) (i : ℕ) (p : Part) (w : Way) (old new : List Entry) → i < length ps → p ≡ get_or ps i p → new ≡ old ++ said f (part_doc p) w
    → whole ≡ old ++ each_said f (docs_in (drop i ps)) w → whole ≡ new ++ each_said f (docs_in (drop (i + 1) ps)) w
one_more f whole ps i p w old new within at is so_far =
    regroup whole old (said f (part_doc p) w) _ (so_far ∙ ap (λ qs. old ++ each_said f (docs_in qs) w) (drop_at ps i p within at)) ∙ ap (λ v. v ++ each_said f (docs_in (drop (i + 1) ps)) w) (sym is)

pub no_more : (f : Known) (whole : List Entry) (ps : List Part) (i : ℕ) (w : Way) (old : List Entry) → length ps ≤ i → whole ≡ old ++ each_said f (docs_in (drop i ps)) w → old ≡ whole
no_more f whole ps i w old past so_far = sym (so_far ∙ ap (λ qs. old ++ each_said f (docs_in qs) w) (drop_end ps i past) ∙ append-nil old)

-- a turn of a list of which that is left
abbrev pub turn_word : Known → Part → Bool → Way → List Entry
turn_word f p is_dropped w = if is_dropped then dropped (said f (part_doc p) way.Whole) else said f (part_doc p) w

turn_at : (f : Known) (p : Part) (ps : List Part) (b : Bool) (w : Way) → b ≡ nat_lt 0 (length ps) → turns_said f (docs_in (p ∷ ps)) w ≡ turn_word f p b w ++ turns_said f (docs_in ps) w
turn_at f p [] b w e = ap (λ c. turn_word f p c w ++ []) (sym e)
turn_at f p (q ∷ ps) b w e = ap (λ c. turn_word f p c w ++ turns_said f (docs_in (q ∷ ps)) w) (sym (e ∙ positive (length ps)))
  where
    positive : (n : ℕ) → nat_lt 0 (suc n) ≡ true
    positive n = grind (arith, nat_tests)

left_over : (ps : List Part) (i : ℕ) → i < length ps → nat_lt (i + 1) (length ps) ≡ nat_lt 0 (length (drop (i + 1) ps))
left_over ps i h = step (length ps) (length (drop (i + 1) ps)) (length-drop (i + 1) ps)
  where
    step : (n m : ℕ) → m ≡ n - (i + 1) → nat_lt (i + 1) n ≡ nat_lt 0 m
    step n m e = grind (arith, nat_tests)

pub one_turn : (f : Known) (whole : List Entry) (ps : List Part) (i : ℕ) (p : Part) (b : Bool) (w : Way) (old new : List Entry) → i < length ps → p ≡ get_or ps i p → b ≡ nat_lt (i + 1) (length ps) → new ≡ old ++ turn_word f p b w
    → whole ≡ old ++ turns_said f (docs_in (drop i ps)) w → whole ≡ new ++ turns_said f (docs_in (drop (i + 1) ps)) w
one_turn f whole ps i p b w old new within at last is so_far =
    regroup whole old (turn_word f p b w) _ (so_far ∙ ap (λ qs. old ++ turns_said f (docs_in qs) w) (drop_at ps i p within at) ∙ ap (λ v. old ++ v) (turn_at f p (drop (i + 1) ps) b w (last ∙ left_over ps i within)))
    ∙ ap (λ v. v ++ turns_said f (docs_in (drop (i + 1) ps)) w) (sym is)

pub no_turn : (f : Known) (whole : List Entry) (ps : List Part) (i : ℕ) (w : Way) (old : List Entry) → length ps ≤ i → whole ≡ old ++ turns_said f (docs_in (drop i ps)) w → old ≡ whole
no_turn f whole ps i w old past so_far = sym (so_far ∙ ap (λ qs. old ++ turns_said f (docs_in qs) w) (drop_end ps i past) ∙ append-nil old)

-- The last of a list is all that is said of it.
pub last_of : (f : Known) (ps : List Part) (i : ℕ) (p : Part) (w : Way) → length ps ≡ i + 1 → p ≡ get_or ps i p → last_said f (docs_in ps) w ≡ said f (part_doc p) w
last_of f [] i p w long at = absurd (omega arith)
last_of f (q ∷ []) i p w long at = single i long at
  where
    single : (j : ℕ) → 1 ≡ j + 1 → p ≡ get_or (q ∷ []) j p → last_said f (docs_in (q ∷ [])) w ≡ said f (part_doc p) w
    single zero l e = append-nil (said f (part_doc q) w) ∙ ap (λ (r : Part). said f (part_doc r) w) (sym e)
    single (suc j) l e = absurd (omega arith)
last_of f (q ∷ r ∷ ps) zero p w long at = absurd (omega arith)
last_of f (q ∷ r ∷ ps) (suc i) p w long at = last_of f (r ∷ ps) i p w (omega arith) at

-- an element of a list, if it is taken
abbrev pub taken_word : Known → Part → Bool → List Entry
taken_word f p b = if b then said f (part_doc p) way.Whole else []

pub one_taken : (f : Known) (whole : List Entry) (ps : List Part) (i : ℕ) (p : Part) (b : Bool) (w : Way) (old new : List Entry) → i < length ps → p ≡ get_or ps i p → b ≡ takes w i → new ≡ old ++ taken_word f p b
    → whole ≡ old ++ some_said f (docs_in (drop i ps)) i w → whole ≡ new ++ some_said f (docs_in (drop (i + 1) ps)) (i + 1) w
one_taken f whole ps i p b w old new within at chosen is so_far =
    regroup whole old (taken_word f p b) _ (so_far ∙ ap (λ qs. old ++ some_said f (docs_in qs) i w) (drop_at ps i p within at) ∙ ap (λ c. old ++ (taken_word f p c ++ some_said f (docs_in (drop (i + 1) ps)) (i + 1) w)) (sym chosen))
    ∙ ap (λ v. v ++ some_said f (docs_in (drop (i + 1) ps)) (i + 1) w) (sym is)

pub no_taken : (f : Known) (whole : List Entry) (ps : List Part) (i : ℕ) (w : Way) (old : List Entry) → length ps ≤ i → whole ≡ old ++ some_said f (docs_in (drop i ps)) i w → old ≡ whole
no_taken f whole ps i w old past so_far = sym (so_far ∙ ap (λ qs. old ++ some_said f (docs_in qs) i w) (drop_end ps i past) ∙ append-nil old)

-- the fields from a place on
abbrev pub fields_from : Known → ℕ → List Row → List Part → Way → List Entry
fields_from f i rows parts w = fields_said f (docs_in (drop i parts)) (map row_view (drop i rows)) w

pub field_more : (f : Known) (whole : List Entry) (rows : List Row) (parts : List Part) (i : ℕ) (r : Row) (p : Part) (w : Way) (old new : List Entry) → i < length rows → i < length parts → p ≡ get_or parts i p
    → new ≡ old ++ (if is_read (row_view (get_or rows i r)) then said f (part_doc p) w else []) → whole ≡ old ++ fields_from f i rows parts w → whole ≡ new ++ fields_from f (i + 1) rows parts w
field_more f whole rows parts i r p w old new within within_parts at is so_far =
    regroup whole old (if is_read (row_view (get_or rows i r)) then said f (part_doc p) w else []) _
    (so_far ∙ ap (λ rs. old ++ fields_said f (docs_in (drop i parts)) (map row_view rs) w) (row_at rows i r within) ∙ ap (λ ps. old ++ fields_said f (docs_in ps) (map row_view (get_or rows i r ∷ drop (i + 1) rows)) w) (drop_at parts i p within_parts at))
    ∙ ap (λ v. v ++ fields_from f (i + 1) rows parts w) (sym is)

no_rows_left : (f : Known) (ps : List Part) (w : Way) → fields_said f (docs_in ps) [] w ≡ []
no_rows_left f [] w = refl
no_rows_left f (p ∷ ps) w = refl

pub no_more_rows : (f : Known) (whole : List Entry) (rows : List Row) (parts : List Part) (i : ℕ) (w : Way) (old : List Entry) → length rows ≤ i → whole ≡ old ++ fields_from f i rows parts w → old ≡ whole
no_more_rows f whole rows parts i w old past so_far =
    sym (so_far ∙ ap (λ rs. old ++ fields_said f (docs_in (drop i parts)) (map row_view rs) w) (drop_end rows i past) ∙ ap (λ v. old ++ v) (no_rows_left f (drop i parts) w) ∙ append-nil old)

pub no_more_parts : (f : Known) (whole : List Entry) (rows : List Row) (parts : List Part) (i : ℕ) (w : Way) (old : List Entry) → length parts ≤ i → whole ≡ old ++ fields_from f i rows parts w → old ≡ whole
no_more_parts f whole rows parts i w old past so_far =
    sym (so_far ∙ ap (λ ps. old ++ fields_said f (docs_in ps) (map row_view (drop i rows)) w) (drop_end parts i past) ∙ append-nil old)

said_named : (f : Known) (name : List ℕ) (rs : List Field) (ds : Docs) (w : Way) → field_said f ds rs name w ≡ said f (at_name name rs ds) w
said_named f name [] no_docs w = refl
said_named f name [] (doc d ds) w = refl
said_named f name (r ∷ rs) no_docs w = refl
said_named f name (r ∷ rs) (doc d ds) w = step (bytes_eq r.name name) (said_named f name rs ds w)
  where
    step : (b : Bool) → field_said f ds rs name w ≡ said f (at_name name rs ds) w → (if b then said f d w else field_said f ds rs name w) ≡ said f (if b then d else at_name name rs ds) w
    step true e = refl
    step false e = e

-- The field of that name stands at the place of its row.
pub field_at : (f : Known) (name : List ℕ) (k : Kind) (rs : List Row) (ps : List Part) (o : Option ℕ) (w : Way) → map row_view rs ≡ row_of k → o ≡ position_from (λ r. bytes_eq (key_of r.field) name) 0 rs → field_said f (docs_in ps) (row_of k) name w ≡ said f (doc_at ps o) w
field_at f name k rs ps o w rows place = said_named f name (row_of k) (docs_in ps) w ∙ ap (λ d. said f d w) (sym (named_at name k rs ps o rows place))

slice_get_at : (ps : List Part) (i : ℕ) (p : Part) → i < length ps → p ≡ get_or ps i p → slice_get ps i ≡ Some p
slice_get_at [] i p within is = absurd (omega arith)
slice_get_at (q ∷ ps) zero p within is = ap (λ (r : Part). Some r) (sym is)
slice_get_at (q ∷ ps) (suc i) p within is = slice_get_at ps i p (omega arith) is

slice_get_past : (ps : List Part) (i : ℕ) → length ps ≤ i → slice_get ps i ≡ None
slice_get_past [] i past = refl
slice_get_past (q ∷ ps) zero past = absurd (omega arith)
slice_get_past (q ∷ ps) (suc i) past = slice_get_past ps i (omega arith)

-- a field whose row and part are there
pub field_some : (f : Known) (name : List ℕ) (k : Kind) (rs : List Row) (ps qs : List Part) (i : ℕ) (p : Part) (w : Way) → map row_view rs ≡ row_of k → Some i ≡ position_from (λ r. bytes_eq (key_of r.field) name) 0 rs → qs ≡ ps
    → i < length qs → p ≡ get_or qs i p → said f (part_doc p) w ≡ field_said f (docs_in ps) (row_of k) name w
field_some f name k rs ps qs i p w rows place same within is =
    sym (field_at f name k rs ps (Some i) w rows place ∙ ap (λ o. said f (doc_of_part o) w) (ap (λ xs. slice_get xs i) (sym same) ∙ slice_get_at qs i p within is))

-- a field whose part is not there
pub field_past : (f : Known) (name : List ℕ) (k : Kind) (rs : List Row) (ps qs : List Part) (i : ℕ) (w : Way) → map row_view rs ≡ row_of k → Some i ≡ position_from (λ r. bytes_eq (key_of r.field) name) 0 rs → qs ≡ ps
    → length qs ≤ i → lone item.Nil ≡ field_said f (docs_in ps) (row_of k) name w
field_past f name k rs ps qs i w rows place same past =
    sym (field_at f name k rs ps (Some i) w rows place ∙ ap (λ o. said f (doc_of_part o) w) (ap (λ xs. slice_get xs i) (sym same) ∙ slice_get_past qs i past))

-- a field whose row is not there
pub field_none : (f : Known) (name : List ℕ) (k : Kind) (rs : List Row) (ps : List Part) (w : Way) → map row_view rs ≡ row_of k → None ≡ position_from (λ r. bytes_eq (key_of r.field) name) 0 rs → lone item.Nil ≡ field_said f (docs_in ps) (row_of k) name w
field_none f name k rs ps w rows place = sym (field_at f name k rs ps None w rows place)
