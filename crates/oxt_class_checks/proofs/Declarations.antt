-- Class declarations, one part at a time.
use denote.Ref.{Bor}
use Rattle.std.proofs.Common.{ℕ, zero, suc, ◌+◌, ◌<◌, ◌≤◌, ◌≡◌, refl, sym, ap, ◌∙◌, arith, List, [], ◌∷◌, ◌++◌, length, map, Bool, true, false, cond, drop, get_or, append_assoc, append-nil, Option, None, Some}
use Rattle.std.proofs.lemmas.List.{map-append}
use Rattle.std.specs.List.{position_from, slice_get}
use Rattle.std.specs.Str.{bytes_eq}
use Rattle.oxt_class_checks.proofs.Behind.{class_doc}
use Rattle.oxt_class_checks.specs.Classes.{classes_among, classes_at, classes_in}
use Rattle.oxt_grammar.specs.Field.{Field, row_view}
use Rattle.oxt_grammar.specs.Keys.{key_of}
use Rattle.oxt_grammar.specs.Places.{same_field}
use Rattle.oxt_grammar.specs.declared.field.Field.{Field as FieldName}
use Rattle.oxt_grammar.specs.declared.holds.Row.{Row}
use Rattle.oxt_names.proofs.Lists.{drop_at, drop_end}
use Rattle.oxt_tree.proofs.Places.{at_name_position, doc_at, position_from_map}
use Rattle.oxt_tree.specs.Doc.{Doc, Docs, no_docs, doc}
use Rattle.oxt_tree.specs.Fields.{at_name}
use Rattle.oxt_tree.specs.View.{doc_of_part, docs_in, part_doc}
use Rattle.oxt_tree.specs.declared.tree.Node.{Node}
use Rattle.oxt_tree.specs.declared.tree.Part.{Part}

-- one class more
pub one_more : (old new : List (Bor Node)) (x : Bor Node) → new ≡ old ++ x ∷ [] → map class_doc new ≡ map class_doc old ++ class_doc x ∷ []
one_more old new x is = ap (map class_doc) is ∙ map-append class_doc old (x ∷ [])

-- one part more
pub among_next : (before after : List Doc) (ps : List Part) (i : ℕ) (p : Part) → i < length ps → p ≡ get_or ps i p → after ≡ before ++ classes_in (part_doc p)
    → before ++ classes_among (docs_in (drop i ps)) ≡ after ++ classes_among (docs_in (drop (i + 1) ps))
among_next before after ps i p lt here pushed =
    ap (λ qs. before ++ classes_among (docs_in qs)) (drop_at ps i p lt here)
    ∙ sym (append_assoc before (classes_in (part_doc p)) (classes_among (docs_in (drop (i + 1) ps))))
    ∙ ap (λ xs. xs ++ classes_among (docs_in (drop (i + 1) ps))) (sym pushed)

-- no parts more
pub among_last : (before : List Doc) (ps : List Part) (i : ℕ) → length ps ≤ i → before ++ classes_among (docs_in (drop i ps)) ≡ before
among_last before ps i le = ap (λ qs. before ++ classes_among (docs_in qs)) (drop_end ps i le) ∙ append-nil before

pub ruleset among_steps = (among_next, among_last)

-- ---- one field alone

at_is : (ds : Docs) (rs : List Field) (name : List ℕ) → classes_in (at_name name rs ds) ≡ classes_at ds rs name
at_is no_docs [] name = refl
at_is no_docs (r ∷ rs) name = refl
at_is (doc d ds) [] name = refl
at_is (doc d ds) (r ∷ rs) name = by (bytes_eq r.name name) (at_is ds rs name)
  where
    by : (b : Bool) → classes_in (at_name name rs ds) ≡ classes_at ds rs name → classes_in (cond b d (at_name name rs ds)) ≡ cond b (classes_in d) (classes_at ds rs name)
    by true rest = refl
    by false rest = rest

-- the same by its place among the rows
pub place_is : (rs : List Row) (ps : List Part) (f : FieldName) (o : Option ℕ) → o ≡ position_from (λ row. same_field row.field f) 0 rs
    → classes_in (doc_at ps o) ≡ classes_at (docs_in ps) (map row_view rs) (key_of f)
place_is rs ps f o place =
    ap (λ x. classes_in (doc_at ps x)) (place ∙ sym (position_from_map (λ r. bytes_eq r.name (key_of f)) row_view 0 rs))
    ∙ ap classes_in (sym (at_name_position (key_of f) (map row_view rs) ps))
    ∙ at_is (docs_in ps) (map row_view rs) (key_of f)

-- the field has a place
pub alone_more : (before after : List Doc) (rs : List Row) (ps : List Part) (f : FieldName) (i : ℕ) → Some i ≡ position_from (λ row. same_field row.field f) 0 rs
    → after ≡ before ++ classes_in (doc_of_part (slice_get ps i)) → after ≡ before ++ classes_at (docs_in ps) (map row_view rs) (key_of f)
alone_more before after rs ps f i place pushed = pushed ∙ ap (λ xs. before ++ xs) (place_is rs ps f (Some i) place)

-- it has none
pub alone_done : (before : List Doc) (rs : List Row) (ps : List Part) (f : FieldName) → None ≡ position_from (λ row. same_field row.field f) 0 rs
    → before ≡ before ++ classes_at (docs_in ps) (map row_view rs) (key_of f)
alone_done before rs ps f place = sym (append-nil before) ∙ ap (λ xs. before ++ xs) (place_is rs ps f None place)

pub ruleset alone_steps = (alone_more, alone_done)

none_beyond : (ps : List Part) (i : ℕ) → length ps ≤ i → None ≡ slice_get ps i
none_beyond [] i le = refl
none_beyond (p ∷ ps) zero le = absurd (omega arith)
none_beyond (p ∷ ps) (suc i) le = none_beyond ps i (omega arith)

-- no part stands at a place
pub nothing_there : (before : List Doc) (ps : List Part) (i : ℕ) → length ps ≤ i → before ≡ before ++ classes_in (doc_of_part (slice_get ps i))
nothing_there before ps i le = sym (append-nil before) ∙ ap (λ x. before ++ classes_in (doc_of_part x)) (none_beyond ps i le)
