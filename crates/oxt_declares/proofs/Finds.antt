-- Outermost enums, one part at a time.
use denote.Ref.{Bor}
use Rattle.std.proofs.Common.{ℕ, zero, suc, ◌+◌, ◌<◌, ◌≤◌, ◌≡◌, refl, sym, ap, ◌∙◌, arith, List, [], ◌∷◌, ◌++◌, length, map, Bool, true, false, cond, drop, get_or, append_assoc, append-nil, Option, None, Some}
use Rattle.std.proofs.lemmas.List.{map-append}
use Rattle.std.specs.List.{position_from, slice_get}
use Rattle.std.specs.Str.{bytes_eq}
use Rattle.oxt_declares.specs.Sites.{enum_sites, sites_among, sites_at}
use Rattle.oxt_grammar.specs.Field.{Field, row_view}
use Rattle.oxt_grammar.specs.Keys.{key_of}
use Rattle.oxt_grammar.specs.Places.{same_field}
use Rattle.oxt_grammar.specs.declared.field.Field.{Field as FieldName}
use Rattle.oxt_grammar.specs.declared.holds.Row.{Row}
use Rattle.oxt_names.proofs.Lists.{drop_at, drop_end}
use Rattle.oxt_tree.proofs.Places.{at_name_position, doc_at, position_from_map}
use Rattle.oxt_tree.specs.Doc.{Doc, Docs, no_docs, doc}
use Rattle.oxt_tree.specs.Fields.{at_name}
use Rattle.oxt_tree.specs.View.{doc_of_part, docs_in, node_doc, part_doc}
use Rattle.oxt_tree.specs.declared.tree.Node.{Node}
use Rattle.oxt_tree.specs.declared.tree.Part.{Part}

abbrev pub site_doc : Bor Node → Doc
site_doc site = node_doc site.now

-- one more
pub one_more : (old new : List (Bor Node)) (x : Bor Node) → new ≡ old ++ x ∷ [] → map site_doc new ≡ map site_doc old ++ site_doc x ∷ []
one_more old new x is = ap (map site_doc) is ∙ map-append site_doc old (x ∷ [])

-- one part more
pub among_next : (before after : List Doc) (l : Bool) (ps : List Part) (i : ℕ) (p : Part) → i < length ps → p ≡ get_or ps i p → after ≡ before ++ enum_sites l (part_doc p)
    → before ++ sites_among l (docs_in (drop i ps)) ≡ after ++ sites_among l (docs_in (drop (i + 1) ps))
among_next before after l ps i p lt here pushed =
    ap (λ qs. before ++ sites_among l (docs_in qs)) (drop_at ps i p lt here)
    ∙ sym (append_assoc before (enum_sites l (part_doc p)) (sites_among l (docs_in (drop (i + 1) ps))))
    ∙ ap (λ xs. xs ++ sites_among l (docs_in (drop (i + 1) ps))) (sym pushed)

-- no parts more
pub among_last : (before : List Doc) (l : Bool) (ps : List Part) (i : ℕ) → length ps ≤ i → before ++ sites_among l (docs_in (drop i ps)) ≡ before
among_last before l ps i le = ap (λ qs. before ++ sites_among l (docs_in qs)) (drop_end ps i le) ∙ append-nil before

pub ruleset among_steps = (among_next, among_last)

-- ---- one field alone

at_is : (l : Bool) (ds : Docs) (rs : List Field) (name : List ℕ) → enum_sites l (at_name name rs ds) ≡ sites_at l ds rs name
at_is l no_docs [] name = refl
at_is l no_docs (r ∷ rs) name = refl
at_is l (doc d ds) [] name = refl
at_is l (doc d ds) (r ∷ rs) name = by (bytes_eq r.name name) (at_is l ds rs name)
  where
    by : (b : Bool) → enum_sites l (at_name name rs ds) ≡ sites_at l ds rs name → enum_sites l (cond b d (at_name name rs ds)) ≡ cond b (enum_sites l d) (sites_at l ds rs name)
    by true rest = refl
    by false rest = rest

-- the same by its place among the rows
pub place_is : (l : Bool) (rs : List Row) (ps : List Part) (f : FieldName) (o : Option ℕ) → o ≡ position_from (λ row. same_field row.field f) 0 rs
    → enum_sites l (doc_at ps o) ≡ sites_at l (docs_in ps) (map row_view rs) (key_of f)
place_is l rs ps f o place =
    ap (λ x. enum_sites l (doc_at ps x)) (place ∙ sym (position_from_map (λ r. bytes_eq r.name (key_of f)) row_view 0 rs))
    ∙ ap (enum_sites l) (sym (at_name_position (key_of f) (map row_view rs) ps))
    ∙ at_is l (docs_in ps) (map row_view rs) (key_of f)

-- the field has a place
pub alone_more : (before after : List Doc) (l : Bool) (rs : List Row) (ps : List Part) (f : FieldName) (i : ℕ) → Some i ≡ position_from (λ row. same_field row.field f) 0 rs
    → after ≡ before ++ enum_sites l (doc_of_part (slice_get ps i)) → after ≡ before ++ sites_at l (docs_in ps) (map row_view rs) (key_of f)
alone_more before after l rs ps f i place pushed = pushed ∙ ap (λ xs. before ++ xs) (place_is l rs ps f (Some i) place)

-- it has none
pub alone_done : (before : List Doc) (l : Bool) (rs : List Row) (ps : List Part) (f : FieldName) → None ≡ position_from (λ row. same_field row.field f) 0 rs
    → before ≡ before ++ sites_at l (docs_in ps) (map row_view rs) (key_of f)
alone_done before l rs ps f place = sym (append-nil before) ∙ ap (λ xs. before ++ xs) (place_is l rs ps f None place)

pub ruleset alone_steps = (alone_more, alone_done)

none_beyond : (ps : List Part) (i : ℕ) → length ps ≤ i → None ≡ slice_get ps i
none_beyond [] i le = refl
none_beyond (p ∷ ps) zero le = absurd (omega arith)
none_beyond (p ∷ ps) (suc i) le = none_beyond ps i (omega arith)

-- no part stands at a place
pub nothing_there : (before : List Doc) (l : Bool) (ps : List Part) (i : ℕ) → length ps ≤ i → before ≡ before ++ enum_sites l (doc_of_part (slice_get ps i))
nothing_there before l ps i le = sym (append-nil before) ∙ ap (λ x. before ++ enum_sites l (doc_of_part x)) (none_beyond ps i le)
