-- One field of a node alone.
use Rattle.std.proofs.Common.{ℕ, zero, suc, ◌+◌, ◌≤◌, arith, length, ◌≡◌, refl, sym, ap, ◌∙◌, List, [], ◌∷◌, ◌++◌, map, Bool, true, false, cond, Option, None, Some, append-nil}
use Rattle.std.specs.List.{position_from, slice_get}
use Rattle.std.specs.Str.{bytes_eq}
use Rattle.oxt_search.specs.All.{all_at, all_in}
use Rattle.oxt_search.specs.First.{first}
use Rattle.oxt_search.specs.Sought.{Sought}
use Rattle.oxt_grammar.specs.Field.{Field, row_view}
use Rattle.oxt_grammar.specs.Keys.{key_of}
use Rattle.oxt_grammar.specs.Places.{same_field}
use Rattle.oxt_grammar.specs.declared.field.Field.{Field as FieldName}
use Rattle.oxt_grammar.specs.declared.holds.Row.{Row}
use Rattle.oxt_tree.proofs.Places.{at_name_position, doc_at, position_from_map}
use Rattle.oxt_tree.specs.Doc.{Doc, Docs, no_docs, doc}
use Rattle.oxt_tree.specs.Fields.{at_name}
use Rattle.oxt_tree.specs.View.{doc_of_part, docs_in}
use Rattle.oxt_tree.specs.declared.tree.Part.{Part}

-- what the field of a name gives is what the document gives that it holds
at_is : {S A : Type 0} (q : Sought S A) (ds : Docs) (rs : List Field) (name : List ℕ) (s : S) → all_in q (at_name name rs ds) s ≡ all_at q ds rs name s
at_is q no_docs [] name s = refl
at_is q no_docs (r ∷ rs) name s = refl
at_is q (doc d ds) [] name s = refl
at_is q (doc d ds) (r ∷ rs) name s = by (bytes_eq r.name name) (at_is q ds rs name s)
  where
    by : (b : Bool) → all_in q (at_name name rs ds) s ≡ all_at q ds rs name s
        → all_in q (cond b d (at_name name rs ds)) s ≡ cond b (all_in q d s) (all_at q ds rs name s)
    by true rest = refl
    by false rest = rest

-- the same by its place among the rows
place_is : {S A : Type 0} (q : Sought S A) (s : S) (rs : List Row) (ps : List Part) (f : FieldName) (o : Option ℕ) → o ≡ position_from (λ row. same_field row.field f) 0 rs
    → all_in q (doc_at ps o) s ≡ all_at q (docs_in ps) (map row_view rs) (key_of f) s
place_is q s rs ps f o place =
    ap (λ x. all_in q (doc_at ps x) s) (place ∙ sym (position_from_map (λ r. bytes_eq r.name (key_of f)) row_view 0 rs))
    ∙ ap (λ d. all_in q d s) (sym (at_name_position (key_of f) (map row_view rs) ps))
    ∙ at_is q (docs_in ps) (map row_view rs) (key_of f) s

-- the field has a place
pub alone_more : {S A : Type 0} (before after : List A) (q : Sought S A) (s : S) (rs : List Row) (ps : List Part) (f : FieldName) (i : ℕ) → Some i ≡ position_from (λ row. same_field row.field f) 0 rs
    → after ≡ before ++ all_in q (doc_of_part (slice_get ps i)) s → after ≡ before ++ all_at q (docs_in ps) (map row_view rs) (key_of f) s
alone_more before after q s rs ps f i place pushed = pushed ∙ ap (λ xs. before ++ xs) (place_is q s rs ps f (Some i) place)

-- it has none
pub alone_done : {S A : Type 0} (before : List A) (q : Sought S A) (s : S) (rs : List Row) (ps : List Part) (f : FieldName) → None ≡ position_from (λ row. same_field row.field f) 0 rs
    → before ≡ before ++ all_at q (docs_in ps) (map row_view rs) (key_of f) s
alone_done before q s rs ps f place = sym (append-nil before) ∙ ap (λ xs. before ++ xs) (place_is q s rs ps f None place)

none_beyond : (ps : List Part) (i : ℕ) → length ps ≤ i → None ≡ slice_get ps i
none_beyond [] i le = refl
none_beyond (p ∷ ps) zero le = absurd (omega arith)
none_beyond (p ∷ ps) (suc i) le = none_beyond ps i (omega arith)

-- no part stands at a place
pub nothing_there : {S A : Type 0} (before : List A) (q : Sought S A) (s : S) (ps : List Part) (i : ℕ) → length ps ≤ i → before ≡ before ++ all_in q (doc_of_part (slice_get ps i)) s
nothing_there before q s ps i le = sym (append-nil before) ∙ ap (λ x. before ++ all_in q (doc_of_part x) s) (none_beyond ps i le)

pub ruleset alone_steps = (alone_more, alone_done)

-- the first of a field that has a place
pub first_more : {S A : Type 0} (o : Option A) (q : Sought S A) (s : S) (rs : List Row) (ps : List Part) (f : FieldName) (i : ℕ) → Some i ≡ position_from (λ row. same_field row.field f) 0 rs
    → o ≡ first (all_in q (doc_of_part (slice_get ps i)) s) → o ≡ first (all_at q (docs_in ps) (map row_view rs) (key_of f) s)
first_more o q s rs ps f i place found = found ∙ ap first (place_is q s rs ps f (Some i) place)

-- that of one that has none
pub first_done : {S A : Type 0} (q : Sought S A) (s : S) (rs : List Row) (ps : List Part) (f : FieldName) → None ≡ position_from (λ row. same_field row.field f) 0 rs
    → None ≡ first (all_at q (docs_in ps) (map row_view rs) (key_of f) s)
first_done q s rs ps f place = ap first (place_is q s rs ps f None place)

pub ruleset first_alone_steps = (first_more, first_done)
