-- The uses of decorated classes, one part after another.
use Rattle.std.proofs.Common.{ℕ, zero, suc, ◌+◌, ◌<◌, ◌≤◌, ◌≡◌, refl, sym, ap, ◌∙◌, arith, List, [], ◌∷◌, ◌++◌, length, map, drop, get_or, append_assoc, append-nil, Bool, true, false, cond, Option, None, Some}
use Rattle.std.specs.List.{position_from, slice_get}
use Rattle.std.specs.Str.{bytes_eq}
use Rattle.oxt_fields.specs.Aliases.{joined}
use Rattle.oxt_grammar.specs.Field.{Field, row_view}
use Rattle.oxt_grammar.specs.Keys.{key_of}
use Rattle.oxt_grammar.specs.Places.{same_field}
use Rattle.oxt_grammar.specs.declared.field.Field.{Field as FieldName}
use Rattle.oxt_grammar.specs.declared.holds.Row.{Row}
use Rattle.oxt_search.proofs.Alls.{among_at}
use Rattle.oxt_search.specs.All.{all_among, all_at, all_in}
use Rattle.oxt_search.specs.Sought.{Sought}
use Rattle.oxt_names.proofs.Lists.{drop_end}
use Rattle.oxt_tree.proofs.Places.{at_name_position, doc_at, position_from_map}
use Rattle.oxt_tree.specs.Doc.{Docs, no_docs, doc}
use Rattle.oxt_tree.specs.Fields.{at_name}
use Rattle.oxt_tree.specs.View.{doc_of_part, docs_in, part_doc}
use Rattle.oxt_tree.specs.declared.tree.Part.{Part}

joined_append : (xs ys : List (List (ℕ × ℕ))) → joined (xs ++ ys) ≡ joined xs ++ joined ys
joined_append [] ys = refl
joined_append (x ∷ xs) ys = ap (λ zs. x ++ zs) (joined_append xs ys) ∙ sym (append_assoc x (joined xs) (joined ys))

-- nothing more
pub nothing_more : (before : List (ℕ × ℕ)) → before ≡ before ++ []
nothing_more before = sym (append-nil before)

-- what a node gives itself, and what stands in it
pub node_more : (before mid after : List (ℕ × ℕ)) (xs ys : List (List (ℕ × ℕ))) → mid ≡ before ++ joined xs → after ≡ mid ++ joined ys → after ≡ before ++ joined (xs ++ ys)
node_more before mid after xs ys own inside =
    inside ∙ ap (λ zs. zs ++ joined ys) own ∙ append_assoc before (joined xs) (joined ys) ∙ ap (λ zs. before ++ zs) (sym (joined_append xs ys))

-- nothing stands in it
pub node_alone : (before after : List (ℕ × ℕ)) (xs : List (List (ℕ × ℕ))) → after ≡ before ++ joined xs → after ≡ before ++ joined (xs ++ [])
node_alone before after xs own = own ∙ ap (λ zs. before ++ joined zs) (sym (append-nil xs))

pub ruleset node_steps = (node_more, node_alone)

-- what a class gives
pub own_more : (before after xs : List (ℕ × ℕ)) → after ≡ before ++ xs → after ≡ before ++ (xs ++ [])
own_more before after xs own = own ∙ ap (λ zs. before ++ zs) (sym (append-nil xs))

pub ruleset own_steps = (own_more, nothing_more)

-- one part more
pub each_next : {S : Type 0} (before after : List (ℕ × ℕ)) (q : Sought S (List (ℕ × ℕ))) (s : S) (ps : List Part) (i : ℕ) (p : Part) → i < length ps → p ≡ get_or ps i p → after ≡ before ++ joined (all_in q (part_doc p) s)
    → before ++ joined (all_among q (docs_in (drop i ps)) s) ≡ after ++ joined (all_among q (docs_in (drop (i + 1) ps)) s)
each_next before after q s ps i p lt here pushed =
    ap (λ xs. before ++ joined xs) (among_at q s ps i p lt here)
    ∙ ap (λ xs. before ++ xs) (joined_append (all_in q (part_doc p) s) (all_among q (docs_in (drop (i + 1) ps)) s))
    ∙ sym (append_assoc before (joined (all_in q (part_doc p) s)) (joined (all_among q (docs_in (drop (i + 1) ps)) s)))
    ∙ ap (λ xs. xs ++ joined (all_among q (docs_in (drop (i + 1) ps)) s)) (sym pushed)

-- no parts more
pub each_last : {S : Type 0} (before : List (ℕ × ℕ)) (q : Sought S (List (ℕ × ℕ))) (s : S) (ps : List Part) (i : ℕ) → length ps ≤ i → before ++ joined (all_among q (docs_in (drop i ps)) s) ≡ before
each_last before q s ps i le = ap (λ qs. before ++ joined (all_among q (docs_in qs) s)) (drop_end ps i le) ∙ append-nil before

pub ruleset each_steps = (each_next, each_last)

-- ---- one field alone

at_is : {S A : Type 0} (q : Sought S A) (ds : Docs) (rs : List Field) (name : List ℕ) (s : S) → all_in q (at_name name rs ds) s ≡ all_at q ds rs name s
at_is q no_docs [] name s = refl
at_is q no_docs (r ∷ rs) name s = refl
at_is q (doc d ds) [] name s = refl
at_is q (doc d ds) (r ∷ rs) name s = by (bytes_eq r.name name) (at_is q ds rs name s)
  where
    by : (b : Bool) → all_in q (at_name name rs ds) s ≡ all_at q ds rs name s
        → all_in q (cond b d (at_name name rs ds)) s ≡ cond b (all_in q d s) (all_at q ds rs name s)
    by true rest = refl
    by false rest = rest

place_is : {S A : Type 0} (q : Sought S A) (s : S) (rs : List Row) (ps : List Part) (f : FieldName) (o : Option ℕ) → o ≡ position_from (λ row. same_field row.field f) 0 rs
    → all_in q (doc_at ps o) s ≡ all_at q (docs_in ps) (map row_view rs) (key_of f) s
place_is q s rs ps f o place =
    ap (λ x. all_in q (doc_at ps x) s) (place ∙ sym (position_from_map (λ r. bytes_eq r.name (key_of f)) row_view 0 rs))
    ∙ ap (λ d. all_in q d s) (sym (at_name_position (key_of f) (map row_view rs) ps))
    ∙ at_is q (docs_in ps) (map row_view rs) (key_of f) s

-- the field has a place
pub alone_more : {S : Type 0} (before after : List (ℕ × ℕ)) (q : Sought S (List (ℕ × ℕ))) (s : S) (rs : List Row) (ps : List Part) (f : FieldName) (i : ℕ) → Some i ≡ position_from (λ row. same_field row.field f) 0 rs
    → after ≡ before ++ joined (all_in q (doc_of_part (slice_get ps i)) s) → after ≡ before ++ joined (all_at q (docs_in ps) (map row_view rs) (key_of f) s)
alone_more before after q s rs ps f i place pushed = pushed ∙ ap (λ xs. before ++ joined xs) (place_is q s rs ps f (Some i) place)

-- it has none
pub alone_done : {S : Type 0} (before : List (ℕ × ℕ)) (q : Sought S (List (ℕ × ℕ))) (s : S) (rs : List Row) (ps : List Part) (f : FieldName) → None ≡ position_from (λ row. same_field row.field f) 0 rs
    → before ≡ before ++ joined (all_at q (docs_in ps) (map row_view rs) (key_of f) s)
alone_done before q s rs ps f place = sym (append-nil before) ∙ ap (λ xs. before ++ joined xs) (place_is q s rs ps f None place)

pub ruleset alone_steps = (alone_more, alone_done)

none_beyond : (ps : List Part) (i : ℕ) → length ps ≤ i → None ≡ slice_get ps i
none_beyond [] i le = refl
none_beyond (p ∷ ps) zero le = absurd (omega arith)
none_beyond (p ∷ ps) (suc i) le = none_beyond ps i (omega arith)

-- no part stands at a place
pub nothing_there : {S : Type 0} (before : List (ℕ × ℕ)) (q : Sought S (List (ℕ × ℕ))) (s : S) (ps : List Part) (i : ℕ) → length ps ≤ i → before ≡ before ++ joined (all_in q (doc_of_part (slice_get ps i)) s)
nothing_there before q s ps i le = sym (append-nil before) ∙ ap (λ x. before ++ joined (all_in q (doc_of_part x) s)) (none_beyond ps i le)
