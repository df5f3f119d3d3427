-- What was read so far, in front of the reading of what is left.
use Rattle.std.proofs.Common.{◌≡◌, ℕ, ◌+◌, ◌<◌, ◌≤◌, List, [], ◌∷◌, ◌++◌, length, map, drop, get_or, Option, Ok, Err, append_assoc, append-nil, refl, sym, ap, ◌∙◌}
use Rattle.std.proofs.lemmas.List.{map-append, drop_all}
use Rattle.std.specs.Fmt.{decimal}
use Rattle.json.specs.Value.{value_view, items_view}
use Rattle.json.specs.declared.value.Value as json
use Rattle.std.specs.declared.alloc.Global.{Global}
use Rattle.oxt_grammar.specs.Keys.{key_of}
use Rattle.oxt_grammar.specs.Field.{row_view}
use Rattle.oxt_grammar.specs.declared.context.Setting.{Setting}
use Rattle.oxt_grammar.specs.declared.holds.Holds.{Holds}
use Rattle.oxt_grammar.specs.declared.holds.Row.{Row}
use Rattle.oxt_tree.specs.Doc.{Doc}
use Rattle.oxt_tree.specs.View.{part_doc}
use Rattle.oxt_tree.specs.declared.tree.Part.{Part}
use Rattle.oxt_json.proofs.Rest.{drop_at}
use Rattle.oxt_json.specs.Data.{data_of, items_data}
use Rattle.oxt_json.specs.Answer.{Answer, below, and_then, mapped}
use Rattle.oxt_json.specs.Reading.{Reader, read_as, each_as, field_as, fields_as}
use Rattle.oxt_json.specs.Misreads.{IsCause}
use Rattle.oxt_json.specs.declared.misread.Misread.{Misread}
use Rattle.oxt_json.specs.declared.misread.Misread.TheVariants.{OutOfMemory, At}

abbrev pub after : {A : Type 0} → List A → Answer (List A) → Answer (List A)
after done answer = mapped (λ xs. done ++ xs) answer

mapped-append : {A : Type 0} (done : List A) (x : A) (answer : Answer (List A))
    → after done (mapped (λ xs. x ∷ xs) answer) ≡ after (done ++ x ∷ []) answer
mapped-append done x (Ok p) = ap (λ xs. Ok (xs, p.1)) (sym (append_assoc done (x ∷ []) p.0))
mapped-append done x (Err place) = refl

-- one more was read
pub one_more : {A : Type 0} (done : List A) (first : Answer A) (x : A) (m : ℕ) (rest : ℕ → Answer (List A)) → first ≡ Ok (x, m)
    → after done (and_then first (λ y k. mapped (λ xs. y ∷ xs) (rest k))) ≡ after (done ++ x ∷ []) (rest m)
one_more done first x m rest is = rw is (mapped-append done x (rest m))

-- the next is wrong
pub one_wrong : {A : Type 0} (done : List A) (first : Answer A) (rest : A → ℕ → Answer (List A)) (e : Misread) → IsCause first e
    → IsCause (after done (and_then first rest)) e
one_wrong done first rest OutOfMemory h = tt
one_wrong done first rest (At place) h = rw h

abbrev Value : Type 0
Value = json.Value Global

-- an element was read
pub items_more : (vs : List Value) (i : ℕ) (v : Value) (parts : List Part) (p : Part) (s : Setting) (h : Holds) (n m : ℕ) (whole : Answer (List Doc))
    → i < length vs → v ≡ get_or vs i v → below (decimal i) (read_as (data_of (value_view v)) s h n) ≡ Ok (part_doc p, m)
    → whole ≡ after (map part_doc parts) (each_as (items_data (items_view (drop i vs))) s i h n)
    → whole ≡ after (map part_doc (parts ++ p ∷ [])) (each_as (items_data (items_view (drop (i + 1) vs))) s (i + 1) h m)
items_more vs i v parts p s h n m whole lt is first so_far =
    so_far ∙ rw (drop_at vs i v lt is, map-append part_doc parts (p ∷ [])) (one_more (map part_doc parts) _ (part_doc p) m (λ k. each_as (items_data (items_view (drop (i + 1) vs))) s (i + 1) h k) first)

-- an element is wrong
pub items_wrong : (vs : List Value) (i : ℕ) (v : Value) (done : List Doc) (s : Setting) (h : Holds) (n : ℕ) (e : Misread) (whole : Answer (List Doc))
    → i < length vs → v ≡ get_or vs i v → IsCause (below (decimal i) (read_as (data_of (value_view v)) s h n)) e
    → whole ≡ after done (each_as (items_data (items_view (drop i vs))) s i h n)
    → IsCause whole e
items_wrong vs i v done s h n e whole lt is first so_far =
    rw (so_far, drop_at vs i v lt is) (one_wrong done _ _ e first)

-- no element is left
pub items_done : (vs : List Value) (i : ℕ) (done : List Doc) (s : Setting) (h : Holds) (n : ℕ) (whole : Answer (List Doc))
    → length vs ≤ i → whole ≡ after done (each_as (items_data (items_view (drop i vs))) s i h n) → whole ≡ Ok (done, n)
items_done vs i done s h n whole all so_far = so_far ∙ rw (drop_all i vs all, append-nil) refl

-- a field was read
pub fields_more : (rs : List Row) (i : ℕ) (r : Row) (parts : List Part) (p : Part) (members : List ℕ → Option Reader) (s inner : Setting) (n m : ℕ) (whole : Answer (List Doc))
    → i < length rs → r ≡ get_or rs i r → below (key_of r.field) (field_as (row_view r) (members (key_of r.field)) s inner n) ≡ Ok (part_doc p, m)
    → whole ≡ after (map part_doc parts) (fields_as (map row_view (drop i rs)) members s inner n)
    → whole ≡ after (map part_doc (parts ++ p ∷ [])) (fields_as (map row_view (drop (i + 1) rs)) members s inner m)
fields_more rs i r parts p members s inner n m whole lt is first so_far =
    so_far ∙ rw (drop_at rs i r lt is, map-append part_doc parts (p ∷ [])) (one_more (map part_doc parts) _ (part_doc p) m (λ k. fields_as (map row_view (drop (i + 1) rs)) members s inner k) first)

-- a field is wrong
pub fields_wrong : (rs : List Row) (i : ℕ) (r : Row) (done : List Doc) (members : List ℕ → Option Reader) (s inner : Setting) (n : ℕ) (e : Misread) (whole : Answer (List Doc))
    → i < length rs → r ≡ get_or rs i r → IsCause (below (key_of r.field) (field_as (row_view r) (members (key_of r.field)) s inner n)) e
    → whole ≡ after done (fields_as (map row_view (drop i rs)) members s inner n)
    → IsCause whole e
fields_wrong rs i r done members s inner n e whole lt is first so_far =
    rw (so_far, drop_at rs i r lt is) (one_wrong done _ _ e first)

-- no field is left
pub fields_done : (rs : List Row) (i : ℕ) (done : List Doc) (members : List ℕ → Option Reader) (s inner : Setting) (n : ℕ) (whole : Answer (List Doc))
    → length rs ≤ i → whole ≡ after done (fields_as (map row_view (drop i rs)) members s inner n) → whole ≡ Ok (done, n)
fields_done rs i done members s inner n whole all so_far = so_far ∙ rw (drop_all i rs all, append-nil) refl
