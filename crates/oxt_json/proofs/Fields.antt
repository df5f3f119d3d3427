-- What a node's object has at its keys.
use Rattle.std.proofs.Common.{◌≡◌, ◌∙◌, refl, sym, ℕ, List, [], ◌∷◌, Bool, true, false, codes, Option, Some, None, bytes_eq}
use Rattle.std.specs.Prelude.{not, ◌==◌, if◌then◌else◌}
use Rattle.std.proofs.lemmas.Bool.{and_parts, or_parts}
use Rattle.std.proofs.lemmas.Slice.Eq.{bytes_eq-Decides}
use Rattle.oxt_json.specs.Spelled.{data_of, each_data, put_field, put_fields, heading}
use Rattle.oxt_json.proofs.DistinctKeys.{is_among, are_distinct, names_of, distinct_keys}
use Rattle.oxt_grammar.specs.Field.{Field}
use Rattle.oxt_grammar.specs.Kinds.{name_of}
use Rattle.oxt_grammar.specs.Rows.{row_of}
use Rattle.oxt_grammar.specs.declared.kind.Kind.{Kind}
use Rattle.oxt_tree.specs.Doc.{Docs, no_docs, doc}
use Rattle.oxt_tree.specs.Fields.{is_left_out}
use Rattle.serde_json.proofs.Views.{get_member-put, get_member-put_other}
use Rattle.serde_json.specs.Data as json
use Rattle.serde_json.specs.Data.{Data, Members, no_members, put}
use Rattle.serde_json.specs.Find.{get_member}

-- what stands at a key unless it is left out
abbrev pub unless : Bool → Data → Option Data
unless is_out d = if is_out then None else Some d

-- the members have each field
abbrev pub HasFields : List Field → Docs → Members → Type 0
HasFields [] ds ms = Unit {0}
HasFields (r ∷ rs) no_docs ms = Unit {0}
HasFields (r ∷ rs) (doc d ds) ms = (get_member r.name ms ≡ unless (is_left_out r d) (data_of d)) × HasFields rs ds ms

not_true : (b : Bool) → not b ≡ true → b ≡ false
not_true false e = refl
not_true true e = absurd (cc)

apart : (q k : List ℕ) → bytes_eq q k ≡ false → q ≡ k → ⊥
apart q k differ same = let e : bytes_eq q k ≡ true = (bytes_eq-Decides q k).1 same in absurd (cc)

other_field : (is_out : Bool) (q k : List ℕ) (d : Data) (ms : Members) → bytes_eq q k ≡ false → get_member q (if is_out then ms else put k d ms) ≡ get_member q ms
other_field true q k d ms differ = refl
other_field false q k d ms differ = get_member-put_other q k d ms (apart q k differ)

this_field : (is_out : Bool) (k : List ℕ) (d : Data) (ms : Members) → get_member k ms ≡ None → get_member k (if is_out then ms else put k d ms) ≡ unless is_out d
this_field true k d ms none = none
this_field false k d ms none = get_member-put k d ms

-- a key that no row has keeps what it has
other_fields : (q : List ℕ) (rs : List Field) (ds : Docs) (ms : Members) → is_among q (names_of rs) ≡ false → get_member q (put_fields rs ds (each_data ds) ms) ≡ get_member q ms
other_fields q [] ds ms away = refl
other_fields q (r ∷ rs) no_docs ms away = refl
other_fields q (r ∷ rs) (doc d ds) ms away =
    let parts = or_parts (bytes_eq q r.name) (is_among q (names_of rs)) away in
    other_fields q rs ds (put_field r d (data_of d) ms) parts.1 ∙ other_field (is_left_out r d) q r.name (data_of d) ms parts.0

-- the members have none of these keys
abbrev pub HasNone : List Field → Members → Type 0
HasNone [] ms = Unit {0}
HasNone (r ∷ rs) ms = (get_member r.name ms ≡ None) × HasNone rs ms

differ_too : (a b : List ℕ) (c : Bool) → bytes_eq a b ≡ c → bytes_eq b a ≡ false → c ≡ false
differ_too a b true same differ = absurd (apart b a differ (sym ((bytes_eq-Decides a b).0 same)))
differ_too a b false same differ = refl

still_none : (rs : List Field) (is_out : Bool) (k : List ℕ) (d : Data) (ms : Members) → is_among k (names_of rs) ≡ false → HasNone rs ms → HasNone rs (if is_out then ms else put k d ms)
still_none [] is_out k d ms away none = tt
still_none (r ∷ rs) is_out k d ms away none =
    let parts = or_parts (bytes_eq k r.name) (is_among k (names_of rs)) away in
    (other_field is_out r.name k d ms (differ_too r.name k (bytes_eq r.name k) refl parts.0) ∙ none.0, still_none rs is_out k d ms parts.1 none.1)

none_at_first : (rs : List Field) → HasNone rs no_members
none_at_first [] = tt
none_at_first (r ∷ rs) = (refl, none_at_first rs)

has_fields_from : (rs : List Field) (ds : Docs) (ms : Members) → are_distinct (names_of rs) ≡ true → HasNone rs ms → HasFields rs ds (put_fields rs ds (each_data ds) ms)
has_fields_from [] ds ms distinct none = tt
has_fields_from (r ∷ rs) no_docs ms distinct none = tt
has_fields_from (r ∷ rs) (doc d ds) ms distinct none =
    let parts = and_parts (not (is_among r.name (names_of rs))) (are_distinct (names_of rs)) distinct in
    let away = not_true _ parts.0 in (
      other_fields r.name rs ds (put_field r d (data_of d) ms) away ∙ this_field (is_left_out r d) r.name (data_of d) ms none.0,
      has_fields_from rs ds (put_field r d (data_of d) ms) parts.1 (still_none rs (is_left_out r d) r.name (data_of d) ms away none.1),
    )

-- an offset as data
abbrev pub offset : ℕ → Data
offset n = json.number (json.unsigned n)

-- no kind has a field that each node has
abbrev pub AreOthers : List Field → Type 0
AreOthers rs = (is_among (codes "type") (names_of rs) ≡ false) × (is_among (codes "start") (names_of rs) ≡ false) × (is_among (codes "end") (names_of rs) ≡ false) × (are_distinct (names_of rs) ≡ true)

others : (k : Kind) → AreOthers (row_of k)
others k =
    let rest = names_of (row_of k) in
    let one = and_parts (not (is_among (codes "type") (codes "start" ∷ codes "end" ∷ rest))) (are_distinct (codes "start" ∷ codes "end" ∷ rest)) (distinct_keys k) in
    let two = and_parts (not (is_among (codes "start") (codes "end" ∷ rest))) (are_distinct (codes "end" ∷ rest)) one.1 in
    let three = and_parts (not (is_among (codes "end") rest)) (are_distinct rest) two.1 in
    (not_true _ one.0, not_true _ two.0, not_true _ three.0, three.1)

none_in_heading : (rs : List Field) (k : Kind) (start end : ℕ) → AreOthers rs → HasNone rs (heading k start end)
none_in_heading rs k start end away =
    still_none rs (end == 0) (codes "end") (offset end) _ away.2 (still_none rs (start == 0) (codes "start") (offset start) _ away.1 (still_none rs false (codes "type") (json.string (name_of k)) no_members away.0 (none_at_first rs)))

-- the object of a node
abbrev pub members_of : Kind → ℕ → ℕ → Docs → Members
members_of k start end ds = put_fields (row_of k) ds (each_data ds) (heading k start end)

pub has_fields : (k : Kind) (start end : ℕ) (ds : Docs) → HasFields (row_of k) ds (members_of k start end ds)
has_fields k start end ds = has_fields_from (row_of k) ds (heading k start end) (others k).3 (none_in_heading (row_of k) k start end (others k))

pub has_type : (k : Kind) (start end : ℕ) (ds : Docs) → get_member (codes "type") (members_of k start end ds) ≡ Some (json.string (name_of k))
has_type k start end ds =
    other_fields (codes "type") (row_of k) ds (heading k start end) (others k).0
    ∙ (other_field (end == 0) (codes "type") (codes "end") (offset end) _ refl ∙ other_field (start == 0) (codes "type") (codes "start") (offset start) (put (codes "type") (json.string (name_of k)) no_members) refl)

pub has_start : (k : Kind) (start end : ℕ) (ds : Docs) → get_member (codes "start") (members_of k start end ds) ≡ unless (start == 0) (offset start)
has_start k start end ds =
    other_fields (codes "start") (row_of k) ds (heading k start end) (others k).1
    ∙ (other_field (end == 0) (codes "start") (codes "end") (offset end) _ refl ∙ this_field (start == 0) (codes "start") (offset start) (put (codes "type") (json.string (name_of k)) no_members) refl)

pub has_end : (k : Kind) (start end : ℕ) (ds : Docs) → get_member (codes "end") (members_of k start end ds) ≡ unless (end == 0) (offset end)
has_end k start end ds =
    other_fields (codes "end") (row_of k) ds (heading k start end) (others k).2
    ∙ this_field (end == 0) (codes "end") (offset end) _ (other_field (start == 0) (codes "end") (codes "start") (offset start) (put (codes "type") (json.string (name_of k)) no_members) refl)
