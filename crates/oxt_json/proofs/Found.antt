-- JSON beside the data that it stands for.
use Rattle.std.proofs.Common.{◌≡◌, ℕ, List, [], ◌∷◌, Bool, true, false, Option, Some, None, option_map, option_and_then, unwrap_or, cond, take, length, get_or, bytes_eq, ◌+◌, ◌-◌, ◌<◌, ◌≤◌, ◌++◌, true≢false, refl, sym, ap, Vec, ◌∙◌, arith}
use Rattle.std.proofs.lemmas.List.{take_more}
use Rattle.std.proofs.lemmas.Slice.Eq.{bytes_eq-Decides}
use Rattle.std.specs.Borrow.{Bor}
use Rattle.std.specs.declared.alloc.Global.{Global}
use Rattle.json.specs.Json as json
use Rattle.json.specs.Find as find
use Rattle.json.specs.Value.{value_view, members_view}
use Rattle.json.specs.declared.value.Value as value
use Rattle.json.proofs.Trees.{get_member-push, view-Object}
use Rattle.serde_json.specs.Data.{Num, Data, Members, no_members, put}
use Rattle.serde_json.specs.Find.{as_str, as_number, as_u64, get_member}
use Rattle.serde_json.specs.Read.{number_of}
use Rattle.serde_json.proofs.Views.{get_member-put, get_member-put_other}
use Rattle.oxt_json.specs.Data.{num, data_of, put_in, members_data}

-- a text is the same
pub text_in : (j : json.Json) → as_str (data_of j) ≡ find.as_str j
text_in json.null = refl
text_in (json.boolean b) = refl
text_in (json.number s) = refl
text_in (json.string s) = refl
text_in (json.array js) = refl
text_in (json.object ms) = refl

whole_or : (o : Option Num) (other : Num) → as_u64 other ≡ None → as_u64 (unwrap_or o other) ≡ option_and_then as_u64 o
whole_or None other none = none
whole_or (Some x) other none = refl

-- a number out of range is no whole number
pub whole_in : (s : List ℕ) → as_u64 (num s) ≡ option_and_then as_u64 (number_of s)
whole_in s = whole_or (number_of s) _ refl

-- a number is that of its text
pub number_in : (j : json.Json) → option_and_then as_u64 (as_number (data_of j)) ≡ option_and_then (λ s. option_and_then as_u64 (number_of s)) (find.as_number j)
number_in json.null = refl
number_in (json.boolean b) = refl
number_in (json.number s) = whole_in s
number_in (json.string s) = refl
number_in (json.array js) = refl
number_in (json.object ms) = refl

-- ---- keys

differ_at : (xs ys : List ℕ) (b : Bool) → bytes_eq xs ys ≡ b → (length xs ≡ length ys → ⊥) → false ≡ b
differ_at xs ys true is apart = absurd (apart (ap length ((bytes_eq-Decides xs ys).0 is)))
differ_at xs ys false is apart = refl

-- texts of two lengths differ
pub other_length : (xs ys : List ℕ) → (length xs ≡ length ys → ⊥) → false ≡ bytes_eq xs ys
other_length xs ys apart = differ_at xs ys (bytes_eq xs ys) refl apart

-- ---- the last member of a name

abbrev later : Option json.Json → Option Data → Option Data
later None earlier = earlier
later (Some j) earlier = Some (data_of j)

put_at : (o : Option json.Json) (k name : List ℕ) (j : json.Json) (found : Members) (b : Bool) → bytes_eq k name ≡ b
    → later o (get_member name (put k (data_of j) found)) ≡ later (find.later_or o (cond b (Some j) None)) (get_member name found)
put_at (Some i) k name j found b is = refl
put_at None k name j found true is = let same : k ≡ name = (bytes_eq-Decides k name).0 is in rw (← same) (get_member-put k (data_of j) found)
put_at None k name j found false is = get_member-put_other name k (data_of j) found (λ same. true≢false (sym ((bytes_eq-Decides k name).1 (sym same)) ∙ is))

put_in-found : (ms : json.Members) (name : List ℕ) (found : Members) → get_member name (put_in ms found) ≡ later (find.get_member name ms) (get_member name found)
put_in-found json.no_members name found = refl
put_in-found (json.member k j ms) name found = put_in-found ms name (put k (data_of j) found) ∙ put_at (find.get_member name ms) k name j found (bytes_eq k name) refl

later-none : (o : Option json.Json) → later o None ≡ option_map data_of o
later-none None = refl
later-none (Some j) = refl

-- the data at a name is that of the last member of the name
last_found : (ms : json.Members) (name : List ℕ) → get_member name (members_data ms) ≡ option_map data_of (find.get_member name ms)
last_found ms name = put_in-found ms name no_members ∙ later-none (find.get_member name ms)

abbrev Member : Type 0
Member = Bor (List ℕ) × value.Value Global

-- an object stands for its members
pub object_in : (ms : Vec Member Global) → value_view (value.TheVariants.Object ms) ≡ json.object (members_view ms.items)
object_in ms = view-Object ms

front : (ms : List Member) (left : ℕ) (m : Member) (name : List ℕ) → 0 < left → left ≤ length ms → m ≡ get_or ms (left - 1) m
    → find.get_member name (members_view (take left ms)) ≡ cond (bytes_eq m.0.now name) (Some (value_view m.1)) (find.get_member name (members_view (take (left - 1) ms)))
front ms left m name some within is =
    let next : left ≡ left - 1 + 1 = omega arith in
    let one : take left ms ≡ take (left - 1) ms ++ m ∷ [] = ap (λ k. take k ms) next ∙ take_more ms (left - 1) m (omega arith) ∙ ap (λ y. take (left - 1) ms ++ y ∷ []) (sym is) in
    ap (λ ys. find.get_member name (members_view ys)) one ∙ get_member-push name (take (left - 1) ms) m

-- it is here
pub member_here : (ms : List Member) (left : ℕ) (m : Member) (name : List ℕ) → 0 < left → left ≤ length ms → m ≡ get_or ms (left - 1) m → bytes_eq m.0.now name ≡ true
    → find.get_member name (members_view ms) ≡ find.get_member name (members_view (take left ms))
    → Some (data_of (value_view m.1)) ≡ get_member name (members_data (members_view ms))
member_here ms left m name some within is same found =
    sym (last_found (members_view ms) name ∙ ap (option_map data_of) (found ∙ front ms left m name some within is ∙ ap (λ b. cond b (Some (value_view m.1)) (find.get_member name (members_view (take (left - 1) ms)))) same))

-- it is in front of this one
pub member_before : (ms : List Member) (left : ℕ) (m : Member) (name : List ℕ) → 0 < left → left ≤ length ms → m ≡ get_or ms (left - 1) m → bytes_eq m.0.now name ≡ false
    → find.get_member name (members_view ms) ≡ find.get_member name (members_view (take left ms))
    → find.get_member name (members_view ms) ≡ find.get_member name (members_view (take (left - 1) ms))
member_before ms left m name some within is other found =
    found ∙ front ms left m name some within is ∙ ap (λ b. cond b (Some (value_view m.1)) (find.get_member name (members_view (take (left - 1) ms)))) other

-- it is nowhere
pub member_nowhere : (ms : List Member) (name : List ℕ) → find.get_member name (members_view ms) ≡ None → None ≡ get_member name (members_data (members_view ms))
member_nowhere ms name none = sym (last_found (members_view ms) name ∙ ap (option_map data_of) none)
