-- Whether the numbers that are left are in range.
use Rattle.std.proofs.Common.{◌≡◌, ℕ, ◌+◌, ◌<◌, ◌≤◌, List, length, drop, get_or, Bool, true, false, sym, ◌∙◌}
use Rattle.std.proofs.lemmas.List.{drop_all}
use Rattle.std.specs.Borrow.{Bor}
use Rattle.std.specs.declared.alloc.Global.{Global}
use Rattle.json.specs.Value.{value_view, items_view, members_view}
use Rattle.json.specs.declared.value.Value as json
use Rattle.oxt_json.proofs.Rest.{drop_at}
use Rattle.oxt_json.specs.Data.{in_range, items_in_range, members_in_range}

abbrev Value : Type 0
Value = json.Value Global

abbrev Member : Type 0
Member = Bor (List ℕ) × Value

-- one more is in range
pub items_more : (vs : List Value) (i : ℕ) (v : Value) (whole : Bool) → i < length vs → v ≡ get_or vs i v → in_range (value_view v) ≡ true
    → whole ≡ items_in_range (items_view (drop i vs)) → whole ≡ items_in_range (items_view (drop (i + 1) vs))
items_more vs i v whole lt is inside so_far = so_far ∙ rw (drop_at vs i v lt is, inside)

-- one is not
pub items_none : (vs : List Value) (i : ℕ) (v : Value) (whole : Bool) → i < length vs → v ≡ get_or vs i v → in_range (value_view v) ≡ false
    → whole ≡ items_in_range (items_view (drop i vs)) → false ≡ whole
items_none vs i v whole lt is outside so_far = sym (so_far ∙ rw (drop_at vs i v lt is, outside))

-- all are
pub items_done : (vs : List Value) (i : ℕ) (whole : Bool) → length vs ≤ i → whole ≡ items_in_range (items_view (drop i vs)) → true ≡ whole
items_done vs i whole all so_far = sym (so_far ∙ rw (drop_all i vs all))

pub members_more : (ms : List Member) (i : ℕ) (m : Member) (whole : Bool) → i < length ms → m ≡ get_or ms i m → in_range (value_view m.1) ≡ true
    → whole ≡ members_in_range (members_view (drop i ms)) → whole ≡ members_in_range (members_view (drop (i + 1) ms))
members_more ms i m whole lt is inside so_far = so_far ∙ rw (drop_at ms i m lt is, inside)

pub members_none : (ms : List Member) (i : ℕ) (m : Member) (whole : Bool) → i < length ms → m ≡ get_or ms i m → in_range (value_view m.1) ≡ false
    → whole ≡ members_in_range (members_view (drop i ms)) → false ≡ whole
members_none ms i m whole lt is outside so_far = sym (so_far ∙ rw (drop_at ms i m lt is, outside))

pub members_done : (ms : List Member) (i : ℕ) (whole : Bool) → length ms ≤ i → whole ≡ members_in_range (members_view (drop i ms)) → true ≡ whole
members_done ms i whole all so_far = sym (so_far ∙ rw (drop_all i ms all))
