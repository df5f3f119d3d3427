-- Members that are put one after another stand in the order of their keys.
use Rattle.std.proofs.Common.{◌≡◌, refl, sym, ap, ℕ, suc, List, [], ◌∷◌, Bool, true, Option, None, Some, Ordering, Less, Equal, Greater, nat_cmp}
use Rattle.std.proofs.lemmas.Bool.{and_parts}
use Rattle.std.specs.Prelude.{◌&&◌}
use Rattle.std.specs.Cmp.Lexicographic.{slice_cmp}
use Rattle.std.specs.Ordering.{match_ordering, is_lt}
use Rattle.oxt_grammar.specs.Field.{Field}
use Rattle.oxt_json.specs.Slots.{key_at, in_front, laid}
use Rattle.oxt_json.specs.declared.slot.Slot.{Slot}
use Rattle.oxt_json.specs.declared.slot.Slot.TheVariants as slot
use Rattle.serde_json.specs.Data.{Data, Members, member, put}

-- the key comes before those of the slots
abbrev pub is_before : (Slot → List ℕ) → List ℕ → List Slot → Bool
is_before key k [] = true
is_before key k (s ∷ ss) = is_lt (slice_cmp nat_cmp k (key s)) && is_before key k ss

-- each slot's key comes before those of the slots behind it
abbrev pub ascends : (Slot → List ℕ) → List Slot → Bool
ascends key [] = true
ascends key (s ∷ ss) = is_before key (key s) ss && ascends key ss

-- a slot in front of the first one whose key is not less
abbrev pub insert : (Slot → List ℕ) → Slot → List Slot → List Slot
insert key s [] = s ∷ []
insert key s (t ∷ ts) = match_ordering (slice_cmp nat_cmp (key s) (key t)) (s ∷ t ∷ ts) (s ∷ t ∷ ts) (t ∷ insert key s ts)

-- the slots of the fields from a place on, inserted one after another
abbrev pub insert_fields : (Slot → List ℕ) → List Field → ℕ → List Slot → List Slot
insert_fields key [] i ss = ss
insert_fields key (r ∷ rs) i ss = insert_fields key rs (suc i) (insert key (slot.Field i) ss)

-- at each step of that the slots ascend
abbrev pub fields_ascend : (Slot → List ℕ) → List Field → ℕ → List Slot → Bool
fields_ascend key [] i ss = ascends key ss
fields_ascend key (r ∷ rs) i ss = ascends key ss && fields_ascend key rs (suc i) (insert key (slot.Field i) ss)

abbrev pub headed : (Slot → List ℕ) → List Slot
headed key = insert key slot.End (insert key slot.Start (slot.Type ∷ []))

-- the slots are those of a node with these fields, in order
abbrev pub IsInserted : List Field → List Slot → Type 0
IsInserted rs ss = (insert_fields (key_at rs) rs 0 (headed (key_at rs)) ≡ ss) × ((ascends (key_at rs) (insert (key_at rs) slot.Start (slot.Type ∷ [])) && fields_ascend (key_at rs) rs 0 (headed (key_at rs))) ≡ true)

-- data that is put under a key, where it is there
abbrev pub put_maybe : List ℕ → Option Data → Members → Members
put_maybe k None ms = ms
put_maybe k (Some d) ms = put k d ms

first_here : (o : Ordering) (k l : List ℕ) (d e : Data) (ms : Members) → is_lt o ≡ true → match_ordering o (member k d (member l e ms)) (member l d ms) (member l e (put k d ms)) ≡ member k d (member l e ms)
first_here Less k l d e ms is = refl
first_here Equal k l d e ms is = absurd (cc)
first_here Greater k l d e ms is = absurd (cc)

first_in_front : (k l : List ℕ) (d : Data) (here : Option Data) (ms : Members) → is_lt (slice_cmp nat_cmp k l) ≡ true → put k d ms ≡ member k d ms → put k d (in_front l here ms) ≡ member k d (in_front l here ms)
first_in_front k l d None ms is rest = rest
first_in_front k l d (Some e) ms is rest = first_here (slice_cmp nat_cmp k l) k l d e ms is

-- what is put under a key before all others comes first
first : (key : Slot → List ℕ) (at : Slot → Option Data) (k : List ℕ) (d : Data) (ss : List Slot) → is_before key k ss ≡ true → put k d (laid key at ss) ≡ member k d (laid key at ss)
first key at k d [] before = refl
first key at k d (s ∷ ss) before =
    let parts = and_parts (is_lt (slice_cmp nat_cmp k (key s))) (is_before key k ss) before in
    first_in_front k (key s) d (at s) (laid key at ss) parts.0 (first key at k d ss parts.1)

first_maybe : (key : Slot → List ℕ) (at : Slot → Option Data) (k : List ℕ) (here : Option Data) (ss : List Slot) → is_before key k ss ≡ true → in_front k here (laid key at ss) ≡ put_maybe k here (laid key at ss)
first_maybe key at k None ss before = refl
first_maybe key at k (Some d) ss before = sym (first key at k d ss before)

pub later_in_front : (k l : List ℕ) (new here : Option Data) (rest ms : Members) → slice_cmp nat_cmp k l ≡ Greater → rest ≡ put_maybe k new ms → in_front l here rest ≡ put_maybe k new (in_front l here ms)
later_in_front k l None None rest ms above is = is
later_in_front k l None (Some e) rest ms above is = ap (member l e) is
later_in_front k l (Some d) None rest ms above is = is
later_in_front k l (Some d) (Some e) rest ms above is = rw above (ap (member l e) is)

inserted_at : (key : Slot → List ℕ) (at : Slot → Option Data) (s t : Slot) (ts : List Slot) (o : Ordering) → slice_cmp nat_cmp (key s) (key t) ≡ o
    → (ascends key (insert key s ts) ≡ true → laid key at (insert key s ts) ≡ put_maybe (key s) (at s) (laid key at ts))
    → ascends key (match_ordering o (s ∷ t ∷ ts) (s ∷ t ∷ ts) (t ∷ insert key s ts)) ≡ true
    → laid key at (match_ordering o (s ∷ t ∷ ts) (s ∷ t ∷ ts) (t ∷ insert key s ts)) ≡ put_maybe (key s) (at s) (laid key at (t ∷ ts))
inserted_at key at s t ts Less is rest ascend = first_maybe key at (key s) (at s) (t ∷ ts) (and_parts (is_before key (key s) (t ∷ ts)) _ ascend).0
inserted_at key at s t ts Equal is rest ascend = first_maybe key at (key s) (at s) (t ∷ ts) (and_parts (is_before key (key s) (t ∷ ts)) _ ascend).0
inserted_at key at s t ts Greater is rest ascend =
    later_in_front (key s) (key t) (at s) (at t) (laid key at (insert key s ts)) (laid key at ts) is (rest (and_parts (is_before key (key t) (insert key s ts)) _ ascend).1)

-- a slot that is inserted is a member that is put
pub inserted : (key : Slot → List ℕ) (at : Slot → Option Data) (s : Slot) (ss : List Slot) → ascends key (insert key s ss) ≡ true → laid key at (insert key s ss) ≡ put_maybe (key s) (at s) (laid key at ss)
inserted key at s [] ascend = first_maybe key at (key s) (at s) [] refl
inserted key at s (t ∷ ts) ascend = inserted_at key at s t ts (slice_cmp nat_cmp (key s) (key t)) refl (inserted key at s ts) ascend
