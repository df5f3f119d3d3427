-- What is written at the slots of a node is what its data has.
use Rattle.std.proofs.Common.{◌≡◌, ◌∙◌, refl, sym, ap, ℕ, suc, ◌+◌, ◌==◌, List, [], ◌∷◌, Bool, true, false, Option, None, Some, if◌then◌else◌, codes, add-zero, arith}
use Rattle.std.proofs.lemmas.Bool.{and_parts}
use Rattle.oxt_grammar.specs.Field.{Field}
use Rattle.oxt_grammar.specs.Rows.{row_of}
use Rattle.oxt_grammar.specs.declared.kind.Kind.{Kind}
use Rattle.oxt_json.proofs.Insertion.{ascends, insert, insert_fields, fields_ascend, headed, put_maybe, inserted}
use Rattle.oxt_json.proofs.InOrder.{ordered}
use Rattle.oxt_json.specs.Order.{order_of}
use Rattle.oxt_json.specs.Slots.{name_at, key_at, field_data, data_at, laid, laid_node}
use Rattle.oxt_json.specs.Spelled.{data_of, each_data, put_fields, heading}
use Rattle.oxt_json.specs.declared.slot.Slot.{Slot}
use Rattle.oxt_json.specs.declared.slot.Slot.TheVariants as slot
use Rattle.oxt_tree.specs.Doc.{Docs, no_docs, doc}
use Rattle.oxt_tree.specs.Fields.{is_left_out}
use Rattle.serde_json.specs.Data as json
use Rattle.serde_json.specs.Data.{Data, Members, put}

pub no_fields : (rs : List Field) (ms : Members) → put_fields rs no_docs [] ms ≡ ms
no_fields [] ms = refl
no_fields (r ∷ rs) ms = refl

no_data : (i : ℕ) (rs : List Field) → field_data i rs no_docs ≡ None
no_data i [] = refl
no_data i (r ∷ rs) = refl

put_unless : (is_out : Bool) (k : List ℕ) (d : Data) (ms : Members) → put_maybe k (if is_out then None else Some d) ms ≡ (if is_out then ms else put k d ms)
put_unless true k d ms = refl
put_unless false k d ms = refl

now_ascends : (key : Slot → List ℕ) (rs : List Field) (i : ℕ) (ss : List Slot) → fields_ascend key rs i ss ≡ true → ascends key ss ≡ true
now_ascends key [] i ss ascend = ascend
now_ascends key (r ∷ rs) i ss ascend = (and_parts (ascends key ss) _ ascend).0

at_last_ascends : (key : Slot → List ℕ) (rs : List Field) (i : ℕ) (ss : List Slot) → fields_ascend key rs i ss ≡ true → ascends key (insert_fields key rs i ss) ≡ true
at_last_ascends key [] i ss ascend = ascend
at_last_ascends key (r ∷ rs) i ss ascend = at_last_ascends key rs (suc i) (insert key (slot.Field i) ss) (and_parts (ascends key ss) _ ascend).1

next : (j i : ℕ) → j + suc i ≡ suc j + i
next j i = omega arith

fields_put : (key : Slot → List ℕ) (at : Slot → Option Data) (rs : List Field) (ds : Docs) (i : ℕ) (ss : List Slot)
    → ((j : ℕ) → key (slot.Field (j + i)) ≡ name_at j rs) → ((j : ℕ) → at (slot.Field (j + i)) ≡ field_data j rs ds) → fields_ascend key rs i ss ≡ true
    → laid key at (insert_fields key rs i ss) ≡ put_fields rs ds (each_data ds) (laid key at ss)
fields_put key at [] ds i ss names values ascend = refl
fields_put key at (r ∷ rs) no_docs i ss names values ascend =
    let here : 0 + i ≡ i = omega arith in
    let rest = (and_parts (ascends key ss) _ ascend).1 in
    let value : at (slot.Field i) ≡ None = ap (λ n. at (slot.Field n)) (sym here) ∙ values 0 in
    let one : laid key at (insert key (slot.Field i) ss) ≡ laid key at ss =
    inserted key at (slot.Field i) ss (now_ascends key rs (suc i) _ rest) ∙ ap (λ o. put_maybe (key (slot.Field i)) o (laid key at ss)) value in
    fields_put key at rs no_docs (suc i) (insert key (slot.Field i) ss)
    (λ j. ap (λ n. key (slot.Field n)) (next j i) ∙ names (suc j)) (λ j. ap (λ n. at (slot.Field n)) (next j i) ∙ (values (suc j) ∙ sym (no_data j rs))) rest
    ∙ (no_fields rs _ ∙ one)
fields_put key at (r ∷ rs) (doc d ds) i ss names values ascend =
    let here : 0 + i ≡ i = omega arith in
    let rest = (and_parts (ascends key ss) _ ascend).1 in
    let name : key (slot.Field i) ≡ r.name = ap (λ n. key (slot.Field n)) (sym here) ∙ names 0 in
    let value : at (slot.Field i) ≡ (if is_left_out r d then None else Some (data_of d)) = ap (λ n. at (slot.Field n)) (sym here) ∙ values 0 in
    let one : laid key at (insert key (slot.Field i) ss) ≡ put_maybe r.name (if is_left_out r d then None else Some (data_of d)) (laid key at ss) =
    inserted key at (slot.Field i) ss (now_ascends key rs (suc i) _ rest)
    ∙ (ap (λ k. put_maybe k (at (slot.Field i)) (laid key at ss)) name ∙ ap (λ o. put_maybe r.name o (laid key at ss)) value) in
    fields_put key at rs ds (suc i) (insert key (slot.Field i) ss)
    (λ j. ap (λ n. key (slot.Field n)) (next j i) ∙ names (suc j)) (λ j. ap (λ n. at (slot.Field n)) (next j i) ∙ values (suc j)) rest
    ∙ ap (put_fields rs ds (each_data ds)) (one ∙ put_unless (is_left_out r d) r.name (data_of d) (laid key at ss))

heading_put : (k : Kind) (start end : ℕ) (ds : Docs) → ascends (key_at (row_of k)) (insert (key_at (row_of k)) slot.Start (slot.Type ∷ [])) ≡ true → ascends (key_at (row_of k)) (headed (key_at (row_of k))) ≡ true
    → laid_node k start end ds (headed (key_at (row_of k))) ≡ heading k start end
heading_put k start end ds one two =
    let key = key_at (row_of k) in
    let at = data_at k start end ds in
    let started : laid key at (insert key slot.Start (slot.Type ∷ [])) ≡ _ = inserted key at slot.Start (slot.Type ∷ []) one ∙ put_unless (start == 0) (codes "start") (json.number (json.unsigned start)) _ in
    inserted key at slot.End (insert key slot.Start (slot.Type ∷ [])) two ∙ (put_unless (end == 0) (codes "end") (json.number (json.unsigned end)) _ ∙ ap (λ ms. if end == 0 then ms else put (codes "end") (json.number (json.unsigned end)) ms) started)

-- the members at the slots of a kind, in their order, are those of the data
pub members_laid : (k : Kind) (start end : ℕ) (ds : Docs) → laid_node k start end ds (order_of k) ≡ put_fields (row_of k) ds (each_data ds) (heading k start end)
members_laid k start end ds =
    let rs = row_of k in
    let key = key_at rs in
    let at = data_at k start end ds in
    let order = ordered k in
    let parts = and_parts (ascends key (insert key slot.Start (slot.Type ∷ []))) _ order.1 in
    ap (laid_node k start end ds) (sym order.0)
    ∙ (fields_put key at rs ds 0 (headed key) (λ j. ap (λ n. name_at n rs) (add-zero j)) (λ j. ap (λ n. field_data n rs ds) (add-zero j)) parts.1
    ∙ ap (put_fields rs ds (each_data ds)) (heading_put k start end ds parts.0 (now_ascends key rs 0 (headed key) parts.1)))

-- and their keys ascend
pub order_ascends : (k : Kind) → ascends (key_at (row_of k)) (order_of k) ≡ true
order_ascends k =
    let rs = row_of k in
    let order = ordered k in
    let parts = and_parts (ascends (key_at rs) (insert (key_at rs) slot.Start (slot.Type ∷ []))) _ order.1 in
    ap (ascends (key_at rs)) (sym order.0) ∙ at_last_ascends (key_at rs) rs 0 (headed (key_at rs)) parts.1
