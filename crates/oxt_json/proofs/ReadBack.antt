-- What is written of a tree is read back as its data.
use Rattle.std.proofs.Common.{◌≡◌, ◌∙◌, refl, sym, ap, ap₂, subst, ℕ, zero, suc, List, [], ◌∷◌, ◌++◌, Bool, true, false, Option, None, Some, option_map, option_and_then, Ordering, Less, Equal, Greater, nat_cmp, if◌then◌else◌, append_assoc, append-nil}
use Rattle.std.proofs.lemmas.Bool.{and_parts}
use Rattle.std.proofs.lemmas.Cmp.{nat_list_cmp_total}
use Rattle.std.specs.Cmp.Lexicographic.{slice_cmp}
use Rattle.std.specs.Ordering.{is_lt, ordering_reverse}
use Rattle.oxt_grammar.specs.Field.{Field}
use Rattle.oxt_grammar.specs.Rows.{row_of}
use Rattle.oxt_grammar.specs.declared.kind.Kind.{Kind}
use Rattle.oxt_json.proofs.Insertion.{is_before, ascends, put_maybe, later_in_front}
use Rattle.oxt_json.proofs.Laid.{members_laid, order_ascends}
use Rattle.oxt_json.specs.Numbers.{DataFits, ItemsFit, MembersFit}
use Rattle.oxt_json.specs.Order.{order_of}
use Rattle.oxt_json.specs.Slots.{key_at, field_data, data_at, in_front, laid, laid_node}
use Rattle.oxt_json.specs.Spelled.{data_of, each_data}
use Rattle.oxt_json.specs.declared.slot.Slot.{Slot}
use Rattle.oxt_json.specs.declared.slot.Slot.TheVariants as slot
use Rattle.oxt_tree.specs.Doc.{Doc, nil, flag, number, text, list, node, Docs, no_docs, doc}
use Rattle.oxt_tree.specs.Fields.{is_left_out}
use Rattle.json.specs.Json as tree
use Rattle.json.specs.Tree.{depth as tree_depth, items_depth as tree_items_depth, members_depth as tree_members_depth}
use Rattle.serde_json.proofs.Numbers.{number_of-decimal}
use Rattle.serde_json.proofs.Texts.{unless_float-number_of}
use Rattle.serde_json.specs.Data as json
use Rattle.serde_json.specs.Data.{Data, Items, Members, put, depth, items_depth, members_depth}
use Rattle.serde_json.specs.Read.{of_json, of_items, of_members}
use Rattle.serde_json.specs.View.{items_of}
use Rattle.serde_json.specs.Written.{outline, items_outline, members_outline, blank, blank_items, blank_members}

-- ---- as deep as the data, and with no number to leave out

mutual
  pub same_depth : (d : Data) → tree_depth (outline d) ≡ depth d
  same_depth json.null = refl
  same_depth (json.boolean b) = refl
  same_depth (json.number n) = refl
  same_depth (json.string s) = refl
  same_depth (json.array ds) = ap suc (same_items_depth ds)
  same_depth (json.object ms) = ap suc (same_members_depth ms)

  same_items_depth : (ds : Items) → tree_items_depth (items_outline ds) ≡ items_depth ds
  same_items_depth json.no_items = refl
  same_items_depth (json.item d ds) = rw (same_depth d, same_items_depth ds) refl

  same_members_depth : (ms : Members) → tree_members_depth (members_outline ms) ≡ members_depth ms
  same_members_depth json.no_members = refl
  same_members_depth (json.member k d ms) = rw (same_depth d, same_members_depth ms) refl

mutual
  pub same_blank : (d : Data) → DataFits d → blank (outline d) ≡ outline d
  same_blank json.null fit = refl
  same_blank (json.boolean b) fit = refl
  same_blank (json.number (json.unsigned n)) fit = ap tree.number (unless_float-number_of _ (json.unsigned n) (number_of-decimal n fit))
  same_blank (json.number (json.negative z)) fit = absurd fit
  same_blank (json.number (json.float x)) fit = absurd fit
  same_blank (json.string s) fit = refl
  same_blank (json.array ds) fit = ap tree.array (same_items_blank ds fit)
  same_blank (json.object ms) fit = ap tree.object (same_members_blank ms fit)

  same_items_blank : (ds : Items) → ItemsFit ds → blank_items (items_outline ds) ≡ items_outline ds
  same_items_blank json.no_items fit = refl
  same_items_blank (json.item d ds) fit = ap₂ tree.item (same_blank d fit.0) (same_items_blank ds fit.1)

  same_members_blank : (ms : Members) → MembersFit ms → blank_members (members_outline ms) ≡ members_outline ms
  same_members_blank json.no_members fit = refl
  same_members_blank (json.member k d ms) fit = ap₂ (tree.member k) (same_blank d fit.0) (same_members_blank ms fit.1)

-- ---- members whose keys ascend

flipped : (o : Ordering) → is_lt o ≡ true → ordering_reverse o ≡ Greater
flipped Less is = refl
flipped Equal is = absurd (cc)
flipped Greater is = absurd (cc)

alone : (k : List ℕ) (here : Option Data) → in_front k here json.no_members ≡ put_maybe k here json.no_members
alone k None = refl
alone k (Some d) = refl

between : (key : Slot → List ℕ) (k : List ℕ) (done : List Slot) (s : Slot) (more : List Slot) → is_before key k (done ++ s ∷ more) ≡ true → is_lt (slice_cmp nat_cmp k (key s)) ≡ true
between key k [] s more before = (and_parts (is_lt (slice_cmp nat_cmp k (key s))) _ before).0
between key k (t ∷ done) s more before = between key k done s more (and_parts (is_lt (slice_cmp nat_cmp k (key t))) _ before).1

-- what is put under a key behind all others comes last
put_last : (key : Slot → List ℕ) (at : Slot → Option Data) (done : List Slot) (s : Slot) (more : List Slot) → ascends key (done ++ s ∷ more) ≡ true → laid key at (done ++ s ∷ []) ≡ put_maybe (key s) (at s) (laid key at done)
put_last key at [] s more ascend = alone (key s) (at s)
put_last key at (t ∷ done) s more ascend =
    let parts = and_parts (is_before key (key t) (done ++ s ∷ more)) _ ascend in
    let above : slice_cmp nat_cmp (key s) (key t) ≡ Greater = nat_list_cmp_total.antisymm (key s) (key t) ∙ flipped (slice_cmp nat_cmp (key t) (key s)) (between key (key t) done s more parts.0) in
    later_in_front (key s) (key t) (at s) (at t) (laid key at (done ++ s ∷ [])) (laid key at done) above (put_last key at done s more parts.1)

-- what stands at a slot is read back, if it holds no large number
abbrev Reads : (Slot → Option Data) → Type 0
Reads at = (s : Slot) (d : Data) → at s ≡ Some d → DataFits d → of_json (outline d) ≡ Some d

one_read : (k : List ℕ) (here : Option Data) (ms found : Members) → ((d : Data) → here ≡ Some d → DataFits d → of_json (outline d) ≡ Some d) → MembersFit (in_front k here ms)
    → of_members (members_outline (in_front k here ms)) found ≡ of_members (members_outline ms) (put_maybe k here found)
one_read k None ms found reads fit = refl
one_read k (Some d) ms found reads fit = ap (option_and_then (λ e. of_members (members_outline ms) (put k e found))) (reads d refl fit.0)

rest_fits : (k : List ℕ) (here : Option Data) (ms : Members) → MembersFit (in_front k here ms) → MembersFit ms
rest_fits k None ms fit = fit
rest_fits k (Some d) ms fit = fit.1

members_read : (key : Slot → List ℕ) (at : Slot → Option Data) (done todo : List Slot) → Reads at → ascends key (done ++ todo) ≡ true → MembersFit (laid key at todo)
    → of_members (members_outline (laid key at todo)) (laid key at done) ≡ Some (laid key at (done ++ todo))
members_read key at done [] reads ascend fit = ap (λ ss. Some (laid key at ss)) (sym (append-nil done))
members_read key at done (s ∷ ss) reads ascend fit =
    let same : done ++ (s ∷ ss) ≡ (done ++ s ∷ []) ++ ss = sym (append_assoc done (s ∷ []) ss) in
    one_read (key s) (at s) (laid key at ss) (laid key at done) (reads s) fit
    ∙ (ap (of_members (members_outline (laid key at ss))) (sym (put_last key at done s ss ascend))
    ∙ (members_read key at (done ++ s ∷ []) ss reads (ap (ascends key) (sym same) ∙ ascend) (rest_fits (key s) (at s) (laid key at ss) fit) ∙ ap (λ ss. Some (laid key at ss)) (sym same)))

number_read : (n : ℕ) → DataFits (json.number (json.unsigned n)) → of_json (outline (json.number (json.unsigned n))) ≡ Some (json.number (json.unsigned n))
number_read n fit = ap (option_map json.number) (number_of-decimal n fit)

offset_read : (is_none : Bool) (n : ℕ) (d : Data) → (if is_none then None else Some (json.number (json.unsigned n))) ≡ Some d → DataFits d → of_json (outline d) ≡ Some d
offset_read true n d is fit = absurd (cc)
offset_read false n d is fit =
    let same : json.number (json.unsigned n) ≡ d = cc in
    subst (λ e. of_json (outline e) ≡ Some e) same (number_read n (subst DataFits (sym same) fit))

unless_out : (is_out : Bool) (d w : Data) → (if is_out then None else Some d) ≡ Some w → (DataFits d → of_json (outline d) ≡ Some d) → DataFits w → of_json (outline w) ≡ Some w
unless_out true d w is reads fit = absurd (cc)
unless_out false d w is reads fit =
    let same : d ≡ w = cc in
    subst (λ e. of_json (outline e) ≡ Some e) same (reads (subst DataFits (sym same) fit))

text_read : (s : List ℕ) (d : Data) → Some (json.string s) ≡ Some d → of_json (outline d) ≡ Some d
text_read s d is = let same : json.string s ≡ d = cc in subst (λ e. of_json (outline e) ≡ Some e) same refl

slots_read : (k : Kind) (start end : ℕ) (ds : Docs) → ((i : ℕ) (w : Data) → field_data i (row_of k) ds ≡ Some w → DataFits w → of_json (outline w) ≡ Some w) → Reads (data_at k start end ds)
slots_read k start end ds fields slot.Type d is fit = text_read _ d is
slots_read k start end ds fields slot.Start d is fit = offset_read _ start d is fit
slots_read k start end ds fields slot.End d is fit = offset_read _ end d is fit
slots_read k start end ds fields (slot.Field i) d is fit = fields i d is fit

node_read : (k : Kind) (start end : ℕ) (ds : Docs) → Reads (data_at k start end ds) → MembersFit (laid_node k start end ds (order_of k))
    → of_members (members_outline (laid_node k start end ds (order_of k))) json.no_members ≡ Some (laid_node k start end ds (order_of k))
node_read k start end ds reads fit = members_read (key_at (row_of k)) (data_at k start end ds) [] (order_of k) reads (order_ascends k) fit

mutual
  pub reads : (d : Doc) → DataFits (data_of d) → of_json (outline (data_of d)) ≡ Some (data_of d)
  reads nil fit = refl
  reads (flag b) fit = refl
  reads (number n) fit = number_read n fit
  reads (text t) fit = refl
  reads (list ds) fit = ap (option_map json.array) (each_reads ds fit)
  reads (node k id start end ds) fit =
      let same = members_laid k start end ds in
      let slots = slots_read k start end ds (λ i w is fits. field_reads ds i (row_of k) w is fits) in
      ap (option_map json.object) (subst (λ ms. of_members (members_outline ms) json.no_members ≡ Some ms) same (node_read k start end ds slots (subst MembersFit (sym same) fit)))

  each_reads : (ds : Docs) → ItemsFit (items_of (each_data ds)) → of_items (items_outline (items_of (each_data ds))) ≡ Some (items_of (each_data ds))
  each_reads no_docs fit = refl
  each_reads (doc d ds) fit = rw (reads d fit.0, each_reads ds fit.1) refl

  field_reads : (ds : Docs) (i : ℕ) (rs : List Field) (w : Data) → field_data i rs ds ≡ Some w → DataFits w → of_json (outline w) ≡ Some w
  field_reads no_docs i [] w is fit = absurd (cc)
  field_reads no_docs i (r ∷ rs) w is fit = absurd (cc)
  field_reads (doc d ds) i [] w is fit = absurd (cc)
  field_reads (doc d ds) zero (r ∷ rs) w is fit = unless_out (is_left_out r d) (data_of d) w is (reads d) fit
  field_reads (doc d ds) (suc i) (r ∷ rs) w is fit = field_reads ds i rs w is fit
