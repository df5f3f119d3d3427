-- Data whose numbers are whole and fit 64 bits is told by its outline, and what is written of a document that fits is such data.
use Rattle.std.proofs.Common.{◌≡◌, ◌∙◌, refl, ap, ℕ, ◌<◌, ◌≤◌, List, [], ◌∷◌, Bool, true, false, codes, Option, Some, None, Ordering, Less, Equal, Greater, nat_lt, arith}
use Rattle.std.specs.Prelude.{◌&&◌, ◌==◌, ◌^◌, if◌then◌else◌}
use Rattle.std.specs.Cmp.Lexicographic.{slice_cmp}
use Rattle.std.specs.Ordering.{nat_cmp, match_ordering}
use Rattle.std.proofs.lemmas.Bool.{and_parts, and_from, ltb-true, leb-true, lt-ltb}
use Rattle.std.proofs.lemmas.Fmt.{decimal_injective}
use Rattle.oxt_json.specs.Spelled.{data_of, each_data, put_field, put_fields, heading}
use Rattle.oxt_grammar.specs.Context.{setting_of}
use Rattle.oxt_grammar.specs.Field.{Field}
use Rattle.oxt_grammar.specs.Kinds.{name_of}
use Rattle.oxt_grammar.specs.Places.{narrow, element_of, category_of, allows_number}
use Rattle.oxt_grammar.specs.Rows.{row_of}
use Rattle.oxt_grammar.specs.declared.context.Setting.{Setting}
use Rattle.oxt_grammar.specs.declared.holds.Holds.{Holds}
use Rattle.oxt_grammar.specs.declared.holds.Holds.TheVariants as holds
use Rattle.oxt_grammar.specs.declared.kind.Kind.{Kind}
use Rattle.oxt_tree.specs.Doc as doc
use Rattle.oxt_tree.specs.Doc.{Doc, Docs}
use Rattle.oxt_tree.specs.Fields.{is_left_out}
use Rattle.oxt_valid.specs.Valid.{is_kind_of, for_elements, fits, fields_fit, all_fit}
use Rattle.serde_json.specs.Data.{Num, unsigned, negative, float, Data, null, boolean, number, string, array, object, Items, no_items, item, Members, no_members, member, put}
use Rattle.serde_json.specs.View.{items_of}
use Rattle.serde_json.specs.Written.{number_text, outline, items_outline, members_outline}

-- a whole number that fits 64 bits
abbrev pub is_small : Num → Bool
is_small (unsigned n) = nat_lt n (2 ^ 64)
is_small (negative z) = false
is_small (float x) = false

-- the numbers are such numbers
abbrev mutual
  pub has_small : Data → Bool
  has_small null = true
  has_small (boolean b) = true
  has_small (number n) = is_small n
  has_small (string s) = true
  has_small (array ds) = items_small ds
  has_small (object ms) = members_small ms

  pub items_small : Items → Bool
  items_small no_items = true
  items_small (item d ds) = has_small d && items_small ds

  pub members_small : Members → Bool
  members_small no_members = true
  members_small (member k d ms) = has_small d && members_small ms

same_number : (m n : Num) → is_small m ≡ true → is_small n ≡ true → number_text m ≡ number_text n → m ≡ n
same_number (unsigned m) (unsigned n) p q e = ap unsigned (decimal_injective m n (ltb-true m (2 ^ 64) p) (ltb-true n (2 ^ 64) q) e)
same_number (unsigned m) (negative n) p q e = absurd (cc)
same_number (unsigned m) (float n) p q e = absurd (cc)
same_number (negative m) (unsigned n) p q e = absurd (cc)
same_number (negative m) (negative n) p q e = absurd (cc)
same_number (negative m) (float n) p q e = absurd (cc)
same_number (float m) (unsigned n) p q e = absurd (cc)
same_number (float m) (negative n) p q e = absurd (cc)
same_number (float m) (float n) p q e = absurd (cc)

mutual
  pub same_data : (x y : Data) → has_small x ≡ true → has_small y ≡ true → outline x ≡ outline y → x ≡ y
  same_data null null p q e = refl
  same_data null (boolean yb) p q e = absurd (cc)
  same_data null (number yn) p q e = absurd (cc)
  same_data null (string ys) p q e = absurd (cc)
  same_data null (array yds) p q e = absurd (cc)
  same_data null (object yms) p q e = absurd (cc)
  same_data (boolean xb) null p q e = absurd (cc)
  same_data (boolean b) (boolean c) p q e = let same : b ≡ c = cc in ap boolean same
  same_data (boolean xb) (number yn) p q e = absurd (cc)
  same_data (boolean xb) (string ys) p q e = absurd (cc)
  same_data (boolean xb) (array yds) p q e = absurd (cc)
  same_data (boolean xb) (object yms) p q e = absurd (cc)
  same_data (number xn) null p q e = absurd (cc)
  same_data (number xn) (boolean yb) p q e = absurd (cc)
  same_data (number m) (number n) p q e = let same : number_text m ≡ number_text n = cc in ap number (same_number m n p q same)
  same_data (number xn) (string ys) p q e = absurd (cc)
  same_data (number xn) (array yds) p q e = absurd (cc)
  same_data (number xn) (object yms) p q e = absurd (cc)
  same_data (string xs) null p q e = absurd (cc)
  same_data (string xs) (boolean yb) p q e = absurd (cc)
  same_data (string xs) (number yn) p q e = absurd (cc)
  same_data (string s) (string t) p q e = let same : s ≡ t = cc in ap string same
  same_data (string xs) (array yds) p q e = absurd (cc)
  same_data (string xs) (object yms) p q e = absurd (cc)
  same_data (array xds) null p q e = absurd (cc)
  same_data (array xds) (boolean yb) p q e = absurd (cc)
  same_data (array xds) (number yn) p q e = absurd (cc)
  same_data (array xds) (string ys) p q e = absurd (cc)
  same_data (array xs) (array ys) p q e = let same : items_outline xs ≡ items_outline ys = cc in ap array (same_items xs ys p q same)
  same_data (array xds) (object yms) p q e = absurd (cc)
  same_data (object xms) null p q e = absurd (cc)
  same_data (object xms) (boolean yb) p q e = absurd (cc)
  same_data (object xms) (number yn) p q e = absurd (cc)
  same_data (object xms) (string ys) p q e = absurd (cc)
  same_data (object xms) (array yds) p q e = absurd (cc)
  same_data (object xs) (object ys) p q e = let same : members_outline xs ≡ members_outline ys = cc in ap object (same_members xs ys p q same)

  same_items : (xs ys : Items) → items_small xs ≡ true → items_small ys ≡ true → items_outline xs ≡ items_outline ys → xs ≡ ys
  same_items no_items no_items p q e = refl
  same_items no_items (item y ys) p q e = absurd (cc)
  same_items (item x xs) no_items p q e = absurd (cc)
  same_items (item x xs) (item y ys) p q e =
      let first : outline x ≡ outline y = cc in
      let rest : items_outline xs ≡ items_outline ys = cc in
      let ps = and_parts (has_small x) (items_small xs) p in
      let qs = and_parts (has_small y) (items_small ys) q in
      ap (λ z. item z xs) (same_data x y ps.0 qs.0 first) ∙ ap (item y) (same_items xs ys ps.1 qs.1 rest)

  same_members : (xs ys : Members) → members_small xs ≡ true → members_small ys ≡ true → members_outline xs ≡ members_outline ys → xs ≡ ys
  same_members no_members no_members p q e = refl
  same_members no_members (member l y ys) p q e = absurd (cc)
  same_members (member k x xs) no_members p q e = absurd (cc)
  same_members (member k x xs) (member l y ys) p q e =
      let key : k ≡ l = cc in
      let first : outline x ≡ outline y = cc in
      let rest : members_outline xs ≡ members_outline ys = cc in
      let ps = and_parts (has_small x) (members_small xs) p in
      let qs = and_parts (has_small y) (members_small ys) q in
      ap (λ k. member k x xs) key ∙ (ap (λ z. member l z xs) (same_data x y ps.0 qs.0 first) ∙ ap (member l y) (same_members xs ys ps.1 qs.1 rest))

-- ---- what is written

put_at : (o : Ordering) (k l : List ℕ) (d e : Data) (ms : Members) → has_small d ≡ true → members_small (member l e ms) ≡ true → members_small (put k d ms) ≡ true
    → members_small (match_ordering o (member k d (member l e ms)) (member l d ms) (member l e (put k d ms))) ≡ true
put_at Less k l d e ms new old later = and_from (has_small d) _ new old
put_at Equal k l d e ms new old later = and_from (has_small d) _ new (and_parts (has_small e) _ old).1
put_at Greater k l d e ms new old later = and_from (has_small e) _ (and_parts (has_small e) _ old).0 later

put_small : (k : List ℕ) (d : Data) (ms : Members) → has_small d ≡ true → members_small ms ≡ true → members_small (put k d ms) ≡ true
put_small k d no_members new old = and_from (has_small d) _ new old
put_small k d (member l e ms) new old = put_at (slice_cmp nat_cmp k l) k l d e ms new old (put_small k d ms new (and_parts (has_small e) _ old).1)

put_unless : (is_out : Bool) (k : List ℕ) (d : Data) (ms : Members) → has_small d ≡ true → members_small ms ≡ true → members_small (if is_out then ms else put k d ms) ≡ true
put_unless true k d ms new old = old
put_unless false k d ms new old = put_small k d ms new old

fields_small : (rs : List Field) (ds : Docs) (ws : List Data) (ms : Members) → items_small (items_of ws) ≡ true → members_small ms ≡ true → members_small (put_fields rs ds ws ms) ≡ true
fields_small [] ds ws ms new old = old
fields_small (r ∷ rs) doc.no_docs ws ms new old = old
fields_small (r ∷ rs) (doc.doc d ds) [] ms new old = old
fields_small (r ∷ rs) (doc.doc d ds) (w ∷ ws) ms new old = fields_small rs ds ws (put_field r d w ms) (and_parts (has_small w) _ new).1 (put_unless (is_left_out r d) r.name w ms (and_parts (has_small w) _ new).0 old)

offset_small : (n : ℕ) → nat_lt n (2 ^ 32) ≡ true → nat_lt n (2 ^ 64) ≡ true
offset_small n within = let small : n < 2 ^ 32 = ltb-true n (2 ^ 32) within in lt-ltb n (2 ^ 64) (omega arith)

heading_small : (k : Kind) (start end : ℕ) → nat_lt start (2 ^ 32) ≡ true → nat_lt end (2 ^ 32) ≡ true → members_small (heading k start end) ≡ true
heading_small k start end p q =
    put_unless (end == 0) (codes "end") (number (unsigned end)) _ (offset_small end q) (put_unless (start == 0) (codes "start") (number (unsigned start)) _ (offset_small start p) (put_small (codes "type") (string (name_of k)) no_members refl refl))

number_small : (h : Holds) (n : ℕ) → allows_number h n ≡ true → nat_lt n (2 ^ 64) ≡ true
number_small holds.WholeOrNull n is = let small : n ≤ 9007199254740991 = leb-true n 9007199254740991 is in lt-ltb n (2 ^ 64) (omega arith)
number_small h n is = absurd (cc)

list_small : (o : Option Holds) (ds : Docs) (s : Setting) → for_elements o (all_fit ds s) ≡ true → ((h : Holds) → all_fit ds s h ≡ true → items_small (items_of (each_data ds)) ≡ true) → items_small (items_of (each_data ds)) ≡ true
list_small None ds s fit each = absurd (cc)
list_small (Some h) ds s fit each = each h fit

mutual
  pub fits_small : (d : Doc) (s : Setting) (h : Holds) → fits d s h ≡ true → has_small (data_of d) ≡ true
  fits_small doc.nil s h fit = refl
  fits_small (doc.flag b) s h fit = refl
  fits_small (doc.number n) s h fit = number_small h n fit
  fits_small (doc.text t) s h fit = refl
  fits_small (doc.list ds) s h fit = list_small (element_of h) ds s fit (λ h f. each_small ds s h f)
  fits_small (doc.node k id b e ds) s h fit =
      let one = and_parts (is_kind_of (category_of h) k) _ fit in
      let two = and_parts (nat_lt b (2 ^ 32) && nat_lt e (2 ^ 32)) _ one.1 in
      let offsets = and_parts (nat_lt b (2 ^ 32)) (nat_lt e (2 ^ 32)) two.0 in
      let three = and_parts (fields_fit ds s (setting_of k) (row_of k)) _ two.1 in
      fields_small (row_of k) ds (each_data ds) (heading k b e) (each_field_small ds s (setting_of k) (row_of k) three.0) (heading_small k b e offsets.0 offsets.1)

  each_small : (ds : Docs) (s : Setting) (h : Holds) → all_fit ds s h ≡ true → items_small (items_of (each_data ds)) ≡ true
  each_small doc.no_docs s h fit = refl
  each_small (doc.doc d ds) s h fit = let parts = and_parts (fits d s h) (all_fit ds s h) fit in and_from (has_small (data_of d)) _ (fits_small d s h parts.0) (each_small ds s h parts.1)

  each_field_small : (ds : Docs) (s inner : Setting) (rs : List Field) → fields_fit ds s inner rs ≡ true → items_small (items_of (each_data ds)) ≡ true
  each_field_small doc.no_docs s inner rs fit = refl
  each_field_small (doc.doc d ds) s inner [] fit = absurd (cc)
  each_field_small (doc.doc d ds) s inner (r ∷ rs) fit =
      let parts = and_parts (fits d inner (narrow s r.holds)) (fields_fit ds s inner rs) fit in
      and_from (has_small (data_of d)) _ (fits_small d inner (narrow s r.holds) parts.0) (each_field_small ds s inner rs parts.1)
