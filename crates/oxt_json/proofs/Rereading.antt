-- The data of a document that fits reads as the document, numbered anew.
use Rattle.std.proofs.Common.{◌≡◌, ◌∙◌, refl, sym, ap, ℕ, ◌+◌, List, [], ◌∷◌, Bool, true, false, Option, Some, None, Ok, Ordering, Less, Equal, Greater, nat_lt, option_map}
use Rattle.std.specs.Prelude.{not, ◌&&◌, ◌==◌, ◌^◌, if◌then◌else◌, is_none, slice_get}
use Rattle.std.specs.Cmp.Lexicographic.{slice_cmp}
use Rattle.std.specs.Ordering.{nat_cmp, match_ordering}
use Rattle.std.proofs.lemmas.Bool.{and_parts, eqb-true}
use Rattle.std.proofs.lemmas.Slice.Eq.{bytes_eq-Decides}
use Rattle.oxt_json.specs.Spelled.{data_of, each_data}
use Rattle.oxt_json.proofs.Conditions.{fault_numbered}
use Rattle.oxt_json.proofs.Fields.{unless, offset, HasFields, members_of, has_fields, has_type, has_start, has_end}
use Rattle.oxt_json.proofs.OneKind.{kind_found}
use Rattle.oxt_json.specs.Answer.{and_then, mapped, allowed}
use Rattle.oxt_json.specs.Leaves.{offset_at}
use Rattle.oxt_json.specs.Numbered.{numbered, each_numbered}
use Rattle.oxt_json.specs.Reading.{Reader, list_as, head_as, field_as, fields_as, whole_node, headed_as, node_as, read_as, each_as, member_as}
use Rattle.oxt_grammar.specs.Context.{setting_of}
use Rattle.oxt_grammar.specs.Field.{Field, is_required}
use Rattle.oxt_grammar.specs.Places.{kind_in, narrow, element_of, allows_null, allows_flag, allows_number, category_of}
use Rattle.oxt_grammar.specs.Rows.{row_of}
use Rattle.oxt_grammar.specs.Words.{text_of, words_in}
use Rattle.oxt_grammar.specs.declared.category.Category.{Category}
use Rattle.oxt_grammar.specs.declared.context.Setting.{Setting}
use Rattle.oxt_grammar.specs.declared.holds.Holds.{Holds}
use Rattle.oxt_grammar.specs.declared.holds.Holds.TheVariants as holds
use Rattle.oxt_grammar.specs.declared.kind.Kind.{Kind}
use Rattle.oxt_grammar.specs.declared.word.Word.{Word}
use Rattle.oxt_valid.specs.Condition.{fault}
use Rattle.oxt_tree.specs.Doc.{Doc, nil, flag, number, text, list, node, Docs, no_docs, doc, docs_of}
use Rattle.oxt_tree.specs.Fields.{docs_list, word_doc, default_of, is_word, is_default, is_left_out}
use Rattle.oxt_valid.specs.Valid.{allows_text, is_kind_of, for_elements, fits, fields_fit, all_fit}
use Rattle.serde_json.specs.Data.{Data, Members, no_members, member}
use Rattle.serde_json.specs.Find.{get_member}
use Rattle.serde_json.specs.View.{items_of}

list_again : (ds : Docs) → docs_of (docs_list ds) ≡ ds
list_again no_docs = refl
list_again (doc d ds) = ap (doc d) (list_again ds)

-- ---- members

read_at : (o : Ordering) (d : Data) (rest : Option Reader) (found : Option Data) → rest ≡ option_map read_as found → match_ordering o rest (Some (read_as d)) rest ≡ option_map read_as (match_ordering o found (Some d) found)
read_at Less d rest found e = e
read_at Equal d rest found e = refl
read_at Greater d rest found e = e

members_read : (ms : Members) (name : List ℕ) → member_as ms name ≡ option_map read_as (get_member name ms)
members_read no_members name = refl
members_read (member key d ms) name = read_at (slice_cmp nat_cmp name key) d _ _ (members_read ms name)

-- ---- what is left out

first_word : (w : Option Word) (t : List ℕ) → is_word w t ≡ true → word_doc w ≡ text t
first_word None t is = absurd (cc)
first_word (Some w) t is = ap text ((bytes_eq-Decides (text_of w) t).0 is)

default_numbered : (h : Holds) (d : Doc) (n : ℕ) → is_default h d ≡ true → (default_of h, n) ≡ numbered d n
default_numbered holds.Text x n is = absurd (cc)
default_numbered (holds.Node c) x n is = absurd (cc)
default_numbered (holds.Narrowed c d) x n is = absurd (cc)
default_numbered holds.Flag nil n is = absurd (cc)
default_numbered holds.Flag (flag true) n is = absurd (cc)
default_numbered holds.Flag (flag false) n is = refl
default_numbered holds.Flag (number x) n is = absurd (cc)
default_numbered holds.Flag (text t) n is = absurd (cc)
default_numbered holds.Flag (list no_docs) n is = absurd (cc)
default_numbered holds.Flag (list (doc d ds)) n is = absurd (cc)
default_numbered holds.Flag (node k i b e ds) n is = absurd (cc)
default_numbered (holds.Word ws) nil n is = absurd (cc)
default_numbered (holds.Word ws) (flag b) n is = absurd (cc)
default_numbered (holds.Word ws) (number x) n is = absurd (cc)
default_numbered (holds.Word ws) (text t) n is = ap (λ x. (x, n)) (first_word (slice_get (words_in ws) 0) t is)
default_numbered (holds.Word ws) (list no_docs) n is = absurd (cc)
default_numbered (holds.Word ws) (list (doc d ds)) n is = absurd (cc)
default_numbered (holds.Word ws) (node k i b e ds) n is = absurd (cc)
default_numbered (holds.List c) nil n is = absurd (cc)
default_numbered (holds.List c) (flag b) n is = absurd (cc)
default_numbered (holds.List c) (number x) n is = absurd (cc)
default_numbered (holds.List c) (text t) n is = absurd (cc)
default_numbered (holds.List c) (list no_docs) n is = refl
default_numbered (holds.List c) (list (doc d ds)) n is = absurd (cc)
default_numbered (holds.List c) (node k i b e ds) n is = absurd (cc)
default_numbered (holds.ListOfNullable c) nil n is = absurd (cc)
default_numbered (holds.ListOfNullable c) (flag b) n is = absurd (cc)
default_numbered (holds.ListOfNullable c) (number x) n is = absurd (cc)
default_numbered (holds.ListOfNullable c) (text t) n is = absurd (cc)
default_numbered (holds.ListOfNullable c) (list no_docs) n is = refl
default_numbered (holds.ListOfNullable c) (list (doc d ds)) n is = absurd (cc)
default_numbered (holds.ListOfNullable c) (node k i b e ds) n is = absurd (cc)
default_numbered holds.TextOrNull nil n is = refl
default_numbered holds.TextOrNull (flag b) n is = absurd (cc)
default_numbered holds.TextOrNull (number x) n is = absurd (cc)
default_numbered holds.TextOrNull (text t) n is = absurd (cc)
default_numbered holds.TextOrNull (list no_docs) n is = absurd (cc)
default_numbered holds.TextOrNull (list (doc d ds)) n is = absurd (cc)
default_numbered holds.TextOrNull (node k i b e ds) n is = absurd (cc)
default_numbered holds.WholeOrNull nil n is = refl
default_numbered holds.WholeOrNull (flag b) n is = absurd (cc)
default_numbered holds.WholeOrNull (number x) n is = absurd (cc)
default_numbered holds.WholeOrNull (text t) n is = absurd (cc)
default_numbered holds.WholeOrNull (list no_docs) n is = absurd (cc)
default_numbered holds.WholeOrNull (list (doc d ds)) n is = absurd (cc)
default_numbered holds.WholeOrNull (node k i b e ds) n is = absurd (cc)
default_numbered (holds.WordOrNull ws) nil n is = refl
default_numbered (holds.WordOrNull ws) (flag b) n is = absurd (cc)
default_numbered (holds.WordOrNull ws) (number x) n is = absurd (cc)
default_numbered (holds.WordOrNull ws) (text t) n is = absurd (cc)
default_numbered (holds.WordOrNull ws) (list no_docs) n is = absurd (cc)
default_numbered (holds.WordOrNull ws) (list (doc d ds)) n is = absurd (cc)
default_numbered (holds.WordOrNull ws) (node k i b e ds) n is = absurd (cc)
default_numbered (holds.NodeOrNull c) nil n is = refl
default_numbered (holds.NodeOrNull c) (flag b) n is = absurd (cc)
default_numbered (holds.NodeOrNull c) (number x) n is = absurd (cc)
default_numbered (holds.NodeOrNull c) (text t) n is = absurd (cc)
default_numbered (holds.NodeOrNull c) (list no_docs) n is = absurd (cc)
default_numbered (holds.NodeOrNull c) (list (doc d ds)) n is = absurd (cc)
default_numbered (holds.NodeOrNull c) (node k i b e ds) n is = absurd (cc)
default_numbered (holds.ListOrNull c) nil n is = refl
default_numbered (holds.ListOrNull c) (flag b) n is = absurd (cc)
default_numbered (holds.ListOrNull c) (number x) n is = absurd (cc)
default_numbered (holds.ListOrNull c) (text t) n is = absurd (cc)
default_numbered (holds.ListOrNull c) (list no_docs) n is = absurd (cc)
default_numbered (holds.ListOrNull c) (list (doc d ds)) n is = absurd (cc)
default_numbered (holds.ListOrNull c) (node k i b e ds) n is = absurd (cc)

missing_reads : (needs : Bool) (h : Holds) (d : Doc) (n : ℕ) → (not needs && is_default h d) ≡ true → allowed (if needs then None else Some (default_of h)) n ≡ Ok (numbered d n)
missing_reads true h d n is = absurd (cc)
missing_reads false h d n is = ap Ok (default_numbered h d n is)

field_reads : (is_out : Bool) (r : Field) (d : Doc) (found : Option Data) (s inner : Setting) (n : ℕ) → is_left_out r d ≡ is_out → found ≡ unless is_out (data_of d)
    → read_as (data_of d) inner (narrow s r.holds) n ≡ Ok (numbered d n) → field_as r (option_map read_as found) s inner n ≡ Ok (numbered d n)
field_reads true r d found s inner n is at reads = ap (λ f. field_as r (option_map read_as f) s inner n) at ∙ missing_reads (is_required r.presence) r.holds d n is
field_reads false r d found s inner n is at reads = ap (λ f. field_as r (option_map read_as f) s inner n) at ∙ reads

-- ---- the head

offset_reads : (is_zero : Bool) (n : ℕ) → (n == 0) ≡ is_zero → nat_lt n (2 ^ 32) ≡ true → offset_at (unless is_zero (offset n)) ≡ Some n
offset_reads true n is within = ap Some (sym (eqb-true n 0 is))
offset_reads false n is within = rw within refl

head_reads : (c : Category) (k : Kind) (start end : ℕ) (ds : Docs) → kind_in c k ≡ true → nat_lt start (2 ^ 32) ≡ true → nat_lt end (2 ^ 32) ≡ true
    → head_as c (members_of k start end ds) ≡ Ok (record { kind = k; start = start; end = end })
head_reads c k start end ds is start_within end_within =
    rw (has_type k start end ds, kind_found c k is, has_start k start end ds, has_end k start end ds, offset_reads (start == 0) start refl start_within, offset_reads (end == 0) end refl end_within) refl

-- ---- nodes and lists

no_fault : (o : Option (List ℕ)) → is_none o ≡ true → o ≡ None
no_fault None is = refl
no_fault (Some name) is = absurd (cc)

whole_reads : (s : Setting) (k : Kind) (start end : ℕ) (ds : Docs) (n : ℕ) → is_none (fault s k ds) ≡ true
    → whole_node (fault s k (docs_of (docs_list (each_numbered ds (n + 1)).0))) (node k n start end (docs_of (docs_list (each_numbered ds (n + 1)).0))) (each_numbered ds (n + 1)).1 ≡ Ok (node k n start end (each_numbered ds (n + 1)).0, (each_numbered ds (n + 1)).1)
whole_reads s k start end ds n is = rw (list_again (each_numbered ds (n + 1)).0, fault_numbered s k ds (n + 1), no_fault (fault s k ds) is) refl

node_reads : (o : Option Category) (s : Setting) (k : Kind) (id start end : ℕ) (ds : Docs) (n : ℕ) → is_kind_of o k ≡ true → nat_lt start (2 ^ 32) ≡ true → nat_lt end (2 ^ 32) ≡ true → is_none (fault s k ds) ≡ true
    → fields_as (row_of k) (member_as (members_of k start end ds)) s (setting_of k) (n + 1) ≡ Ok (docs_list (each_numbered ds (n + 1)).0, (each_numbered ds (n + 1)).1)
    → node_as o s (members_of k start end ds) (member_as (members_of k start end ds)) n ≡ Ok (node k n start end (each_numbered ds (n + 1)).0, (each_numbered ds (n + 1)).1)
node_reads None s k id start end ds n is start_within end_within none fields = absurd (cc)
node_reads (Some c) s k id start end ds n is start_within end_within none fields =
    ap (λ h. headed_as h s (member_as (members_of k start end ds)) n) (head_reads c k start end ds is start_within end_within)
    ∙ (ap (λ f. and_then f (λ ds m. whole_node (fault s k (docs_of ds)) (node k n start end (docs_of ds)) m)) fields ∙ whole_reads s k start end ds n none)

list_reads : (o : Option Holds) (ds : Docs) (s : Setting) (n : ℕ) → for_elements o (all_fit ds s) ≡ true
    → ((h : Holds) → all_fit ds s h ≡ true → each_as (items_of (each_data ds)) s 0 h n ≡ Ok (docs_list (each_numbered ds n).0, (each_numbered ds n).1))
    → list_as o (each_as (items_of (each_data ds)) s 0) n ≡ Ok (list (each_numbered ds n).0, (each_numbered ds n).1)
list_reads None ds s n fit each = absurd (cc)
list_reads (Some h) ds s n fit each = ap (mapped (λ ds. list (docs_of ds))) (each h fit) ∙ ap (λ es. Ok (list es, (each_numbered ds n).1)) (list_again (each_numbered ds n).0)

allowed_reads : (may : Bool) (d : Doc) (n : ℕ) → may ≡ true → allowed (if may then Some d else None) n ≡ Ok (d, n)
allowed_reads true d n is = refl
allowed_reads false d n is = absurd (cc)

mutual
  pub reads : (d : Doc) (s : Setting) (h : Holds) (n : ℕ) → fits d s h ≡ true → read_as (data_of d) s h n ≡ Ok (numbered d n)
  reads nil s h n fit = allowed_reads (allows_null h) nil n fit
  reads (flag b) s h n fit = allowed_reads (allows_flag h) (flag b) n fit
  reads (number x) s h n fit = allowed_reads (allows_number h x) (number x) n fit
  reads (text t) s h n fit = allowed_reads (allows_text h t) (text t) n fit
  reads (list ds) s h n fit = list_reads (element_of h) ds s n fit (λ h f. reads_each ds s 0 h n f)
  reads (node k id b e ds) s h n fit =
      let one = and_parts (is_kind_of (category_of h) k) _ fit in
      let two = and_parts (nat_lt b (2 ^ 32) && nat_lt e (2 ^ 32)) _ one.1 in
      let offsets = and_parts (nat_lt b (2 ^ 32)) (nat_lt e (2 ^ 32)) two.0 in
      let three = and_parts (fields_fit ds s (setting_of k) (row_of k)) (is_none (fault s k ds)) two.1 in
      node_reads (category_of h) s k id b e ds n one.0 offsets.0 offsets.1 three.1 (reads_fields ds (members_of k b e ds) s (setting_of k) (row_of k) (n + 1) three.0 (has_fields k b e ds))

  reads_each : (ds : Docs) (s : Setting) (i : ℕ) (h : Holds) (n : ℕ) → all_fit ds s h ≡ true → each_as (items_of (each_data ds)) s i h n ≡ Ok (docs_list (each_numbered ds n).0, (each_numbered ds n).1)
  reads_each no_docs s i h n fit = refl
  reads_each (doc d ds) s i h n fit =
      let parts = and_parts (fits d s h) (all_fit ds s h) fit in
      rw (reads d s h n parts.0, reads_each ds s (i + 1) h (numbered d n).1 parts.1) refl

  reads_fields : (ds : Docs) (ms : Members) (s inner : Setting) (rs : List Field) (n : ℕ) → fields_fit ds s inner rs ≡ true → HasFields rs ds ms → fields_as rs (member_as ms) s inner n ≡ Ok (docs_list (each_numbered ds n).0, (each_numbered ds n).1)
  reads_fields no_docs ms s inner [] n fit has = refl
  reads_fields no_docs ms s inner (r ∷ rs) n fit has = absurd (cc)
  reads_fields (doc d ds) ms s inner [] n fit has = absurd (cc)
  reads_fields (doc d ds) ms s inner (r ∷ rs) n fit has =
      let parts = and_parts (fits d inner (narrow s r.holds)) (fields_fit ds s inner rs) fit in
      let one : field_as r (member_as ms r.name) s inner n ≡ Ok (numbered d n) = ap (λ f. field_as r f s inner n) (members_read ms r.name) ∙ field_reads (is_left_out r d) r d _ s inner n refl has.0 (reads d inner (narrow s r.holds) n parts.0) in
      rw (one, reads_fields ds ms s inner rs (numbered d n).1 parts.1 has.1) refl
