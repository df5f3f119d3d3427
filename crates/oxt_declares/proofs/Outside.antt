-- What says nothing outside enums says all of it at the outermost enums, bodies and members.
use Rattle.std.proofs.Common.{◌≡◌, ◌∙◌, refl, sym, ap, ℕ, List, [], ◌∷◌, ◌++◌, append_assoc, append-nil, Bool, true, false, true≢false, ◌||◌, cond, Option, None}
use Rattle.std.specs.Str.{bytes_eq}
use Rattle.oxt_search.specs.All.{all_among, all_at, all_below, all_in, given, given_inside}
use Rattle.oxt_search.specs.Sought.{Sought}
use Rattle.oxt_declares.specs.Quiet.{IsQuietOutside, SaysNothingOutside}
use Rattle.oxt_declares.specs.Sites.{all_each, enum_sites, is_site, left_sites, said_of_each, sites_among, sites_at}
use Rattle.oxt_grammar.specs.Field.{Field}
use Rattle.oxt_grammar.specs.Keys.{key_of}
use Rattle.oxt_grammar.specs.Rows.{row_of}
use Rattle.oxt_grammar.specs.declared.field.Field.{Field as FieldName}
use Rattle.oxt_grammar.specs.declared.field.Field.TheVariants as field
use Rattle.oxt_grammar.specs.Places.{same_kind}
use Rattle.oxt_grammar.specs.declared.kind.Kind.{Kind}
use Rattle.oxt_grammar.specs.declared.kind.Kind.TheVariants as kind
use Rattle.oxt_tree.specs.declared.inside.Inside.{Inside}
use Rattle.oxt_tree.specs.declared.inside.Inside.TheVariants as inside
use Rattle.oxt_tree.specs.Doc.{Doc, nil, flag, number, text, list, node, Docs, no_docs, doc}
use Rattle.oxt_declares.specs.Dropped.{inside_dropped_by, is_dropped_by, keeps_decorators}

-- of two lists of documents, that of one behind that of the other
each_append : {A : Type 0} (f : Doc → List A) (ds es : List Doc) → said_of_each f (ds ++ es) ≡ said_of_each f ds ++ said_of_each f es
each_append f [] es = refl
each_append f (d ∷ ds) es = ap (λ xs. f d ++ xs) (each_append f ds es) ∙ sym (append_assoc (f d) (said_of_each f ds) (said_of_each f es))

-- two things said are said of two lists of sites
two : {A : Type 0} (f : Doc → List A) (xs ys : List A) (ds es : List Doc) → xs ≡ said_of_each f ds → ys ≡ said_of_each f es → xs ++ ys ≡ said_of_each f (ds ++ es)
two f xs ys ds es here rest = ap (λ zs. zs ++ ys) here ∙ ap (λ zs. said_of_each f ds ++ zs) rest ∙ sym (each_append f ds es)

either : {A : Type 0} (f : Doc → List A) (b : Bool) (xs ys : List A) (ds es : List Doc) → xs ≡ said_of_each f ds → ys ≡ said_of_each f es → cond b xs ys ≡ said_of_each f (cond b ds es)
either f true xs ys ds es one other = one
either f false xs ys ds es one other = other

-- at a node that is not erased
at_kept : {A : Type 0} (f : Doc → List A) (d : Doc) (xs : List A) (ds : List Doc) (b : Bool) → (b ≡ false → f d ≡ xs) → xs ≡ said_of_each f ds → f d ≡ said_of_each f (cond b (d ∷ []) ds)
at_kept f d xs ds true outside same = sym (append-nil (f d))
at_kept f d xs ds false outside same = outside refl ∙ same

-- at a node
at_node : {A : Type 0} (f : Doc → List A) (d : Doc) (xs ys : List A) (left ds : List Doc) (b c : Bool) → (b ≡ true → f d ≡ ys) → (b ≡ false → c ≡ false → f d ≡ xs) → ys ≡ said_of_each f left → xs ≡ said_of_each f ds
    → f d ≡ said_of_each f (cond b left (cond c (d ∷ []) ds))
at_node f d xs ys left ds true c erased outside of_left same = erased refl ∙ of_left
at_node f d xs ys left ds false c erased outside of_left same = at_kept f d xs ds c (outside refl) same

mutual
  -- what is said of a document is said of the outermost enums in it
  pub said_outside : {A : Type 0} (l : Bool) (f : Doc → List A) (among : Docs → List A) (at : Docs → List Field → List ℕ → List A) → SaysNothingOutside l f among at → (d : Doc) → f d ≡ said_of_each f (enum_sites l d)
  said_outside l f among at h nil = h.of_nil
  said_outside l f among at h (flag b) = h.of_flag b
  said_outside l f among at h (number n) = h.of_number n
  said_outside l f among at h (text t) = h.of_text t
  said_outside l f among at h (list ds) = h.of_list ds ∙ said_among l f among at h ds
  said_outside l f among at h (node k i b e ds) =
      at_node f (node k i b e ds) (among ds) (cond (keeps_decorators l k ds) (at ds (row_of k) (key_of field.Decorators)) [])
      (left_sites l k ds (sites_at l ds (row_of k) (key_of field.Decorators))) (sites_among l ds) (is_dropped_by k ds) (is_site k)
      (h.of_erased k i b e ds)
      (h.of_other k i b e ds)
      (either f (keeps_decorators l k ds) (at ds (row_of k) (key_of field.Decorators)) [] (sites_at l ds (row_of k) (key_of field.Decorators)) [] (said_at l f among at h ds (row_of k) (key_of field.Decorators)) refl)
      (said_among l f among at h ds)

  said_among : {A : Type 0} (l : Bool) (f : Doc → List A) (among : Docs → List A) (at : Docs → List Field → List ℕ → List A) → SaysNothingOutside l f among at → (ds : Docs) → among ds ≡ said_of_each f (sites_among l ds)
  said_among l f among at h no_docs = h.of_none
  said_among l f among at h (doc d ds) =
      h.of_more d ds ∙ two f (f d) (among ds) (enum_sites l d) (sites_among l ds) (said_outside l f among at h d) (said_among l f among at h ds)

  said_at : {A : Type 0} (l : Bool) (f : Doc → List A) (among : Docs → List A) (at : Docs → List Field → List ℕ → List A) → SaysNothingOutside l f among at → (ds : Docs) (rs : List Field) (name : List ℕ) → at ds rs name ≡ said_of_each f (sites_at l ds rs name)
  said_at l f among at h no_docs rs name = h.at_none rs name
  said_at l f among at h (doc d ds) [] name = h.at_end d ds name
  said_at l f among at h (doc d ds) (r ∷ rs) name =
      h.at_more d ds r rs name ∙ either f (bytes_eq r.name name) (f d) (at ds rs name) (enum_sites l d) (sites_at l ds rs name) (said_outside l f among at h d) (said_at l f among at h ds rs name)

-- ---- searches

-- what is given inside an erased node
inside_erased : {S A : Type 0} (alike by_field : S → List A) (alone : FieldName → S → List A) (s : S) (b : Bool)
    → given_inside alike by_field alone (cond b (inside.Only field.Decorators s) inside.Skipped) ≡ cond b (alone field.Decorators s) []
inside_erased alike by_field alone s true = refl
inside_erased alike by_field alone s false = refl

-- a node that gives nothing itself
given_none : {S A : Type 0} (inner : Inside S → List A) (o : Option A) (x y : Inside S) → o ≡ None → x ≡ y → given o ++ inner x ≡ inner y
given_none inner o x y none same = ap (λ p. given p ++ inner x) none ∙ ap inner same

-- such a search says nothing outside enums
quiet : {S A : Type 0} (l : Bool) (q : Sought S A) (s : S) → IsQuietOutside l q s → SaysNothingOutside l (λ d. all_in q d s) (λ ds. all_among q ds s) (λ ds rs name. all_at q ds rs name s)
quiet l q s h =
    record {
      of_nil = refl;
      of_flag = λ b. refl;
      of_number = λ n. refl;
      of_text = λ t. refl;
      of_list = λ ds. refl;
      of_erased = λ k i b e ds erased.
          given_none (given_inside (all_among q ds) (all_below q ds k (row_of k)) (λ f. all_at q ds (row_of k) (key_of f))) (q.at s k i ds) (q.inside s k i ds) (cond (keeps_decorators l k ds) (inside.Only field.Decorators s) inside.Skipped)
          (h.no_erased_find k i ds erased) (h.goes_on_erased k i ds erased)
          ∙ inside_erased (all_among q ds) (all_below q ds k (row_of k)) (λ f. all_at q ds (row_of k) (key_of f)) s (keeps_decorators l k ds);
      of_other = λ k i b e ds kept other.
          given_none (given_inside (all_among q ds) (all_below q ds k (row_of k)) (λ f. all_at q ds (row_of k) (key_of f))) (q.at s k i ds) (q.inside s k i ds) (inside.Alike s)
          (h.no_find k i ds kept other) (h.goes_on k i ds kept other);
      of_none = refl;
      of_more = λ d ds. refl;
      at_none = λ rs name. refl;
      at_end = λ d ds name. refl;
      at_more = λ d ds r rs name. refl;
    }

-- all that such a search gives in a document it gives at the outermost enums in it
pub all_outside : {S A : Type 0} (l : Bool) (q : Sought S A) (s : S) → IsQuietOutside l q s → (d : Doc) → all_in q d s ≡ all_each q (enum_sites l d) s
all_outside l q s h d = said_outside l (λ e. all_in q e s) (λ ds. all_among q ds s) (λ ds rs name. all_at q ds rs name s) (quiet l q s h) d

-- ---- what such a search is made of

-- a search that passes over what is erased, finds nothing at other kinds and keeps its state there
pub passing_over : {S A : Type 0} (l : Bool) (own : S → Kind → ℕ → Docs → Option A) (within : S → Kind → ℕ → Docs → S) (in_field : S → Kind → Field → Option S) (s : S)
    → ((k : Kind) (i : ℕ) (ds : Docs) → is_site k ≡ false → own s k i ds ≡ None)
    → ((k : Kind) (i : ℕ) (ds : Docs) → is_site k ≡ false → within s k i ds ≡ s)
    → IsQuietOutside l (record {
      at = λ t k i ds. cond (is_dropped_by k ds) None (own t k i ds);
      inside = λ t k i ds. cond (is_dropped_by k ds) (inside_dropped_by l k ds t) (inside.Alike (within t k i ds));
      in_field = in_field;
    }) s
passing_over l own within in_field s nothing same =
    record {
      no_find = λ k i ds kept other. ap (λ b. cond b None (own s k i ds)) kept ∙ nothing k i ds other;
      goes_on = λ k i ds kept other. ap (λ b. cond b (inside_dropped_by l k ds s) (inside.Alike (within s k i ds))) kept ∙ ap inside.Alike (same k i ds other);
      no_erased_find = λ k i ds erased. ap (λ b. cond b None (own s k i ds)) erased;
      goes_on_erased = λ k i ds erased. ap (λ b. cond b (inside_dropped_by l k ds s) (inside.Alike (within s k i ds))) erased;
    }

-- neither of two flags is set
no_first : (a b : Bool) → (a || b) ≡ false → a ≡ false
no_first true b h = h
no_first false b h = refl

no_second : (a b : Bool) → (a || b) ≡ false → b ≡ false
no_second true b h = absurd (true≢false h)
no_second false b h = h

-- a node that is no site is none of the three
pub no_enum : (k : Kind) → is_site k ≡ false → same_kind k kind.TSEnumDeclaration ≡ false
no_enum k h = no_first (same_kind k kind.TSEnumDeclaration) (same_kind k kind.TSEnumBody || same_kind k kind.TSEnumMember) h

pub no_body : (k : Kind) → is_site k ≡ false → same_kind k kind.TSEnumBody ≡ false
no_body k h = no_first (same_kind k kind.TSEnumBody) (same_kind k kind.TSEnumMember) (no_second (same_kind k kind.TSEnumDeclaration) (same_kind k kind.TSEnumBody || same_kind k kind.TSEnumMember) h)

pub no_member : (k : Kind) → is_site k ≡ false → same_kind k kind.TSEnumMember ≡ false
no_member k h = no_second (same_kind k kind.TSEnumBody) (same_kind k kind.TSEnumMember) (no_second (same_kind k kind.TSEnumDeclaration) (same_kind k kind.TSEnumBody || same_kind k kind.TSEnumMember) h)
