-- Searches and other definitions that give nothing outside enums.
use Rattle.std.specs.Prelude.{◌≡◌, ℕ, List, [], ◌∷◌, ◌++◌, Bool, true, false, if◌then◌else◌, None}
use Rattle.std.specs.Str.{bytes_eq}
use Rattle.oxt_search.specs.Sought.{Sought}
use Rattle.oxt_declares.specs.Sites.{is_site}
use Rattle.oxt_grammar.specs.Field.{Field}
use Rattle.oxt_grammar.specs.Keys.{key_of}
use Rattle.oxt_grammar.specs.Rows.{row_of}
use Rattle.oxt_grammar.specs.declared.field.Field.TheVariants as field
use Rattle.oxt_grammar.specs.declared.kind.Kind.{Kind}
use Rattle.oxt_tree.specs.declared.inside.Inside.TheVariants as inside
use Rattle.oxt_tree.specs.Doc.{Doc, nil, flag, number, text, list, node, Docs, no_docs, doc}
use Rattle.oxt_declares.specs.Dropped.{inside_dropped_by, is_dropped_by, keeps_decorators}

-- In that state the search gives nothing at a node that is no enum, body or member, and hands the state on to those in it;
-- of an erased node it reaches at most the decorators of a field that is only declared.
pub record IsQuietOutside {S A : Type 0} (l : Bool) (q : Sought S A) (s : S) : Type 0 where
  pub no_find : (k : Kind) (i : ℕ) (ds : Docs) → is_dropped_by k ds ≡ false → is_site k ≡ false → q.at s k i ds ≡ None
  pub goes_on : (k : Kind) (i : ℕ) (ds : Docs) → is_dropped_by k ds ≡ false → is_site k ≡ false → q.inside s k i ds ≡ inside.Alike s
  pub no_erased_find : (k : Kind) (i : ℕ) (ds : Docs) → is_dropped_by k ds ≡ true → q.at s k i ds ≡ None
  pub goes_on_erased : (k : Kind) (i : ℕ) (ds : Docs) → is_dropped_by k ds ≡ true → q.inside s k i ds ≡ inside_dropped_by l k ds s

-- The same of what is said of documents: `f` of one, `among` of several, and `at` of the field of a name.
pub record SaysNothingOutside {A : Type 0} (l : Bool) (f : Doc → List A) (among : Docs → List A) (at : Docs → List Field → List ℕ → List A) : Type 0 where
  pub of_nil : f nil ≡ []
  pub of_flag : (b : Bool) → f (flag b) ≡ []
  pub of_number : (n : ℕ) → f (number n) ≡ []
  pub of_text : (t : List ℕ) → f (text t) ≡ []
  pub of_list : (ds : Docs) → f (list ds) ≡ among ds
  pub of_erased : (k : Kind) (i b e : ℕ) (ds : Docs) → is_dropped_by k ds ≡ true
      → f (node k i b e ds) ≡ (if keeps_decorators l k ds then at ds (row_of k) (key_of field.Decorators) else [])
  pub of_other : (k : Kind) (i b e : ℕ) (ds : Docs) → is_dropped_by k ds ≡ false → is_site k ≡ false → f (node k i b e ds) ≡ among ds
  pub of_none : among no_docs ≡ []
  pub of_more : (d : Doc) (ds : Docs) → among (doc d ds) ≡ f d ++ among ds
  pub at_none : (rs : List Field) (name : List ℕ) → at no_docs rs name ≡ []
  pub at_end : (d : Doc) (ds : Docs) (name : List ℕ) → at (doc d ds) [] name ≡ []
  pub at_more : (d : Doc) (ds : Docs) (r : Field) (rs : List Field) (name : List ℕ) → at (doc d ds) (r ∷ rs) name ≡ (if bytes_eq r.name name then f d else at ds rs name)
