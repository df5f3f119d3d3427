-- A search that finds nothing at any node finds nothing.
use Rattle.std.proofs.Common.{◌≡◌, ◌∙◌, refl, ap, ℕ, List, [], ◌∷◌, ◌++◌, Bool, true, false, Option, None, Some, cond}
use Rattle.std.specs.Str.{bytes_eq}
use Rattle.oxt_search.specs.All.{all_among, all_at, all_below, all_in, given, given_in, given_inside}
use Rattle.oxt_search.specs.Sought.{Sought}
use Rattle.oxt_tree.specs.declared.inside.Inside.{Inside}
use Rattle.oxt_tree.specs.declared.inside.Inside.TheVariants as inside
use Rattle.oxt_grammar.specs.Field.{Field}
use Rattle.oxt_grammar.specs.Keys.{key_of}
use Rattle.oxt_grammar.specs.Rows.{row_of}
use Rattle.oxt_grammar.specs.declared.field.Field.{Field as FieldName}
use Rattle.oxt_grammar.specs.declared.kind.Kind.{Kind}
use Rattle.oxt_tree.specs.Doc.{Doc, nil, flag, number, text, list, node, Docs, no_docs, doc}

-- no node gives anything
abbrev pub GivesNothing : {S A : Type 0} → Sought S A → Type 0
GivesNothing {S} q = (s : S) (k : Kind) (i : ℕ) (ds : Docs) → q.at s k i ds ≡ None

pub both_none : {A : Type 0} (xs ys : List A) → xs ≡ [] → ys ≡ [] → xs ++ ys ≡ []
both_none xs ys e h = ap (λ zs. zs ++ ys) e ∙ h

pub inside_none : {S A : Type 0} (alike by_field : S → List A) (alone : FieldName → S → List A) → ((s : S) → alike s ≡ []) → ((s : S) → by_field s ≡ []) → ((f : FieldName) (s : S) → alone f s ≡ []) → (x : Inside S) → given_inside alike by_field alone x ≡ []
inside_none alike by_field alone h g e inside.Skipped = refl
inside_none alike by_field alone h g e (inside.Alike s) = h s
inside_none alike by_field alone h g e (inside.ByField s) = g s
inside_none alike by_field alone h g e (inside.Only f s) = e f s

pub field_none : {S A : Type 0} (f : S → List A) → ((s : S) → f s ≡ []) → (o : Option S) → given_in f o ≡ []
field_none f h None = refl
field_none f h (Some s) = h s

-- nothing, if each of two is nothing
pub each_empty : {A : Type 0} (b : Bool) (xs ys : List A) → xs ≡ [] → ys ≡ [] → cond b xs ys ≡ []
each_empty true xs ys e h = e
each_empty false xs ys e h = h

mutual
  pub none_in : {S A : Type 0} (q : Sought S A) → GivesNothing q → (d : Doc) (s : S) → all_in q d s ≡ []
  none_in q h nil s = refl
  none_in q h (flag b) s = refl
  none_in q h (number n) s = refl
  none_in q h (text t) s = refl
  none_in q h (list ds) s = none_among q h ds s
  none_in q h (node k i b e ds) s =
      both_none (given (q.at s k i ds)) (given_inside (all_among q ds) (all_below q ds k (row_of k)) (λ f. all_at q ds (row_of k) (key_of f)) (q.inside s k i ds))
      (ap given (h s k i ds))
      (inside_none (all_among q ds) (all_below q ds k (row_of k)) (λ f. all_at q ds (row_of k) (key_of f)) (λ t. none_among q h ds t) (λ t. none_below q h ds k (row_of k) t) (λ f t. none_at q h ds (row_of k) (key_of f) t) (q.inside s k i ds))

  none_among : {S A : Type 0} (q : Sought S A) → GivesNothing q → (ds : Docs) (s : S) → all_among q ds s ≡ []
  none_among q h no_docs s = refl
  none_among q h (doc d ds) s = both_none (all_in q d s) (all_among q ds s) (none_in q h d s) (none_among q h ds s)

  none_below : {S A : Type 0} (q : Sought S A) → GivesNothing q → (ds : Docs) (k : Kind) (rs : List Field) (s : S) → all_below q ds k rs s ≡ []
  none_below q h no_docs k rs s = refl
  none_below q h (doc d ds) k [] s = refl
  none_below q h (doc d ds) k (r ∷ rs) s =
      both_none (given_in (all_in q d) (q.in_field s k r)) (all_below q ds k rs s) (field_none (all_in q d) (λ t. none_in q h d t) (q.in_field s k r)) (none_below q h ds k rs s)

  none_at : {S A : Type 0} (q : Sought S A) → GivesNothing q → (ds : Docs) (rs : List Field) (name : List ℕ) (s : S) → all_at q ds rs name s ≡ []
  none_at q h no_docs rs name s = refl
  none_at q h (doc d ds) [] name s = refl
  none_at q h (doc d ds) (r ∷ rs) name s =
      each_empty (bytes_eq r.name name) (all_in q d s) (all_at q ds rs name s) (none_in q h d s) (none_at q h ds rs name s)

-- nothing, whatever is erased
pub either_none : {A : Type 0} (b : Bool) (o : Option A) → o ≡ None → cond b None o ≡ None
either_none true o e = refl
either_none false o e = e
