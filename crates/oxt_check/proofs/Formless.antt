-- Where no node of some forms occurs, a search that gives something at these alone gives nothing.
use Rattle.std.proofs.Common.{◌≡◌, ◌∙◌, refl, sym, ap, ℕ, List, [], ◌∷◌, ◌++◌, Bool, true, false, ◌||◌, Option, None, Some, cond, true≢false}
use Rattle.std.specs.List.{list_any}
use Rattle.std.specs.Str.{bytes_eq}
use Rattle.oxt_check.specs.Occurring.{form_at, forms, is_form}
use Rattle.oxt_grammar.specs.Field.{Field}
use Rattle.oxt_grammar.specs.Keys.{key_of}
use Rattle.oxt_grammar.specs.Rows.{row_of}
use Rattle.oxt_grammar.specs.declared.field.Field.{Field as FieldName}
use Rattle.oxt_grammar.specs.declared.kind.Kind.{Kind}
use Rattle.oxt_search.specs.All.{all_among, all_at, all_below, all_in, given, given_in, given_inside}
use Rattle.oxt_search.specs.Sought.{Sought}
use Rattle.oxt_search.proofs.Nothing.{both_none, each_empty}
use Rattle.oxt_tree.specs.declared.inside.Inside.{Inside}
use Rattle.oxt_tree.specs.declared.inside.Inside.TheVariants as inside
use Rattle.oxt_tree.specs.Doc.{Doc, nil, flag, number, text, list, node, Docs, no_docs, doc}

pub neither : (a b : Bool) → (a || b) ≡ false → (a ≡ false) × (b ≡ false)
neither true b h = absurd (true≢false h)
neither false b h = (refl, h)

grouped : (a b c : Bool) → (a || (b || c)) ≡ ((a || b) || c)
grouped true b c = refl
grouped false b c = refl

any_append : (p : Kind → Bool) (xs ys : List Kind) → list_any p (xs ++ ys) ≡ (list_any p xs || list_any p ys)
any_append p [] ys = refl
any_append p (x ∷ xs) ys = ap (λ b. p x || b) (any_append p xs ys) ∙ grouped (p x) (list_any p xs) (list_any p ys)

pub apart : (p : Kind → Bool) (xs ys : List Kind) → list_any p (xs ++ ys) ≡ false → (list_any p xs ≡ false) × (list_any p ys ≡ false)
apart p xs ys h = neither (list_any p xs) (list_any p ys) (sym (any_append p xs ys) ∙ h)

-- the kinds are among the forms
abbrev pub AreForms : (Kind → Bool) → Type 0
AreForms p = (k : Kind) → p k ≡ true → is_form k ≡ true

-- a node of another kind gives nothing
abbrev pub GivesAtAlone : {S A : Type 0} → (Kind → Bool) → Sought S A → Type 0
GivesAtAlone {S} p q = (s : S) (k : Kind) (i : ℕ) (ds : Docs) → p k ≡ false → q.at s k i ds ≡ None

pub other_kind : (p : Kind → Bool) → AreForms p → (k : Kind) → list_any p (given (form_at k)) ≡ false → p k ≡ false
other_kind p f k h = by (p k) refl
  where
    by : (b : Bool) → p k ≡ b → p k ≡ false
    by false e = e
    by true e = absurd (true≢false (sym (ap (λ b. b || false) e) ∙ (sym (ap (λ c. list_any p (given (cond c (Some k) None))) (f k e)) ∙ h)))

-- ---- searches that are in certain states alone where no form is

-- the search goes on in such states alone
abbrev pub goes_on : {S : Type 0} → (S → Bool) → Inside S → Bool
goes_on w inside.Skipped = true
goes_on w (inside.Alike s) = w s
goes_on w (inside.ByField s) = w s
goes_on w (inside.Only f s) = w s

abbrev pub goes_into : {S : Type 0} → (S → Bool) → Option S → Bool
goes_into w None = true
goes_into w (Some s) = w s

-- In such a state a node of another kind gives nothing, and the search goes on in such states.
abbrev pub GivesNothingIn : {S A : Type 0} → (Kind → Bool) → (S → Bool) → Sought S A → Type 0
GivesNothingIn {S} p w q = (s : S) (k : Kind) (i : ℕ) (ds : Docs) → p k ≡ false → w s ≡ true → q.at s k i ds ≡ None

abbrev pub GoesOnIn : {S A : Type 0} → (Kind → Bool) → (S → Bool) → Sought S A → Type 0
GoesOnIn {S} p w q = (s : S) (k : Kind) (i : ℕ) (ds : Docs) → p k ≡ false → w s ≡ true → goes_on w (q.inside s k i ds) ≡ true

abbrev pub GoesIntoIn : {S A : Type 0} → (Kind → Bool) → (S → Bool) → Sought S A → Type 0
GoesIntoIn {S} p w q = (s : S) (k : Kind) (r : Field) → p k ≡ false → w s ≡ true → goes_into w (q.in_field s k r) ≡ true

inside_empty : {S A : Type 0} (w : S → Bool) (alike by_field : S → List A) (alone : FieldName → S → List A) → ((s : S) → w s ≡ true → alike s ≡ []) → ((s : S) → w s ≡ true → by_field s ≡ []) → ((f : FieldName) (s : S) → w s ≡ true → alone f s ≡ []) → (x : Inside S) → goes_on w x ≡ true → given_inside alike by_field alone x ≡ []
inside_empty w alike by_field alone h g e inside.Skipped on = refl
inside_empty w alike by_field alone h g e (inside.Alike s) on = h s on
inside_empty w alike by_field alone h g e (inside.ByField s) on = g s on
inside_empty w alike by_field alone h g e (inside.Only f s) on = e f s on

field_empty : {S A : Type 0} (w : S → Bool) (f : S → List A) → ((s : S) → w s ≡ true → f s ≡ []) → (o : Option S) → goes_into w o ≡ true → given_in f o ≡ []
field_empty w f h None on = refl
field_empty w f h (Some s) on = h s on

mutual
  pub idle_in : {S A : Type 0} (p : Kind → Bool) (w : S → Bool) (q : Sought S A) → AreForms p → GivesNothingIn p w q → GoesOnIn p w q → GoesIntoIn p w q → (d : Doc) (s : S) → w s ≡ true → list_any p (all_in forms d tt) ≡ false → all_in q d s ≡ []
  idle_in p w q f g j l nil s on h = refl
  idle_in p w q f g j l (flag b) s on h = refl
  idle_in p w q f g j l (number n) s on h = refl
  idle_in p w q f g j l (text t) s on h = refl
  idle_in p w q f g j l (list ds) s on h = idle_among p w q f g j l ds s on h
  idle_in p w q f g j l (node k i b e ds) s on h =
      let two = apart p (given (form_at k)) (all_among forms ds tt) h in
      let other = other_kind p f k two.0 in
      both_none (given (q.at s k i ds)) (given_inside (all_among q ds) (all_below q ds k (row_of k)) (λ r. all_at q ds (row_of k) (key_of r)) (q.inside s k i ds))
      (ap given (g s k i ds other on))
      (inside_empty w (all_among q ds) (all_below q ds k (row_of k)) (λ r. all_at q ds (row_of k) (key_of r)) (λ t is. idle_among p w q f g j l ds t is two.1) (λ t is. idle_below p w q f g j l ds k (row_of k) t other is two.1) (λ r t is. idle_at p w q f g j l ds (row_of k) (key_of r) t is two.1) (q.inside s k i ds) (j s k i ds other on))

  idle_among : {S A : Type 0} (p : Kind → Bool) (w : S → Bool) (q : Sought S A) → AreForms p → GivesNothingIn p w q → GoesOnIn p w q → GoesIntoIn p w q → (ds : Docs) (s : S) → w s ≡ true → list_any p (all_among forms ds tt) ≡ false → all_among q ds s ≡ []
  idle_among p w q f g j l no_docs s on h = refl
  idle_among p w q f g j l (doc d ds) s on h =
      let two = apart p (all_in forms d tt) (all_among forms ds tt) h in
      both_none (all_in q d s) (all_among q ds s) (idle_in p w q f g j l d s on two.0) (idle_among p w q f g j l ds s on two.1)

  idle_below : {S A : Type 0} (p : Kind → Bool) (w : S → Bool) (q : Sought S A) → AreForms p → GivesNothingIn p w q → GoesOnIn p w q → GoesIntoIn p w q → (ds : Docs) (k : Kind) (rs : List Field) (s : S) → p k ≡ false → w s ≡ true → list_any p (all_among forms ds tt) ≡ false → all_below q ds k rs s ≡ []
  idle_below p w q f g j l no_docs k rs s other on h = refl
  idle_below p w q f g j l (doc d ds) k [] s other on h = refl
  idle_below p w q f g j l (doc d ds) k (r ∷ rs) s other on h =
      let two = apart p (all_in forms d tt) (all_among forms ds tt) h in
      both_none (given_in (all_in q d) (q.in_field s k r)) (all_below q ds k rs s)
      (field_empty w (all_in q d) (λ t is. idle_in p w q f g j l d t is two.0) (q.in_field s k r) (l s k r other on))
      (idle_below p w q f g j l ds k rs s other on two.1)

  idle_at : {S A : Type 0} (p : Kind → Bool) (w : S → Bool) (q : Sought S A) → AreForms p → GivesNothingIn p w q → GoesOnIn p w q → GoesIntoIn p w q → (ds : Docs) (rs : List Field) (name : List ℕ) (s : S) → w s ≡ true → list_any p (all_among forms ds tt) ≡ false → all_at q ds rs name s ≡ []
  idle_at p w q f g j l no_docs rs name s on h = refl
  idle_at p w q f g j l (doc d ds) [] name s on h = refl
  idle_at p w q f g j l (doc d ds) (r ∷ rs) name s on h =
      let two = apart p (all_in forms d tt) (all_among forms ds tt) h in
      each_empty (bytes_eq r.name name) (all_in q d s) (all_at q ds rs name s) (idle_in p w q f g j l d s on two.0) (idle_at p w q f g j l ds rs name s on two.1)

-- ---- the same in any state

always_on : {S : Type 0} (x : Inside S) → goes_on (λ s. true) x ≡ true
always_on inside.Skipped = refl
always_on (inside.Alike s) = refl
always_on (inside.ByField s) = refl
always_on (inside.Only f s) = refl

always_into : {S : Type 0} (o : Option S) → goes_into (λ s. true) o ≡ true
always_into None = refl
always_into (Some s) = refl

pub none_in : {S A : Type 0} (p : Kind → Bool) (q : Sought S A) → AreForms p → GivesAtAlone p q → (d : Doc) (s : S) → list_any p (all_in forms d tt) ≡ false → all_in q d s ≡ []
none_in p q f g d s h =
    idle_in p (λ t. true) q f (λ t k i ds other on. g t k i ds other) (λ t k i ds other on. always_on (q.inside t k i ds)) (λ t k r other on. always_into (q.in_field t k r)) d s refl h
