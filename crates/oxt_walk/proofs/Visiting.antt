-- The visits of a walk, a part at a time.
use Rattle.std.proofs.Common.{◌≡◌, refl, sym, ◌∙◌, ℕ, zero, suc, ◌+◌, ◌-◌, ◌<◌, ◌≤◌, ◌≢◌, List, [], ◌∷◌, ◌++◌, length, map, drop, get_or, min, cond, None, Some, ap, arith, add-one}
use Rattle.std.specs.List.{position_from, slice_get}
use Rattle.std.specs.Str.{bytes_eq}
use Rattle.std.proofs.lemmas.Bool.{ne_eqb}
use Rattle.std.proofs.Math.Seq.{drop-cons}
use Rattle.std.proofs.Math.ListN.{set}
use Rattle.oxt_grammar.specs.Keys.{key_of}
use Rattle.oxt_grammar.specs.Field.{row_view}
use Rattle.oxt_grammar.specs.Rows.{row_of}
use Rattle.oxt_grammar.specs.declared.category.Category.{Category}
use Rattle.oxt_grammar.specs.declared.holds.Row.{Row}
use Rattle.oxt_grammar.specs.declared.kind.Kind.{Kind}
use Rattle.oxt_traverse.proofs.Logs.{Remains, logged_as, logged_on, logged_one, rest_more, rest_none}
use Rattle.oxt_ctx.specs.Visits.{HasLogged, Visit, visit, entered, left}
use Rattle.oxt_ctx.specs.declared.hook.Hook.TheVariants as hook
use Rattle.oxt_names.proofs.Lists.{drop_at}
use Rattle.oxt_tree.proofs.Places.{named_at}
use Rattle.oxt_tree.specs.Doc.{Doc, nil, list, Docs}
use Rattle.oxt_tree.specs.Fields.{elements, named}
use Rattle.oxt_tree.specs.View.{doc_of_part, docs_in, part_doc}
use Rattle.oxt_tree.specs.declared.tree.Part.{Part}
use Rattle.oxt_traverse.specs.Place.{place_of}
use Rattle.oxt_walk.specs.Visited.{inside, of_element, of_field, of_statements, visits, visits_each, visits_fields, with_hooks}

drop_suc_set : {A : Type 0} (xs : List A) (i : ℕ) (y : A) → drop (suc i) (set xs i y) ≡ drop (suc i) xs
drop_suc_set [] zero y = refl
drop_suc_set [] (suc i) y = refl
drop_suc_set (x ∷ xs) zero y = refl
drop_suc_set (x ∷ xs) (suc i) y = drop_suc_set xs i y

-- behind an element that is changed all is as it was
drop_set : {A : Type 0} (xs : List A) (i : ℕ) (y : A) → drop (i + 1) (set xs i y) ≡ drop (i + 1) xs
drop_set xs i y = rw add-one (drop_suc_set xs i y)

-- ---- lists

each_more : (ps : List Part) (i : ℕ) (p q : Part) (c : Category) (n : ℕ) → i < length ps → p ≡ get_or ps i p → visits_each (docs_in (drop i ps)) c n ≡ of_element (part_doc p) (visits (part_doc p) c n) ++ visits_each (docs_in (drop (i + 1) (set ps i q))) c n
each_more ps i p q c n lt here =
    ap (λ qs. visits_each (docs_in qs) c n) (drop_at ps i p lt here)
    ∙ ap (λ qs. of_element (part_doc p) (visits (part_doc p) c n) ++ visits_each (docs_in qs) c n) (sym (drop_set ps i q))

-- an element is walked
pub elements_more : (Premise : Type 0) (trace : Visit → List Visit) (a b l all : List Visit) (ps : List Part) (i : ℕ) (p q : Part) (c : Category) (n : ℕ) → i < length ps → p ≡ get_or ps i p → HasLogged Premise trace b l (of_element (part_doc p) (visits (part_doc p) c n)) → Remains Premise trace a b all (visits_each (docs_in (drop i ps)) c n) → Remains Premise trace a l all (visits_each (docs_in (drop (i + 1) (set ps i q))) c n)
elements_more Premise trace a b l all ps i p q c n lt here logged before =
    rest_more Premise trace a b l all (visits_each (docs_in (drop i ps)) c n) (of_element (part_doc p) (visits (part_doc p) c n)) (visits_each (docs_in (drop (i + 1) (set ps i q))) c n) (each_more ps i p q c n lt here) before logged

-- ---- fields

row_at : (rs : List Row) (i : ℕ) (r : Row) → i < length rs → drop i rs ≡ get_or rs i r ∷ drop (i + 1) rs
row_at rs i r lt = rw add-one (drop-cons rs i r lt)

-- what stands in the row at that place
abbrev in_row : List Row → ℕ → Row → Part → ℕ → List Visit
in_row rs i r p n = of_field (place_of (get_or rs i r).holds) (visits (part_doc p)) n

fields_next : (rs : List Row) (ps : List Part) (i : ℕ) (r : Row) (p q : Part) (n : ℕ) → i < length rs → i < length ps → p ≡ get_or ps i p → visits_fields (docs_in (drop i ps)) (map row_view (drop i rs)) n ≡ in_row rs i r p n ++ visits_fields (docs_in (drop (i + 1) (set ps i q))) (map row_view (drop (i + 1) rs)) n
fields_next rs ps i r p q n lt_rs lt_ps at_p =
    ap (λ qs. visits_fields (docs_in qs) (map row_view (drop i rs)) n) (drop_at ps i p lt_ps at_p)
    ∙ (ap (λ qs. visits_fields (docs_in (p ∷ drop (i + 1) ps)) (map row_view qs) n) (row_at rs i r lt_rs)
    ∙ ap (λ qs. in_row rs i r p n ++ visits_fields (docs_in qs) (map row_view (drop (i + 1) rs)) n) (sym (drop_set ps i q)))

-- a field is walked
pub fields_more : (Premise : Type 0) (trace : Visit → List Visit) (a b l all : List Visit) (rs : List Row) (ps : List Part) (i : ℕ) (r : Row) (p q : Part) (n : ℕ) → i < length rs → i < length ps → p ≡ get_or ps i p → HasLogged Premise trace b l (of_field (place_of (get_or rs i r).holds) (visits (part_doc p)) n) → Remains Premise trace a b all (visits_fields (docs_in (drop i ps)) (map row_view (drop i rs)) n) → Remains Premise trace a l all (visits_fields (docs_in (drop (i + 1) (set ps i q))) (map row_view (drop (i + 1) rs)) n)
fields_more Premise trace a b l all rs ps i r p q n lt_rs lt_ps at_p logged before =
    rest_more Premise trace a b l all (visits_fields (docs_in (drop i ps)) (map row_view (drop i rs)) n) (in_row rs i r p n) (visits_fields (docs_in (drop (i + 1) (set ps i q))) (map row_view (drop (i + 1) rs)) n) (fields_next rs ps i r p q n lt_rs lt_ps at_p) before logged

no_rows : (ps : List Part) (n : ℕ) → visits_fields (docs_in ps) [] n ≡ []
no_rows [] n = refl
no_rows (p ∷ ps) n = refl

fields_over : (rs : List Row) (ps : List Part) (i n : ℕ) → i ≡ min (length rs) (length ps) → visits_fields (docs_in (drop i ps)) (map row_view (drop i rs)) n ≡ []
fields_over [] ps zero n e = no_rows ps n
fields_over [] ps (suc i) n e = absurd (omega arith)
fields_over (r ∷ rs) [] zero n e = refl
fields_over (r ∷ rs) [] (suc i) n e = absurd (omega arith)
fields_over (r ∷ rs) (p ∷ ps) zero n e = absurd (omega arith)
fields_over (r ∷ rs) (p ∷ ps) (suc i) n e = fields_over rs ps i n (omega arith)

-- all are
pub fields_none : (Premise : Type 0) (trace : Visit → List Visit) (a b : List Visit) (k : Kind) (ds : Docs) (rs : List Row) (ps : List Part) (i n : ℕ) → map row_view rs ≡ row_of k → i ≡ min (length rs) (length ps) → Remains Premise trace a b (visits_fields ds (map row_view rs) n) (visits_fields (docs_in (drop i ps)) (map row_view (drop i rs)) n) → HasLogged Premise trace a b (visits_fields ds (row_of k) n)
fields_none Premise trace a b k ds rs ps i n rows last before =
    logged_as Premise trace a b (visits_fields ds (map row_view rs) n) (visits_fields ds (row_of k) n) (λ w. ap (λ fs. visits_fields ds fs n) rows)
    (rest_none Premise trace a b (visits_fields ds (map row_view rs) n) (visits_fields (docs_in (drop i ps)) (map row_view (drop i rs)) n) (fields_over rs ps i n last) before)

-- ---- nodes and lists of statements

-- A node of which the hooks and what is in it are visited. What the hooks and the walk leave is what
-- was there.
pub node_logged : (Premise : Type 0) (trace : Visit → List Visit) (a b l m : List Visit) (p : Category) (n : ℕ) (d e f : Doc) → n ≢ 0 → (Premise → e ≡ d) → (Premise → f ≡ d) → HasLogged Premise trace a b (entered p d) → HasLogged Premise trace b l (inside e (n - 1)) → HasLogged Premise trace l m (left p f) → HasLogged Premise trace a m (with_hooks p n d (inside d (n - 1)))
node_logged Premise trace a b l m p n d e f some same_e same_f first second third =
    let rest : HasLogged Premise trace b m (inside e (n - 1) ++ left p f) = logged_on Premise trace b l m (inside e (n - 1)) (left p f) second third in
    logged_as Premise trace a m (entered p d ++ (inside e (n - 1) ++ left p f)) (with_hooks p n d (inside d (n - 1)))
    (λ w. ap (λ x. entered p d ++ (inside x (n - 1) ++ left p f)) (same_e w)
    ∙ (ap (λ x. entered p d ++ (inside d (n - 1) ++ left p x)) (same_f w)
    ∙ ap (λ b. cond b [] (entered p d ++ (inside d (n - 1) ++ left p d))) (sym (ne_eqb n 0 some))))
    (logged_on Premise trace a b m (entered p d) (inside e (n - 1) ++ left p f) first rest)

-- the same of a list of statements
pub statements_logged : (Premise : Type 0) (trace : Visit → List Visit) (a b l m : List Visit) (at : Docs → List Visit) (ds es fs : Docs) → (Premise → es ≡ ds) → (Premise → fs ≡ ds) → b ≡ a ++ trace (visit hook.EnterStatements (list ds)) → HasLogged Premise trace b l (at es) → m ≡ l ++ trace (visit hook.ExitStatements (list fs)) → HasLogged Premise trace a m (of_statements (list ds) (at ds))
statements_logged Premise trace a b l m at ds es fs same_es same_fs first second third =
    let one = logged_one Premise trace a b (visit hook.EnterStatements (list ds)) first in
    let last = logged_one Premise trace l m (visit hook.ExitStatements (list fs)) third in
    let rest = logged_on Premise trace b l m (at es) (visit hook.ExitStatements (list fs) ∷ []) second last in
    logged_as Premise trace a m (visit hook.EnterStatements (list ds) ∷ (at es ++ visit hook.ExitStatements (list fs) ∷ [])) (of_statements (list ds) (at ds))
    (λ w. ap (λ xs. visit hook.EnterStatements (list ds) ∷ (at xs ++ visit hook.ExitStatements (list fs) ∷ [])) (same_es w)
    ∙ ap (λ xs. visit hook.EnterStatements (list ds) ∷ (at ds ++ visit hook.ExitStatements (list xs) ∷ [])) (same_fs w))
    (logged_on Premise trace a b m (visit hook.EnterStatements (list ds) ∷ []) (at es ++ visit hook.ExitStatements (list fs) ∷ []) one rest)

-- and of a program
pub program_logged : (Premise : Type 0) (trace : Visit → List Visit) (a b l m : List Visit) (at : Doc → List Visit) (d e f : Doc) → (Premise → e ≡ d) → (Premise → f ≡ d) → b ≡ a ++ trace (visit hook.EnterProgram d) → HasLogged Premise trace b l (at e) → m ≡ l ++ trace (visit hook.ExitProgram f) → HasLogged Premise trace a m (visit hook.EnterProgram d ∷ (at d ++ visit hook.ExitProgram d ∷ []))
program_logged Premise trace a b l m at d e f same_e same_f first second third =
    let one = logged_one Premise trace a b (visit hook.EnterProgram d) first in
    let last = logged_one Premise trace l m (visit hook.ExitProgram f) third in
    let rest = logged_on Premise trace b l m (at e) (visit hook.ExitProgram f ∷ []) second last in
    logged_as Premise trace a m (visit hook.EnterProgram d ∷ (at e ++ visit hook.ExitProgram f ∷ [])) (visit hook.EnterProgram d ∷ (at d ++ visit hook.ExitProgram d ∷ []))
    (λ w. ap (λ x. visit hook.EnterProgram d ∷ (at x ++ visit hook.ExitProgram f ∷ [])) (same_e w)
    ∙ ap (λ x. visit hook.EnterProgram d ∷ (at d ++ visit hook.ExitProgram x ∷ [])) (same_f w))
    (logged_on Premise trace a b m (visit hook.EnterProgram d ∷ []) (at e ++ visit hook.ExitProgram f ∷ []) one rest)

-- lists of which the documents are the same
pub same_list : {Premise : Type 0} (ds es : Docs) → (Premise → list ds ≡ list es) → Premise → ds ≡ es
same_list ds es same w = ap elements (same w)

-- ---- the statements of a program

part_here : (ps : List Part) (i : ℕ) (p : Part) → i < length ps → p ≡ get_or ps i p → doc_of_part (slice_get ps i) ≡ part_doc p
part_here [] i p lt here = absurd (omega arith)
part_here (q ∷ ps) zero p lt here = ap part_doc (sym here)
part_here (q ∷ ps) (suc i) p lt here = part_here ps i p (omega arith) here

no_part : (ps : List Part) (i : ℕ) → length ps ≤ i → doc_of_part (slice_get ps i) ≡ nil
no_part [] zero le = refl
no_part [] (suc i) le = refl
no_part (q ∷ ps) zero le = absurd (omega arith)
no_part (q ∷ ps) (suc i) le = no_part ps i (omega arith)

-- the part at the place of the field is the field
pub body_here : (name : List ℕ) (k : Kind) (rs : List Row) (ps : List Part) (i : ℕ) (p : Part) → map row_view rs ≡ row_of k → Some i ≡ position_from (λ r. bytes_eq (key_of r.field) name) 0 rs → i < length ps → p ≡ get_or ps i p → part_doc p ≡ named name k (docs_in ps)
body_here name k rs ps i p rows place lt here = sym (part_here ps i p lt here) ∙ named_at name k rs ps (Some i) rows place

-- the place is behind the parts
pub body_short : (name : List ℕ) (k : Kind) (rs : List Row) (ps : List Part) (i : ℕ) → map row_view rs ≡ row_of k → Some i ≡ position_from (λ r. bytes_eq (key_of r.field) name) 0 rs → length ps ≤ i → nil ≡ named name k (docs_in ps)
body_short name k rs ps i rows place le = sym (no_part ps i le) ∙ named_at name k rs ps (Some i) rows place

-- the field is no field of the kind
pub body_missing : (name : List ℕ) (k : Kind) (rs : List Row) (ps : List Part) → map row_view rs ≡ row_of k → None ≡ position_from (λ r. bytes_eq (key_of r.field) name) 0 rs → nil ≡ named name k (docs_in ps)
body_missing name k rs ps rows place = named_at name k rs ps None rows place
