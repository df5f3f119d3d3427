-- Walks of visitors that leave the tree as it is.
use Rattle.std.proofs.Common.{◌≡◌, refl, sym, ◌∙◌, ap, ap₂, List, [], ◌∷◌, ◌++◌, true, false, Option, arith}
use Rattle.oxt_grammar.specs.Field.{Field}
use Rattle.oxt_grammar.specs.Rows.{row_of}
use Rattle.oxt_grammar.specs.declared.category.Category.{Category}
use Rattle.oxt_tree.specs.Doc.{Doc, nil, flag, number, text, list, node, Docs, no_docs, doc}
use Rattle.oxt_visit.specs.Calls.{Call, visited, in_scope, HasCalled, HasLogged, traces}
use Rattle.oxt_visit.specs.Hooks.{Hooks, is_visited}
use Rattle.oxt_visit.specs.Place.{place_of}
use Rattle.oxt_visit.specs.Visits.{of_field, visits, visits_each, visits_fields, visits_inside, with_visit}
use Rattle.oxt_visit.specs.Walks.{Keeps, TellsApart, Walks, WalksElements, WalksField, WalksFields, WalksInside, nothing, a_flag, a_number, a_text, a_list, a_visit, another, inside, no_field, no_row, a_field, no_nodes, nodes, no_element, an_element}

-- What was found is left, and the calls are those.
record Stays {A : Type 0} (old new : A) (calls owed : List Call) : Type 0 where
  same : new ≡ old
  as_owed : calls ≡ owed

-- hooks leave what they find
abbrev TellsLeft : (Doc → Doc → Type 0) → Type 0
TellsLeft Leaves = (d e : Doc) → Leaves d e → e ≡ d

no_row_visits : (h : Hooks) (ds : Docs) → [] ≡ visits_fields h ds []
no_row_visits h no_docs = refl
no_row_visits h (doc d ds) = refl

visit_visits : (h : Hooks) (p : Category) (d : Doc) → is_visited h p d ≡ true → visits h d p ≡ visited d d ∷ visits_inside h d
visit_visits h p nil is = absurd (grind (arith, is))
visit_visits h p (flag b) is = absurd (grind (arith, is))
visit_visits h p (number n) is = absurd (grind (arith, is))
visit_visits h p (text t) is = absurd (grind (arith, is))
visit_visits h p (list ds) is = absurd (grind (arith, is))
visit_visits h p (node k i b e ds) is = ap (λ x. with_visit x (node k i b e ds) (visits_inside h (node k i b e ds))) is

-- a node that is visited and left as it was
visit_stays : (h : Hooks) (p : Category) (d e f : Doc) (cs : List Call) → is_visited h p d ≡ true → e ≡ d → Stays e f cs (visits_inside h e) → Stays d f (visited d e ∷ cs) (visits h d p)
visit_stays h p d e f cs is same stays = record {
  same = stays.same ∙ same;
  as_owed =
      ap (λ x. visited d e ∷ x) stays.as_owed
      ∙ (ap (λ x. visited d x ∷ visits_inside h x) same
      ∙ sym (visit_visits h p d is));
}

-- another node that is left as it was
other_stays : (h : Hooks) (p : Category) (d f : Doc) (cs : List Call) → is_visited h p d ≡ false → Stays d f cs (visits_inside h d) → visits h d p ≡ visits_inside h d → Stays d f cs (visits h d p)
other_stays h p d f cs is stays same = record { same = stays.same; as_owed = stays.as_owed ∙ sym same }

-- the first of several, and the others
both_stay : (d e : Doc) (ds es : Docs) (cs ct owed more : List Call) → Stays d e cs owed → Stays ds es ct more → Stays (doc d ds) (doc e es) (cs ++ ct) (owed ++ more)
both_stay d e ds es cs ct owed more first rest = record {
  same = ap₂ doc first.same rest.same;
  as_owed = ap₂ (λ x y. x ++ y) first.as_owed rest.as_owed;
}

-- what is in a node that is not visited there
node_visits : (h : Hooks) (p : Category) (d f : Doc) (cs : List Call) (Leaves : Doc → Doc → Type 0) → is_visited h p d ≡ false → WalksInside h Leaves d cs f → visits h d p ≡ visits_inside h d
node_visits h p d f cs Leaves is (inside k i b l ds es ct walk) = ap (λ x. with_visit x (node k i b l ds) (visits_inside h (node k i b l ds))) is

mutual
  walk_stays : (h : Hooks) (Leaves : Doc → Doc → Type 0) → TellsLeft Leaves → (p : Category) (d : Doc) (cs : List Call) (e : Doc) → Walks h Leaves p d cs e → Stays d e cs (visits h d p)
  walk_stays h Leaves so p d cs e (nothing q) = record { same = refl; as_owed = refl }
  walk_stays h Leaves so p d cs e (a_flag q b) = record { same = refl; as_owed = refl }
  walk_stays h Leaves so p d cs e (a_number q n) = record { same = refl; as_owed = refl }
  walk_stays h Leaves so p d cs e (a_text q t) = record { same = refl; as_owed = refl }
  walk_stays h Leaves so p d cs e (a_list q ds es ct walk) =
      let stays = elements_stay h Leaves so q ds ct es walk in
      record { same = ap list stays.same; as_owed = stays.as_owed }
  walk_stays h Leaves so p d cs e (a_visit q c l f ct is leaves walk) = visit_stays h q c l f ct is (so c l leaves) (inside_stays h Leaves so l ct f walk)
  walk_stays h Leaves so p d cs e (another q c f ct is walk) = other_stays h q c f ct is (inside_stays h Leaves so c ct f walk) (node_visits h q c f ct Leaves is walk)

  inside_stays : (h : Hooks) (Leaves : Doc → Doc → Type 0) → TellsLeft Leaves → (d : Doc) (cs : List Call) (e : Doc) → WalksInside h Leaves d cs e → Stays d e cs (visits_inside h d)
  inside_stays h Leaves so d cs e (inside k i b l ds es ct walk) =
      let stays = fields_stay h Leaves so (row_of k) ds ct es walk in
      record { same = ap (node k i b l) stays.same; as_owed = ap (in_scope h k i) stays.as_owed }

  fields_stay : (h : Hooks) (Leaves : Doc → Doc → Type 0) → TellsLeft Leaves → (rs : List Field) (ds : Docs) (cs : List Call) (es : Docs) → WalksFields h Leaves rs ds cs es → Stays ds es cs (visits_fields h ds rs)
  fields_stay h Leaves so rs ds cs es (no_field qs) = record { same = refl; as_owed = refl }
  fields_stay h Leaves so rs ds cs es (no_row fs) = record { same = refl; as_owed = no_row_visits h fs }
  fields_stay h Leaves so rs ds cs es (a_field r qs c f fs gs cu ct walk rest) =
      both_stay c f fs gs cu ct (of_field (place_of r.holds) (visits h c)) (visits_fields h fs qs) (field_stays h Leaves so (place_of r.holds) c cu f walk) (fields_stay h Leaves so qs fs ct gs rest)

  field_stays : (h : Hooks) (Leaves : Doc → Doc → Type 0) → TellsLeft Leaves → (o : Option Category) (d : Doc) (cs : List Call) (e : Doc) → WalksField h Leaves o d cs e → Stays d e cs (of_field o (visits h d))
  field_stays h Leaves so o d cs e (no_nodes c) = record { same = refl; as_owed = refl }
  field_stays h Leaves so o d cs e (nodes q c f ct walk) = walk_stays h Leaves so q c ct f walk

  elements_stay : (h : Hooks) (Leaves : Doc → Doc → Type 0) → TellsLeft Leaves → (p : Category) (ds : Docs) (cs : List Call) (es : Docs) → WalksElements h Leaves p ds cs es → Stays ds es cs (visits_each h ds p)
  elements_stay h Leaves so p ds cs es (no_element q) = record { same = refl; as_owed = refl }
  elements_stay h Leaves so p ds cs es (an_element q c f fs gs cu ct walk rest) =
      both_stay c f fs gs cu ct (visits h c q) (visits_each h fs q) (walk_stays h Leaves so q c cu f walk) (elements_stay h Leaves so q fs ct gs rest)

-- A walk whose hooks leave all as it is makes the calls that the tree owes.
pub watched : (h : Hooks) {A : Type 0} (read : Doc → A) (trace : Call → List Call) (a b : List Call) (p : Category) (d e : Doc) → HasCalled trace a b (λ cs. Walks h (Keeps read) p d cs e) → HasLogged (TellsApart read) trace a b (visits h d p)
watched h read trace a b p d e called = record {
  grown = λ apart. called.grown ∙ ap (λ cs. a ++ traces trace cs) (walk_stays h (Keeps read) apart p d called.calls e called.owed).as_owed;
}
