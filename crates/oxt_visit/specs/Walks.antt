-- Walks: which calls they make, and what they leave.
use Rattle.std.specs.Prelude.{◌≡◌, ℕ, Bool, true, false, List, [], ◌∷◌, ◌++◌, Option, None, Some}
use Rattle.oxt_grammar.specs.Field.{Field}
use Rattle.oxt_grammar.specs.Rows.{row_of}
use Rattle.oxt_grammar.specs.declared.category.Category.{Category}
use Rattle.oxt_grammar.specs.declared.kind.Kind.{Kind}
use Rattle.oxt_tree.specs.Doc.{Doc, nil, flag, number, text, list, node, Docs, no_docs, doc}
use Rattle.oxt_visit.specs.Calls.{Call, visited, in_scope}
use Rattle.oxt_visit.specs.Hooks.{Hooks, is_visited}
use Rattle.oxt_visit.specs.Place.{place_of}

-- What is read of a document is read of what a hook leaves of it.
abbrev pub Keeps : {A : Type 0} → (Doc → A) → Doc → Doc → Type 0
Keeps read d e = read e ≡ read d

-- The reading tells documents apart, so that who keeps it leaves them as they are.
abbrev pub TellsApart : {A : Type 0} → (Doc → A) → Type 0
TellsApart read = (d e : Doc) → Keeps read d e → e ≡ d

-- A walk that finds a document, makes these calls and leaves that document, where `Leaves d e` says what hooks leave of
-- what they visit.
mutual
  -- at a place: a node that is visited is walked as the hook leaves it; another is walked as it is
  pub data Walks (h : Hooks) (Leaves : Doc → Doc → Type 0) : Category → Doc → List Call → Doc → Type 0 where
    nothing : (p : Category) → Walks h Leaves p nil [] nil
    a_flag : (p : Category) (b : Bool) → Walks h Leaves p (flag b) [] (flag b)
    a_number : (p : Category) (n : ℕ) → Walks h Leaves p (number n) [] (number n)
    a_text : (p : Category) (t : List ℕ) → Walks h Leaves p (text t) [] (text t)
    a_list : (p : Category) (ds es : Docs) (cs : List Call) → WalksElements h Leaves p ds cs es → Walks h Leaves p (list ds) cs (list es)
    a_visit : (p : Category) (d e f : Doc) (cs : List Call) → is_visited h p d ≡ true → Leaves d e → WalksInside h Leaves e cs f → Walks h Leaves p d (visited d e ∷ cs) f
    another : (p : Category) (d f : Doc) (cs : List Call) → is_visited h p d ≡ false → WalksInside h Leaves d cs f → Walks h Leaves p d cs f

  -- what is in a node: its fields by the rows of its kind, in its scope where that is entered
  pub data WalksInside (h : Hooks) (Leaves : Doc → Doc → Type 0) : Doc → List Call → Doc → Type 0 where
    inside : (k : Kind) (i b e : ℕ) (ds es : Docs) (cs : List Call) → WalksFields h Leaves (row_of k) ds cs es → WalksInside h Leaves (node k i b e ds) (in_scope h k i cs) (node k i b e es)

  -- fields, each by its row and in order
  pub data WalksFields (h : Hooks) (Leaves : Doc → Doc → Type 0) : List Field → Docs → List Call → Docs → Type 0 where
    no_field : (rs : List Field) → WalksFields h Leaves rs no_docs [] no_docs
    no_row : (ds : Docs) → WalksFields h Leaves [] ds [] ds
    a_field : (r : Field) (rs : List Field) (d e : Doc) (ds es : Docs) (cs ct : List Call) → WalksField h Leaves (place_of r.holds) d cs e → WalksFields h Leaves rs ds ct es → WalksFields h Leaves (r ∷ rs) (doc d ds) (cs ++ ct) (doc e es)

  -- a field: what holds no nodes stays as it is
  pub data WalksField (h : Hooks) (Leaves : Doc → Doc → Type 0) : Option Category → Doc → List Call → Doc → Type 0 where
    no_nodes : (d : Doc) → WalksField h Leaves None d [] d
    nodes : (p : Category) (d e : Doc) (cs : List Call) → Walks h Leaves p d cs e → WalksField h Leaves (Some p) d cs e

  -- the elements of a list, in order
  pub data WalksElements (h : Hooks) (Leaves : Doc → Doc → Type 0) : Category → Docs → List Call → Docs → Type 0 where
    no_element : (p : Category) → WalksElements h Leaves p no_docs [] no_docs
    an_element : (p : Category) (d e : Doc) (ds es : Docs) (cs ct : List Call) → Walks h Leaves p d cs e → WalksElements h Leaves p ds ct es → WalksElements h Leaves p (doc d ds) (cs ++ ct) (doc e es)
