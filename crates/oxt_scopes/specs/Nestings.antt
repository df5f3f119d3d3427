-- The scopes of a document, in the order of the text.
use Rattle.std.specs.Prelude.{ℕ, Bool, List, [], ◌∷◌, ◌++◌, Option, None, Some}
use Rattle.oxt_grammar.specs.Field.{Field}
use Rattle.oxt_grammar.specs.Rows.{row_of}
use Rattle.oxt_grammar.specs.declared.kind.Kind.{Kind}
use Rattle.oxt_tree.specs.Doc.{Doc, nil, flag, number, text, list, node, Docs, no_docs, doc}
use Rattle.oxt_declares.specs.Declarations.{Declared}
use Rattle.oxt_declares.specs.Declares.{each_found, node_declares}
use Rattle.oxt_scopes.specs.Owners.{read, scope_number}
use Rattle.oxt_declares.specs.RoleOf.{role_of}
use Rattle.oxt_scopes.specs.Ways.{step_of, way_of}
use Rattle.oxt_declares.specs.declared.collect.Mode.{Mode}
use Rattle.oxt_declares.specs.declared.role.Role.{Role}
use Rattle.oxt_scopes.specs.declared.way.Pass.TheVariants as pass
use Rattle.oxt_scopes.specs.declared.way.Reading.{Reading}
use Rattle.oxt_scopes.specs.declared.way.Step.{Step}
use Rattle.oxt_scopes.specs.declared.way.Step.TheVariants as step
use Rattle.oxt_scopes.specs.declared.way.Way.{Way}
use Rattle.oxt_scopes.specs.declared.way.Way.TheVariants as way
use Rattle.oxt_scopes.specs.Standings.{of_program, standing_in}
use Rattle.oxt_scopes.specs.declared.standing.Standing.{Standing}

-- a scope: its number, that of the scope around it, what the node is that opens it, how that node
-- stands, and what it declares
pub record Opened : Type 0 where
  pub number : ℕ
  pub parent : Option ℕ
  pub role : Role
  pub standing : Standing
  pub declared : List Declared

-- the first of the scopes around a place, if there is one
abbrev pub innermost : List ℕ → Option ℕ
innermost [] = None
innermost (n ∷ ns) = Some n

-- the others
abbrev pub outer : List ℕ → List ℕ
outer [] = []
outer (n ∷ ns) = ns

abbrev pub opened_scope : Role → Kind → ℕ → Docs → Standing → Option ℕ → (Mode → List Declared) → Opened
opened_scope r k i ds s n m = record { number = scope_number r k i ds; parent = n; role = r; standing = s; declared = node_declares r k ds m }

-- the scopes in the fields of a node that are read so
abbrev pub Fields : Type 0
Fields = Reading → Standing → List ℕ → List Opened

-- the scopes in a node, by what becomes of it
abbrev pub step_scopes : Step → Reading → Kind → ℕ → Docs → Standing → List ℕ → (Mode → List Declared) → Fields → List Opened
step_scopes step.Use r k i ds s ns m c = []
step_scopes step.Plain r k i ds s ns m c = c (record r { pass = pass.Here }) s ns
step_scopes step.Opens r k i ds s ns m c =
    c (record r { pass = pass.Around }) s ns
    ++ (opened_scope r.role k i ds s (innermost ns) m ∷ c (record r { pass = pass.Within }) s (scope_number r.role k i ds ∷ ns))
step_scopes step.Hides r k i ds s ns m c = c (record r { pass = pass.Beyond }) s (outer ns) ++ c (record r { pass = pass.Here }) s ns

-- a part, if it is read
abbrev pub read_scopes : Option Way → (Way → Standing → List ℕ → List Opened) → Standing → List ℕ → List Opened
read_scopes None c s ns = []
read_scopes (Some w) c s ns = c w s ns

-- the scopes in a document
abbrev mutual
  pub scopes : Doc → Way → Standing → List ℕ → List Opened
  scopes nil w s ns = []
  scopes (flag b) w s ns = []
  scopes (number n) w s ns = []
  scopes (text t) w s ns = []
  scopes (list ds) w s ns = each_scopes ds w s ns
  scopes (node k i b e ds) w s ns =
      step_scopes (step_of (role_of k) w) (read (role_of k) w k ds) k i ds (standing_in s k ds) ns (each_found ds) (field_scopes ds (row_of k))

  pub each_scopes : Docs → Way → Standing → List ℕ → List Opened
  each_scopes no_docs w s ns = []
  each_scopes (doc d ds) w s ns = scopes d w s ns ++ each_scopes ds w s ns

  pub field_scopes : Docs → List Field → Reading → Standing → List ℕ → List Opened
  field_scopes no_docs fs r s ns = []
  field_scopes (doc d ds) [] r s ns = []
  field_scopes (doc d ds) (f ∷ fs) r s ns = read_scopes (way_of r f.name) (scopes d) s ns ++ field_scopes ds fs r s ns

-- the scopes of a whole tree, in which decorators have their older meaning or not
abbrev pub scopes_of : Bool → Doc → List Opened
scopes_of legacy d = scopes d way.Whole (of_program legacy) []
