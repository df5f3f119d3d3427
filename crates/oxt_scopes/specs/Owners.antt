-- The owner of each name that is used: the scope of the group that it means.
use Rattle.std.specs.Prelude.{ℕ, List, [], ◌∷◌, ◌++◌, Bool, false, Option, None, Some, codes}
use Rattle.oxt_grammar.specs.Field.{Field}
use Rattle.oxt_grammar.specs.Rows.{row_of}
use Rattle.oxt_grammar.specs.declared.kind.Kind.{Kind}
use Rattle.oxt_tree.specs.Doc.{Doc, nil, flag, number, text, list, node, Docs, no_docs, doc}
use Rattle.oxt_tree.specs.Fields.{named, field_of, first, is_text, text_in}
use Rattle.oxt_tree.specs.Syntax.{is_type_only}
use Rattle.oxt_declares.specs.Declarations.{Declared}
use Rattle.oxt_declares.specs.Declares.{each_found, node_declares}
use Rattle.oxt_declares.specs.RoleOf.{role_of}
use Rattle.oxt_scopes.specs.Scopes.{Level, level, look, look_in_signature, number_of}
use Rattle.oxt_scopes.specs.Ways.{step_of, way_of}
use Rattle.oxt_declares.specs.declared.collect.Mode.{Mode}
use Rattle.oxt_declares.specs.declared.declaration.Sight.TheVariants as sight
use Rattle.oxt_scopes.specs.declared.usage.Usage.{Usage}
use Rattle.oxt_scopes.specs.declared.usage.Usage.TheVariants as usage
use Rattle.oxt_declares.specs.declared.role.Role.{Role}
use Rattle.oxt_declares.specs.declared.role.Role.TheVariants as role
use Rattle.oxt_scopes.specs.declared.way.Pass.TheVariants as pass
use Rattle.oxt_scopes.specs.declared.way.Reading.{Reading}
use Rattle.oxt_scopes.specs.declared.way.Step.{Step}
use Rattle.oxt_scopes.specs.declared.way.Step.TheVariants as step
use Rattle.oxt_scopes.specs.declared.way.Way.{Way}
use Rattle.oxt_scopes.specs.declared.way.Way.TheVariants as way

-- the number of a node that is a name, its spelling, the number of the node that opens the scope of its group, none where
-- the name is free, and how the name is used
pub record Owned : Type 0 where
  pub node : ℕ
  pub name : List ℕ
  pub owner : Option ℕ
  pub usage : Usage

-- the use of a name that is read that way
abbrev pub usage_of : Way → Usage
usage_of way.Whole = usage.Read
usage_of way.Method = usage.Read
usage_of way.Written = usage.Write
usage_of way.Updated = usage.ReadWrite
usage_of way.Typed = usage.Type
usage_of way.Signature = usage.Type

-- what a name means that is read that way
abbrev pub meaning : Way → List ℕ → List Level → Option ℕ
meaning way.Typed t ls = look sight.Type t ls
meaning way.Signature t ls = look_in_signature t ls
meaning w t ls = look sight.Value t ls

-- the owner of the name with that number
abbrev pub used : ℕ → Option (List ℕ) → Way → List Level → List Owned
used i None w ls = []
used i (Some t) w ls = record { node = i; name = t; owner = meaning w t ls; usage = usage_of w } ∷ []

-- The scope of an enum's block has the number of its body, and any other that of its node.
abbrev pub scope_number : Role → Kind → ℕ → Docs → ℕ
scope_number role.Enum k i ds = number_of (named (codes "body") k ds)
scope_number r k i ds = i

-- the enum in whose block names are read
abbrev pub enum_of : Role → Kind → Docs → Option (List ℕ)
enum_of role.Enum k ds = text_in (field_of (codes "name") (named (codes "id") k ds))
enum_of r k ds = None

-- the scope that a node opens
abbrev pub opened : Role → Kind → ℕ → Docs → (Mode → List Declared) → List Level → Level
opened r k i ds c ls = level (scope_number r k i ds) (node_declares r k ds c) (enum_of r k ds) ls

-- the scopes around the innermost one
abbrev pub outside : List Level → List Level
outside [] = []
outside (l ∷ ls) = ls

-- what the fields of a node say, read so in these scopes
abbrev pub Fields : Type 0
Fields = Reading → List Level → List Owned

-- an import or an export of types alone, or an assignment by `=`
abbrev pub is_marked : Role → Kind → Docs → Bool
is_marked role.ExportList k ds = is_type_only k ds
is_marked role.Specifier k ds = is_type_only k ds
is_marked role.ImportEquals k ds = is_type_only k ds
is_marked role.Assignment k ds = is_text (codes "=") (named (codes "operator") k ds)
is_marked r k ds = false

abbrev pub read : Role → Way → Kind → Docs → Reading
read r w k ds = record { pass = pass.Here; role = r; way = w; is_marked = is_marked r k ds }

-- the names in a node, by what becomes of it
abbrev pub step_owners : Step → Reading → Kind → ℕ → Docs → List Level → (Mode → List Declared) → Fields → List Owned
step_owners step.Use r k i ds ls m c = used i (text_in (first ds)) r.way ls
step_owners step.Plain r k i ds ls m c = c (record r { pass = pass.Here }) ls
step_owners step.Opens r k i ds ls m c =
    c (record r { pass = pass.Around }) ls ++ c (record r { pass = pass.Within }) (opened r.role k i ds m ls ∷ ls)
step_owners step.Hides r k i ds ls m c = c (record r { pass = pass.Beyond }) (outside ls) ++ c (record r { pass = pass.Here }) ls

-- a part, if it is read
abbrev pub read_so : Option Way → (Way → List Level → List Owned) → List Level → List Owned
read_so None c ls = []
read_so (Some w) c ls = c w ls

-- the names in a document, in the order of the text, with the owner of each
abbrev mutual
  pub owners : Doc → Way → List Level → List Owned
  owners nil w ls = []
  owners (flag b) w ls = []
  owners (number n) w ls = []
  owners (text t) w ls = []
  owners (list ds) w ls = each_owners ds w ls
  owners (node k i b e ds) w ls =
      step_owners (step_of (role_of k) w) (read (role_of k) w k ds) k i ds ls (each_found ds) (field_owners ds (row_of k))

  pub each_owners : Docs → Way → List Level → List Owned
  each_owners no_docs w ls = []
  each_owners (doc d ds) w ls = owners d w ls ++ each_owners ds w ls

  pub field_owners : Docs → List Field → Reading → List Level → List Owned
  field_owners no_docs rs r ls = []
  field_owners (doc d ds) [] r ls = []
  field_owners (doc d ds) (f ∷ fs) r ls = read_so (way_of r f.name) (owners d) ls ++ field_owners ds fs r ls

-- the owners of a whole tree
abbrev pub owners_of : Doc → List Owned
owners_of d = owners d way.Whole []
