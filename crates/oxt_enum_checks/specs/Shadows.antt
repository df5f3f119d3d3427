-- Bare names of members in initializers, where the name of the enum means something that the initializer declares.
use Rattle.std.specs.Prelude.{ℕ, List, [], ◌∷◌, ◌++◌, map, fold, Bool, ◌&&◌, nat_lt, if◌then◌else◌, is_some, Option, None, Some, codes}
use Rattle.std.specs.Str.{bytes_eq}
use Rattle.oxt_declares.specs.Declarations.{Declared}
use Rattle.oxt_declares.specs.Declares.{each_found}
use Rattle.oxt_declares.specs.RoleOf.{role_of}
use Rattle.oxt_declares.specs.declared.collect.Mode.{Mode}
use Rattle.oxt_declares.specs.declared.declaration.Sight.TheVariants as sight
use Rattle.oxt_enum_checks.specs.Around.{Enum, enum_in, within}
use Rattle.oxt_enum_checks.specs.Uses.{is_member_use}
use Rattle.oxt_enum_checks.specs.declared.shadowed.ShadowedName.{ShadowedName}
use Rattle.oxt_scopes.specs.Owners.{opened, outside, read}
use Rattle.oxt_scopes.specs.Scopes.{Level, look}
use Rattle.oxt_scopes.specs.Ways.{step_of, way_of}
use Rattle.oxt_scopes.specs.declared.way.Pass.TheVariants as pass
use Rattle.oxt_scopes.specs.declared.way.Reading.{Reading}
use Rattle.oxt_scopes.specs.declared.way.Step.{Step}
use Rattle.oxt_scopes.specs.declared.way.Step.TheVariants as step
use Rattle.oxt_scopes.specs.declared.way.Way.{Way}
use Rattle.oxt_scopes.specs.declared.way.Way.TheVariants as way
use Rattle.oxt_scoping.specs.Scoped.{Scoped}
use Rattle.oxt_names.specs.declared.ids.SymbolId.{SymbolId}
use Rattle.oxt_grammar.specs.Field.{Field}
use Rattle.oxt_grammar.specs.Places.{same_kind}
use Rattle.oxt_grammar.specs.Rows.{row_of}
use Rattle.oxt_grammar.specs.declared.kind.Kind.{Kind}
use Rattle.oxt_grammar.specs.declared.kind.Kind.TheVariants as kind
use Rattle.oxt_tree.specs.Doc.{Doc, nil, flag, number, text, list, node, Docs, no_docs, doc}
use Rattle.oxt_tree.specs.Fields.{named}
use Rattle.oxt_names.specs.Names.{name_bytes}
use Rattle.oxt_declares.specs.Dropped.{is_declared_field, is_dropped_by}

-- the number of a bare name of a member, and the name of the enum
pub record Shadow : Type 0 where
  pub node : ℕ
  pub name : List ℕ

abbrev pub shadow_view : ShadowedName → Shadow
shadow_view n = record { node = n.node.0; name = name_bytes n.name.now }

abbrev pub shadow_views : List ShadowedName → List Shadow
shadow_views ns = map shadow_view ns

-- ---- in an initializer of the enum `a`, in whose scopes `ls` names are read

-- one of the scopes declares the name, as more than a type
abbrev pub declares_name : List ℕ → List Level → Bool
declares_name t ls = is_some (look sight.Value t ls)

-- the node is a bare name of a member of the enum, and one of the scopes declares the name of the enum
abbrev pub is_shadowed : Scoped → Enum → ℕ → List Level → Bool
is_shadowed s a i ls = is_member_use s a i && declares_name a.name ls

-- the node, if it is so
abbrev pub own_shadow : Scoped → Enum → ℕ → List Level → List Shadow
own_shadow s a i ls = if is_shadowed s a i ls then record { node = i; name = a.name } ∷ [] else []

-- what the fields of a node say, read so in these scopes
abbrev pub Fields : Type 0
Fields = Reading → List Level → List Shadow

-- such names in a node, by what becomes of it
abbrev pub step_shadows : Step → Scoped → Enum → Reading → Kind → ℕ → Docs → List Level → (Mode → List Declared) → Fields → List Shadow
step_shadows step.Use s a r k i ds ls m c = own_shadow s a i ls
step_shadows step.Plain s a r k i ds ls m c = c (record r { pass = pass.Here }) ls
step_shadows step.Opens s a r k i ds ls m c =
    c (record r { pass = pass.Around }) ls ++ c (record r { pass = pass.Within }) (opened r.role k i ds m ls ∷ ls)
step_shadows step.Hides s a r k i ds ls m c = c (record r { pass = pass.Beyond }) (outside ls) ++ c (record r { pass = pass.Here }) ls

-- a part, if it is read
abbrev pub read_shadows : Option Way → (Way → List Level → List Shadow) → List Level → List Shadow
read_shadows None c ls = []
read_shadows (Some w) c ls = c w ls

-- in an erased node: the decorators of a field that is only declared, where they are not erased with it
abbrev pub left_shadows : Bool → Reading → Fields → List Level → List Shadow
left_shadows b r c ls = if b then c (record r { pass = pass.Beyond }) ls else []

-- such names in a document, outside what is erased; the flag says whether decorators have their older meaning
abbrev mutual
  pub shadows : Bool → Scoped → Enum → Doc → Way → List Level → List Shadow
  shadows l s a nil w ls = []
  shadows l s a (flag b) w ls = []
  shadows l s a (number n) w ls = []
  shadows l s a (text t) w ls = []
  shadows l s a (list ds) w ls = each_shadows l s a ds w ls
  shadows l s a (node k i b e ds) w ls =
      if is_dropped_by k ds
      then left_shadows (l && is_declared_field k ds) (read (role_of k) w k ds) (field_shadows l s a ds (row_of k)) ls
      else step_shadows (step_of (role_of k) w) s a (read (role_of k) w k ds) k i ds ls (each_found ds) (field_shadows l s a ds (row_of k))

  pub each_shadows : Bool → Scoped → Enum → Docs → Way → List Level → List Shadow
  each_shadows l s a no_docs w ls = []
  each_shadows l s a (doc d ds) w ls = shadows l s a d w ls ++ each_shadows l s a ds w ls

  pub field_shadows : Bool → Scoped → Enum → Docs → List Field → Reading → List Level → List Shadow
  field_shadows l s a no_docs fs r ls = []
  field_shadows l s a (doc d ds) [] r ls = []
  field_shadows l s a (doc d ds) (f ∷ fs) r ls = read_shadows (way_of r f.name) (shadows l s a d) ls ++ field_shadows l s a ds fs r ls

-- ---- in all initializers

-- in an initializer in that enum, if it is one
abbrev pub initializer_shadows : Bool → Scoped → Doc → Option Enum → List Shadow
initializer_shadows l s d None = []
initializer_shadows l s d (Some a) = shadows l s a d way.Whole []

-- in the initializer of a node, if it is a member of the enum of that symbol
abbrev pub member_shadows : Bool → Scoped → Kind → Docs → Option SymbolId → List Shadow
member_shadows l s k ds a = if same_kind k kind.TSEnumMember then initializer_shadows l s (named (codes "initializer") k ds) (enum_in s.symbols a) else []

-- of an erased node what its decorators have, if it is a field that is only declared and they are not erased with it
abbrev pub left_all : Bool → Kind → Docs → List Shadow → List Shadow
left_all l k ds ns = if l && is_declared_field k ds then ns else []

-- such names in the initializers in a document that stands in the enum of that symbol, outside what is erased
abbrev mutual
  pub all_shadows : Bool → Scoped → Doc → Option SymbolId → List Shadow
  all_shadows l s nil a = []
  all_shadows l s (flag b) a = []
  all_shadows l s (number n) a = []
  all_shadows l s (text t) a = []
  all_shadows l s (list ds) a = all_among l s ds a
  all_shadows l s (node k i b e ds) a =
      if is_dropped_by k ds then left_all l k ds (all_at l s ds (row_of k) (codes "decorators") a)
      else member_shadows l s k ds a ++ all_among l s ds (within s k ds a)

  pub all_among : Bool → Scoped → Docs → Option SymbolId → List Shadow
  all_among l s no_docs a = []
  all_among l s (doc d ds) a = all_shadows l s d a ++ all_among l s ds a

  -- the same of the field of that name alone
  pub all_at : Bool → Scoped → Docs → List Field → List ℕ → Option SymbolId → List Shadow
  all_at l s no_docs fs name a = []
  all_at l s (doc d ds) [] name a = []
  all_at l s (doc d ds) (f ∷ fs) name a =
      if bytes_eq f.name name then all_shadows l s d a else all_at l s ds fs name a

-- the one of the lesser number, the first of two with one number
abbrev pub lesser : Option Shadow → Shadow → Option Shadow
lesser None n = Some n
lesser (Some m) n = Some (if nat_lt n.node m.node then n else m)

-- the one of the least number
abbrev pub least : List Shadow → Option Shadow
least ns = fold lesser None ns

-- the one of the least number of a whole tree
abbrev pub shadowed : Bool → Scoped → Doc → Option Shadow
shadowed l s d = least (all_shadows l s d None)
