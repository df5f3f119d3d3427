-- Names as scopes declare them.
use Rattle.std.specs.Prelude.{ℕ, List, map, Bool, true, false, not, ◌&&◌}
use Rattle.std.specs.List.{list_any}
use Rattle.std.specs.Str.{bytes_eq}
use Rattle.oxt_tree.specs.Bound.{Bound}
use Rattle.oxt_tree.specs.Doc.{Doc}
use Rattle.oxt_tree.specs.View.{doc_or_nil}
use Rattle.oxt_declares.specs.declared.declaration.Declaration.{Declaration}
use Rattle.oxt_declares.specs.declared.declaration.Sight.{Sight}
use Rattle.oxt_declares.specs.declared.declaration.Sight.TheVariants as sight
use Rattle.oxt_declares.specs.declared.declaration.Sort.{Sort}
use Rattle.oxt_declares.specs.declared.declaration.Sort.TheVariants as sort

-- the name, what it is declared as, the number of the node that is the name, whether the
-- declaration says `declare`, and the body of an enum
pub record Declared : Type 0 where
  pub name : List ℕ
  pub sort : Sort
  pub node : ℕ
  pub ambient : Bool
  pub body : Doc

abbrev pub declared_view : Declaration → Declared
declared_view d = record { name = d.name.now; sort = d.sort; node = d.node.0; ambient = d.is_ambient; body = doc_or_nil d.body }

abbrev pub declared_views : List Declaration → List Declared
declared_views ds = map declared_view ds

-- a bare name, declared so
abbrev pub declared_as : Sort → Bool → Doc → Bound → Declared
declared_as s a b n = record { name = n.name; sort = s; node = n.id; ambient = a; body = b }

abbrev pub all_declared : Sort → Bool → Doc → List Bound → List Declared
all_declared s a b ns = map (declared_as s a b) ns

-- Aliases, interfaces, type parameters, imports of types and namespaces of types are types alone.
abbrev pub is_type_alone : Sort → Bool
is_type_alone sort.TypeImport = true
is_type_alone sort.TypeAlias = true
is_type_alone sort.Interface = true
is_type_alone sort.TypeParameter = true
is_type_alone sort.NamespaceModule = true
is_type_alone s = false

abbrev pub is_type_parameter : Sort → Bool
is_type_parameter sort.TypeParameter = true
is_type_parameter s = false

-- A value passes over what is a type alone, and a type sees everything.
abbrev pub shows : Sight → Sort → Bool
shows sight.Value s = not (is_type_alone s)
shows sight.Type s = true
shows sight.TypeParameter s = is_type_parameter s

-- a declaration of that name that is seen so
abbrev pub is_seen : Sight → List ℕ → Declared → Bool
is_seen s t d = bytes_eq t d.name && shows s d.sort

-- one of them is such a declaration
abbrev pub has : Sight → List ℕ → List Declared → Bool
has s t ds = list_any (is_seen s t) ds
