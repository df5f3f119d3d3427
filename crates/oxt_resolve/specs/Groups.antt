-- The groups that the names of a tree mean and declare. A group is the declarations of a spelling in one scope; it goes by the
-- number of the first node that declares it.
use denote.Ref.{Bor}
use Rattle.std.specs.Prelude.{ℕ, Bool, List, [], fold, ◌&&◌, ◌==◌, if◌then◌else◌, Option, None, Some}
use Rattle.std.specs.Map.{lookup}
use Rattle.std.specs.Str.{bytes_eq}
use Rattle.std.specs.BTreeMap.{insert_entry}
use Rattle.std.specs.Ordering.{nat_cmp}
use Rattle.oxt_declares.specs.Declarations.{Declared}
use Rattle.oxt_facts.specs.Owners.{Owners}
use Rattle.oxt_resolve.specs.declared.firsts.Firsts.{Firsts}
use Rattle.oxt_scopes.specs.Nestings.{Opened, scopes_of}
use Rattle.oxt_scopes.specs.Owners.{Owned, owners_of}
use Rattle.oxt_scopes.specs.Scopes.{or_else}
use Rattle.oxt_tree.specs.Doc.{Doc}

-- the number of the first node that declares a spelling in the scope of a number, if one does
abbrev pub First : Type 0
First = ℕ → List ℕ → Option ℕ

-- a spelling in the scope of a number is this one in that of this number
abbrev pub is_there : ℕ → List ℕ → ℕ → List ℕ → Bool
is_there n t m u = (n == m) && bytes_eq t u

-- the same with a declaration more in the scope of that number
abbrev pub noted : ℕ → First → Declared → First
noted m f d = λ n t. or_else (f n t) (if is_there n t m d.name then Some d.node else None)

-- with all that a scope declares
abbrev pub noted_in : First → Opened → First
noted_in f x = fold (noted x.number) f x.declared

abbrev pub all_noted : List Opened → First → First
all_noted xs f = fold noted_in f xs

-- what these scopes declare
abbrev pub first_of : List Opened → First
first_of xs = all_noted xs (λ n t. None)

-- the groups with that of the node of that number, if it has one
abbrev pub grouped : ℕ → Option ℕ → Owners → Owners
grouped i None os = os
grouped i (Some g) os = insert_entry nat_cmp os i g

-- a name that the scope of that number declares has the group of its spelling there
abbrev pub with_declared : First → ℕ → Owners → Declared → Owners
with_declared f n os d = grouped d.node (f n d.name) os

abbrev pub with_scope : First → Owners → Opened → Owners
with_scope f os x = fold (with_declared f x.number) os x.declared

abbrev pub with_scopes : First → List Opened → Owners → Owners
with_scopes f xs os = fold (with_scope f) os xs

-- a name that is used has the group of its spelling in the scope that owns it
abbrev pub used_group : First → Option ℕ → List ℕ → Option ℕ
used_group f None t = None
used_group f (Some n) t = f n t

abbrev pub with_used : First → Owners → Owned → Owners
with_used f os o = grouped o.node (used_group f o.owner o.name) os

abbrev pub with_uses : First → List Owned → Owners → Owners
with_uses f ns os = fold (with_used f) os ns

-- the groups of the names of a tree that has these scopes and uses these names
abbrev pub groups_by : List Opened → List Owned → Owners
groups_by xs ns = with_uses (first_of xs) ns (with_scopes (first_of xs) xs [])

-- the groups of the names of a tree, where decorators have their older meaning or not
abbrev pub groups_of : Bool → Doc → Owners
groups_of legacy d = groups_by (scopes_of legacy d) (owners_of d)

-- The table of the program, as contracts see it.
abbrev pub Key : Type 0
Key = ℕ × Bor (List ℕ)

abbrev pub node_at : ℕ → List ℕ → List (Key × ℕ) → Option ℕ
node_at n t es = lookup (λ k. is_there n t k.0 k.1.now) es

abbrev pub first_at : Firsts → First
first_at f = λ n t. node_at n t f.nodes.entries
