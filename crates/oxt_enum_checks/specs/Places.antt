-- The declarations of names, by the numbers of the nodes that are the names.
use Rattle.std.specs.Prelude.{ℕ, List, map, Bool, true, false, nat_eq, Option, None, Some}
use Rattle.std.specs.Map.{lookup, update_all}
use Rattle.oxt_enum_checks.specs.declared.places.Around.{Around}
use Rattle.oxt_enum_checks.specs.declared.places.Place.{Place}
use Rattle.oxt_enum_checks.specs.declared.places.PlacedName.{PlacedName}
use Rattle.oxt_enum_checks.specs.declared.places.Places.{Places}
use Rattle.oxt_enum_checks.specs.declared.places.Reach.{Reach}
use Rattle.oxt_enum_checks.specs.declared.places.Reach.TheVariants as reach
use Rattle.oxt_search.specs.All.{all_in}
use Rattle.oxt_search.specs.Sought.{Sought}
use Rattle.oxt_tree.specs.declared.inside.Inside.TheVariants as inside
use Rattle.oxt_grammar.specs.declared.kind.Kind.{Kind}
use Rattle.oxt_grammar.specs.declared.kind.Kind.TheVariants as kind
use Rattle.oxt_tree.specs.Doc.{Doc}
use Rattle.oxt_names.specs.declared.ids.NodeId.{NodeId}

-- Declarations, parameters and specifiers of imports declare the names that stand in them directly or in
-- their patterns. The name of a function or class expression has no declaration.
abbrev pub reach_of : Kind → Reach
reach_of kind.ExportDeclaration = reach.Export
reach_of kind.VariableDeclaration = reach.Declaration
reach_of kind.FunctionDeclaration = reach.Declaration
reach_of kind.TSDeclareFunction = reach.Declaration
reach_of kind.ClassDeclaration = reach.Declaration
reach_of kind.TSTypeAliasDeclaration = reach.Declaration
reach_of kind.TSInterfaceDeclaration = reach.Declaration
reach_of kind.TSEnumDeclaration = reach.Declaration
reach_of kind.TSNamespaceDeclaration = reach.Declaration
reach_of kind.TSImportEqualsDeclaration = reach.Declaration
reach_of kind.FormalParameter = reach.Declaration
reach_of kind.FormalParameterRest = reach.Declaration
reach_of kind.CatchParameter = reach.Declaration
reach_of kind.ImportSpecifier = reach.Declaration
reach_of kind.ImportDefaultSpecifier = reach.Declaration
reach_of kind.ImportNamespaceSpecifier = reach.Declaration
reach_of kind.VariableDeclarator = reach.Pattern
reach_of kind.ObjectPattern = reach.Pattern
reach_of kind.ArrayPattern = reach.Pattern
reach_of kind.BindingProperty = reach.Pattern
reach_of kind.BindingRestElement = reach.Pattern
reach_of kind.AssignmentPattern = reach.Pattern
reach_of kind.BindingIdentifier = reach.Name
reach_of k = reach.Other

-- where no names of a declaration stand
abbrev pub nowhere : Around
nowhere = record { declaration = None; is_exported = false }

-- What stands around the fields of a node: a declaration is exported that an export holds directly.
abbrev pub within : Reach → ℕ → Around → Around
within reach.Export i a = record { declaration = None; is_exported = true }
within reach.Declaration i a = record { declaration = Some (record { 0 = i }); is_exported = a.is_exported }
within reach.Pattern i a = a
within reach.Name i a = nowhere
within reach.Other i a = nowhere

-- the name of that number, with the declaration around it
abbrev pub name_at : ℕ → Option NodeId → Bool → Option PlacedName
name_at i None b = None
name_at i (Some n) b = Some (record { name = record { 0 = i }; place = record { declaration = n; is_exported = b } })

-- the node, if it is a name that a declaration declares
abbrev pub own_name : Reach → ℕ → Around → Option PlacedName
own_name reach.Name i a = name_at i a.declaration a.is_exported
own_name r i a = None

-- each such name
abbrev pub placed_names : Sought Around PlacedName
placed_names =
    record {
      at = λ a k i ds. own_name (reach_of k) i a;
      inside = λ a k i ds. inside.Alike (within (reach_of k) i a);
      in_field = λ a k r. Some a;
    }

-- the names in a document that declarations declare, with these
abbrev pub names_of : Doc → List PlacedName
names_of d = all_in placed_names d nowhere

-- the declarations of names by their numbers
abbrev pub Placed : Type 0
Placed = ℕ → Option Place

-- what a table has for a number
abbrev pub place_at : List (ℕ × Place) → Placed
place_at es n = lookup (nat_eq n) es

-- the declarations that the program has, as contracts see them
abbrev pub places_in : Places → Placed
places_in p = place_at p.table.entries

-- the declarations by the numbers of the names
abbrev pub by_number : List PlacedName → List (ℕ × Place)
by_number ns = map (λ m. (m.name.0, m.place)) ns

-- The declaration of the name of that number; of two the last counts.
abbrev pub table_of : List PlacedName → Placed
table_of ns n = update_all nat_eq (λ _. None) (by_number ns) n

-- the declarations of the names of a tree
abbrev pub places_of : Doc → Placed
places_of d = table_of (names_of d)
