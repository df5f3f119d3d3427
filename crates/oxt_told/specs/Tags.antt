-- The tags of names that are made for classes and keys, and the names by which classes are called.
use Rattle.std.specs.Prelude.{ℕ, List, ◌++◌, Bool, not, ◌&&◌, ◌||◌, if◌then◌else◌, Option, None, Some, option_map, codes}
use Rattle.std.specs.Fmt.{decimal}
use Rattle.oxt_facts.specs.Told.{Use, made_use, name_use}
use Rattle.oxt_scoping.specs.Entries.{SymbolData}
use Rattle.oxt_scoping.specs.Scoped.{Scoped}
use Rattle.oxt_told.specs.Symbols.{first_node, number_in, symbol_in}
use Rattle.oxt_told.specs.declared.lowering.Lowering.{Lowering}
use Rattle.oxt_tree.specs.Doc.{Doc}
use Rattle.oxt_tree.specs.Fields.{field_of, is_nil}

-- ---- tags

-- the tag of the name that is made for the node of that number and that part of it
abbrev pub tag_at : ℕ → List ℕ → List ℕ
tag_at i part = decimal i ++ part

-- the parts: the alias of a class, as which its name is read in its body; the name by which a nameless class is called from
-- outside; the name that a nameless class has in itself; the temporary of a key, for a field that moves or an accessor; and that of
-- a key for the call of its element
abbrev pub alias_part : List ℕ
alias_part = codes "a"

abbrev pub default_part : List ℕ
default_part = codes "d"

abbrev pub inner_part : List ℕ
inner_part = codes "c"

abbrev pub key_part : List ℕ
key_part = codes "k"

abbrev pub call_part : List ℕ
call_part = codes "m"

-- the tag for a node, if there is one and it is wanted
abbrev pub tag_for : List ℕ → Bool → Option ℕ → Option (List ℕ)
tag_for part wanted None = None
tag_for part wanted (Some i) = if wanted then Some (tag_at i part) else None

-- ---- names of classes

-- a class without a name
abbrev pub is_nameless : Doc → Bool
is_nameless d = is_nil (field_of (codes "id") d)

-- the symbol of a class's name
abbrev pub class_symbol : Scoped → Doc → Option SymbolData
class_symbol s d = symbol_in s (number_in (field_of (codes "id") d))

-- the group of a name: its own, or the number of the class inside which it is meant
abbrev pub group_in : Option ℕ → Option ℕ → Option ℕ
group_in None g = g
group_in (Some i) g = Some i

-- a name of the source with that symbol
abbrev pub symbol_use : Option ℕ → SymbolData → Use
symbol_use inside y = name_use y.name (group_in inside (first_node y.declarations))

-- the name by which a class of that number is called behind it, or in the class of that number
abbrev pub class_use : Scoped → Option ℕ → ℕ → Doc → Option Use
class_use s inside i d =
    if is_nameless d then Some (made_use (tag_at i default_part)) else option_map (symbol_use inside) (class_symbol s d)

-- the name that the class has: a nameless one that nothing calls takes one of its own
abbrev pub own_use : Scoped → Lowering → ℕ → Doc → Option Use
own_use s w i d =
    if is_nameless d && not (w.is_decorated || w.has_calls) then Some (made_use (tag_at i inner_part)) else class_use s None i d

-- the number of a class, where the calls of its elements stand in it and it is decorated
abbrev pub place_of_calls : Lowering → ℕ → Option ℕ
place_of_calls w i = if w.is_decorated && w.is_inside then Some i else None

-- the name by which the calls of its elements call it: where they stand in a decorated class, its inner name
abbrev pub callee : Scoped → Lowering → ℕ → Doc → Option Use
callee s w i d = if w.has_calls then class_use s (place_of_calls w i) i d else None

-- the name of the object on which its static accessors keep their values: its alias, or else its name
abbrev pub object_use : Scoped → Lowering → ℕ → Doc → Option Use
object_use s w i d =
    if not w.has_storage then None
    else if w.has_alias then Some (made_use (tag_at i alias_part))
    else own_use s w i d
