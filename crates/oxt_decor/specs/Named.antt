-- Which bodies name a class.
use Rattle.std.specs.Prelude.{ℕ, Bool, false, ◌&&◌, ◌==◌, List, [], ◌∷◌, ◌++◌, Option, None, Some}
use Rattle.std.specs.List.{list_any}
use Rattle.oxt_grammar.specs.declared.category.Category.TheVariants as category
use Rattle.oxt_names.specs.declared.ids.SymbolId.{SymbolId}
use Rattle.oxt_scoping.specs.Meant.{value_meant}
use Rattle.oxt_scoping.specs.Scoped.{Scoped}
use Rattle.oxt_tree.specs.Doc.{Doc, node}
use Rattle.oxt_visit.specs.Calls.{Call, visited, entered, left}
use Rattle.oxt_visit.specs.Hooks.{used_names}
use Rattle.oxt_visit.specs.Visits.{visits}

-- that symbol
abbrev pub is_symbol : SymbolId → Option SymbolId → Bool
is_symbol y None = false
is_symbol y (Some x) = x.0 == y.0

-- The name that is the node of that number means the symbol, as a value.
abbrev pub means : Scoped → SymbolId → ℕ → Bool
means s y n = is_symbol y (value_meant s n)

-- the number of a node
abbrev pub number_of : Doc → List ℕ
number_of (node k i b e ds) = i ∷ []
number_of d = []

-- what is noted of the visit of a name: its number, as though its scope were entered
abbrev pub as_number : List ℕ → List Call
as_number [] = []
as_number (n ∷ ns) = entered n ∷ as_number ns

abbrev pub name_noted : Call → List Call
name_noted (visited d e) = as_number (number_of d)
name_noted (entered n) = []
name_noted left = []

-- the number of a node whose visit was so noted
abbrev pub numbered : Call → List ℕ
numbered (visited d e) = number_of d
numbered (entered n) = []
numbered left = []

abbrev pub each_numbered : List Call → List ℕ
each_numbered [] = []
each_numbered (c ∷ cs) = numbered c ++ each_numbered cs

-- the numbers of the names that are used in the body of a class, in the order of the text
abbrev pub names_used : Doc → List ℕ
names_used d = each_numbered (visits used_names d category.ClassBody)

-- The body of the class names what the symbol is, as a value.
abbrev pub names_class : Scoped → SymbolId → Doc → Bool
names_class s y d = list_any (means s y) (names_used d)
