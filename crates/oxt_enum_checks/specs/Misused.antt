-- Bare names of members of enums, where the value of a member cannot stand.
use Rattle.std.specs.Prelude.{◌≡◌, ℕ, Bool, false, ◌&&◌, ◌||◌, ◌==◌, if◌then◌else◌, Option, None, Some, slice_get}
use Rattle.std.specs.Int.RustNames.{bit_and}
use Rattle.oxt_scoping.specs.Entries.{SymbolData}
use Rattle.oxt_scoping.specs.Meant.{symbol_in, value_use}
use Rattle.oxt_scoping.specs.Scoped.{Scoped, live_at}
use Rattle.oxt_scoping.specs.declared.entry.Reference.{Reference}
use Rattle.oxt_search.specs.First.{first_in}
use Rattle.oxt_search.specs.Sought.{Sought}
use Rattle.oxt_tree.specs.declared.inside.Inside.TheVariants as inside
use Rattle.oxt_names.specs.declared.ids.SymbolId.{SymbolId}
use Rattle.oxt_grammar.specs.Places.{same_kind}
use Rattle.oxt_grammar.specs.declared.kind.Kind.{Kind}
use Rattle.oxt_grammar.specs.declared.kind.Kind.TheVariants as kind
use Rattle.oxt_tree.specs.Doc.{Doc}
use Rattle.oxt_names.specs.declared.ids.NodeId.{NodeId}
use Rattle.oxt_declares.specs.Dropped.{inside_dropped_by, is_dropped_by}

-- ---- symbols

-- the symbol of a member of an enum
abbrev pub is_member_symbol : Option SymbolData → Bool
is_member_symbol None = false
is_member_symbol (Some y) = bit_and y.flags.0 4096 == 4096

-- the same of a symbol by its number
abbrev pub is_member : Scoped → Option SymbolId → Bool
is_member s o = is_member_symbol (symbol_in s.symbols o)

-- no symbol is that of a member
abbrev pub HasNoMember : Scoped → Type 0
HasNoMember s = (n : ℕ) → is_member_symbol (slice_get s.symbols n) ≡ false

-- ---- references

-- the name means a member of an enum, and it is written or names an element of JSX
abbrev pub is_misused_as : Scoped → Bool → Reference → Bool
is_misused_as s b r = (b || bit_and r.flags.0 2 == 2) && is_member s r.symbol

-- the same, if it is a name that is used
abbrev pub is_misused_use : Scoped → Bool → Option Reference → Bool
is_misused_use s b None = false
is_misused_use s b (Some r) = is_misused_as s b r

-- no reference is that of a member that is written
abbrev pub HasNoWrittenMember : Scoped → Type 0
HasNoWrittenMember s = (n : ℕ) → is_misused_use s false (live_at s.references n) ≡ false

-- the node of that number is such a name, where that says whether it names an element
abbrev pub is_misused : Scoped → ℕ → Bool → Bool
is_misused s n b = is_misused_use s b (value_use s n)

-- ---- trees

-- a name in a node of the kind names an element of JSX, or is the first part of such a name
abbrev pub names_element : Kind → Bool
names_element k = same_kind k kind.JSXOpeningElement || (same_kind k kind.JSXClosingElement || same_kind k kind.JSXMemberExpression)

abbrev pub misused_at : Scoped → Bool → ℕ → Option ℕ
misused_at s b i = if is_misused s i b then Some i else None

abbrev pub number_of : NodeId → ℕ
number_of i = i.0

-- outside what is erased, each node that is such a name; the state says whether a name there names an element, and the
-- flag whether decorators have their older meaning
abbrev pub sought : Bool → Scoped → Sought Bool ℕ
sought l s =
    record {
      at = λ b k i ds. if is_dropped_by k ds then None else misused_at s b i;
      inside = λ b k i ds. if is_dropped_by k ds then inside_dropped_by l k ds false else inside.Alike (names_element k);
      in_field = λ b k r. Some b;
    }

-- the number of the first such name of a whole tree: a node stands before those in it
abbrev pub misused : Bool → Scoped → Doc → Option ℕ
misused l s d = first_in (sought l s) d false
