-- The first member of an enum whose constant would be larger than the largest.
use Rattle.std.specs.Prelude.{◌≡◌, ℕ, Bool, false, ◌&&◌, ◌==◌, if◌then◌else◌, Option, None, Some, ℤ, pos, negsuc, codes, slice_get}
use Rattle.oxt_enum_checks.specs.Misused.{is_member_symbol}
use Rattle.oxt_enum_checks.specs.declared.wide.WideMember.{WideMember}
use Rattle.oxt_scoping.specs.Entries.{SymbolData}
use Rattle.oxt_scoping.specs.Meant.{symbol_in}
use Rattle.oxt_scoping.specs.Scoped.{Scoped, at_node}
use Rattle.oxt_search.specs.First.{first_in}
use Rattle.oxt_search.specs.Sought.{Sought}
use Rattle.oxt_tree.specs.declared.inside.Inside.TheVariants as inside
use Rattle.oxt_names.specs.Constant.{Constant, integer, string}
use Rattle.oxt_constant.specs.Integer.{largest}
use Rattle.oxt_grammar.specs.Places.{same_kind}
use Rattle.oxt_grammar.specs.declared.kind.Kind.{Kind}
use Rattle.oxt_grammar.specs.declared.kind.Kind.TheVariants as kind
use Rattle.oxt_tree.specs.Doc.{Doc, node, Docs, no_docs, doc}
use Rattle.oxt_tree.specs.Fields.{elements, is_nil, named}
use Rattle.oxt_declares.specs.Dropped.{inside_dropped_by, is_dropped_by}

-- ---- constants

-- the largest number
abbrev pub is_largest : ℤ → Bool
is_largest (pos n) = n == largest
is_largest (negsuc n) = false

-- the constant is the largest number
abbrev pub is_largest_constant : Option Constant → Bool
is_largest_constant None = false
is_largest_constant (Some (integer z)) = is_largest z
is_largest_constant (Some (string t)) = false

-- the constant of a symbol
abbrev pub value_of : Option SymbolData → Option Constant
value_of None = None
value_of (Some y) = y.value

-- the symbol is that of a member whose constant is
abbrev pub has_largest : Option SymbolData → Bool
has_largest o = is_member_symbol o && is_largest_constant (value_of o)

-- no symbol is
abbrev pub HasNoLargest : Scoped → Type 0
HasNoLargest s = (n : ℕ) → has_largest (slice_get s.symbols n) ≡ false

-- that of the member of that number is
abbrev pub has_largest_at : Scoped → ℕ → Bool
has_largest_at s n = has_largest (symbol_in s.symbols (at_node (record { 0 = n }) s.declared))

-- ---- the members of a body

-- that of the member is
abbrev pub ends_with_largest : Scoped → Doc → Bool
ends_with_largest s (node k i b e ds) = has_largest_at s i
ends_with_largest s d = false

-- the member has no initializer
abbrev pub is_bare : Doc → Bool
is_bare (node k i b e ds) = is_nil (named (codes "initializer") k ds)
is_bare d = false

-- the number of the member, and where it stands
abbrev pub member_at : Doc → Option WideMember
member_at (node k i b e ds) = Some (record { node = record { 0 = i }; span = record { start = b; end = e } })
member_at d = None

-- The first of the members that has no initializer and stands directly behind one with the largest constant. The flag
-- says whether such a one stands in front of them.
abbrev pub wide_among : Scoped → Bool → Docs → Option WideMember
wide_among s b no_docs = None
wide_among s b (doc d ds) = if b && is_bare d then member_at d else wide_among s (ends_with_largest s d) ds

-- the first such member of a node, if it is the body of an enum
abbrev pub wide_in : Scoped → Kind → Docs → Option WideMember
wide_in s k ds = if same_kind k kind.TSEnumBody then wide_among s false (elements (named (codes "members") k ds)) else None

-- ---- trees

-- the member, if the node of that number is it
abbrev pub wide_at : Option WideMember → ℕ → Option WideMember
wide_at None i = None
wide_at (Some w) i = if w.node.0 == i then Some w else None

-- outside what is erased, the first such member of each body; the state is that of the body around, and the flag says
-- whether decorators have their older meaning
abbrev pub sought : Bool → Scoped → Sought (Option WideMember) WideMember
sought l s =
    record {
      at = λ w k i ds. if is_dropped_by k ds then None else wide_at w i;
      inside = λ w k i ds. if is_dropped_by k ds then inside_dropped_by l k ds None else inside.Alike (wide_in s k ds);
      in_field = λ w k r. Some w;
    }

-- the first such member of a whole tree: a node stands before those in it
abbrev pub wide : Bool → Scoped → Doc → Option WideMember
wide l s d = first_in (sought l s) d None
