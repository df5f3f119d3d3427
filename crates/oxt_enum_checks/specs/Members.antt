-- The members of the enums of a document, in the order of the text, outside what is erased.
use Rattle.std.specs.Prelude.{ℕ, List, Bool, if◌then◌else◌, Option, None, Some, map, slice_get}
use Rattle.oxt_enum_checks.specs.Around.{Enum, around_view, enum_in, within}
use Rattle.oxt_enum_checks.specs.Misused.{is_member_symbol}
use Rattle.oxt_enum_checks.specs.declared.members.EnumMember.{EnumMember}
use Rattle.oxt_scoping.specs.Entries.{SymbolData}
use Rattle.oxt_scoping.specs.Scoped.{Scoped, at_node}
use Rattle.oxt_search.specs.All.{all_in}
use Rattle.oxt_search.specs.Sought.{Sought}
use Rattle.oxt_tree.specs.declared.inside.Inside.TheVariants as inside
use Rattle.oxt_names.specs.declared.ids.SymbolId.{SymbolId}
use Rattle.oxt_grammar.specs.Places.{same_kind}
use Rattle.oxt_grammar.specs.declared.kind.Kind.{Kind}
use Rattle.oxt_grammar.specs.declared.kind.Kind.TheVariants as kind
use Rattle.oxt_tree.specs.Doc.{Doc}
use Rattle.oxt_names.specs.Names.{name_bytes}
use Rattle.oxt_declares.specs.Dropped.{inside_dropped_by, is_dropped_by}

-- a member: its enum, its number and its name
pub record Member : Type 0 where
  pub around : Enum
  pub node : ℕ
  pub name : List ℕ

abbrev pub member_view : EnumMember → Member
member_view m = record { around = around_view m.around; node = m.node.0; name = name_bytes m.name.now }

abbrev pub member_views : List EnumMember → List Member
member_views ms = map member_view ms

-- the name of a symbol, if it is that of a member
abbrev pub name_of : Option SymbolData → Option (List ℕ)
name_of None = None
name_of (Some y) = if is_member_symbol (Some y) then Some y.name else None

-- the same of a symbol by its number
abbrev pub name_in : List SymbolData → Option SymbolId → Option (List ℕ)
name_in ys None = None
name_in ys (Some i) = name_of (slice_get ys i.0)

-- the name of the member that the node of that number declares
abbrev pub name_at : Scoped → ℕ → Option (List ℕ)
name_at s n = name_in s.symbols (at_node (record { 0 = n }) s.declared)

-- the member of that number, if it has a name
abbrev pub named_member : Enum → ℕ → Option (List ℕ) → Option Member
named_member a n None = None
named_member a n (Some t) = Some (record { around = a; node = n; name = t })

-- the same in an enum, if it stands in one
abbrev pub member_in : Scoped → ℕ → Option Enum → Option Member
member_in s n None = None
member_in s n (Some a) = named_member a n (name_at s n)

-- the node, if it is a member of the enum of that symbol
abbrev pub member_of : Scoped → Kind → ℕ → Option SymbolId → Option Member
member_of s k n a = if same_kind k kind.TSEnumMember then member_in s n (enum_in s.symbols a) else None

-- outside what is erased, each member; the state is the symbol of the enum around, and the flag says whether decorators
-- have their older meaning
abbrev pub sought : Bool → Scoped → Sought (Option SymbolId) Member
sought l s =
    record {
      at = λ a k i ds. if is_dropped_by k ds then None else member_of s k i a;
      inside = λ a k i ds. if is_dropped_by k ds then inside_dropped_by l k ds a else inside.Alike (within s k ds a);
      in_field = λ a k r. Some a;
    }

-- the members of a whole tree
abbrev pub members_of : Bool → Scoped → Doc → List Member
members_of l s d = all_in (sought l s) d None
