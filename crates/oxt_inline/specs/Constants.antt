-- The constants of the members of all enums, by the enum and the name of the member.
use denote.Ref.{Bor}
use Rattle.std.specs.Prelude.{ℕ, List, [], ◌∷◌, Bool, ◌&&◌, ◌==◌, if◌then◌else◌, map, Option, None, Some, option_map, codes}
use Rattle.std.specs.Str.{bytes_eq}
use Rattle.oxt_enums.specs.Tables.{Name, at_name}
use Rattle.oxt_grammar.specs.Places.{same_kind}
use Rattle.oxt_grammar.specs.declared.kind.Kind.{Kind}
use Rattle.oxt_grammar.specs.declared.kind.Kind.TheVariants as kind
use Rattle.oxt_inline.specs.Names.{named_symbol}
use Rattle.oxt_inline.specs.declared.constants.Constants.{Constants}
use Rattle.oxt_inline.specs.declared.constants.Valued.{Valued}
use Rattle.oxt_names.specs.Constant.{Constant, constant_view}
use Rattle.oxt_names.specs.declared.constant.ConstantValue.{ConstantValue}
use Rattle.oxt_names.specs.declared.ids.SymbolId.{SymbolId}
use Rattle.oxt_scoping.specs.Entries.{SymbolData}
use Rattle.oxt_scoping.specs.Meant.{symbol_in}
use Rattle.oxt_scoping.specs.Scoped.{Scoped, at_node}
use Rattle.oxt_search.specs.All.{all_in}
use Rattle.oxt_search.specs.Sought.{Sought}
use Rattle.oxt_tree.specs.declared.inside.Inside.TheVariants as inside
use Rattle.oxt_tree.specs.Doc.{Doc, Docs}
use Rattle.oxt_tree.specs.Fields.{named}

-- a member that has a constant: the symbol of its enum, its name and its constant
pub record Member : Type 0 where
  pub symbol : ℕ
  pub name : List ℕ
  pub value : Constant

abbrev pub valued_view : Valued → Member
valued_view m = record { symbol = m.symbol.0; name = m.name.now; value = constant_view m.value.now }

abbrev pub valued_views : List Valued → List Member
valued_views ms = map valued_view ms

-- ---- the members of a tree

-- a member of that enum and of that name, with the constant
abbrev pub member : SymbolId → List ℕ → Constant → Member
member e t v = record { symbol = e.0; name = t; value = v }

-- the member of that symbol in the enum, if it has a constant
abbrev pub with_value : SymbolId → Option SymbolData → Option Member
with_value e None = None
with_value e (Some y) = option_map (member e y.name) y.value

-- the same of the node of that number
abbrev pub valued_as : Scoped → SymbolId → ℕ → Option Member
valued_as s e n = with_value e (symbol_in s.symbols (at_node (record { 0 = n }) s.declared))

-- the same in an enum, if it stands in one
abbrev pub valued_in : Scoped → Option SymbolId → ℕ → Option Member
valued_in s None n = None
valued_in s (Some e) n = valued_as s e n

-- the node, if it is a member of that enum and has a constant
abbrev pub member_at : Scoped → Option SymbolId → Kind → ℕ → Option Member
member_at s a k i = if same_kind k kind.TSEnumMember then valued_in s a i else None

-- the enum in which the fields of a node stand, which itself stands in that one
abbrev pub within : Scoped → Option SymbolId → Kind → Docs → Option SymbolId
within s a k ds = if same_kind k kind.TSEnumDeclaration then named_symbol s (named (codes "id") k ds) else a

-- each member that has a constant, also of ambient enums; the state is the enum around
abbrev pub sought : Scoped → Sought (Option SymbolId) Member
sought s =
    record {
      at = λ a k i ds. member_at s a k i;
      inside = λ a k i ds. inside.Alike (within s a k ds);
      in_field = λ a k r. Some a;
    }

-- those of a whole tree, in the order of the text
abbrev pub valued : Scoped → Doc → List Member
valued s d = all_in (sought s) d None

-- ---- constants by names

-- the member is of that enum and that name
abbrev pub is_named : ℕ → List ℕ → Member → Bool
is_named e x m = e == m.symbol && bytes_eq x m.name

-- its constant, if it is
abbrev pub own_value : Member → ℕ → List ℕ → Option Constant
own_value m e x = if is_named e x m then Some m.value else None

-- the constant of the first of the members that is
abbrev pub first_valued : List Member → ℕ → List ℕ → Option Constant
first_valued [] e x = None
first_valued (m ∷ ms) e x = if is_named e x m then Some m.value else first_valued ms e x

-- of a whole tree: that of the first block of the enum that has a member of the name with one
abbrev pub constants_in : Scoped → Doc → ℕ → List ℕ → Option Constant
constants_in s d = first_valued (valued s d)

-- the same of a table of the program
abbrev pub constant_lent : Bor ConstantValue → Constant
constant_lent v = constant_view v.now

abbrev pub entry_at : ℕ → List ℕ → List (Name × Bor ConstantValue) → Option Constant
entry_at e x es = option_map constant_lent (at_name e x es)

abbrev pub table_at : Constants → ℕ → List ℕ → Option Constant
table_at t e x = entry_at e x t.table.entries
