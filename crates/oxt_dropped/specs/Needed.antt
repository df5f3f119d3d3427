-- Symbols of enums that cannot be dropped.
use Rattle.std.specs.Prelude.{ℕ, List, Bool, false, not, ◌&&◌, ◌||◌, ◌==◌, if◌then◌else◌, Option, None, Some, is_some, slice_get, codes}
use Rattle.std.specs.List.{list_any}
use Rattle.std.specs.Str.{bytes_eq}
use Rattle.oxt_grammar.specs.Field.{Field}
use Rattle.oxt_grammar.specs.Places.{same_kind}
use Rattle.oxt_grammar.specs.declared.kind.Kind.{Kind}
use Rattle.oxt_grammar.specs.declared.kind.Kind.TheVariants as kind
use Rattle.oxt_inline.specs.Inlined.{constant_at}
use Rattle.oxt_inline.specs.Seats.{is_constant, is_exported, is_left_out, is_name, seat_by, seat_in}
use Rattle.oxt_inline.specs.Constants.{constants_in}
use Rattle.oxt_inline.specs.Names.{named_symbol}
use Rattle.oxt_inline.specs.Values.{Named}
use Rattle.oxt_inline.specs.declared.seat.Seat.{Seat}
use Rattle.oxt_inline.specs.declared.seat.Seat.TheVariants as seat
use Rattle.oxt_names.specs.Constant.{Constant}
use Rattle.oxt_names.specs.declared.ids.SymbolId.{SymbolId}
use Rattle.oxt_options.specs.Options.{TypeScriptData}
use Rattle.oxt_scoping.specs.Entries.{SymbolData, is_enum}
use Rattle.oxt_scoping.specs.Meant.{symbol_in, value_meant}
use Rattle.oxt_scoping.specs.Scoped.{Scoped, at_node}
use Rattle.oxt_scoping.specs.declared.entry.Redeclaration.{Redeclaration}
use Rattle.oxt_search.specs.All.{all_in}
use Rattle.oxt_search.specs.Sought.{Sought}
use Rattle.oxt_tree.specs.declared.inside.Inside.{Inside}
use Rattle.oxt_tree.specs.declared.inside.Inside.TheVariants as inside
use Rattle.oxt_tree.specs.Doc.{Doc, node, Docs}
use Rattle.oxt_tree.specs.Fields.{docs_list, elements, field_of, is_kind, named}
use Rattle.oxt_declares.specs.Dropped.{inside_dropped_by, is_dropped_by}

abbrev pub number_of : SymbolId → ℕ
number_of i = i.0

-- ---- blocks

-- the constant of a symbol
abbrev pub value_of : Option SymbolData → Option Constant
value_of None = None
value_of (Some y) = y.value

-- the node of that number is a member of an enum whose value is known
abbrev pub has_value : Scoped → ℕ → Bool
has_value s n = is_some (value_of (symbol_in s.symbols (at_node (record { 0 = n }) s.declared)))

-- a member whose value is not known, or that a template names
abbrev pub is_loose : Scoped → Doc → Bool
is_loose s (node k i b e ds) = not (has_value s i) || is_kind kind.TemplateLiteral (named (codes "id") k ds)
is_loose s d = false

-- one of the members is so
abbrev pub are_loose : Scoped → Docs → Bool
are_loose s ds = list_any (is_loose s) (docs_list ds)

-- one of the members in a body is so
abbrev pub has_loose_member : Scoped → Doc → Bool
has_loose_member s d = are_loose s (elements (field_of (codes "members") d))

-- a block that cannot be dropped: it is exported or ambient, or has such a member
abbrev pub is_kept : Scoped → Seat → Kind → Docs → Bool
is_kept s q k ds = is_exported q || (is_dropped_by k ds || has_loose_member s (named (codes "body") k ds))

-- the symbol of the block, if it cannot be dropped
abbrev pub kept_by : Scoped → Seat → Kind → Docs → Option SymbolId
kept_by s q k ds = if is_kept s q k ds then named_symbol s (named (codes "id") k ds) else None

-- ---- declarations of other kinds

-- the one of the declarations by the name of that number emits code
abbrev pub emits_by : List Redeclaration → ℕ → Bool
emits_by ds n = list_any (λ d. d.node.0 == n && d.emits) ds

-- the symbol is an enum, and that declaration of it emits code
abbrev pub is_enum_emitted : ℕ → SymbolData → Bool
is_enum_emitted n y = is_enum y.flags && emits_by y.declarations n

-- the same of a symbol, if there is one
abbrev pub is_emitted_at : ℕ → Option SymbolData → Bool
is_emitted_at n None = false
is_emitted_at n (Some y) = is_enum_emitted n y

-- the symbol, where that is so and the name is that of a declaration of another kind
abbrev pub emitted_as : Scoped → Seat → ℕ → Option SymbolId → Option SymbolId
emitted_as s q n None = None
emitted_as s q n (Some i) = if not (is_name q) && is_emitted_at n (slice_get s.symbols i.0) then Some i else None

-- the same of the symbol that the name of that number declares
abbrev pub emitted_by : Scoped → Seat → ℕ → Option SymbolId
emitted_by s q n = emitted_as s q n (at_node (record { 0 = n }) s.declared)

-- ---- trees

-- The symbol that a node keeps: that of a block that cannot be dropped, of another declaration of an enum that emits
-- code, or of a use as a value.
abbrev pub needed_by : Scoped → Seat → Kind → ℕ → Docs → Option SymbolId
needed_by s q k i ds =
    if same_kind k kind.TSEnumDeclaration then kept_by s q k ds
    else if is_dropped_by k ds then None
    else if same_kind k kind.BindingIdentifier then emitted_by s q i
    else value_meant s i

-- what a node is to its fields, by which `import a = ..` are kept
abbrev pub seat_inside : Scoped → (ℕ → Bool) → Seat → Kind → ℕ → Seat
seat_inside s ks q k i = if same_kind k kind.TSEnumMember && has_value s i then seat.Constant else seat_by ks q k i

-- Nothing is left of erased code, and of what is inlined; the flag says whether decorators have their older meaning.
abbrev pub inside_of : Scoped → (ℕ → Bool) → Named → TypeScriptData → Bool → Seat → Kind → ℕ → Docs → Inside Seat
inside_of s ks c o legacy q k i ds =
    if is_dropped_by k ds then inside_dropped_by legacy k ds seat.Value
    else if is_some (constant_at s c o q k ds) then inside.Skipped
    else inside.ByField (seat_inside s ks q k i)

-- nothing is left of the initializer of a member whose value is known, and of the right side of an `import a = ..` that is
-- not kept
abbrev pub is_left : Seat → Field → Bool
is_left q r = not (is_constant q && bytes_eq r.name (codes "initializer")) && not (is_left_out q && bytes_eq r.name (codes "moduleReference"))

abbrev pub field_seat : Seat → Kind → Field → Option Seat
field_seat q k r = if is_left q r then Some (seat_in q k r) else None

abbrev pub number_needed : Option SymbolId → Option ℕ
number_needed None = None
number_needed (Some i) = Some i.0

abbrev pub sought : Scoped → (ℕ → Bool) → Named → TypeScriptData → Bool → Sought Seat ℕ
sought s ks c o legacy =
    record {
      at = λ q k i ds. number_needed (needed_by s q k i ds);
      inside = inside_of s ks c o legacy;
      in_field = field_seat;
    }

-- the symbols that a tree needs, by the constants of its members
abbrev pub needed_with : Named → Scoped → (ℕ → Bool) → Doc → TypeScriptData → Bool → List ℕ
needed_with c s ks d o legacy = all_in (sought s ks c o legacy) d seat.Value

-- The symbols that a tree needs: those that are used as values in what is left of it, and those of enums that cannot be
-- dropped by what is said of their declarations.
abbrev pub needed : Scoped → (ℕ → Bool) → Doc → TypeScriptData → Bool → List ℕ
needed s ks d o legacy = needed_with (constants_in s d) s ks d o legacy
