-- The table of a document's scopes, symbols and references.
use Rattle.std.specs.Prelude.{ℕ, Bool, List, [], ◌∷◌, ◌++◌, length, fold, Option, None, Some, nat_eq, slice_get}
use Rattle.std.specs.BTreeMap.{insert_entry}
use Rattle.std.specs.Map.{lookup}
use Rattle.std.specs.Ordering.{nat_cmp}
use Rattle.oxt_tree.specs.Doc.{Doc}
use Rattle.oxt_names.specs.Made.{all_added}
use Rattle.oxt_resolve.specs.Names.{names}
use Rattle.oxt_declares.specs.Declarations.{Declared}
use Rattle.oxt_declares.specs.declared.declaration.Sort.{Sort}
use Rattle.oxt_declares.specs.declared.declaration.Sort.TheVariants as sort
use Rattle.oxt_enums.specs.Constants.{first_value, flat, is_in_body, known_in}
use Rattle.oxt_scopes.specs.Owners.{Owned, owners_of}
use Rattle.oxt_scopes.specs.Scopes.{number_of}
use Rattle.oxt_scopes.specs.Nestings.{Opened, scopes_of}
use Rattle.oxt_scopes.specs.declared.standing.Standing.{Standing}
use Rattle.oxt_scoping.specs.Entries.{ScopeData, SymbolData}
use Rattle.oxt_scoping.specs.Scoped.{Scoped, binding_at, changed_at, new_scope, new_symbol, with_body_at, with_opened_scope, with_reference, with_symbol, with_value_at}
use Rattle.oxt_scoping.specs.declared.entry.Redeclaration.{Redeclaration}
use Rattle.oxt_scoping.specs.declared.entry.Reference.{Reference}
use Rattle.oxt_names.specs.Constant.{Constant}
use Rattle.oxt_names.specs.declared.flags.ScopeFlags.{ScopeFlags}
use Rattle.oxt_names.specs.declared.ids.ScopeId.{ScopeId}
use Rattle.oxt_names.specs.declared.ids.SymbolId.{SymbolId}
use Rattle.oxt_resolve.specs.declared.enums.EnumPart.{EnumPart}
use Rattle.oxt_resolve.specs.declared.enums.EnumPart.TheVariants as part
use Rattle.oxt_resolve.specs.Flags.{both, inherited, joined, redeclared, role_flags, scope_flag, usage_flags}
use Rattle.oxt_resolve.specs.Marks.{marks_of}

-- ---- scopes

-- the scope, and else that of the program
abbrev pub or_root : Option ScopeId → ScopeId
or_root None = record { 0 = 0 }
or_root (Some i) = i

-- the scope that the node of that number opens; the program's where none does
abbrev pub scope_of_number : ℕ → Scoped → ScopeId
scope_of_number n s = or_root (lookup (nat_eq n) s.opened)

abbrev pub flags_of_scope : Option ScopeData → ScopeFlags
flags_of_scope None = scope_flag 0
flags_of_scope (Some x) = x.flags

-- what is known of that scope
abbrev pub flags_at : ScopeId → Scoped → ScopeFlags
flags_at i s = flags_of_scope (slice_get s.scopes i.0)

-- the flags of a scope by its node and by marks, and strict where the one around it is
abbrev pub flags_within : (ℕ → ScopeFlags) → Opened → ScopeFlags → ScopeFlags
flags_within marks x around = both (both (role_flags x.role) (marks x.number)) (inherited around)

-- the table with a scope more, in that one
abbrev pub opened_within : (ℕ → ScopeFlags) → Opened → ScopeId → Scoped → Scoped
opened_within marks x p s =
    with_opened_scope (record { 0 = x.number }) (record { 0 = length s.scopes }) (new_scope (Some p) (flags_within marks x (flags_at p s))) s

-- the table with the scope, in that of that number; the program's, which is in none, is there
abbrev pub opened_in : (ℕ → ScopeFlags) → Opened → Option ℕ → Scoped → Scoped
opened_in marks x None s = s
opened_in marks x (Some n) s = opened_within marks x (scope_of_number n s) s

abbrev pub with_opened : (ℕ → ScopeFlags) → Scoped → Opened → Scoped
with_opened marks s x = opened_in marks x x.parent s

-- ---- symbols

-- the symbol with a declaration more
abbrev pub again : Redeclaration → SymbolData → SymbolData
again r y = record y { flags = joined y.flags r.flags; declarations = y.declarations ++ r ∷ [] }

-- the table with a declaration more of that symbol
abbrev pub again_in : SymbolId → Redeclaration → Scoped → Scoped
again_in i r s = record s { symbols = changed_at i.0 (again r) s.symbols; declared = insert_entry nat_cmp s.declared r.node.0 i }

-- the table with a declaration more of the name, of the symbol that the scope binds it to or of a new one
abbrev pub declared_as : ScopeId → List ℕ → Redeclaration → Option SymbolId → Scoped → Scoped
declared_as x t r None s = with_symbol r.node (record { 0 = length s.symbols }) (new_symbol t x r.flags r) s
declared_as x t r (Some i) s = again_in i r s

abbrev pub declared_in : ScopeId → List ℕ → Redeclaration → Scoped → Scoped
declared_in x t r s = declared_as x t r (binding_at s.scopes x.0 t) s

-- the table with a declaration more, in the scope of that number, which has that standing
abbrev pub with_declared : ℕ → Standing → Scoped → Declared → Scoped
with_declared n st s d = declared_in (scope_of_number n s) d.name (redeclared st d) s

-- the table with what the scope declares
abbrev pub with_declarations : Scoped → Opened → Scoped
with_declarations s x = fold (with_declared x.number x.standing) s x.declared

-- ---- enums

abbrev pub symbol_of : ℕ → Scoped → Option SymbolId
symbol_of n s = lookup (nat_eq n) s.declared

-- the table with that scope of a body of the symbol
abbrev pub with_body : ScopeId → Option SymbolId → Scoped → Scoped
with_body x None s = s
with_body x (Some i) s = record s { symbols = with_body_at i.0 x s.symbols }

-- the table with that constant of the symbol, if there is one
abbrev pub with_value : Option Constant → Option SymbolId → Scoped → Scoped
with_value None i s = s
with_value (Some v) None s = s
with_value (Some v) (Some i) s = record s { symbols = with_value_at i.0 v s.symbols }

-- the constants of the members of enums, by the numbers of the bodies and by the names
abbrev pub Values : Type 0
Values = ℕ → List ℕ → Option Constant

-- what a declaration is to an enum
abbrev pub part_of : Sort → EnumPart
part_of sort.Enum = part.Block
part_of sort.ConstEnum = part.Block
part_of sort.EnumMember = part.Member
part_of o = part.Neither

-- the table with what a declaration in the scope of that number says of an enum, to which it is that
abbrev pub enum_as : Values → ℕ → Declared → EnumPart → Scoped → Scoped
enum_as values n d part.Block s = with_body (scope_of_number (number_of d.body) s) (symbol_of d.node s) s
enum_as values n d part.Member s = with_value (values n d.name) (symbol_of d.node s) s
enum_as values n d part.Neither s = s

abbrev pub with_enum : Values → ℕ → Scoped → Declared → Scoped
with_enum values n s d = enum_as values n d (part_of d.sort) s

abbrev pub with_enums : Values → Scoped → Opened → Scoped
with_enums values s x = fold (with_enum values x.number) s x.declared

-- A member has the constant of the first member of its name in its block.
abbrev pub values_by : List Owned → List Opened → Doc → Values
values_by os xs d n t = flat (first_value (is_in_body n t) (known_in os xs d))

abbrev pub values_of : Bool → Doc → Values
values_of legacy d = values_by (owners_of d) (scopes_of legacy d) d

-- ---- references

-- the symbol of that name that the scope of that number binds, if there are such
abbrev pub group_of : Option ℕ → List ℕ → Scoped → Option SymbolId
group_of None t s = None
group_of (Some n) t s = binding_at s.scopes (scope_of_number n s).0 t

-- a name that is used means the symbol of its spelling in the scope that owns it
abbrev pub reference_of : Scoped → Owned → Reference
reference_of s o = record { node = record { 0 = o.node }; symbol = group_of o.owner o.name s; flags = usage_flags o.usage }

abbrev pub with_used : Scoped → Owned → Scoped
with_used s o = with_reference (record { 0 = length s.references }) (reference_of s o) s

-- ---- the table

-- the scope of the program alone, with the names that are taken
abbrev pub root : ScopeFlags → ℕ → List (List ℕ) → Scoped
root f n ts = record { scopes = new_scope None f ∷ []; symbols = []; references = []; opened = (n, record { 0 = 0 }) ∷ []; declared = []; named = []; taken = ts }

-- the same, of that document
abbrev pub root_of : (ℕ → ScopeFlags) → List (List ℕ) → Doc → Scoped
root_of marks ts d = root (both (scope_flag 1) (marks (number_of d))) (number_of d) ts

abbrev pub all_opened : (ℕ → ScopeFlags) → List Opened → Scoped → Scoped
all_opened marks xs s = fold (with_opened marks) s xs

abbrev pub all_declared : List Opened → Scoped → Scoped
all_declared xs s = fold with_declarations s xs

abbrev pub all_enums : Values → List Opened → Scoped → Scoped
all_enums values xs s = fold (with_enums values) s xs

abbrev pub all_used : List Owned → Scoped → Scoped
all_used os s = fold with_used s os

-- the table of a tree with these marks, in which these names are taken, with these scopes and what they declare
abbrev pub declared_by : (ℕ → ScopeFlags) → List (List ℕ) → List Opened → Doc → Scoped
declared_by marks ts xs d = all_declared xs (all_opened marks xs (root_of marks ts d))

-- the table with the enums of a tree that has these scopes, and these names that it uses
abbrev pub used_by : List Owned → List Opened → Doc → Scoped → Scoped
used_by os xs d s = all_used os (all_enums (values_by os xs d) xs s)

-- the names that a tree takes
abbrev pub taken_in : Doc → List (List ℕ)
taken_in d = all_added (names d) []

-- the table without references, where decorators have their older meaning or not
abbrev pub declared_table : Bool → Doc → Scoped
declared_table legacy d = all_enums (values_of legacy d) (scopes_of legacy d) (declared_by (marks_of d) (taken_in d) (scopes_of legacy d) d)

-- The scopes come first, in the order of the text, then what they declare, then the bodies and constants
-- of enums, then the names that are used.
abbrev pub table_by : List (List ℕ) → List Owned → List Opened → Doc → Scoped
table_by ts os xs d = used_by os xs d (declared_by (marks_of d) ts xs d)

abbrev pub resolved : Bool → Doc → Scoped
resolved legacy d = table_by (taken_in d) (owners_of d) (scopes_of legacy d) d
