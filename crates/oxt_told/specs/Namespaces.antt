-- What is told of the namespaces of a source, which become functions, and of what they export.
use Rattle.std.specs.Prelude.{ℕ, List, [], ◌∷◌, ◌++◌, map, Bool, true, false, not, if◌then◌else◌, Option, None, Some, codes}
use Rattle.std.specs.Fmt.{decimal}
use Rattle.std.specs.List.{list_any}
use Rattle.oxt_declares.specs.RoleOf.{role_of}
use Rattle.oxt_declares.specs.TypesAlone.{field_of_types, stands_for_types}
use Rattle.oxt_facts.specs.Told.{Names, Namespace, Tellings, export, space, stored}
use Rattle.oxt_grammar.specs.Places.{same_kind}
use Rattle.oxt_grammar.specs.Rows.{row_of}
use Rattle.oxt_grammar.specs.declared.kind.Kind.{Kind}
use Rattle.oxt_grammar.specs.declared.kind.Kind.TheVariants as kind
use Rattle.oxt_scoping.specs.Entries.{SymbolData}
use Rattle.oxt_scoping.specs.Meant.{declared_symbol}
use Rattle.oxt_scoping.specs.Scoped.{Scoped}
use Rattle.oxt_told.specs.Symbols.{first_node, group_of, named_symbol}
use Rattle.oxt_told.specs.declared.seat.Seat.{Seat}
use Rattle.oxt_told.specs.declared.seat.Seat.TheVariants as seat
use Rattle.oxt_tree.specs.Bound.{Bound, bound_names}
use Rattle.oxt_tree.specs.Doc.{Doc, nil, flag, number, text, list, node, Docs, no_docs, doc}
use Rattle.oxt_tree.specs.Fields.{docs_list, elements, field_of, is_kind, is_nil, named, text_in}
use Rattle.oxt_tree.specs.Syntax.{is_mere_declaration}

-- where the statements of a module's block stand that stands there
abbrev pub in_block : Seat → Seat
in_block (seat.Under t) = seat.Block t
in_block q = seat.Elsewhere

-- where what an export holds stands
abbrev pub in_export : Seat → Seat
in_export (seat.Block t) = seat.Under t
in_export q = seat.Elsewhere

-- where the parts of a node stand that stands there
abbrev pub seat_inside : Seat → Kind → ℕ → Seat
seat_inside q k i =
    if same_kind k kind.TSNamespaceDeclaration then seat.Under i
    else if same_kind k kind.TSModuleBlock then in_block q
    else if same_kind k kind.ExportDeclaration then in_export q
    else seat.Elsewhere

-- ---- blocks

-- the tag of the parameter of a block's function
abbrev pub tag_of : ℕ → List ℕ
tag_of t = decimal t

-- the tag of the block that exports what stands there
abbrev pub base_at : Seat → Option (List ℕ)
base_at (seat.Under t) = Some (tag_of t)
base_at q = None

-- a block of that number, which stands there and whose name has that symbol, where these blocks are first
abbrev pub namespace_of : (ℕ → Bool) → Seat → ℕ → SymbolData → Namespace
namespace_of fs q i y =
    record { name = y.name; group = first_node y.declarations; tag = tag_of i; base = base_at q; is_first = fs i }

abbrev pub named_told : (ℕ → Bool) → Seat → ℕ → Option SymbolData → Tellings
named_told fs q i None = []
named_told fs q i (Some y) = (i, space (namespace_of fs q i y)) ∷ []

-- the same, unless it is of types alone or only declared
abbrev pub namespace_told : Scoped → (ℕ → Bool) → Seat → Kind → ℕ → Docs → Tellings
namespace_told s fs q k i ds =
    if stands_for_types (role_of k) k ds (field_of_types ds (row_of k)) then [] else named_told fs q i (named_symbol s k ds)

-- ---- exports

-- a declarator has a pattern, and no bare name
abbrev pub is_patterned : Doc → Bool
is_patterned d = not (is_kind kind.BindingIdentifier (field_of (codes "id") d))

-- one of the declarators has
abbrev pub has_pattern : Docs → Bool
has_pattern ds = list_any is_patterned (docs_list ds)

-- the names that a node binds, if it is one
abbrev pub node_names : Doc → List Bound
node_names nil = []
node_names (flag b) = []
node_names (number n) = []
node_names (text t) = []
node_names (list ds) = []
node_names (node k i b e ds) = bound_names (node k i b e ds)

-- the names that declarators bind
abbrev pub declared_names : Docs → List Bound
declared_names no_docs = []
declared_names (doc d ds) = node_names (field_of (codes "id") d) ++ declared_names ds

-- the kinds of declarations that have one name, which is put behind them
abbrev pub has_one_name : Kind → Bool
has_one_name kind.FunctionDeclaration = true
has_one_name kind.ClassDeclaration = true
has_one_name kind.TSEnumDeclaration = true
has_one_name kind.TSImportEqualsDeclaration = true
has_one_name k = false

-- the names that are put behind a declaration: those of variables where one has a pattern, else each variable is put where it
-- is set
abbrev pub names_behind : Kind → Docs → List Bound
names_behind k ds =
    if same_kind k kind.VariableDeclaration
    then if has_pattern (elements (named (codes "declarations") k ds)) then declared_names (elements (named (codes "declarations") k ds)) else []
    else if has_one_name k then node_names (named (codes "id") k ds)
    else []

abbrev pub names_in : Doc → List Bound
names_in nil = []
names_in (flag b) = []
names_in (number n) = []
names_in (text t) = []
names_in (list ds) = []
names_in (node k i b e ds) = names_behind k ds

-- none behind a declaration that stands for nothing at run time
abbrev pub names_exported : Doc → List Bound
names_exported d = if is_mere_declaration d then [] else names_in d

-- the names, each with its group
abbrev pub with_groups : Scoped → List Bound → Names
with_groups s bs = map (λ b. (b.name, group_of (declared_symbol s b.id))) bs

-- an export of that number, which holds that declaration, in the block of that number
abbrev pub export_told : Scoped → ℕ → ℕ → Doc → Tellings
export_told s t i d = (i, export (tag_of t) (with_groups s (names_exported d))) ∷ []

-- ---- variables

-- a declarator with that name, and with a value
abbrev pub variable_told : ℕ → ℕ → Kind → Docs → Option (List ℕ) → Tellings
variable_told t i k ds None = []
variable_told t i k ds (Some n) =
    if is_nil (named (codes "init") k ds) then [] else (i, stored (tag_of t) n) ∷ []

abbrev pub declarator_told : ℕ → Doc → Tellings
declarator_told t nil = []
declarator_told t (flag b) = []
declarator_told t (number n) = []
declarator_told t (text a) = []
declarator_told t (list ds) = []
declarator_told t (node k i b e ds) =
    variable_told t i k ds (text_in (field_of (codes "name") (named (codes "id") k ds)))

abbrev pub declarators_told : ℕ → Docs → Tellings
declarators_told t no_docs = []
declarators_told t (doc d ds) = declarator_told t d ++ declarators_told t ds

-- variables that the block of that number exports, where all have bare names
abbrev pub variables_told : ℕ → Docs → Tellings
variables_told t ds = if has_pattern ds then [] else declarators_told t ds

-- an export that stands there, if that is in a block
abbrev pub export_told_at : Scoped → Seat → ℕ → Doc → Tellings
export_told_at s (seat.Block t) i d = export_told s t i d
export_told_at s q i d = []

-- variables that stand there, if a block exports them
abbrev pub variables_told_at : Seat → Docs → Tellings
variables_told_at (seat.Under t) ds = variables_told t ds
variables_told_at q ds = []

-- a node that stands there: a block, an export in a block, or variables that one exports
abbrev pub seat_told : Scoped → (ℕ → Bool) → Seat → Kind → ℕ → Docs → Tellings
seat_told s fs q k i ds =
    if same_kind k kind.TSNamespaceDeclaration then namespace_told s fs q k i ds
    else if same_kind k kind.ExportDeclaration then export_told_at s q i (named (codes "declaration") k ds)
    else if same_kind k kind.VariableDeclaration then variables_told_at q (elements (named (codes "declarations") k ds))
    else []
