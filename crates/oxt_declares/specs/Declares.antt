-- What each scope declares.
use Rattle.std.specs.Prelude.{ℕ, List, [], ◌∷◌, ◌++◌, Bool, false, ◌||◌, if◌then◌else◌, Option, None, Some, codes}
use Rattle.oxt_grammar.specs.declared.kind.Kind.{Kind}
use Rattle.oxt_grammar.specs.declared.kind.Kind.TheVariants as kind
use Rattle.oxt_tree.specs.Bound.{Bound, bound_names}
use Rattle.oxt_tree.specs.Doc.{Doc, nil, flag, number, text, list, node, Docs, no_docs, doc}
use Rattle.oxt_tree.specs.Fields.{named, field_of, elements, first, is_set, is_text, is_kind, text_in}
use Rattle.oxt_tree.specs.Syntax.{is_type_only}
use Rattle.oxt_declares.specs.Declarations.{Declared, all_declared}
use Rattle.oxt_declares.specs.RoleOf.{role_of}
use Rattle.oxt_declares.specs.TypesAlone.{is_of_types}
use Rattle.oxt_declares.specs.declared.collect.Mode.{Mode}
use Rattle.oxt_declares.specs.declared.collect.Mode.TheVariants as mode
use Rattle.oxt_declares.specs.declared.declaration.Sort.{Sort}
use Rattle.oxt_declares.specs.declared.declaration.Sort.TheVariants as sort
use Rattle.oxt_declares.specs.declared.role.Role.{Role}
use Rattle.oxt_declares.specs.declared.role.Role.TheVariants as role

-- the names that the field of that name binds, in each of the nodes
abbrev pub names_in_each : List ℕ → Docs → List Bound
names_in_each name no_docs = []
names_in_each name (doc d ds) = bound_names (field_of name d) ++ names_in_each name ds

-- what a declaration of variables declares them as, by its first word
abbrev pub variable_sort : Doc → Sort
variable_sort d =
    if is_text (codes "let") d then sort.Let
    else if is_text (codes "const") d then sort.Const
    else if is_text (codes "using") d then sort.Using
    else if is_text (codes "await using") d then sort.AwaitUsing
    else sort.Var

-- the declaration says `declare`
abbrev pub is_ambient : Kind → Docs → Bool
is_ambient k ds = is_set (named (codes "declare") k ds)

-- the name of a declaration, declared as that
abbrev pub own_name : Sort → Kind → Docs → List Declared
own_name s k ds = all_declared s (is_ambient k ds) nil (bound_names (named (codes "id") k ds))

-- the name of a function or class expression, declared as that; `declare` says nothing there
abbrev pub inner_name : Sort → Kind → Docs → List Declared
inner_name s k ds = all_declared s false nil (bound_names (named (codes "id") k ds))

abbrev pub variables : Kind → Docs → List Declared
variables k ds =
    all_declared (variable_sort (named (codes "kind") k ds)) (is_ambient k ds) nil
    (names_in_each (codes "id") (elements (named (codes "declarations") k ds)))

abbrev pub is_hoisted : Kind → Docs → Bool
is_hoisted k ds = is_text (codes "var") (named (codes "kind") k ds)

-- Names that are declared by `var` belong to the whole function, the others to the block.
abbrev pub variables_for : Mode → Kind → Docs → List Declared
variables_for mode.All k ds = variables k ds
variables_for mode.Lets k ds = if is_hoisted k ds then [] else variables k ds
variables_for mode.Vars k ds = if is_hoisted k ds then variables k ds else []

abbrev pub enum_sort : Kind → Docs → Sort
enum_sort k ds = if is_set (named (codes "const") k ds) then sort.ConstEnum else sort.Enum

-- the name of a block of an enum, with its body
abbrev pub enum_name : Kind → Docs → List Declared
enum_name k ds = all_declared (enum_sort k ds) (is_ambient k ds) (named (codes "body") k ds) (bound_names (named (codes "id") k ds))

-- A namespace of types alone is a type alone.
abbrev pub namespace_sort : Kind → Docs → Sort
namespace_sort k ds = if is_of_types (named (codes "body") k ds) then sort.NamespaceModule else sort.ValueModule

abbrev pub import_sort : Bool → Sort
import_sort b = if b then sort.TypeImport else sort.Import

-- the name of `import a = b`
abbrev pub alias_of_import : Kind → Docs → List Declared
alias_of_import k ds = own_name (import_sort (is_type_only k ds)) k ds

-- the name that a specifier of an import declares
abbrev pub imported_name : Bool → Doc → List Declared
imported_name b d = all_declared (import_sort (b || is_text (codes "type") (field_of (codes "importKind") d))) false nil (bound_names (field_of (codes "local") d))

-- the names that an import declares, all of them types alone or each by its own word
abbrev pub imported : Bool → Docs → List Declared
imported b no_docs = []
imported b (doc d ds) = imported_name b d ++ imported b ds

-- what belongs to a block does not belong to the function around it
abbrev pub in_block : Mode → List Declared → List Declared
in_block mode.Vars ds = []
in_block mode.Lets ds = ds
in_block mode.All ds = ds

-- Of a block a function has what `var` declares in it.
abbrev pub below_block : Mode → (Mode → List Declared) → List Declared
below_block mode.Lets c = []
below_block mode.All c = c mode.Vars
below_block mode.Vars c = c mode.Vars

-- the names that a declaration adds to the block around it
abbrev pub block_found : Role → Kind → Docs → List Declared
block_found role.Function k ds = own_name sort.Function k ds
block_found role.Overload k ds = own_name sort.Overload k ds
block_found role.Class k ds = own_name sort.Class k ds
block_found role.Alias k ds = own_name sort.TypeAlias k ds
block_found role.Interface k ds = own_name sort.Interface k ds
block_found role.Enum k ds = enum_name k ds
block_found role.Namespace k ds = own_name (namespace_sort k ds) k ds
block_found role.ImportEquals k ds = alias_of_import k ds
block_found role.Import k ds = imported (is_type_only k ds) (elements (named (codes "specifiers") k ds))
block_found r k ds = []

-- the same, of a statement without statements in it
abbrev pub own_found : Role → Mode → Kind → Docs → List Declared
own_found role.Variables m k ds = variables_for m k ds
own_found r m k ds = in_block m (block_found r k ds)

-- the names by which a statement adds to the scope around it
abbrev pub node_found : Role → Mode → Kind → Docs → (Mode → List Declared) → List Declared
node_found role.Passing m k ds c = c m
node_found role.ModuleBlock m k ds c = c m
node_found role.Export m k ds c = c m
node_found role.Block m k ds c = below_block m c
node_found role.For m k ds c = below_block m c
node_found role.ForEach m k ds c = below_block m c
node_found role.Switch m k ds c = below_block m c
node_found role.Catch m k ds c = below_block m c
node_found r m k ds c = own_found r m k ds

-- the same of a document
abbrev mutual
  pub found : Doc → Mode → List Declared
  found nil m = []
  found (flag b) m = []
  found (number n) m = []
  found (text t) m = []
  found (list ds) m = each_found ds m
  found (node k i b e ds) m = node_found (role_of k) m k ds (each_found ds)

  pub each_found : Docs → Mode → List Declared
  each_found no_docs m = []
  each_found (doc d ds) m = found d m ++ each_found ds m

-- the text of a template, or the first field of another node
abbrev pub key_text : Doc → Docs → Doc
key_text d ds = if is_kind kind.TemplateLiteral d then field_of (codes "cooked") (first (elements (field_of (codes "quasis") d))) else first ds

-- the name of a member of an enum: a name, a text or a template
abbrev pub member_name : Doc → Option (List ℕ)
member_name (node k i b e ds) = text_in (key_text (node k i b e ds) ds)
member_name d = None

abbrev pub named_member : ℕ → Option (List ℕ) → List Declared
named_member i None = []
named_member i (Some t) = record { name = t; sort = sort.EnumMember; node = i; ambient = false; body = nil } ∷ []

abbrev pub member : Doc → List Declared
member (node k i b e ds) = named_member i (member_name (named (codes "id") k ds))
member d = []

abbrev pub members : Docs → List Declared
members no_docs = []
members (doc d ds) = member d ++ members ds

-- the members in the body of an enum
abbrev pub members_in : Doc → List Declared
members_in d = members (elements (field_of (codes "members") d))

abbrev pub type_parameters : Kind → Docs → List Declared
type_parameters k ds =
    all_declared sort.TypeParameter false nil
    (names_in_each (codes "name") (elements (field_of (codes "params") (named (codes "typeParameters") k ds))))

abbrev pub parameters : Doc → List Declared
parameters d =
    all_declared sort.Parameter false nil (names_in_each (codes "pattern") (elements (field_of (codes "items") d)))
    ++ all_declared sort.Parameter false nil (bound_names (field_of (codes "pattern") (field_of (codes "rest") d)))

-- A function has its type parameters, its parameters and what its body declares in one scope.
abbrev pub function_names : Kind → Docs → (Mode → List Declared) → List Declared
function_names k ds c = type_parameters k ds ++ (parameters (named (codes "params") k ds) ++ c mode.All)

abbrev pub caught : Kind → Docs → List Declared
caught k ds = all_declared sort.Catch false nil (bound_names (field_of (codes "pattern") (named (codes "param") k ds)))

-- what the scope that a node opens declares
abbrev pub node_declares : Role → Kind → Docs → (Mode → List Declared) → List Declared
node_declares role.Program k ds c = c mode.All
node_declares role.StaticBlock k ds c = c mode.All
node_declares role.Namespace k ds c = c mode.All
node_declares role.Module k ds c = c mode.All
node_declares role.Block k ds c = c mode.Lets
node_declares role.For k ds c = c mode.Lets
node_declares role.ForEach k ds c = c mode.Lets
node_declares role.Switch k ds c = c mode.Lets
node_declares role.Catch k ds c = caught k ds
node_declares role.Function k ds c = function_names k ds c
node_declares role.Overload k ds c = function_names k ds c
node_declares role.Arrow k ds c = function_names k ds c
node_declares role.FunctionExpression k ds c = inner_name sort.InnerFunction k ds ++ function_names k ds c
node_declares role.Class k ds c = type_parameters k ds
node_declares role.ClassExpression k ds c = inner_name sort.InnerClass k ds ++ type_parameters k ds
node_declares role.Enum k ds c = members_in (named (codes "body") k ds)
node_declares r k ds c = []

-- the same of a document
abbrev pub declares : Doc → List Declared
declares (node k i b e ds) = node_declares (role_of k) k ds (each_found ds)
declares d = []
