-- Properties of a class among the parameters of its constructor whose names the constructor declares again.
use Rattle.std.specs.Prelude.{ℕ, List, map, Bool, false, not, ◌&&◌, ◌==◌, fold, if◌then◌else◌, Option, None, Some, option_map, codes}
use Rattle.std.specs.Int.RustNames.{bit_and}
use Rattle.std.specs.List.{list_any}
use Rattle.oxt_faults.specs.Around.{scope_opened}
use Rattle.oxt_faults.specs.Captured.{Capture}
use Rattle.oxt_faults.specs.Earliest.{earlier}
use Rattle.oxt_faults.specs.Hidden.{bound_by}
use Rattle.oxt_faults.specs.Marks.{mark_at, use_of}
use Rattle.oxt_fields.specs.Classes.{is_property_by, parameters_of}
use Rattle.oxt_grammar.specs.Places.{same_kind}
use Rattle.oxt_grammar.specs.declared.kind.Kind.{Kind}
use Rattle.oxt_grammar.specs.declared.kind.Kind.TheVariants as kind
use Rattle.oxt_names.specs.declared.flags.SymbolFlags.{SymbolFlags}
use Rattle.oxt_names.specs.declared.ids.ScopeId.{ScopeId}
use Rattle.oxt_names.specs.declared.ids.SymbolId.{SymbolId}
use Rattle.oxt_scoping.specs.Entries.{SymbolData}
use Rattle.oxt_scoping.specs.Meant.{symbol_in}
use Rattle.oxt_scoping.specs.Scoped.{Scoped}
use Rattle.oxt_scoping.specs.declared.entry.Redeclaration.{Redeclaration}
use Rattle.oxt_search.specs.All.{all_in}
use Rattle.oxt_search.specs.Sought.{Sought}
use Rattle.oxt_tree.specs.declared.inside.Inside.TheVariants as inside
use Rattle.oxt_tree.specs.Doc.{Doc, nil, flag, number, text, list, node, Docs}
use Rattle.oxt_tree.specs.Fields.{docs_list, field_of, named, text_in}
use Rattle.oxt_names.specs.declared.ids.NodeId.{NodeId}

-- ---- names of function expressions

abbrev pub number_of : NodeId → ℕ
number_of n = n.0

-- the number of a node
abbrev pub number_in : Doc → Option ℕ
number_in nil = None
number_in (flag b) = None
number_in (number n) = None
number_in (text t) = None
number_in (list ds) = None
number_in (node k i b e ds) = Some i

-- the node that is the name of a function expression
abbrev pub own_name : Kind → Docs → Option ℕ
own_name k ds = if same_kind k kind.FunctionExpression then number_in (named (codes "id") k ds) else None

abbrev pub own_sought : Sought (Unit {0}) ℕ
own_sought = record { at = λ u k i ds. own_name k ds; inside = λ u k i ds. inside.Alike u; in_field = λ u k r. Some u }

-- all of a tree
abbrev pub own_names : Doc → List ℕ
own_names d = all_in own_sought d tt

-- ---- symbols

-- a parameter or a `var`
abbrev pub is_variable : SymbolFlags → Bool
is_variable f = bit_and f.0 1 == 1

-- A declaration that emits code, and is neither a parameter or a `var` nor the name of a function expression; these are
-- known by their nodes.
abbrev pub is_other : (ℕ → Bool) → Redeclaration → Bool
is_other ns d = d.emits && (not (is_variable d.flags) && not (ns d.node.0))

-- a symbol has such a declaration
abbrev pub has_other : (ℕ → Bool) → SymbolData → Bool
has_other ns y = list_any (is_other ns) y.declarations

abbrev pub again_at : (ℕ → Bool) → Option SymbolData → Bool
again_at ns None = false
again_at ns (Some y) = has_other ns y

-- the symbol of that number has one
abbrev pub is_again : Scoped → (ℕ → Bool) → Option SymbolId → Bool
is_again s ns i = again_at ns (symbol_in s.symbols i)

-- what the program notes of each symbol, by their numbers: whether it has one
abbrev pub redeclared_symbols : Scoped → (ℕ → Bool) → List Bool
redeclared_symbols s ns = map (has_other ns) s.symbols

abbrev pub mark_by : List Bool → Option SymbolId → Bool
mark_by bs None = false
mark_by bs (Some i) = mark_at bs i

-- ---- parameters, where `g` says which symbols are declared again

-- the name of the symbol at that node, if it is
abbrev pub again_as : Scoped → (Option SymbolId → Bool) → ℕ → Option SymbolId → Option Capture
again_as s g n i = if g i then option_map (use_of n) (symbol_in s.symbols i) else None

-- the name of a parameter that is a property, if the scope binds it to such a symbol
abbrev pub property_by : Scoped → (Option SymbolId → Bool) → ScopeId → Kind → ℕ → Docs → Option Capture
property_by s g x k i ds =
    if is_property_by k ds
    then again_as s g i (bound_by s x (text_in (field_of (codes "name") (named (codes "pattern") k ds))))
    else None

abbrev pub property_in : Scoped → (Option SymbolId → Bool) → ScopeId → Doc → Option Capture
property_in s g x nil = None
property_in s g x (flag b) = None
property_in s g x (number n) = None
property_in s g x (text t) = None
property_in s g x (list ds) = None
property_in s g x (node k i b e ds) = property_by s g x k i ds

-- the earlier of that and the name of one parameter more
abbrev pub property_behind : Scoped → (Option SymbolId → Bool) → ScopeId → Option Capture → Doc → Option Capture
property_behind s g x o d = earlier o (property_in s g x d)

-- the earliest of the parameters
abbrev pub property_among : Scoped → (Option SymbolId → Bool) → ScopeId → Docs → Option Capture
property_among s g x ps = fold (property_behind s g x) None (docs_list ps)

-- the same, where the function opens a scope
abbrev pub property_within : Scoped → (Option SymbolId → Bool) → Option ScopeId → Docs → Option Capture
property_within s g None ps = None
property_within s g (Some x) ps = property_among s g x ps

-- the earliest of a constructor
abbrev pub redeclared : Scoped → (Option SymbolId → Bool) → Doc → Option Capture
redeclared s g d = property_within s g (scope_opened s (field_of (codes "value") d)) (parameters_of d)

-- the same, where there is one
abbrev pub redeclared_by : Scoped → (Option SymbolId → Bool) → Option Doc → Option Capture
redeclared_by s g None = None
redeclared_by s g (Some d) = redeclared s g d
