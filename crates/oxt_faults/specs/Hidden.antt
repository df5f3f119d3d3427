-- Names in the fields of a class that its constructor declares: there they would mean what that declares.
use Rattle.std.specs.Prelude.{ℕ, List, Bool, false, not, ◌&&◌, ◌==◌, nat_lt, if◌then◌else◌, Option, None, Some, option_map, codes}
use Rattle.std.specs.Int.RustNames.{bit_and}
use Rattle.oxt_faults.specs.Captured.{Capture}
use Rattle.oxt_faults.specs.Marks.{use_of}
use Rattle.oxt_faults.specs.Silent.{is_silent, silent_inside}
use Rattle.oxt_faults.specs.declared.around.ClassScopes.{ClassScopes}
use Rattle.oxt_faults.specs.declared.reach.Reach.TheVariants as reach
use Rattle.oxt_grammar.specs.declared.kind.Kind.{Kind}
use Rattle.oxt_names.specs.declared.flags.SymbolFlags.{SymbolFlags}
use Rattle.oxt_names.specs.declared.ids.ScopeId.{ScopeId}
use Rattle.oxt_names.specs.declared.ids.SymbolId.{SymbolId}
use Rattle.oxt_scoping.specs.Entries.{SymbolData, value_bits}
use Rattle.oxt_scoping.specs.Meant.{symbol_in, value_use}
use Rattle.oxt_scoping.specs.Scoped.{Scoped, binding_at}
use Rattle.oxt_scoping.specs.declared.entry.Reference.{Reference}
use Rattle.oxt_search.specs.First.{first_in}
use Rattle.oxt_search.specs.Sought.{Sought}
use Rattle.oxt_tree.specs.declared.inside.Inside.TheVariants as inside
use Rattle.oxt_tree.specs.Doc.{Doc, Docs}
use Rattle.oxt_tree.specs.Fields.{named, text_in}

-- ---- what a scope binds

-- more than a type
abbrev pub is_value : SymbolFlags → Bool
is_value f = not (bit_and f.0 value_bits == 0)

abbrev pub is_value_symbol : Option SymbolData → Bool
is_value_symbol None = false
is_value_symbol (Some y) = is_value y.flags

-- the name of the symbol, if it is more than a type, at that node
abbrev pub value_as : ℕ → Option SymbolData → Option Capture
value_as n y = if is_value_symbol y then option_map (use_of n) y else None

-- the symbol that the scope binds to the spelling, if there is one
abbrev pub bound_by : Scoped → ScopeId → Option (List ℕ) → Option SymbolId
bound_by s x None = None
bound_by s x (Some t) = binding_at s.scopes x.0 t

-- ---- names

-- A symbol is declared inside the scope: scopes are numbered in the order of the text, so those inside have greater numbers.
abbrev pub lies_within : ScopeId → Option SymbolData → Bool
lies_within x None = false
lies_within x (Some y) = nat_lt x.0 y.scope.0

-- a use of what is declared outside the class with that scope, or nowhere
abbrev pub comes_from_outside : Scoped → ScopeId → Option Reference → Bool
comes_from_outside s x None = false
comes_from_outside s x (Some r) = not (lies_within x (symbol_in s.symbols r.symbol))

-- the name that a node is, if it comes from outside the class while the constructor declares it as more than a type
abbrev pub hidden_at : Scoped → ClassScopes → Kind → ℕ → Docs → Option Capture
hidden_at s x k i ds =
    if comes_from_outside s x.own (value_use s i)
    then value_as i (symbol_in s.symbols (bound_by s x.constructor (text_in (named (codes "name") k ds))))
    else None

-- ---- trees

-- each such name outside of types and of what is erased; the flag says that decorators have their older meaning
abbrev pub sought : Bool → Scoped → ClassScopes → Sought (Unit {0}) Capture
sought legacy s x =
    record {
      at = λ u k i ds. if is_silent reach.Level k ds then None else hidden_at s x k i ds;
      inside = λ u k i ds. if is_silent reach.Level k ds then silent_inside legacy reach.Level k ds tt else inside.Alike u;
      in_field = λ u k r. Some u;
    }

-- the first of a document
abbrev pub hidden_name : Bool → Scoped → ClassScopes → Doc → Option Capture
hidden_name legacy s x d = first_in (sought legacy s x) d tt

-- the same, where the class has a constructor
abbrev pub hidden_by : Bool → Scoped → Option ClassScopes → Doc → Option Capture
hidden_by legacy s None d = None
hidden_by legacy s (Some x) d = hidden_name legacy s x d
