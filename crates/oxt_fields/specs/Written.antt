-- Names that nothing writes to.
use Rattle.std.specs.Prelude.{ℕ, List, Bool, false, not, ◌&&◌, ◌==◌, if◌then◌else◌, Option, None, Some}
use Rattle.std.specs.Int.RustNames.{bit_and}
use Rattle.std.specs.List.{list_any}
use Rattle.oxt_grammar.specs.Places.{same_kind}
use Rattle.oxt_grammar.specs.declared.kind.Kind.{Kind}
use Rattle.oxt_grammar.specs.declared.kind.Kind.TheVariants as kind
use Rattle.oxt_names.specs.declared.flags.SymbolFlags.{SymbolFlags}
use Rattle.oxt_names.specs.declared.ids.ReferenceId.{ReferenceId}
use Rattle.oxt_scoping.specs.Entries.{SymbolData}
use Rattle.oxt_scoping.specs.Meant.{meant, symbol_in}
use Rattle.oxt_scoping.specs.Scoped.{Scoped, live_at}
use Rattle.oxt_scoping.specs.declared.entry.Reference.{Reference}
use Rattle.oxt_scoping.specs.declared.entry.Slot.{Slot}
use Rattle.oxt_search.specs.All.{all_in}
use Rattle.oxt_search.specs.Sought.{Sought}
use Rattle.oxt_tree.specs.declared.inside.Inside.TheVariants as inside
use Rattle.oxt_tree.specs.Doc.{Doc}
use Rattle.oxt_names.specs.declared.ids.NodeId.{NodeId}

-- ---- symbols

-- a reference that writes
abbrev pub writes : Option Reference → Bool
writes None = false
writes (Some r) = bit_and r.flags.0 2 == 2

-- one of the references writes
abbrev pub is_written : List Slot → List ReferenceId → Bool
is_written ss rs = list_any (λ r. writes (live_at ss r.0)) rs

-- a member of an enum
abbrev pub is_member : SymbolFlags → Bool
is_member f = bit_and f.0 4096 == 4096

-- A symbol with these flags and references keeps its value: it is no member of an enum, and no reference to it writes.
abbrev pub is_steady_by : List Slot → SymbolFlags → List ReferenceId → Bool
is_steady_by ss f rs = not (is_member f) && not (is_written ss rs)

abbrev pub is_steady : List Slot → SymbolData → Bool
is_steady ss y = is_steady_by ss y.flags y.references

-- the same of a symbol that is declared
abbrev pub is_steady_symbol : List Slot → Option SymbolData → Bool
is_steady_symbol ss None = false
is_steady_symbol ss (Some y) = is_steady ss y

-- ---- names

-- the node, if it means a symbol that keeps its value
abbrev pub steady_at : Scoped → Kind → ℕ → Option ℕ
steady_at s k i =
    if same_kind k kind.IdentifierReference && is_steady_symbol s.references (symbol_in s.symbols (meant s i))
    then Some i
    else None

-- ---- trees

-- each such name, in erased code too
abbrev pub sought : Scoped → Sought (Unit {0}) ℕ
sought s =
    record {
      at = λ u k i ds. steady_at s k i;
      inside = λ u k i ds. inside.Alike u;
      in_field = λ u k r. Some u;
    }

-- The names of a whole tree that nothing writes to, in the order of the text: those that mean a declared name, no member of
-- an enum, to which no reference of the source writes.
abbrev pub never_written : Scoped → Doc → List ℕ
never_written s d = all_in (sought s) d tt

abbrev pub number_of : NodeId → ℕ
number_of i = i.0
