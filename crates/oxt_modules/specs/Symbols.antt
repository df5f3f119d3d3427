-- What imports and exports ask of a symbol of the table, answered once for each.
use Rattle.std.specs.Prelude.{ℕ, List, Bool, false, not, ◌||◌, ◌==◌, ◌≡◌, Option, None, Some, find, map, option_map}
use Rattle.std.specs.List.{list_any}
use Rattle.oxt_modules.specs.Marked.{beside}
use Rattle.oxt_modules.specs.Names.{has_other_value, has_value_use}
use Rattle.oxt_modules.specs.declared.symbols.SymbolAnswers.{SymbolAnswers}
use Rattle.oxt_modules.specs.declared.symbols.Symbols.{Symbols}
use Rattle.oxt_names.specs.Flags.{is_type_alone}
use Rattle.oxt_scoping.specs.Entries.{SymbolData}
use Rattle.oxt_scoping.specs.Scoped.{Scoped}
use Rattle.oxt_scoping.specs.declared.entry.Redeclaration.{Redeclaration}
use Rattle.oxt_scoping.specs.declared.entry.Slot.{Slot}
use Rattle.oxt_names.specs.declared.ids.NodeId.{NodeId}

-- the node of the first of the declarations that is more than a type
abbrev pub first_value : List Redeclaration → Option NodeId
first_value ds = option_map (λ d. d.node) (find (λ d. not (is_type_alone d.flags)) ds)

-- one of the declarations is by another node than that, if it is there, and more than a type
abbrev pub has_another : Option NodeId → List Redeclaration → Bool
has_another None ds = false
has_another (Some n) ds = has_other_value n.0 ds

-- what is asked of a symbol, in a table with these references
abbrev pub asked : List Slot → SymbolData → SymbolAnswers
asked ss y = record {
  first_value = first_value y.declarations;
  has_another = has_another (first_value y.declarations) y.declarations;
  is_used = has_value_use ss y.references;
  emits = list_any (λ d. d.emits) y.declarations;
}

-- of each symbol of a table
abbrev pub all_asked : Scoped → List SymbolAnswers
all_asked s = map (asked s.references) s.symbols

-- the table, in which the marked names are no references
abbrev pub table_of : Symbols → Scoped
table_of t = beside t.marked t.scoping.now

-- The answers are those of the table.
abbrev pub IsAnswered : Symbols → Type 0
IsAnswered t = t.answers.items ≡ all_asked (table_of t)

-- a node other than that is the first, or there is another
abbrev pub besides : ℕ → Option NodeId → Bool → Bool
besides n None b = false
besides n (Some m) b = not (m.0 == n) || b

-- by these answers a node other than that declares the symbol as more than a type
abbrev pub declares_besides : ℕ → SymbolAnswers → Bool
declares_besides n a = besides n a.first_value a.has_another
