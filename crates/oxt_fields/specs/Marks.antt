-- What the program notes of each symbol, by their numbers, before it looks at the names.
use Rattle.std.specs.Prelude.{ℕ, List, map, Bool, false, ◌&&◌, if◌then◌else◌, Option, None, Some, slice_index_or}
use Rattle.oxt_fields.specs.Written.{is_steady}
use Rattle.oxt_grammar.specs.Places.{same_kind}
use Rattle.oxt_grammar.specs.declared.kind.Kind.{Kind}
use Rattle.oxt_grammar.specs.declared.kind.Kind.TheVariants as kind
use Rattle.oxt_names.specs.declared.ids.SymbolId.{SymbolId}
use Rattle.oxt_scoping.specs.Meant.{meant}
use Rattle.oxt_scoping.specs.Scoped.{Scoped}
use Rattle.oxt_search.specs.Sought.{Sought}
use Rattle.oxt_tree.specs.declared.inside.Inside.TheVariants as inside

-- of each symbol whether it keeps its value
abbrev pub steady_symbols : Scoped → List Bool
steady_symbols s = map (is_steady s.references) s.symbols

-- what is noted of the symbol
abbrev pub mark_at : List Bool → Option SymbolId → Bool
mark_at bs None = false
mark_at bs (Some i) = slice_index_or bs i.0 false

-- the node, if it means a marked symbol
abbrev pub marked_at : Scoped → List Bool → Kind → ℕ → Option ℕ
marked_at s bs k i = if same_kind k kind.IdentifierReference && mark_at bs (meant s i) then Some i else None

-- each name that means a marked symbol
abbrev pub marked : Scoped → List Bool → Sought (Unit {0}) ℕ
marked s bs =
    record {
      at = λ u k i ds. marked_at s bs k i;
      inside = λ u k i ds. inside.Alike u;
      in_field = λ u k r. Some u;
    }
