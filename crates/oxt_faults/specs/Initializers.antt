-- Words in initializers of members of enums, which go into a function where they stay as written.
use Rattle.std.specs.Prelude.{ℕ, List, fold, Bool, false, not, ◌&&◌, nat_lt, if◌then◌else◌, Option, None, Some, is_some, codes}
use Rattle.oxt_faults.specs.Level.{LevelWordAt, level_word}
use Rattle.oxt_scoping.specs.Entries.{SymbolData}
use Rattle.oxt_scoping.specs.Meant.{symbol_in}
use Rattle.oxt_scoping.specs.Scoped.{Scoped, at_node}
use Rattle.oxt_search.specs.All.{all_in}
use Rattle.oxt_search.specs.Sought.{Sought}
use Rattle.oxt_tree.specs.declared.inside.Inside.TheVariants as inside
use Rattle.oxt_grammar.specs.Places.{same_kind}
use Rattle.oxt_grammar.specs.declared.kind.Kind.{Kind}
use Rattle.oxt_grammar.specs.declared.kind.Kind.TheVariants as kind
use Rattle.oxt_tree.specs.Doc.{Doc, Docs}
use Rattle.oxt_tree.specs.Fields.{named}
use Rattle.oxt_declares.specs.Dropped.{inside_dropped_by, is_dropped_by}

-- ---- one member

-- the symbol of a member has a constant
abbrev pub has_value : Option SymbolData → Bool
has_value None = false
has_value (Some y) = is_some y.value

-- the member of that number has a constant
abbrev pub is_constant : Scoped → ℕ → Bool
is_constant s n = has_value (symbol_in s.symbols (at_node (record { 0 = n }) s.declared))

-- a member whose initializer, if it has one, stays as written
abbrev pub is_written : Scoped → Kind → ℕ → Bool
is_written s k i = same_kind k kind.TSEnumMember && not (is_constant s i)

-- the first word at the level of the initializer of such a member
abbrev pub own_word : Bool → Scoped → Kind → ℕ → Docs → Option LevelWordAt
own_word legacy s k i ds = if is_written s k i then level_word legacy (named (codes "initializer") k ds) else None

-- ---- all members

-- outside what is erased, that word of each member; the flag says that decorators have their older meaning
abbrev pub sought : Bool → Scoped → Sought (Unit {0}) LevelWordAt
sought legacy s =
    record {
      at = λ u k i ds. if is_dropped_by k ds then None else own_word legacy s k i ds;
      inside = λ u k i ds. if is_dropped_by k ds then inside_dropped_by legacy k ds tt else inside.Alike u;
      in_field = λ u k r. Some u;
    }

-- the one of the lesser number, the first of two with one number
abbrev pub lesser : Option LevelWordAt → LevelWordAt → Option LevelWordAt
lesser None w = Some w
lesser (Some v) w = Some (if nat_lt w.1 v.1 then w else v)

-- the one of the least number
abbrev pub least : List LevelWordAt → Option LevelWordAt
least ws = fold lesser None ws

-- The word of the least number at the level of an initializer that stays as written, of a whole tree. A word may be at
-- the level of several, where one holds another: it is the same node.
abbrev pub initializer_word : Bool → Scoped → Doc → Option LevelWordAt
initializer_word legacy s d = least (all_in (sought legacy s) d tt)
