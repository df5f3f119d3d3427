-- Names that metadata writes as values, where they would mean something else.
use Rattle.std.specs.Prelude.{ℕ, List, Bool, not, ◌&&◌, if◌then◌else◌, Option, None, Some, is_some, codes}
use Rattle.oxt_faults.specs.Captured.{Capture, captured_as}
use Rattle.oxt_faults.specs.Hidden.{bound_by, lies_within, value_as}
use Rattle.oxt_faults.specs.Marks.{marked_as}
use Rattle.oxt_faults.specs.declared.around.ClassScopes.{ClassScopes}
use Rattle.oxt_fields.specs.Rules.{Rules}
use Rattle.oxt_grammar.specs.declared.kind.Kind.{Kind}
use Rattle.oxt_scoping.specs.Meant.{meant, symbol_in}
use Rattle.oxt_scoping.specs.Scoped.{Scoped}
use Rattle.oxt_search.specs.First.{first_in}
use Rattle.oxt_search.specs.Sought.{Sought}
use Rattle.oxt_tree.specs.declared.inside.Inside.TheVariants as inside
use Rattle.oxt_tree.specs.Doc.{Doc, Docs}
use Rattle.oxt_tree.specs.Fields.{named, text_in}

-- metadata writes the name of that number
abbrev pub is_written : Rules → ℕ → Bool
is_written r i = is_some (r.written i)

-- ---- names whose declarations are erased

-- the name of that number, if metadata writes it and what it means is captured
abbrev pub written_at : Rules → Scoped → (ℕ → Bool) → ℕ → Option Capture
written_at r s ls i = if is_written r i then captured_as s ls i (symbol_in s.symbols (meant s i)) else None

-- each of them, also in erased code
abbrev pub written_sought : Rules → Scoped → (ℕ → Bool) → Sought (Unit {0}) Capture
written_sought r s ls =
    record {
      at = λ u k i ds. written_at r s ls i;
      inside = λ u k i ds. inside.Alike u;
      in_field = λ u k f. Some u;
    }

-- The first of a whole tree, of which the declarations with these names are left out.
abbrev pub written_captured : Rules → Scoped → (ℕ → Bool) → Doc → Option Capture
written_captured r s ls d = if r.emits then first_in (written_sought r s ls) d tt else None

-- the same by what is noted of symbols
abbrev pub written_marked_at : Rules → Scoped → List Bool → ℕ → Option Capture
written_marked_at r s bs i = if is_written r i then marked_as s bs i (meant s i) else None

abbrev pub marked_sought : Rules → Scoped → List Bool → Sought (Unit {0}) Capture
marked_sought r s bs =
    record {
      at = λ u k i ds. written_marked_at r s bs i;
      inside = λ u k i ds. inside.Alike u;
      in_field = λ u k f. Some u;
    }

abbrev pub written_marked : Rules → Scoped → List Bool → Doc → Option Capture
written_marked r s bs d = if r.emits then first_in (marked_sought r s bs) d tt else None

-- ---- names that a constructor declares

-- the name that a node is, if metadata writes it and it comes from outside the class while the constructor declares it as more
-- than a type
abbrev pub hidden_written_at : Rules → Scoped → ClassScopes → Kind → ℕ → Docs → Option Capture
hidden_written_at r s x k i ds =
    if is_written r i && not (lies_within x.own (symbol_in s.symbols (meant s i)))
    then value_as i (symbol_in s.symbols (bound_by s x.constructor (text_in (named (codes "name") k ds))))
    else None

abbrev pub hidden_sought : Rules → Scoped → ClassScopes → Sought (Unit {0}) Capture
hidden_sought r s x =
    record {
      at = λ u k i ds. hidden_written_at r s x k i ds;
      inside = λ u k i ds. inside.Alike u;
      in_field = λ u k f. Some u;
    }

-- the first of a document
abbrev pub written_hidden : Rules → Scoped → ClassScopes → Doc → Option Capture
written_hidden r s x d = first_in (hidden_sought r s x) d tt

-- the same, where the class has a constructor and metadata is emitted
abbrev pub hidden_written_by : Rules → Scoped → Option ClassScopes → Doc → Option Capture
hidden_written_by r s None d = None
hidden_written_by r s (Some x) d = if r.emits then written_hidden r s x d else None
