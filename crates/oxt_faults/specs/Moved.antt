-- Names that would mean something else once the fields of classes move.
use Rattle.std.specs.Prelude.{Bool, not, ◌&&◌, if◌then◌else◌, Option, None, Some, option_map, codes}
use Rattle.oxt_faults.specs.Around.{class_around, elements_in, is_class, no_class}
use Rattle.oxt_faults.specs.Captured.{Capture}
use Rattle.oxt_faults.specs.Earliest.{earlier, earliest, of_word}
use Rattle.oxt_faults.specs.Hidden.{hidden_by}
use Rattle.oxt_faults.specs.Level.{moved_word}
use Rattle.oxt_faults.specs.Redeclared.{is_again, own_names, redeclared_by}
use Rattle.oxt_faults.specs.Waiting.{has_expression, word_left}
use Rattle.oxt_faults.specs.WrittenNames.{hidden_written_by}
use Rattle.oxt_faults.specs.declared.around.ClassAround.{ClassAround}
use Rattle.oxt_faults.specs.declared.word.Destination.TheVariants as destination
use Rattle.oxt_fields.specs.Classes.{constructor_in}
use Rattle.oxt_fields.specs.Fates.{fate_by, hoists_private, is_static}
use Rattle.oxt_fields.specs.Rules.{Rules}
use Rattle.oxt_fields.specs.declared.fate.Fate.{Fate}
use Rattle.oxt_fields.specs.declared.fate.Fate.TheVariants as fates
use Rattle.oxt_grammar.specs.Places.{same_kind}
use Rattle.oxt_grammar.specs.declared.kind.Kind.{Kind}
use Rattle.oxt_grammar.specs.declared.kind.Kind.TheVariants as kind
use Rattle.oxt_names.specs.declared.ids.SymbolId.{SymbolId}
use Rattle.oxt_options.specs.Facts.{is_in}
use Rattle.oxt_scoping.specs.Scoped.{Scoped}
use Rattle.oxt_search.specs.All.{all_in}
use Rattle.oxt_search.specs.Sought.{Sought}
use Rattle.oxt_tree.specs.declared.inside.Inside.TheVariants as inside
use Rattle.oxt_tree.specs.Doc.{Doc, Docs}
use Rattle.oxt_tree.specs.Fields.{named}
use Rattle.oxt_declares.specs.Dropped.{inside_dropped_by, is_dropped_by}

-- ---- fields

-- a name that the constructor declares: one that is used as a value, or that metadata writes
abbrev pub name_hidden : Rules → Scoped → ClassAround → Doc → Option Capture
name_hidden r s a d = earlier (hidden_by r.legacy s a.scopes d) (hidden_written_by r s a.scopes d)

-- In code of a static field that moves into a static block, a word that would mean something else there. In code of another
-- field, which moves into the constructor, such a word or a name that the constructor declares.
abbrev pub captured_in : Rules → Scoped → ClassAround → Bool → Doc → Option Capture
captured_in r s a st d =
    if st then option_map of_word (moved_word r.legacy destination.StaticBlock d)
    else earlier (option_map of_word (moved_word r.legacy destination.Constructor d)) (name_hidden r s a d)

-- The key of an element that moves is written where that is set, if it is a field, its key is an expression, and no temporary
-- keeps that: that of an `accessor` stays with what becomes of it.
abbrev pub moves_key : Bool → Kind → Docs → Bool
moves_key has_temporary k ds = same_kind k kind.PropertyDefinition && (not has_temporary && has_expression k ds)

abbrev pub key_capture : Rules → Scoped → ClassAround → Bool → Kind → Docs → Option Capture
key_capture r s a has_temporary k ds =
    if moves_key has_temporary k ds then captured_in r s a (is_static k ds) (named (codes "key") k ds) else None

-- what would be captured in the value of a field, and in its key where that moves with it
abbrev pub capture_by : Rules → Scoped → ClassAround → Kind → Docs → Fate → Option Capture
capture_by r s a k ds fates.Stays = None
capture_by r s a k ds fates.Goes = None
capture_by r s a k ds fates.LeavesKey = None
capture_by r s a k ds (fates.Moves stays has_temporary) =
    earlier (captured_in r s a (is_static k ds) (named (codes "value") k ds)) (key_capture r s a has_temporary k ds)

abbrev pub field_capture : Scoped → Rules → ClassAround → Kind → Docs → Option Capture
field_capture s r a k ds = capture_by r s a k ds (fate_by r a.hoists k ds)

-- ---- classes

-- A word in a key that is left for a static block of the class, or a property among the parameters of its constructor that
-- this declares again: `g` says which symbols are.
abbrev pub class_capture : Scoped → Rules → (Option SymbolId → Bool) → Docs → Option Capture
class_capture s r g es = earlier (word_left r (hoists_private es) es) (redeclared_by s g (constructor_in es))

-- ---- trees

-- of a class, or of a field of the class around it
abbrev pub captured_at : Scoped → Rules → (Option SymbolId → Bool) → ClassAround → Kind → Docs → Option Capture
captured_at s r g a k ds = if is_class k then class_capture s r g (elements_in k ds) else field_capture s r a k ds

-- outside what is erased
abbrev pub sought : Scoped → Rules → (Option SymbolId → Bool) → Sought ClassAround Capture
sought s r g =
    record {
      at = λ a k i ds. if is_dropped_by k ds then None else captured_at s r g a k ds;
      inside = λ a k i ds. if is_dropped_by k ds then inside_dropped_by r.legacy k ds a else inside.Alike (class_around s a k i ds);
      in_field = λ a k f. Some a;
    }

-- the one at the node of the least number, where `g` says which symbols are declared again
abbrev pub capture_with : Scoped → Rules → (Option SymbolId → Bool) → Doc → Option Capture
capture_with s r g d = earliest (all_in (sought s r g) d no_class)

-- The one at the node of the least number, of a whole tree.
abbrev pub moved_capture : Scoped → Rules → Doc → Option Capture
moved_capture s r d = capture_with s r (is_again s (is_in (own_names d))) d
