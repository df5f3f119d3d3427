-- Keys of fields that go, which no element behind them takes: they go into a static block.
use Rattle.std.specs.Prelude.{Bool, true, false, not, ◌&&◌, ◌||◌, fold, if◌then◌else◌, Option, None, option_map, codes}
use Rattle.oxt_faults.specs.Captured.{Capture}
use Rattle.oxt_faults.specs.Earliest.{earlier, of_word}
use Rattle.oxt_faults.specs.Level.{level_word}
use Rattle.oxt_fields.specs.Fates.{fate_by}
use Rattle.oxt_fields.specs.Rules.{Rules}
use Rattle.oxt_fields.specs.declared.fate.Fate.{Fate}
use Rattle.oxt_fields.specs.declared.fate.Fate.TheVariants as fates
use Rattle.oxt_grammar.specs.declared.kind.Kind.{Kind}
use Rattle.oxt_grammar.specs.declared.kind.Kind.TheVariants as kind
use Rattle.oxt_tree.specs.Doc.{Doc, nil, flag, number, text, list, node, Docs}
use Rattle.oxt_tree.specs.Fields.{docs_list, is_kind, is_text, named}
use Rattle.oxt_declares.specs.Dropped.{is_dropped_by}

-- the key of an element is an expression
abbrev pub has_expression : Kind → Docs → Bool
has_expression k ds =
    not (is_kind kind.IdentifierName (named (codes "key") k ds) || is_kind kind.PrivateIdentifier (named (codes "key") k ds))

-- an `accessor`, or a method that is no constructor
abbrev pub is_member : Kind → Docs → Bool
is_member kind.AccessorProperty ds = true
is_member kind.MethodDefinition ds = not (is_text (codes "constructor") (named (codes "kind") kind.MethodDefinition ds))
is_member k ds = false

-- An element takes all keys that wait in front of it if it is such, is not erased, and its own key is an expression: they
-- are computed just before that.
abbrev pub takes_keys : Kind → Docs → Bool
takes_keys k ds = not (is_dropped_by k ds) && (is_member k ds && has_expression k ds)

-- the key of a field waits if the field is gone and its key is still to be computed
abbrev pub waits : Fate → Bool
waits fates.Stays = false
waits fates.Goes = false
waits fates.LeavesKey = true
waits (fates.Moves stays has_temporary) = has_temporary

-- the first word at the level of a key that waits
abbrev pub waiting_word : Rules → Bool → Kind → Docs → Option Capture
waiting_word r h k ds =
    if waits (fate_by r h k ds) then option_map of_word (level_word r.legacy (named (codes "key") k ds)) else None

-- the word of what waits behind an element, where that is the word of what waits before it
abbrev pub word_behind : Rules → Bool → Option Capture → Doc → Option Capture
word_behind r h o nil = o
word_behind r h o (flag b) = o
word_behind r h o (number n) = o
word_behind r h o (text t) = o
word_behind r h o (list ds) = o
word_behind r h o (node k i b e ds) = if takes_keys k ds then None else earlier o (waiting_word r h k ds)

-- the word of what waits behind all elements of a class
abbrev pub word_left : Rules → Bool → Docs → Option Capture
word_left r h es = fold (word_behind r h) None (docs_list es)
