-- The first word at the level of a piece of code: one that would mean something else in a function of its own.
use Rattle.std.specs.Prelude.{ℕ, Bool, false, ◌&&◌, ◌||◌, if◌then◌else◌, Option, None, Some, option_map, codes}
use Rattle.oxt_faults.specs.Reaches.{reach_of}
use Rattle.oxt_faults.specs.Silent.{is_silent, silent_inside}
use Rattle.oxt_faults.specs.Words.{changes, word_at}
use Rattle.oxt_faults.specs.declared.level.Around.{Around}
use Rattle.oxt_faults.specs.declared.level.FoundWord.{FoundWord}
use Rattle.oxt_faults.specs.declared.reach.Reach.TheVariants as reach
use Rattle.oxt_faults.specs.declared.word.Destination.{Destination}
use Rattle.oxt_faults.specs.declared.word.Destination.TheVariants as destination
use Rattle.oxt_faults.specs.declared.word.LevelWord.{LevelWord}
use Rattle.oxt_search.specs.First.{first_among, first_in}
use Rattle.oxt_search.specs.Sought.{Sought}
use Rattle.oxt_tree.specs.declared.inside.Inside.{Inside}
use Rattle.oxt_tree.specs.declared.inside.Inside.TheVariants as inside
use Rattle.oxt_grammar.specs.Field.{Field}
use Rattle.oxt_grammar.specs.Places.{same_kind}
use Rattle.oxt_grammar.specs.declared.kind.Kind.{Kind}
use Rattle.oxt_grammar.specs.declared.kind.Kind.TheVariants as kind
use Rattle.oxt_tree.specs.Doc.{Doc, Docs}
use Rattle.oxt_tree.specs.Fields.{is_set, named}

-- `await` has a meaning of its own in the node: one around it gives it that, or it is an async arrow
abbrev pub owns_await : Bool → Kind → Docs → Bool
owns_await own k ds =
    own || (same_kind k kind.ArrowFunctionExpression && is_set (named (codes "async") k ds))

-- a word, and the number of its node
abbrev pub LevelWordAt : Type 0
LevelWordAt = LevelWord × ℕ

abbrev pub found_view : FoundWord → LevelWordAt
found_view f = (f.word, f.node.0)

abbrev pub at_number : ℕ → LevelWord → LevelWordAt
at_number i w = (w, i)

-- the word, if it would mean something else there
abbrev pub changed : Destination → Option LevelWord → Option LevelWord
changed m None = None
changed m (Some w) = if changes m w then Some w else None

-- The word that a node is itself, if it would mean something else there; `own` says that an async arrow around it gives
-- `await` its own meaning.
abbrev pub found_at : Destination → Bool → Kind → ℕ → Docs → Option LevelWordAt
found_at m own k i ds = option_map (at_number i) (changed m (word_at own k ds))

-- code at the level itself
abbrev pub at_level : Around
at_level = record { reach = reach.Level; owns_await = false }

abbrev pub word_here : Destination → Around → Kind → ℕ → Docs → Option LevelWordAt
word_here m a k i ds = if is_silent a.reach k ds then None else found_at m a.owns_await k i ds

abbrev pub word_inside : Bool → Around → Kind → ℕ → Docs → Inside Around
word_inside legacy a k i ds =
    if is_silent a.reach k ds then silent_inside legacy a.reach k ds a
    else inside.ByField (record { reach = a.reach; owns_await = owns_await a.owns_await k ds })

abbrev pub around_field : Around → Kind → Field → Option Around
around_field a k r = Some (record { reach = reach_of a.reach k r; owns_await = a.owns_await })

-- Each word that is no erased code, no type, and reached at the level, and that would mean something else there; the flag
-- says that decorators have their older meaning.
abbrev pub sought : Bool → Destination → Sought Around LevelWordAt
sought legacy m = record { at = word_here m; inside = word_inside legacy; in_field = around_field }

-- The first at the level of a document that would mean something else where the document goes: a node comes before those
-- in it.
abbrev pub moved_word : Bool → Destination → Doc → Option LevelWordAt
moved_word legacy m d = first_in (sought legacy m) d at_level

-- the first of all words at the level of a document
abbrev pub level_word : Bool → Doc → Option LevelWordAt
level_word legacy d = moved_word legacy destination.Deeper d

-- the first at the level of documents that stand one after the other, as those of a body
abbrev pub level_words : Bool → Docs → Option LevelWordAt
level_words legacy ds = first_among (sought legacy destination.Deeper) ds at_level
