-- The first captured name of a program, by all that captures.
use Rattle.std.specs.Prelude.{ℕ, Bool, nat_lt, if◌then◌else◌, Option, None, Some, option_map}
use Rattle.oxt_check.specs.declared.capture.NameAt.{NameAt}
use Rattle.oxt_class_checks.specs.Moved.{decorator_capture}
use Rattle.oxt_enum_checks.specs.Shadows.{Shadow, shadowed}
use Rattle.oxt_faults.specs.AllCaptured.{all_captured}
use Rattle.oxt_faults.specs.Captured.{Capture}
use Rattle.oxt_faults.specs.Free.{free}
use Rattle.oxt_faults.specs.Initializers.{initializer_word}
use Rattle.oxt_faults.specs.Level.{LevelWordAt}
use Rattle.oxt_faults.specs.Moved.{moved_capture}
use Rattle.oxt_faults.specs.Namespaces.{namespace_word}
use Rattle.oxt_faults.specs.Words.{text_of_word}
use Rattle.oxt_fields.specs.Rules.{Rules}
use Rattle.oxt_modules.specs.Aliases.{left_out}
use Rattle.oxt_options.specs.Facts.{is_in}
use Rattle.oxt_scoping.specs.Scoped.{Scoped}
use Rattle.oxt_tree.specs.Doc.{Doc}

abbrev pub name_view : NameAt → Capture
name_view n = record { node = n.node.0; name = n.name.now }

-- the one of two at the node of the lesser number, and the first of two at one node
abbrev pub former : Option Capture → Option Capture → Option Capture
former None c = c
former (Some b) None = Some b
former (Some b) (Some c) = Some (if nat_lt c.node b.node then c else b)

-- a word in code that goes into a function
abbrev pub word_capture : LevelWordAt → Capture
word_capture w = record { node = w.1; name = text_of_word w.0 }

-- the name of an enum, at a bare name of a member that is written by way of it
abbrev pub shadow_capture : Shadow → Capture
shadow_capture n = record { node = n.node; name = n.name }

-- of the words in initializers that stay as written, of which that is the first, and of those in namespaces, the one at the node
-- of the lesser number
abbrev pub word_beside : Option LevelWordAt → Bool → Doc → Option Capture
word_beside w legacy d = former (option_map word_capture w) (option_map word_capture (namespace_word legacy d))

-- of names in classes whose fields move, and in decorators that move
abbrev pub captured_moved : Scoped → Rules → Doc → Option Capture
captured_moved s r d = former (moved_capture s r d) (decorator_capture r.legacy d)

-- of names whose declarations are erased, of free names that are made and of names of enums, of which that is the first, where
-- that is kept
abbrev pub spelling_beside : Option Shadow → Rules → Scoped → (ℕ → Bool) → Doc → Option Capture
spelling_beside n r s ks d =
    former (all_captured r s (is_in (left_out ks d)) d)
    (former (free r s ks d) (option_map shadow_capture n))

-- the first of all, where these are the first word in an initializer and the first name of an enum
abbrev pub capture_beside : Option LevelWordAt → Option Shadow → Scoped → Rules → (ℕ → Bool) → Doc → Option Capture
capture_beside w n s r ks d =
    former (word_beside w r.legacy d) (former (captured_moved s r d) (spelling_beside n r s ks d))

-- The one at the node of the least number of a whole tree, whose fields are lowered by these rules and in which that is
-- kept: of words in initializers that stay as written, of words in namespaces, of names in classes whose fields move and in
-- decorators that move, of names whose declarations are erased, of free names that are made, and of names of enums; of several at one node the first
-- of these.
abbrev pub first_capture : Scoped → Rules → (ℕ → Bool) → Doc → Option Capture
first_capture s r ks d = capture_beside (initializer_word r.legacy s d) (shadowed r.legacy s d) s r ks d
