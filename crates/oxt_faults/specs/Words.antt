-- Words whose meaning the function around them gives.
use Rattle.std.specs.Prelude.{ℕ, List, Bool, true, false, not, ◌&&◌, if◌then◌else◌, Option, None, Some, codes}
use Rattle.oxt_faults.specs.declared.word.Destination.{Destination}
use Rattle.oxt_faults.specs.declared.word.Destination.TheVariants as destination
use Rattle.oxt_faults.specs.declared.word.LevelWord.{LevelWord}
use Rattle.oxt_faults.specs.declared.word.LevelWord.TheVariants as word
use Rattle.oxt_grammar.specs.declared.kind.Kind.{Kind}
use Rattle.oxt_grammar.specs.declared.kind.Kind.TheVariants as kind
use Rattle.oxt_tree.specs.Doc.{Docs}
use Rattle.oxt_tree.specs.Fields.{is_set, is_text, named}

-- a word as it is written
abbrev pub text_of_word : LevelWord → List ℕ
text_of_word word.This = codes "this"
text_of_word word.Super = codes "super"
text_of_word word.NewTarget = codes "new.target"
text_of_word word.Arguments = codes "arguments"
text_of_word word.Await = codes "await"
text_of_word word.Yield = codes "yield"

-- The words that would mean something else in code that goes there: all in what stands deeper; in a constructor and in a
-- static block `this` and `super` are what they are in the value of a field, and in a static block `new.target` is too.
abbrev pub changes : Destination → LevelWord → Bool
changes destination.Deeper w = true
changes destination.Constructor word.This = false
changes destination.Constructor word.Super = false
changes destination.Constructor w = true
changes destination.StaticBlock word.This = false
changes destination.StaticBlock word.Super = false
changes destination.StaticBlock word.NewTarget = false
changes destination.StaticBlock w = true

-- that word, where it stands there
abbrev pub where_word : Bool → LevelWord → Option LevelWord
where_word b w = if b then Some w else None

-- `await`, where the code awaits and no async arrow around it gives that its own meaning
abbrev pub awaited : Bool → Bool → Option LevelWord
awaited own awaits = where_word (awaits && not own) word.Await

-- The word that a node of that kind and with those fields is itself. A loop with `for await` and variables of kind
-- `await using` are the word `await`; `own` says that an async arrow around the node gives `await` its own meaning.
abbrev pub word_at : Bool → Kind → Docs → Option LevelWord
word_at own kind.ThisExpression ds = Some word.This
word_at own kind.Super ds = Some word.Super
word_at own kind.MetaProperty ds =
    where_word
    (is_text (codes "new") (named (codes "meta") kind.MetaProperty ds)
    && is_text (codes "target") (named (codes "property") kind.MetaProperty ds)) word.NewTarget
word_at own kind.IdentifierReference ds =
    where_word (is_text (codes "arguments") (named (codes "name") kind.IdentifierReference ds)) word.Arguments
word_at own kind.AwaitExpression ds = awaited own true
word_at own kind.ForOfStatement ds =
    awaited own (is_set (named (codes "await") kind.ForOfStatement ds))
word_at own kind.VariableDeclaration ds =
    awaited own (is_text (codes "await using") (named (codes "kind") kind.VariableDeclaration ds))
word_at own kind.YieldExpression ds = Some word.Yield
word_at own k ds = None
