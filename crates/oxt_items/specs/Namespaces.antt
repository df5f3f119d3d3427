-- How blocks of namespaces, and what stands exported in them, are read.
use Rattle.std.specs.Prelude.{ℕ, List, [], ◌∷◌, ◌++◌, Bool, true, false, if◌then◌else◌, Option, None, Some, codes}
use Rattle.oxt_facts.specs.Entry.{Entry, detailed, lone, spelled}
use Rattle.oxt_facts.specs.Told.{Names, Namespace}
use Rattle.oxt_facts.specs.declared.item.Binding.TheVariants as binding
use Rattle.oxt_facts.specs.declared.item.ItemKind.TheVariants as item
use Rattle.oxt_tree.specs.Doc.{flag, text}
use Rattle.oxt_items.specs.Enums.{use_word}
use Rattle.oxt_items.specs.Node.{OneField}
use Rattle.oxt_items.specs.declared.way.Way.{Way}
use Rattle.oxt_items.specs.declared.way.Way.TheVariants as way

-- the object under a key, on which a block that another exports finds the namespace, or puts it
abbrev pub based_word : List ℕ → Option (List ℕ) → List Entry
based_word n None = lone item.FoundMade
based_word n (Some t) = spelled item.Made (text t) ++ (spelled item.Str (text n) ++ lone item.FoundMadeOn)

-- the object that the namespace's name holds, or a new one, which it holds then
abbrev pub namespace_object : Namespace → List Entry
namespace_object b = use_word b.name b.group ++ based_word b.name b.base

-- the call of a function with that object, in which the block's statements stand
abbrev pub namespace_call : Namespace → OneField → List Entry
namespace_call b c =
    namespace_object b
    ++ (detailed item.InMade (text b.tag) (flag false ∷ [])
    ++ (c (codes "body") way.Whole ++ (lone item.Out ++ lone item.Eval)))

-- the way in which the namespace's name is declared before a block, exported or not: by a first one alone
abbrev pub declared_way : Namespace → Bool → Option Way
declared_way b x = if b.is_first then Some (way.Bound binding.Let x) else None

abbrev pub declared_word : Option Way → OneField → List Entry
declared_word None c = []
declared_word (Some w) c = c (codes "id") w

-- A block is that call, behind the declaration of the namespace's name, if that is due.
abbrev pub namespace_word : Namespace → Bool → OneField → List Entry
namespace_word b x c = declared_word (declared_way b x) c ++ namespace_call b c

-- the name is put on the block's object, under itself
abbrev pub name_put : List ℕ → List ℕ → Option ℕ → List Entry
name_put t n g =
    spelled item.Made (text t)
    ++ (spelled item.Str (text n) ++ (use_word n g ++ (lone item.Put ++ lone item.Eval)))

abbrev pub name_puts : List ℕ → Names → List Entry
name_puts t [] = []
name_puts t (n ∷ ns) = name_put t n.0 n.1 ++ name_puts t ns

-- An export in a block is its declaration, which exports nothing, and then the names that are put.
abbrev pub export_word : List ℕ → Names → OneField → List Entry
export_word t ns c = c (codes "declaration") way.Whole ++ name_puts t ns

-- A declarator of such an export is its value, which is put on the block's object and then set, and its name.
abbrev pub stored_word : List ℕ → List ℕ → Way → OneField → List Entry
stored_word t n w c =
    spelled item.Made (text t)
    ++ (spelled item.Str (text n)
    ++ (c (codes "init") way.Whole ++ (lone item.Put ++ (lone item.Set ++ c (codes "id") w))))
