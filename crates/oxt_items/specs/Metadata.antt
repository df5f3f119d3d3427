-- How the metadata in calls of decorators is read.
use Rattle.std.specs.Prelude.{ℕ, List, [], ◌∷◌, ◌++◌, false, Option, None, Some, codes}
use Rattle.oxt_facts.specs.Entry.{Entry, lone, spelled}
use Rattle.oxt_facts.specs.Facts.{Known, group_at}
use Rattle.oxt_facts.specs.Told.{Described, Telling, Typed, alias, global_type, inner, named_type, told_of, undefined_type}
use Rattle.oxt_facts.specs.declared.item.ItemKind.TheVariants as item
use Rattle.oxt_forms.specs.Details.{start}
use Rattle.oxt_grammar.specs.declared.kind.Kind.TheVariants as kind
use Rattle.oxt_tree.specs.Doc.{flag, number, text}
use Rattle.oxt_items.specs.Enums.{use_word}
use Rattle.oxt_items.specs.Helpers.{helper_start}
use Rattle.oxt_items.specs.Modules.{free_word}

-- ---- types

-- `void 0`
abbrev pub void_word : List Entry
void_word = start kind.UnaryExpression (text (codes "void") ∷ []) ++ (spelled item.Num (number 0) ++ lone item.Close)

-- the first name of a name, by what is told of it: it may be read as the alias of a class, or as its inner name
abbrev pub root_told : Known → Option Telling → ℕ → List ℕ → List Entry
root_told f (Some (alias t)) i n = spelled item.Made (text t)
root_told f (Some (inner g)) i n = use_word n (Some g)
root_told f o i n = use_word n (group_at f i)

unfoldable pub root_word : Known → ℕ → List ℕ → List Entry
root_word f i n = root_told f (told_of f.told i) i n

-- the read of the member of that name
abbrev pub member_word : List ℕ → List Entry
member_word p = spelled item.Str (text p) ++ spelled item.Get (flag false)

abbrev pub member_words : List (List ℕ) → List Entry
member_words [] = []
member_words (p ∷ ps) = member_word p ++ member_words ps

-- the name with these names behind its first one
unfoldable pub path_word : Known → ℕ → List ℕ → List (List ℕ) → List Entry
path_word f i n ps = root_word f i n ++ member_words ps

-- the kind of what is read so
abbrev pub typeof_word : List Entry → List Entry
typeof_word w = start kind.UnaryExpression (text (codes "typeof") ∷ []) ++ (w ++ lone item.Close)

-- the test that it is not there
unfoldable pub test_word : List Entry → List Entry
test_word w =
    start kind.BinaryExpression (text (codes "===") ∷ [])
    ++ (typeof_word w ++ (spelled item.Str (text (codes "undefined")) ++ lone item.Close))

-- the start of an alternative for each of the names
abbrev pub openings : List (List ℕ) → List Entry
openings [] = []
openings (p ∷ ps) = start kind.LogicalExpression (text (codes "||") ∷ []) ++ openings ps

-- the tests for the names behind those before, each with the end of its alternative
abbrev pub tests_word : Known → ℕ → List ℕ → List (List ℕ) → List (List ℕ) → List Entry
tests_word f i n before [] = []
tests_word f i n before (p ∷ ps) =
    test_word (path_word f i n (before ++ p ∷ [])) ++ (lone item.Close ++ tests_word f i n (before ++ p ∷ []) ps)

-- the test that one of the names, from the first on, is not there
abbrev pub guarded_word : Known → ℕ → List ℕ → List (List ℕ) → List Entry
guarded_word f i n ps = openings ps ++ (test_word (path_word f i n []) ++ tests_word f i n [] ps)

-- a name of the source where it is there, and else `Object`
abbrev pub reference_word : Known → ℕ → List ℕ → List (List ℕ) → List Entry
reference_word f i n ps =
    start kind.ConditionalExpression []
    ++ (guarded_word f i n ps ++ (free_word (codes "Object") ++ (path_word f i n ps ++ lone item.Close)))

-- What metadata writes for a type.
abbrev pub type_word : Known → Typed → List Entry
type_word f (global_type g) = free_word g
type_word f undefined_type = void_word
type_word f (named_type i n ps) = reference_word f i n ps

abbrev pub types_word : Known → List Typed → List Entry
types_word f [] = []
types_word f (t ∷ ts) = type_word f t ++ types_word f ts

-- the list of them
abbrev pub list_word : Known → List Typed → List Entry
list_word f ts = start kind.ArrayExpression [] ++ (types_word f ts ++ lone item.Close)

-- ---- calls

-- the start of the call that notes something under that name
abbrev pub entry_start : List ℕ → List Entry
entry_start x = helper_start (codes "decorateMetadata") ++ spelled item.Str (text x)

-- the call that notes a type under that name, if there is one
abbrev pub option_type_entry : Known → List ℕ → Option Typed → List Entry
option_type_entry f x None = []
option_type_entry f x (Some t) = entry_start x ++ (type_word f t ++ lone item.Close)

-- the same of a list of types
abbrev pub option_list_entry : Known → List ℕ → Option (List Typed) → List Entry
option_list_entry f x None = []
option_list_entry f x (Some ts) = entry_start x ++ (list_word f ts ++ lone item.Close)

-- The calls that metadata adds to the decorators: the type of the element itself, those of the parameters, and that of what is
-- returned.
abbrev pub metadata_word : Known → Described → List Entry
metadata_word f m =
    option_type_entry f (codes "design:type") m.design
    ++ (option_list_entry f (codes "design:paramtypes") m.parameters
    ++ option_type_entry f (codes "design:returntype") m.returned)
