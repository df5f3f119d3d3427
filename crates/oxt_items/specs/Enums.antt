-- How blocks of enums, their members, the bare names of members and what is inlined are read.
use Rattle.std.specs.Prelude.{ℕ, ◌+◌, ℤ, pos, negsuc, List, [], ◌∷◌, ◌++◌, Bool, true, false, not, ◌&&◌, if◌then◌else◌, Option, Some, codes}
use Rattle.oxt_facts.specs.Told.{Block, Member, Value, constant, following, written}
use Rattle.oxt_facts.specs.Entry.{Entry, detail, lone, owned, spelled}
use Rattle.oxt_facts.specs.declared.item.Binding.{Binding}
use Rattle.oxt_facts.specs.declared.item.Binding.TheVariants as binding
use Rattle.oxt_facts.specs.declared.item.ItemKind.TheVariants as item
use Rattle.oxt_names.specs.Constant.{Constant, integer, string}
use Rattle.oxt_grammar.specs.declared.kind.Kind.TheVariants as kind
use Rattle.oxt_tree.specs.Doc.{Doc, flag, number, text, Docs}
use Rattle.oxt_tree.specs.Fields.{first}
use Rattle.oxt_forms.specs.Details.{start}
use Rattle.oxt_items.specs.Node.{OneField}
use Rattle.oxt_items.specs.declared.way.Way.{Way}
use Rattle.oxt_items.specs.declared.way.Way.TheVariants as way

-- a use of the name, which means that group
abbrev pub use_word : List ℕ → Option ℕ → List Entry
use_word e g = owned g item.Name (text e) []

-- a read of the member of that name
abbrev pub read_word : List ℕ → Option ℕ → Doc → List Entry
read_word e g m = use_word e g ++ (spelled item.Str m ++ spelled item.Get (flag false))

-- a number, which has a sign before it where it is negative
abbrev pub number_literal : ℤ → List Entry
number_literal (pos n) = spelled item.Num (number n)
number_literal (negsuc n) =
    start kind.UnaryExpression (text (codes "-") ∷ []) ++ (spelled item.Num (number (n + 1)) ++ lone item.Close)

-- a constant, as a literal
abbrev pub literal_word : Constant → List Entry
literal_word (integer z) = number_literal z
literal_word (string t) = spelled item.Str (text t)

-- one more than the member of that name
abbrev pub following_word : List ℕ → Option ℕ → List ℕ → List Entry
following_word e g m =
    start kind.BinaryExpression (text (codes "+") ∷ [])
    ++ (spelled item.Num (number 1) ++ (read_word e g (text m) ++ lone item.Close))

-- the enum's own name inside the function of the member's block: its parameter
abbrev pub owner_word : Member → List Entry
owner_word m = use_word m.owner (Some m.block)

-- the value of a member
abbrev pub value_word : Member → Value → OneField → List Entry
value_word m (constant v) c = literal_word v
value_word m (following n) c = following_word m.owner (Some m.block) n
value_word m written c = c (codes "initializer") way.Whole

-- the write of a member's value under its name
abbrev pub put_word : Member → OneField → List Entry
put_word m c =
    owner_word m ++ (spelled item.Str (text m.name) ++ (value_word m m.value c ++ lone item.Put))

-- the owner, before a value by which the member can be looked up
abbrev pub reverse_owner : Member → List Entry
reverse_owner m = if m.is_reversed then owner_word m else []

-- the write of its name under that value
abbrev pub reverse_put : Member → List Entry
reverse_put m = if m.is_reversed then spelled item.Str (text m.name) ++ lone item.Put else []

-- A member is that write, and where it can be looked up by its value the write of its name under what was written.
abbrev pub member_word : Member → OneField → List Entry
member_word m c = reverse_owner m ++ (put_word m c ++ (reverse_put m ++ lone item.Eval))

-- The enum is declared as `var` where the program's own scope declares it and it is not exported.
abbrev pub is_var : Block → Bool → Bool
is_var b x = b.is_top && not x

-- the object that a block fills: a new one for a first block that is not declared as `var`, else what the enum's
-- name holds already, if it holds one
abbrev pub object_of : Block → Bool → List Entry
object_of b x =
    if b.is_first && not (is_var b x) then lone item.New else use_word b.name b.group ++ lone item.Found

-- the return of the enum's name, which is the parameter
abbrev pub return_word : Block → List Entry
return_word b = start kind.ReturnStatement [] ++ (use_word b.name (Some b.node) ++ lone item.Close)

-- the call of a function that fills the object with the members and returns it
abbrev pub filling_word : Block → Bool → OneField → List Entry
filling_word b x c =
    object_of b x
    ++ (owned (Some b.node) item.In (text b.name) (flag b.is_pure ∷ [])
    ++ (c (codes "body") way.Whole ++ (return_word b ++ lone item.Out)))

-- what a first block declares the enum's name as
abbrev pub block_binding : Block → Bool → Binding
block_binding b x = if is_var b x then binding.Var else binding.Let

-- A block is that call, which a first block binds the enum's name to and a later one assigns to it.
abbrev pub enum_word : Block → Bool → OneField → List Entry
enum_word b x c =
    if b.is_first
    then filling_word b x c ++ (lone item.Set ++ c (codes "id") (way.Bound (block_binding b x) x))
    else start kind.AssignmentExpression (text (codes "=") ∷ [])
    ++ (use_word b.name b.group ++ (filling_word b x c ++ (lone item.Close ++ lone item.Eval)))

-- what stands in an export is exported
abbrev pub is_exported : Way → Bool
is_exported way.Exported = true
is_exported w = false

-- A bare name of a member is a read of it; as a key it is computed.
abbrev pub bare_word : List ℕ → Option ℕ → Way → Docs → List Entry
bare_word e g way.Keyed ds = read_word e g (detail (first ds)) ++ lone item.Key
bare_word e g way.KeyText ds = []
bare_word e g w ds = read_word e g (detail (first ds))

-- a constant whose literal is a key by itself, as a text or a number without a sign is
abbrev pub is_key : Constant → Bool
is_key (integer (pos n)) = true
is_key (integer (negsuc n)) = false
is_key (string t) = true

-- What is inlined is the literal of its constant, also as a key.
abbrev pub inlined_word : Constant → Way → List Entry
inlined_word v way.Keyed = if is_key v then [] else literal_word v ++ lone item.Key
inlined_word v way.KeyText = if is_key v then literal_word v else []
inlined_word v w = literal_word v
