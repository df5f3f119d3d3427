-- How a node is read in the other ways.
use Rattle.std.specs.Prelude.{ℕ, List, [], ◌∷◌, ◌++◌, Bool, true, false, if◌then◌else◌, codes}
use Rattle.oxt_grammar.specs.declared.kind.Kind.{Kind}
use Rattle.oxt_tree.specs.Fields.{first}
use Rattle.oxt_tree.specs.Doc.{Docs, flag, nil}
use Rattle.oxt_tree.specs.Fields.{named, is_set, is_text}
use Rattle.oxt_facts.specs.Entry.{Entry, detail, detailed, lone, spelled}
use Rattle.oxt_facts.specs.Facts.{Known, is_made}
use Rattle.oxt_forms.specs.Forms.{is_long}
use Rattle.oxt_forms.specs.Made.{is_passing, is_quiet, passes_on}
use Rattle.oxt_forms.specs.Details.{start}
use Rattle.oxt_forms.specs.Leaves.{bind_word, in_word, number_word, private_word}
use Rattle.oxt_items.specs.Modules.{import_equals_word}
use Rattle.oxt_items.specs.Node.{opened, OneField, AllFields}
use Rattle.oxt_items.specs.Whole.{class_word, declarator_word, function_word, variables_word, whole_word}
use Rattle.oxt_facts.specs.declared.item.Binding.{Binding}
use Rattle.oxt_facts.specs.declared.item.ItemKind.TheVariants as item
use Rattle.oxt_items.specs.declared.rule.Rule.{Rule}
use Rattle.oxt_items.specs.declared.rule.Rule.TheVariants as rule
use Rattle.oxt_items.specs.declared.way.Way.TheVariants as way

-- A member that is written is its object and its key.
abbrev pub target_word : Known → Rule → Kind → ℕ → Docs → OneField → AllFields → List Entry
target_word f rule.Transparent k i ds c fs = c (codes "expression") way.Target
target_word f rule.StaticMember k i ds c fs =
    c (codes "object") way.Whole ++ c (codes "property") way.KeyText
target_word f rule.ComputedMember k i ds c fs =
    c (codes "object") way.Whole ++ c (codes "expression") way.Whole
target_word f rule.PrivateMember k i ds c fs =
    c (codes "object") way.Whole ++ c (codes "field") way.Whole
target_word f r k i ds c fs = whole_word f r k i ds c fs

-- Patterns and declarators bind their names.
abbrev pub bound_word : Known → Binding → Bool → Rule → Kind → ℕ → Docs → OneField → AllFields → List Entry
bound_word f b x rule.Identifier k i ds c fs =
    bind_word f b x i ds
bound_word f b x rule.Pattern k i ds c fs = opened k ds (fs (way.Bound b x))
bound_word f b x rule.Declarator k i ds c fs = declarator_word f b x k ds c
bound_word f b x r k i ds c fs = whole_word f r k i ds c fs

-- What is declared by an export is exported.
abbrev pub exported_word : Known → Rule → Kind → ℕ → Docs → OneField → AllFields → List Entry
exported_word f rule.Variables k i ds c fs = variables_word true k ds c fs
exported_word f rule.FunctionDeclaration k i ds c fs = function_word true k ds c
exported_word f rule.ClassDeclaration k i ds c fs = class_word true k ds c
exported_word f rule.ImportEquals k i ds c fs = import_equals_word true k ds c
exported_word f r k i ds c fs = whole_word f r k i ds c fs

-- A function that is called where it stands is the entry with its parameter, its body and its end.
abbrev pub entered_word : Known → Bool → Rule → Kind → ℕ → Docs → OneField → AllFields → List Entry
entered_word f p rule.Transparent k i ds c fs = c (codes "expression") (way.Entered p)
entered_word f p rule.FunctionExpression k i ds c fs =
    c (codes "params") (way.Entered p) ++ (c (codes "body") way.Whole ++ lone item.Out)
entered_word f p rule.Parameters k i ds c fs = c (codes "items") (way.Entered p)
entered_word f p rule.Parameter k i ds c fs = c (codes "pattern") (way.Entered p)
entered_word f p rule.Identifier k i ds c fs = in_word f p i ds
entered_word f p r k i ds c fs = whole_word f r k i ds c fs

-- The function of a constructor is its parameters and its body. One that passes on what it is given has
-- no parameters.
abbrev pub opened_word : Known → Rule → Kind → ℕ → Docs → OneField → AllFields → List Entry
opened_word f rule.FunctionExpression k i ds c fs =
    if passes_on f k ds then lone item.Nil ++ (lone item.Body ++ c (codes "body") way.PassOn)
    else c (codes "params") way.Whole ++ (lone item.Body ++ c (codes "body") way.Whole)
opened_word f r k i ds c fs = whole_word f r k i ds c fs

-- In the body of such a constructor the call that passes it on is so read.
abbrev pub passed_word : Known → Rule → Kind → ℕ → Docs → OneField → AllFields → List Entry
passed_word f rule.Bare k i ds c fs = fs way.PassOn
passed_word f rule.Statement k i ds c fs =
    if is_passing f k ds then lone item.PassOn else whole_word f rule.Statement k i ds c fs
passed_word f r k i ds c fs = whole_word f r k i ds c fs

-- A key that is a name, a text or a number computes nothing; in a sequence the last is the key.
abbrev pub keyed_word : Known → Rule → Kind → ℕ → Docs → OneField → AllFields → List Entry
keyed_word f rule.Transparent k i ds c fs = c (codes "expression") way.Keyed
keyed_word f rule.Sequence k i ds c fs =
    if is_long k ds then c (codes "expressions") way.InTurnKeyed
    else whole_word f rule.Sequence k i ds c fs ++ lone item.Key
keyed_word f rule.PropertyName k i ds c fs = []
keyed_word f (rule.Literal m) k i ds c fs = []
keyed_word f rule.PrivateName k i ds c fs = []
keyed_word f rule.Number k i ds c fs = []
keyed_word f r k i ds c fs = whole_word f r k i ds c fs ++ lone item.Key

-- Such a key is its own text; another key has none.
abbrev pub key_text : Known → Rule → Kind → Docs → OneField → List Entry
key_text f rule.Transparent k ds c = c (codes "expression") way.KeyText
key_text f rule.Sequence k ds c = if is_long k ds then c (codes "expressions") way.LastText else []
key_text f rule.PropertyName k ds c = spelled item.Str (detail (first ds))
key_text f (rule.Literal m) k ds c = spelled m (detail (first ds))
key_text f rule.PrivateName k ds c = private_word f ds
key_text f rule.Number k ds c = number_word k ds
key_text f r k ds c = []

-- The keys of a class are each element's decorators and key.
abbrev pub keys_word : Rule → OneField → AllFields → List Entry
keys_word rule.Bare c f = f way.Keys
keys_word rule.Method c f = c (codes "decorators") way.Whole ++ c (codes "key") way.Keyed
keys_word (rule.ClassField a) c f = c (codes "decorators") way.Whole ++ c (codes "key") way.Keyed
keys_word r c f = []

-- A field is its key's text and its value.
abbrev pub field_word : Bool → Bool → OneField → List Entry
field_word is_static is_accessor c =
    detailed item.Field nil (flag is_static ∷ flag is_accessor ∷ [])
    ++ (c (codes "key") way.KeyText ++ (c (codes "value") way.Whole ++ lone item.Define))

-- A static block of expressions alone is what they do; another one is a node.
abbrev pub block_word : Known → Kind → Docs → OneField → AllFields → List Entry
block_word f k ds c fs =
    if is_quiet f k ds then c (codes "body") way.Whole else opened k ds (fs way.Whole)

-- the static fields, accessors and blocks of a class
abbrev pub statics_word : Known → Rule → Kind → Docs → OneField → AllFields → List Entry
statics_word f rule.Bare k ds c fs = fs way.Statics
statics_word f (rule.ClassField a) k ds c fs =
    if is_set (named (codes "static") k ds) then field_word true a c else []
statics_word f rule.StaticBlock k ds c fs = block_word f k ds c fs
statics_word f r k ds c fs = []

-- the fields and accessors of its instances
abbrev pub fields_word : Known → Rule → Kind → Docs → OneField → AllFields → List Entry
fields_word f rule.Bare k ds c fs = fs way.Fields
fields_word f (rule.ClassField a) k ds c fs =
    if is_set (named (codes "static") k ds) then [] else field_word false a c
fields_word f r k ds c fs = []

-- a constructor, by the word of its node
abbrev pub is_constructor : Kind → Docs → Bool
is_constructor k ds = is_text (codes "constructor") (named (codes "kind") k ds)

-- A method is its start, its key's text, its function and its end.
abbrev pub method_word : Kind → Docs → OneField → List Entry
method_word k ds c =
    start k (detail (named (codes "kind") k ds) ∷ detail (named (codes "static") k ds) ∷ [])
    ++ (c (codes "key") way.KeyText ++ (c (codes "value") way.Whole ++ lone item.Close))

-- the methods of a class
abbrev pub methods_word : Known → Rule → Kind → Docs → OneField → AllFields → List Entry
methods_word f rule.Bare k ds c fs = fs way.Methods
methods_word f rule.Method k ds c fs = if is_constructor k ds then [] else method_word k ds c
methods_word f r k ds c fs = []

-- A constructor is its start, its parameters and body, and its end.
abbrev pub constructor_word : Known → Rule → Kind → Docs → OneField → AllFields → List Entry
constructor_word f rule.Bare k ds c fs = fs way.Constructor
constructor_word f rule.Method k ds c fs =
    if is_constructor k ds
    then start k (detail (named (codes "kind") k ds) ∷ [])
    ++ (c (codes "value") way.Opened ++ lone item.Close)
    else []
constructor_word f r k ds c fs = []
