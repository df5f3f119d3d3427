-- What a node does, by the rule of its kind.
use Rattle.std.specs.Prelude.{ℕ, List, [], ◌∷◌, ◌++◌, Bool, true, false, ◌&&◌, if◌then◌else◌, Option, None, Some, codes}
use Rattle.oxt_grammar.specs.declared.kind.Kind.{Kind}
use Rattle.oxt_grammar.specs.declared.kind.Kind.TheVariants as kind
use Rattle.oxt_tree.specs.Fields.{first}
use Rattle.oxt_tree.specs.Doc.{Doc, Docs, flag, text}
use Rattle.oxt_tree.specs.Fields.{named, field_of, is_nil, is_set, is_text, is_kind, is_empty_list}
use Rattle.oxt_facts.specs.Entry.{Entry, binding_text, detail, detailed, lone, spelled}
use Rattle.oxt_facts.specs.Facts.{Known, is_made}
use Rattle.oxt_forms.specs.Forms.{within, is_put, is_long, is_found, is_found_made, is_called, binding_of}
use Rattle.oxt_forms.specs.Made.{base_in, is_found_made_on, is_keep, is_silent, made_tag}
use Rattle.oxt_facts.specs.Inside.{stored_at}
use Rattle.oxt_forms.specs.Details.{start}
use Rattle.oxt_forms.specs.Leaves.{base_word, bind_word, dropped, name_word, number_word, private_word}
use Rattle.oxt_items.specs.Modules.{export_assignment_word, export_list_word, import_equals_word, import_word, program_word, qualified_word, required_word}
use Rattle.oxt_items.specs.Node.{opened, OneField, AllFields}
use Rattle.oxt_facts.specs.declared.item.Binding.{Binding}
use Rattle.oxt_facts.specs.declared.item.ItemKind.{ItemKind}
use Rattle.oxt_facts.specs.declared.item.Binding.TheVariants as binding
use Rattle.oxt_facts.specs.declared.item.ItemKind.TheVariants as item
use Rattle.oxt_items.specs.declared.rule.Rule.{Rule}
use Rattle.oxt_items.specs.declared.rule.Rule.TheVariants as rule
use Rattle.oxt_items.specs.declared.way.Way.{Way}
use Rattle.oxt_items.specs.declared.way.Way.TheVariants as way

-- A member is its object, its key and the read.
abbrev pub get_word : List ℕ → Way → Kind → Docs → OneField → List Entry
get_word key w k ds c =
    c (codes "object") way.Whole
    ++ (c key w ++ spelled item.Get (flag (is_set (named (codes "optional") k ds))))

-- An assignment to a made name is the value, which the name then holds; one to a member is object, key,
-- value and the write.
abbrev pub assignment_word : Known → Kind → Docs → OneField → AllFields → List Entry
assignment_word f k ds c fs =
    if is_keep f k ds
    then c (codes "right") way.Whole
    ++ spelled item.Keep (detail (made_tag f (within (codes "left") k ds)))
    else if is_put k ds
    then c (codes "left") way.Target ++ (c (codes "right") way.Whole ++ lone item.Put)
    else opened k ds (fs way.Whole)

-- The elements of a sequence of two or more are dropped, but for the last.
abbrev pub sequence_word : Kind → Docs → OneField → AllFields → List Entry
sequence_word k ds c f =
    if is_long k ds then c (codes "expressions") way.InTurn else opened k ds (f way.Whole)

-- An expression as the body of an arrow is returned.
abbrev pub body_word : Kind → Docs → OneField → List Entry
body_word k ds c =
    if is_kind kind.FunctionBody (named (codes "body") k ds) then c (codes "body") way.Whole
    else start kind.ReturnStatement [] ++ (c (codes "body") way.Whole ++ lone item.Close)

abbrev pub arrow_word : Kind → Docs → OneField → List Entry
arrow_word k ds c = opened k ds (c (codes "params") way.Whole ++ body_word k ds c)

-- A function that is called where it stands is the argument, the entry with its parameter, its body
-- and its end.
abbrev pub call_word : Kind → Docs → OneField → AllFields → List Entry
call_word k ds c f =
    if is_called k ds
    then c (codes "arguments") way.Whole
    ++ c (codes "callee") (way.Entered (is_set (named (codes "pure") k ds)))
    else opened k ds (f way.Whole)

-- `{}` is the empty object.
abbrev pub object_word : Kind → Docs → AllFields → List Entry
object_word k ds f =
    if is_empty_list (named (codes "properties") k ds) then lone item.New
    else opened k ds (f way.Whole)

-- `x || {}` is what x holds or the empty object; `x || (x = {})` the same, which x then holds;
-- `x || (x = b.k || (b.k = {}))` the same, which stands on b under k.
abbrev pub logical_word : Known → Kind → Docs → OneField → AllFields → List Entry
logical_word f k ds c fs =
    if is_found f k ds then c (codes "left") way.Whole ++ lone item.Found
    else if is_found_made f k ds then c (codes "left") way.Whole ++ lone item.FoundMade
    else if is_found_made_on f k ds
    then c (codes "left") way.Whole ++ (base_word f (base_in k ds) ++ lone item.FoundMadeOn)
    else opened k ds (fs way.Whole)

-- A declaration is its declarators; one without declarators is a node.
abbrev pub variables_word : Bool → Kind → Docs → OneField → AllFields → List Entry
variables_word x k ds c fs =
    if is_empty_list (named (codes "declarations") k ds) then opened k ds (fs way.Whole)
    else c (codes "declarations") (way.Bound (binding_of (named (codes "kind") k ds)) x)

-- A declarator is its value, which is set, and its pattern; without a value its pattern, and nothing if
-- that is a made name.
abbrev pub declarator_word : Known → Binding → Bool → Kind → Docs → OneField → List Entry
declarator_word f b x k ds c =
    if is_silent f k ds then []
    else if is_nil (named (codes "init") k ds) then c (codes "id") (way.Bound b x)
    else c (codes "init") way.Whole ++ (lone item.Set ++ c (codes "id") (way.Bound b x))

-- A function declaration is its node without the name, and then the name.
abbrev pub function_word : Bool → Kind → Docs → OneField → List Entry
function_word x k ds c =
    opened k ds (c (codes "params") way.Whole ++ c (codes "body") way.Whole)
    ++ c (codes "id") (way.Bound binding.Function x)

-- What stands in a class, in an order of its own: heritage, keys, static parts, fields, methods,
-- constructor.
abbrev pub class_parts : OneField → List Entry
class_parts c =
    c (codes "superClass") way.Whole
    ++ (c (codes "body") way.Keys
    ++ (c (codes "body") way.Statics
    ++ (c (codes "body") way.Fields
    ++ (c (codes "body") way.Methods ++ c (codes "body") way.Constructor))))

-- A class declaration is its decorators and parts, and then its name.
abbrev pub class_word : Bool → Kind → Docs → OneField → List Entry
class_word x k ds c =
    opened k ds (c (codes "decorators") way.Whole ++ class_parts c)
    ++ c (codes "id") (way.Bound binding.Class x)

-- A class expression has its name inside, before its parts.
abbrev pub class_expression_word : Kind → Docs → OneField → List Entry
class_expression_word k ds c =
    opened k ds (c (codes "decorators") way.Whole
    ++ (c (codes "id") (way.Bound binding.Inner false) ++ class_parts c))

-- An erased statement as a branch of an `if` leaves an empty block, and as its alternate nothing.
abbrev pub if_word : Kind → Docs → OneField → List Entry
if_word k ds c =
    opened k ds (c (codes "test") way.Whole
    ++ (c (codes "consequent") way.Branch ++ c (codes "alternate") way.Alternate))

-- what a node does
abbrev pub whole_word : Known → Rule → Kind → ℕ → Docs → OneField → AllFields → List Entry
whole_word f rule.Bare k i ds c fs = fs way.Whole
whole_word f rule.Program k i ds c fs = program_word f false k ds fs
whole_word f rule.Parameters k i ds c fs = fs way.Whole
whole_word f rule.Transparent k i ds c fs = c (codes "expression") way.Whole
whole_word f rule.Erased k i ds c fs = []
whole_word f rule.Name k i ds c fs = name_word f i ds
whole_word f (rule.Spelled m) k i ds c fs = spelled m (detail (first ds))
whole_word f (rule.Literal m) k i ds c fs = spelled m (detail (first ds))
whole_word f rule.PrivateName k i ds c fs = private_word f ds
whole_word f rule.This k i ds c fs = lone item.This
whole_word f rule.Number k i ds c fs = number_word k ds
whole_word f rule.StaticMember k i ds c fs = get_word (codes "property") way.KeyText k ds c
whole_word f rule.ComputedMember k i ds c fs = get_word (codes "expression") way.Whole k ds c
whole_word f rule.Assignment k i ds c fs = assignment_word f k ds c fs
whole_word f rule.Statement k i ds c fs = dropped (c (codes "expression") way.Whole)
whole_word f rule.Sequence k i ds c fs = sequence_word k ds c fs
whole_word f rule.Arrow k i ds c fs = arrow_word k ds c
whole_word f rule.Call k i ds c fs = call_word k ds c fs
whole_word f rule.Object k i ds c fs = object_word k ds fs
whole_word f rule.Logical k i ds c fs = logical_word f k ds c fs
whole_word f rule.Variables k i ds c fs = variables_word false k ds c fs
whole_word f rule.FunctionDeclaration k i ds c fs = function_word false k ds c
whole_word f rule.FunctionExpression k i ds c fs = opened k ds (fs (way.Bound binding.Inner false))
whole_word f rule.Parameter k i ds c fs = opened k ds (fs (way.Bound binding.Parameter false))
whole_word f (rule.Binds b) k i ds c fs = opened k ds (fs (way.Bound b false))
whole_word f rule.ClassDeclaration k i ds c fs = class_word false k ds c
whole_word f rule.ClassExpression k i ds c fs = class_expression_word k ds c
whole_word f rule.If k i ds c fs = if_word k ds c
whole_word f rule.Loop k i ds c fs = opened k ds (fs way.Branch)
whole_word f rule.Import k i ds c fs = import_word k ds c fs
whole_word f rule.Export k i ds c fs = c (codes "declaration") way.Exported
whole_word f rule.ExportList k i ds c fs = export_list_word k ds fs
whole_word f rule.ExportAssignment k i ds c fs = export_assignment_word c
whole_word f rule.ImportEquals k i ds c fs = import_equals_word false k ds c
whole_word f rule.Required k i ds c fs = required_word c
whole_word f rule.Qualified k i ds c fs = qualified_word c
whole_word f r k i ds c fs = opened k ds (fs way.Whole)
