-- How classes are read whose constructor puts more on the object than is written in it, and fields whose values are put
-- elsewhere.
use Rattle.std.specs.Prelude.{ℕ, List, [], ◌∷◌, ◌++◌, Bool, true, false, if◌then◌else◌, Option, None, Some, codes}
use Rattle.oxt_facts.specs.Entry.{Entry, detail, detailed, lone, spelled}
use Rattle.oxt_facts.specs.Facts.{Known}
use Rattle.oxt_facts.specs.Told.{Gaining, Moving, Names}
use Rattle.oxt_facts.specs.declared.item.ItemKind.TheVariants as item
use Rattle.oxt_forms.specs.Details.{start}
use Rattle.oxt_forms.specs.Leaves.{dropped}
use Rattle.oxt_grammar.specs.declared.kind.Kind.{Kind}
use Rattle.oxt_grammar.specs.declared.kind.Kind.TheVariants as kind
use Rattle.oxt_tree.specs.Doc.{Docs, flag, nil, text}
use Rattle.oxt_tree.specs.Fields.{first, named}
use Rattle.oxt_items.specs.Calls.{element_text, given_call, kept_key, tag_of}
use Rattle.oxt_items.specs.Enums.{use_word}
use Rattle.oxt_items.specs.Node.{OneField, AllFields}
use Rattle.oxt_items.specs.Ways.{is_constructor}
use Rattle.oxt_items.specs.Whole.{whole_word}
use Rattle.oxt_items.specs.declared.rule.Rule.{Rule}
use Rattle.oxt_items.specs.declared.rule.Rule.TheVariants as rule
use Rattle.oxt_items.specs.declared.way.Way.{Way}
use Rattle.oxt_items.specs.declared.way.Way.TheVariants as way

-- A constructor in front of what is put is its start and its function up to there.
abbrev pub head_word : ℕ → Rule → Kind → Docs → OneField → List Entry
head_word n rule.Method k ds c =
    if is_constructor k ds
    then start k (detail (named (codes "kind") k ds) ∷ []) ++ c (codes "value") (way.First n)
    else []
head_word n r k ds c = []

-- A constructor behind it is the rest of its function and its end.
abbrev pub tail_word : ℕ → Rule → Kind → Docs → OneField → List Entry
tail_word n rule.Method k ds c =
    if is_constructor k ds then c (codes "value") (way.Later n) ++ lone item.Close else []
tail_word n r k ds c = []

-- A function up to there is its parameters, its directives and its first n statements.
abbrev pub first_word : ℕ → Rule → OneField → List Entry
first_word n rule.FunctionExpression c =
    c (codes "params") way.Whole ++ (lone item.Body ++ c (codes "body") (way.First n))
first_word n rule.Bare c = c (codes "directives") way.Whole ++ c (codes "statements") (way.First n)
first_word n r c = []

-- The rest of a function is its later statements.
abbrev pub later_word : ℕ → Rule → OneField → List Entry
later_word n rule.FunctionExpression c = c (codes "body") (way.Later n)
later_word n rule.Bare c = c (codes "statements") (way.Later n)
later_word n r c = []

-- A key under which a value is put is the text of its name, or else what it does.
abbrev pub put_key_word : Known → Rule → Kind → ℕ → Docs → OneField → AllFields → List Entry
put_key_word f rule.PropertyName k i ds c fs = spelled item.Str (detail (first ds))
put_key_word f r k i ds c fs = whole_word f r k i ds c fs

-- a field of an object with that key and no value
abbrev pub empty_field : Bool → List Entry → List Entry
empty_field s key =
    detailed item.Field nil (flag s ∷ flag false ∷ []) ++ (key ++ (lone item.Nil ++ lone item.Define))

-- the empty fields of these names
abbrev pub empty_fields : List (List ℕ) → List Entry
empty_fields [] = []
empty_fields (x ∷ xs) = empty_field false (spelled item.Str (text x)) ++ empty_fields xs

-- the parameter of that name and group is put on the object, under its name
abbrev pub property_put : List ℕ → Option ℕ → List Entry
property_put x g =
    lone item.This
    ++ (spelled item.Str (text x) ++ (use_word x g ++ (lone item.Put ++ lone item.Eval)))

abbrev pub property_puts : Names → List Entry
property_puts [] = []
property_puts (n ∷ ns) = property_put n.0 n.1 ++ property_puts ns

-- what the constructor puts on the object: parameters, and the values of fields that move into it
abbrev pub puts_word : Gaining → AllFields → List Entry
puts_word g fs = property_puts g.properties ++ fs way.Puts

-- what it is given is passed on, where the class extends another
abbrev pub passing : Bool → List Entry
passing d = if d then lone item.PassOn else []

-- the constructor that is made for a class without one
abbrev pub made_constructor : Gaining → AllFields → List Entry
made_constructor g fs =
    start kind.MethodDefinition (text (codes "constructor") ∷ [])
    ++ (lone item.Nil
    ++ (lone item.Body ++ (passing g.is_derived ++ (puts_word g fs ++ lone item.Close))))

-- the constructor, with what it puts behind that many statements
abbrev pub gaining_constructor : Gaining → AllFields → List Entry
gaining_constructor g fs =
    if g.has_constructor
    then fs (way.Head g.place) ++ (puts_word g fs ++ fs (way.Tail g.place))
    else made_constructor g fs

-- the keys of a class that a made name holds, among which it is kept in front of those that no later key takes
abbrev pub keeping_keys : Option (List ℕ) → AllFields → List Entry
keeping_keys None fs = fs way.Keys
keeping_keys (Some t) fs =
    fs way.Keys ++ (lone item.This ++ (spelled item.Keep (text t) ++ fs way.Last))

-- its static parts, of which the calls of the decorators of its elements may be the last
abbrev pub calling_statics : Bool → AllFields → List Entry
calling_statics b fs = if b then fs way.Statics ++ fs way.Calls else fs way.Statics

-- The body of a class that has more in it than is written there has that in its keys and static parts, empty fields in front and
-- that constructor, and is else read by its own rule.
abbrev pub gaining_word : Gaining → Way → List Entry → AllFields → List Entry
gaining_word g way.Keys own fs = keeping_keys g.alias fs
gaining_word g way.Statics own fs = calling_statics g.has_calls fs
gaining_word g way.Fields own fs = if g.gains then empty_fields g.fields ++ fs way.Fields else own
gaining_word g way.Constructor own fs = if g.gains then gaining_constructor g fs else own
gaining_word g w own fs = own

-- the key of a put: what the made name holds, or what is written
abbrev pub key_at_put : Option (List ℕ) → OneField → List Entry
key_at_put None c = c (codes "key") way.PutKey
key_at_put (Some t) c = spelled item.Made (text t)

-- the value of a field is put under its key
abbrev pub field_put : Option (List ℕ) → OneField → List Entry
field_put t c =
    lone item.This
    ++ (key_at_put t c ++ (c (codes "value") way.Whole ++ (lone item.Put ++ lone item.Eval)))

-- the key of an element, which is computed and kept for the call that the element gives, or read as ever
abbrev pub element_key : Option (List ℕ) → OneField → List Entry
element_key None c = c (codes "decorators") way.Whole ++ c (codes "key") way.Keyed
element_key (Some t) c = kept_key t c

-- the key of a field that moves, among the keys: a made name holds it, or it is read where the field stays
abbrev pub moved_key : Option (List ℕ) → Bool → Option (List ℕ) → OneField → List Entry
moved_key None s o c = if s then element_key o c else []
moved_key (Some t) s o c = c (codes "key") way.Whole ++ spelled item.Keep (text t)

-- A field that moves is its key, the put of its value where that belongs, where it stays an empty field, and the call that it
-- gives.
abbrev pub moving_word : Known → Moving → Way → Rule → OneField → List Entry
moving_word f m way.Keys r c = if m.is_last then [] else moved_key m.tag m.stays (tag_of m.call) c
moving_word f m way.Last r c = if m.is_last then moved_key m.tag m.stays (tag_of m.call) c else []
moving_word f m way.Statics r c = if m.is_static then field_put m.tag c else []
moving_word f m way.Fields r c =
    if m.stays then empty_field m.is_static (element_text (tag_of m.call) c) else []
moving_word f m way.Puts r c = if m.is_static then [] else field_put m.tag c
moving_word f m way.Calls r c = given_call f m.call r c
moving_word f m w r c = []

-- A field that goes, but for the effects of its key, is its key, which is dropped.
abbrev pub left_word : Bool → Way → OneField → List Entry
left_word b way.Keys c = if b then [] else dropped (c (codes "key") way.Whole)
left_word b way.Last c = if b then dropped (c (codes "key") way.Whole) else []
left_word b w c = []
