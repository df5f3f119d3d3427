-- What a node does, by the way in which it is read, its rule and what is told of it.
use Rattle.std.specs.Prelude.{ℕ, List, [], Bool, true, nat_le, nat_lt, if◌then◌else◌, Option, None, Some}
use Rattle.oxt_facts.specs.Facts.{Known, group_here}
use Rattle.oxt_facts.specs.Told.{Telling, accessor, alias, applied, block, called, member, bare, decorated, default_class, inlined, inner, gains, gone, leaves_key, listless, export, moves, quasi, space, stored, strict, titled, told_of}
use Rattle.oxt_grammar.specs.declared.kind.Kind.{Kind}
use Rattle.oxt_tree.specs.Doc.{number, list, node, Docs, no_docs, doc}
use Rattle.oxt_facts.specs.Entry.{Entry}
use Rattle.oxt_forms.specs.Leaves.{dropped}
use Rattle.oxt_items.specs.Node.{OneField, AllFields}
use Rattle.oxt_items.specs.Accessors.{accessor_word}
use Rattle.oxt_items.specs.Classes.{first_word, gaining_word, head_word, later_word, left_word, moving_word, put_key_word, tail_word}
use Rattle.oxt_items.specs.Calls.{alias_word, applied_word, called_word, decorator_word, injected_word, inner_word, through_word}
use Rattle.oxt_items.specs.Decorated.{decorated_word, default_class_word, titled_word}
use Rattle.oxt_items.specs.Enums.{bare_word, enum_word, inlined_word, is_exported, member_word}
use Rattle.oxt_items.specs.Erased.{is_gone, gone_word}
use Rattle.oxt_items.specs.Modules.{listless_word, program_word, quasi_word}
use Rattle.oxt_items.specs.Namespaces.{export_word, namespace_word, stored_word}
use Rattle.oxt_items.specs.Ways.{target_word, bound_word, exported_word, entered_word, opened_word, passed_word, keyed_word, key_text, keys_word, statics_word, fields_word, methods_word, constructor_word}
use Rattle.oxt_items.specs.Whole.{whole_word}
use Rattle.oxt_items.specs.declared.rule.Rule.{Rule}
use Rattle.oxt_items.specs.declared.way.Way.{Way}
use Rattle.oxt_items.specs.declared.way.Way.TheVariants as way

-- what a node does, by the way in which it is read and its rule
abbrev pub way_word : Known → Way → Rule → Kind → ℕ → Docs → OneField → AllFields → List Entry
way_word f way.Target r k i ds c fs = target_word f r k i ds c fs
way_word f (way.Bound b x) r k i ds c fs = bound_word f b x r k i ds c fs
way_word f way.Exported r k i ds c fs = exported_word f r k i ds c fs
way_word f (way.Entered p) r k i ds c fs = entered_word f p r k i ds c fs
way_word f way.Opened r k i ds c fs = opened_word f r k i ds c fs
way_word f way.PassOn r k i ds c fs = passed_word f r k i ds c fs
way_word f way.Keyed r k i ds c fs = keyed_word f r k i ds c fs
way_word f way.KeyText r k i ds c fs = key_text f r k ds c
way_word f way.Keys r k i ds c fs = keys_word r c fs
way_word f way.Statics r k i ds c fs = statics_word f r k ds c fs
way_word f way.Fields r k i ds c fs = fields_word f r k ds c fs
way_word f way.Methods r k i ds c fs = methods_word f r k ds c fs
way_word f way.Constructor r k i ds c fs = constructor_word f r k ds c fs
way_word f (way.Head n) r k i ds c fs = head_word n r k ds c
way_word f (way.Tail n) r k i ds c fs = tail_word n r k ds c
way_word f (way.First n) r k i ds c fs = first_word n r c
way_word f (way.Later n) r k i ds c fs = later_word n r c
way_word f way.Puts r k i ds c fs = []
way_word f way.PutKey r k i ds c fs = put_key_word f r k i ds c fs
way_word f way.Calls r k i ds c fs = through_word way.Calls r fs
way_word f way.Last r k i ds c fs = through_word way.Last r fs
way_word f way.Applied r k i ds c fs = applied_word r c
way_word f way.Injected r k i ds c fs = injected_word r k ds c fs
way_word f w r k i ds c fs = whole_word f r k i ds c fs

-- the same, unless the node is erased
abbrev pub own_word : Known → Way → Rule → Kind → ℕ → Docs → OneField → AllFields → List Entry
own_word f w r k i ds c fs = if is_gone r k ds then gone_word w else way_word f w r k i ds c fs

-- What is told of a node goes before its own rule.
abbrev pub told_word : Known → Option Telling → Way → Rule → Kind → ℕ → Docs → OneField → AllFields → List Entry
told_word f None w r k i ds c fs = own_word f w r k i ds c fs
told_word f (Some (block b)) w r k i ds c fs = enum_word b (is_exported w) c
told_word f (Some (member m)) w r k i ds c fs = member_word m c
told_word f (Some (bare e g)) w r k i ds c fs = bare_word e (group_here f g) w ds
told_word f (Some (inlined v)) w r k i ds c fs = inlined_word v w
told_word f (Some gone) w r k i ds c fs = gone_word w
told_word f (Some listless) w r k i ds c fs = listless_word k ds c
told_word f (Some strict) w r k i ds c fs = program_word f true k ds fs
told_word f (Some (quasi a b)) w r k i ds c fs = quasi_word a b
told_word f (Some (space s)) w r k i ds c fs = namespace_word s (is_exported w) c
told_word f (Some (export t ns)) w r k i ds c fs = export_word t ns c
told_word f (Some (stored t n)) w r k i ds c fs = stored_word t n w c
told_word f (Some (gains g)) w r k i ds c fs = gaining_word g w (own_word f w r k i ds c fs) fs
told_word f (Some (moves m)) w r k i ds c fs = moving_word f m w r c
told_word f (Some (leaves_key b)) w r k i ds c fs = left_word b w c
told_word f (Some (called e)) w r k i ds c fs = called_word f e w r k ds (own_word f w r k i ds c fs) c
told_word f (Some (accessor a)) w r k i ds c fs = accessor_word f a w r c
told_word f (Some (decorated d)) w r k i ds c fs = decorated_word f d w c
told_word f (Some (titled t)) w r k i ds c fs = titled_word t w c
told_word f (Some (default_class b u)) w r k i ds c fs = default_class_word b u c
told_word f (Some (applied p)) w r k i ds c fs = decorator_word p w c
told_word f (Some (alias t)) w r k i ds c fs = alias_word t w
told_word f (Some (inner g)) w r k i ds c fs = inner_word g w ds

-- the same of the node of that number
abbrev pub node_word : Known → Way → Rule → Kind → ℕ → Docs → OneField → AllFields → List Entry
node_word f w r k i ds c fs = told_word f (told_of f.told i) w r k i ds c fs

-- what the elements of a list do, in order: read so, in turn, the last alone, or some of them
abbrev pub list_word : Way → AllFields → AllFields → AllFields → AllFields → List Entry
list_word way.InTurn each turns last some = turns way.Whole
list_word way.InTurnKeyed each turns last some = turns way.Keyed
list_word way.LastText each turns last some = last way.KeyText
list_word (way.First n) each turns last some = some (way.First n)
list_word (way.Later n) each turns last some = some (way.Later n)
list_word w each turns last some = each w

-- the way takes the element at that place of a list
abbrev pub takes : Way → ℕ → Bool
takes (way.First n) i = nat_lt i n
takes (way.Later n) i = nat_le n i
takes w i = true

-- an element that is dropped, unless it is the last
abbrev pub turn : Docs → List Entry → List Entry → List Entry
turn no_docs early last = last
turn (doc d ds) early last = dropped early

-- an element, if it is the last
abbrev pub final : Docs → List Entry → List Entry
final no_docs last = last
final (doc d ds) last = []
