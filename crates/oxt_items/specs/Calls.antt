-- How the calls are read that decorators give, the elements of classes that give them, and the names by which classes are called.
use Rattle.std.specs.Prelude.{ℕ, List, [], ◌∷◌, ◌++◌, Bool, true, false, not, ◌&&◌, if◌then◌else◌, Option, None, Some, codes}
use Rattle.oxt_facts.specs.Entry.{Entry, detail, detailed, lone, owned, spelled}
use Rattle.oxt_facts.specs.Facts.{Known}
use Rattle.oxt_facts.specs.Told.{Calling, Described, Element, Use, name_use, made_use}
use Rattle.oxt_facts.specs.declared.item.ItemKind.TheVariants as item
use Rattle.oxt_forms.specs.Details.{start}
use Rattle.oxt_grammar.specs.declared.kind.Kind.{Kind}
use Rattle.oxt_grammar.specs.declared.kind.Kind.TheVariants as kind
use Rattle.oxt_tree.specs.Doc.{Docs, flag, nil, number, text}
use Rattle.oxt_tree.specs.Fields.{first, named}
use Rattle.oxt_items.specs.Enums.{use_word}
use Rattle.oxt_items.specs.Helpers.{helper_start}
use Rattle.oxt_items.specs.Metadata.{metadata_word, void_word}
use Rattle.oxt_items.specs.Node.{OneField, AllFields}
use Rattle.oxt_items.specs.Ways.{is_constructor}
use Rattle.oxt_items.specs.declared.rule.Rule.{Rule}
use Rattle.oxt_items.specs.declared.rule.Rule.TheVariants as rule
use Rattle.oxt_items.specs.declared.way.Way.{Way}
use Rattle.oxt_items.specs.declared.way.Way.TheVariants as way

-- what is called by that name
abbrev pub used_word : Use → List Entry
used_word (name_use n g) = use_word n g
used_word (made_use t) = spelled item.Made (text t)

-- a name that is read as the made one of that tag; as a key it is computed
abbrev pub alias_word : List ℕ → Way → List Entry
alias_word t way.Keyed = spelled item.Made (text t) ++ lone item.Key
alias_word t way.KeyText = []
alias_word t w = spelled item.Made (text t)

-- a name that means that group; as a key it is computed
abbrev pub inner_word : ℕ → Way → Docs → List Entry
inner_word g way.Keyed ds = owned (Some g) item.Name (detail (first ds)) [] ++ lone item.Key
inner_word g way.KeyText ds = []
inner_word g w ds = owned (Some g) item.Name (detail (first ds)) []

-- a made name then holds the value, if one does
abbrev pub kept_word : Option (List ℕ) → List Entry
kept_word None = []
kept_word (Some t) = spelled item.Keep (text t)

-- A decorator that is applied is its expression, or for a parameter the call that decorates the one at that place. In every other
-- way it is nothing.
abbrev pub decorator_word : Option ℕ → Way → OneField → List Entry
decorator_word None way.Applied c = c (codes "expression") way.Whole
decorator_word (Some p) way.Applied c =
    helper_start (codes "decorateParam")
    ++ (spelled item.Num (number p) ++ (c (codes "expression") way.Whole ++ lone item.Close))
decorator_word p w c = []

-- the decorators of the parameters of a function
abbrev pub applied_word : Rule → OneField → List Entry
applied_word rule.FunctionExpression c = c (codes "params") way.Applied
applied_word rule.Parameters c = c (codes "items") way.Applied
applied_word rule.Parameter c = c (codes "decorators") way.Applied
applied_word r c = []

-- the decorators of the parameters of a class's constructor
abbrev pub injected_word : Rule → Kind → Docs → OneField → AllFields → List Entry
injected_word rule.Bare k ds c fs = fs way.Injected
injected_word rule.Method k ds c fs = if is_constructor k ds then c (codes "value") way.Applied else []
injected_word r k ds c fs = []

-- what only some elements of a class give by what is told of them
abbrev pub through_word : Way → Rule → AllFields → List Entry
through_word w rule.Bare fs = fs w
through_word w r fs = []

-- the decorators of an element, and of its parameters if it is a method
abbrev pub decorators_word : Rule → OneField → List Entry
decorators_word rule.Method c = c (codes "decorators") way.Applied ++ c (codes "value") way.Applied
decorators_word r c = c (codes "decorators") way.Applied

-- the list of these, with that metadata last
abbrev pub decorators_list : Known → Described → Rule → OneField → List Entry
decorators_list f m r c =
    start kind.ArrayExpression [] ++ (decorators_word r c ++ (metadata_word f m ++ lone item.Close))

-- the object that has the element: the class itself, or that of its instances
abbrev pub receiver_word : Use → Bool → List Entry
receiver_word u s =
    if s then used_word u
    else used_word u ++ (spelled item.Str (text (codes "prototype")) ++ spelled item.Get (flag false))

-- its key: what a made name holds, no text where its name is private, or what is written
abbrev pub called_key : Option (List ℕ) → Bool → OneField → List Entry
called_key None p c = if p then spelled item.Str (text []) else c (codes "key") way.PutKey
called_key (Some t) p c = spelled item.Made (text t)

-- both
abbrev pub subject_word : Calling → OneField → List Entry
subject_word m c = receiver_word m.class m.is_static ++ called_key m.tag m.is_private c

-- its description: `void 0` of a field, and `null` of others
abbrev pub description_word : Bool → List Entry
description_word b =
    if b then void_word
    else start kind.NullLiteral [] ++ lone item.Close

-- the call that an element of a class gives
abbrev pub calling_word : Known → Calling → Rule → OneField → List Entry
calling_word f m r c =
    helper_start (codes "decorate")
    ++ (decorators_list f m.metadata r c
    ++ (subject_word m c ++ (description_word m.is_field ++ (lone item.Close ++ lone item.Eval))))

-- the same, if it gives one
abbrev pub given_call : Known → Option Calling → Rule → OneField → List Entry
given_call f None r c = []
given_call f (Some m) r c = calling_word f m r c

-- the tag by which the key of such an element is kept, if it is
abbrev pub tag_of : Option Calling → Option (List ℕ)
tag_of None = None
tag_of (Some m) = m.tag

-- a computed key, whose value a made name holds
abbrev pub kept_key : List ℕ → OneField → List Entry
kept_key t c = c (codes "key") way.Whole ++ (spelled item.Keep (text t) ++ lone item.Key)

-- the text of the key of an element, which has none where a made name holds it
abbrev pub element_text : Option (List ℕ) → OneField → List Entry
element_text None c = c (codes "key") way.KeyText
element_text (Some t) c = []

-- a field whose key was read among the keys
abbrev pub keyless_field : Bool → OneField → List Entry
keyless_field s c =
    detailed item.Field nil (flag s ∷ flag false ∷ []) ++ (c (codes "value") way.Whole ++ lone item.Define)

-- a method whose key was read among the keys
abbrev pub keyless_method : Kind → Docs → OneField → List Entry
keyless_method k ds c =
    start k (detail (named (codes "kind") k ds) ∷ detail (named (codes "static") k ds) ∷ [])
    ++ (c (codes "value") way.Whole ++ lone item.Close)

-- an element whose key a made name holds
abbrev pub tagged_word : List ℕ → Calling → Way → Kind → Docs → List Entry → OneField → List Entry
tagged_word t m way.Keys k ds own c = kept_key t c
tagged_word t m way.Statics k ds own c = if m.is_field && m.is_static then keyless_field true c else []
tagged_word t m way.Fields k ds own c = if m.is_field && not m.is_static then keyless_field false c else []
tagged_word t m way.Methods k ds own c = if m.is_field then [] else keyless_method k ds c
tagged_word t m w k ds own c = own

-- an element that stays is read by its own rule, but where a made name holds its key
abbrev pub staying_word : Option (List ℕ) → Calling → Way → Kind → Docs → List Entry → OneField → List Entry
staying_word None m w k ds own c = own
staying_word (Some t) m w k ds own c = tagged_word t m w k ds own c

-- An element that gives a call is that call, and itself, if it stays.
abbrev pub called_word : Known → Element → Way → Rule → Kind → Docs → List Entry → OneField → List Entry
called_word f e way.Calls r k ds own c = calling_word f e.call r c
called_word f e w r k ds own c = if e.stays then staying_word e.call.tag e.call w k ds own c else []
