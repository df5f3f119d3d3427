-- What belongs to a node itself.
use Rattle.std.specs.Prelude.{List, [], ◌∷◌, Bool, true, false, not, ◌&&◌, if◌then◌else◌, codes}
use Rattle.std.specs.Str.{bytes_eq}
use Rattle.oxt_facts.specs.Entry.{Entry, detail, detailed}
use Rattle.oxt_facts.specs.declared.item.ItemKind.TheVariants as item
use Rattle.oxt_grammar.specs.Field.{Field, is_typescript_field}
use Rattle.oxt_grammar.specs.Kinds.{name_of}
use Rattle.oxt_grammar.specs.declared.holds.Holds.{Holds}
use Rattle.oxt_grammar.specs.declared.holds.Holds.TheVariants as holds
use Rattle.oxt_grammar.specs.declared.kind.Kind.{Kind}
use Rattle.oxt_tree.specs.Doc.{Doc, text, Docs, no_docs, doc}

-- a field holds a text, a number, a word or a flag
abbrev pub is_atom : Holds → Bool
is_atom holds.Text = true
is_atom holds.TextOrNull = true
is_atom holds.Flag = true
is_atom holds.WholeOrNull = true
is_atom (holds.Word ws) = true
is_atom (holds.WordOrNull ws) = true
is_atom h = false

-- A text or flag belongs to its node, but for those that only TypeScript has and the flag of a
-- short form, which does what the long form does.
abbrev pub is_detail : Field → Bool
is_detail r =
    is_atom r.holds
    && (not (is_typescript_field r.presence) && not (bytes_eq r.name (codes "shorthand")))

-- A field of nodes is read, but for those that only TypeScript has.
abbrev pub is_read : Field → Bool
is_read r = not (is_atom r.holds) && not (is_typescript_field r.presence)

-- the texts and flags of a node
abbrev pub details : List Field → Docs → List Doc
details [] ds = []
details (r ∷ rs) no_docs = []
details (r ∷ rs) (doc d ds) = if is_detail r then detail d ∷ details rs ds else details rs ds

-- the start of a node with these texts and flags
abbrev pub start : Kind → List Doc → List Entry
start k ds = detailed item.Open (text (name_of k)) ds
