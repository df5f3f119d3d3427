-- The document that a tree stands for.
use denote.Ref.{Bor}
use Rattle.std.specs.Prelude.{ℕ, List, map, Option, None, Some}
use Rattle.oxt_grammar.specs.Words.{text_of}
use Rattle.oxt_grammar.specs.declared.kind.Kind.{Kind}
use Rattle.oxt_tree.specs.Doc.{Doc, nil, flag, number, text, list, node, Docs, docs_of}
use Rattle.oxt_tree.specs.Fields.{named}
use Rattle.oxt_names.specs.Names.{name_bytes}
use Rattle.oxt_tree.specs.declared.tree.Node.{Node}
use Rattle.oxt_tree.specs.declared.tree.Part.{Part, fold-Part}
use Rattle.oxt_tree.specs.declared.tree.Part.TheOpen.{Part-F, Node-F}

-- a node whose parts have been seen as documents
abbrev pub node_step : Node-F Doc Doc → Doc
node_step n = node n.kind n.id.0 n.span.start n.span.end (docs_of n.parts.items)

-- a part, one level of it
abbrev pub part_step : Part-F Doc Doc → Doc
part_step Part-F.Nothing = nil
part_step (Part-F.Flag b) = flag b
part_step (Part-F.Number n) = number n
part_step (Part-F.Text name) = text (name_bytes name)
part_step (Part-F.Word w) = text (text_of w)
part_step (Part-F.Node d) = d
part_step (Part-F.List ps) = list (docs_of ps.items)

-- the document of a part
abbrev pub part_doc : Part → Doc
part_doc = fold-Part Doc Doc part_step node_step

-- the documents of the parts of a node or a list
abbrev pub docs_in : List Part → Docs
docs_in ps = docs_of (map part_doc ps)

-- the document of a node
abbrev pub node_doc : Node → Doc
node_doc n = node n.kind n.id.0 n.span.start n.span.end (docs_in n.parts.items)

-- the document of the part, if there is one, and else null
abbrev pub doc_of_part : Option Part → Doc
doc_of_part None = nil
doc_of_part (Some p) = part_doc p

-- the same of a part that is lent
abbrev pub doc_or_nil : Option (Bor Part) → Doc
doc_or_nil None = nil
doc_or_nil (Some p) = part_doc p.now

-- the field of that name of a node of that kind
abbrev pub part_named : List ℕ → Kind → Node → Doc
part_named name k n = named name k (docs_in n.parts.items)

-- the field of that name of a node, by its own kind
abbrev pub field_in : List ℕ → Node → Doc
field_in name n = part_named name n.kind n
