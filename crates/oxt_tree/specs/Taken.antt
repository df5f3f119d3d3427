-- What stays where a node was taken out.
use Rattle.oxt_grammar.specs.declared.kind.Kind.{Kind}
use Rattle.oxt_grammar.specs.declared.kind.Kind.TheVariants as kind
use Rattle.oxt_tree.specs.Doc.{Doc, node, no_docs}

-- a node without fields, numbered 0
abbrev pub bare : Kind → Doc
bare k = node k 0 0 0 no_docs

-- `null`
abbrev pub null_literal : Doc
null_literal = bare kind.NullLiteral

-- `;`
abbrev pub empty_statement : Doc
empty_statement = bare kind.EmptyStatement
