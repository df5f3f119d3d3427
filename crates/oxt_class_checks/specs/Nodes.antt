-- Nodes by what they are alone.
use Rattle.oxt_grammar.specs.declared.kind.Kind.{Kind}
use Rattle.oxt_tree.specs.Doc.{Doc, node, Docs}

-- a node of that kind and with those fields, whatever its number and wherever it stands
abbrev pub some_node : Kind → Docs → Doc
some_node k ds = node k 0 0 0 ds
