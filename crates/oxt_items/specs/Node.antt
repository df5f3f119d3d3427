-- How the general rule reads a node, and what rules get of its fields.
use Rattle.std.specs.Prelude.{ℕ, List, ◌++◌}
use Rattle.oxt_facts.specs.Entry.{Entry, lone}
use Rattle.oxt_facts.specs.declared.item.ItemKind.TheVariants as item
use Rattle.oxt_forms.specs.Details.{details, start}
use Rattle.oxt_grammar.specs.Rows.{row_of}
use Rattle.oxt_grammar.specs.declared.kind.Kind.{Kind}
use Rattle.oxt_tree.specs.Doc.{Docs}
use Rattle.oxt_items.specs.declared.way.Way.{Way}

-- a node: its start, what stands in it, and its end
abbrev pub opened : Kind → Docs → List Entry → List Entry
opened k ds inside = start k (details (row_of k) ds) ++ (inside ++ lone item.Close)

-- what the field of that name does, read that way
abbrev pub OneField : Type 0
OneField = List ℕ → Way → List Entry

-- what all fields do, in order, read that way
abbrev pub AllFields : Type 0
AllFields = Way → List Entry
