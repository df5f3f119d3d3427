-- The bare names of a pattern, as contracts see them.
use Rattle.std.specs.Prelude.{List, map}
use Rattle.oxt_tree.specs.Bound.{Bound}
use Rattle.oxt_declares.specs.declared.bare.BareName.{BareName}

abbrev pub bare_view : BareName → Bound
bare_view b = record { id = b.node.0; name = b.name.now }

abbrev pub bare_views : List BareName → List Bound
bare_views bs = map bare_view bs
