-- A list of one node.
use Rattle.std.specs.Prelude.{◌≡◌, List, [], ◌∷◌}
use Rattle.oxt_tree.specs.declared.tree.Node.{Node}
use Rattle.oxt_tree.specs.declared.tree.Part.{Part}
use Rattle.oxt_tree.specs.declared.tree.Part.TheVariants as part

abbrev pub IsNodeAlone : List Part → Type 0
IsNodeAlone ps = (n : Node) × (ps ≡ part.Node n ∷ [])
