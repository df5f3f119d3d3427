-- The copies so far stand in front of those of what is left.
use Rattle.std.proofs.Common.{◌≡◌, ◌+◌, ◌≤◌, drop}
use Rattle.oxt_tree.specs.Copies.{each_renumbered, total_count}
use Rattle.oxt_tree.specs.View.{docs_in}
use Rattle.oxt_tree.proofs.CopyLoop.{docs_then}
use Rattle.oxt_tree.proofs.copy.+copy.Given as goal

abbrev pub invariant-copy_parts-loop-part : goal.invariant-copy_parts-loop-part
invariant-copy_parts-loop-part l = record {
  copied : each_renumbered (docs_in l.parts) l.initial.ids.next ≡ docs_then l.copies.items (each_renumbered (docs_in (drop l.part-index l.parts)) l.ids.next);
  used : l.initial.ids.next + total_count (docs_in l.parts) ≡ l.ids.next + total_count (docs_in (drop l.part-index l.parts));
  risen : l.initial.ids.next ≤ l.ids.next;
}
